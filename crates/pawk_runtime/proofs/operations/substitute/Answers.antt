use Rattle.std.proofs.Common.{◌≡◌, ◌<◌, ℕ, ℤ, List, refl, Result, Ok, Err}
use Rattle.pawk_value.specs.declared.faults.Fault.{Fault}
use Rattle.pawk_value.specs.Held.{added, held_value}
use Rattle.pawk_value.specs.Conversion.{text_of}
use Rattle.pawk_world.specs.declared.halt.Halt.{Halt as Code}
use Rattle.pawk_store.specs.Builtins.{Replaced, replaced_by}
use Rattle.pawk_store.specs.Meaning.{put_replaced}
use Rattle.pawk_store.specs.Parts.{Moment, Part, bind, settle}
use Rattle.pawk_builtins.specs.Replaces.{Left}
use Rattle.pawk_builtins.specs.ExpressionViews.{expression_of}
use Rattle.pawk_runtime.specs.Moments.{aim_view, moment}
use Rattle.pawk_runtime.specs.Yields.{Yields}
use Rattle.pawk_runtime.proofs.operations.substitute.Goals as goal

-- what is put for a text and a count is put for what was replaced
put_for : {S : Type 0} (meant : Result Replaced Fault) (text : List ℕ) (count : ℕ) (put : Replaced → Part S ℤ) (m m' : Moment S) (result : Result ℤ Code) → Left text count meant → ((r : Replaced) → Left text count (Ok r) → Yields (λ (n : ℤ). n) (put r m) result m') → Yields (λ (n : ℤ). n) (bind (settle meant) put m) result m'
put_for (Ok r) text count put m m' result left puts = puts r left
put_for (Err f) text count put m m' result left puts = absurd left

pub returns-clause-outcome : goal.returns-clause-outcome
returns-clause-outcome g c =
    let meant = replaced_by c.args.count (expression_of c.args.expression) c.args.replacement.now in
    let put = put_replaced g.W.World.calls (aim_view c.args.target.now) in
    let left : Left c.deref-2.result.now c.in_ok-number.number (meant c.text_in-text.result.now) = rw c.deref-2.ensures.value c.in_ok-number.ensures.text in
    let done = put_for (meant c.text_in-text.result.now) c.deref-2.result.now c.in_ok-number.number put (moment (g.W.World.state c.read_place.new.world) c.read_place.new.run) (moment (g.W.World.state c.put_text-outcome.new.world) c.put_text-outcome.new.run) c.put_text-outcome.result left c.put_text-outcome.ensures.outcome in
    let same : text_of (held_value c.in_ok-held.held (added c.take_buffer-bytes.result.items c.read_place.new.out.items)) ≡ c.text_in-text.result.now = rw (c.text_in-text.ensures, c.lend_held.ensures, c.deref.ensures.value, c.take_buffer-bytes.ensures) refl in
    rw (c.in_ok-held.ensures.outcome, same) done
