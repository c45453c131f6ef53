use Rattle.std.proofs.Common.{◌≡◌, ◌<◌, ◌≤◌, ◌/◌, [], ◌∷◌, Option, Some, None, IfNone, length, inr, refl, ap, sym, ◌∙◌, rules, arith}
use Rattle.pawk_input.specs.Limits.{most_chunks}
use Rattle.pawk_input.specs.Input.{files_of, file_at}
use Rattle.pawk_input.specs.Plan.{IsBeginOrEnd, cut_at, cut_places}
use Rattle.pawk_input.proofs.PlanLemmas.{is_plan}
use Rattle.pawk_input.proofs.CutPlanLemmas.{picked_at_cuts}
use Rattle.pawk_input.proofs.OneLemmas.{no_chunk, one_chunk, few_chunks}
use Rattle.pawk_input.proofs.plan.Plan.of_one.Goals.{then-start-end+in_ok-ok, else-start-end}
use Rattle.pawk_input.proofs.plan.Plan.of_one.Goals as goal

pub returns-clause-value : goal.returns-clause-value
returns-clause-value c =
    let rs = c.args.rs.now in
    let files = files_of c.args.input.now in
    let bytes = (file_at files 0).bytes in
    let start = c.begin_or_end-start.result in
    let one : length files ≡ 1 = omega (arith, c.files.ensures.count, c.if-files-ne1.false) in
    let h : IsBeginOrEnd rs bytes 0 start = rw (c.of.ensures, c.blocks-2.ensures.value) at c.begin_or_end-start.ensures in
    let long : c.size-end.result ≡ length bytes = c.size-end.ensures in
    elim c.if-start-end.branch [
      | then-start-end+in_ok-ok w ↦ (
          let lt : start < length bytes = omega (arith, w.if-start-end.true, long) in
          let items : w.push.new.self.items ≡ record { file = 0; range = record { start = start; end = c.size-end.result }; nr = 0; fnr = 0 } ∷ [] = search rules in
          rw w.chunks-is (items ∙ ap (λ e. record { file = 0; range = record { start = start; end = e }; nr = 0; fnr = 0 } ∷ []) long ∙ sym (one_chunk rs files one start h lt)))
      | else-start-end w ↦ (
          let le : length bytes ≤ start = omega (arith, w.if-start-end.false, long) in
          rw w.chunks-is (c.new-chunks.ensures.items ∙ sym (no_chunk rs files one start h le)))
    ]

pub returns-clause-plan : goal.returns-clause-plan
returns-clause-plan c =
    let rs = c.args.rs.now in
    let files = files_of c.args.input.now in
    rw (returns-clause-value c) (is_plan rs files (cut_places []) (picked_at_cuts rs files [] refl))

pub returns-clause-accepted : goal.returns-clause-accepted
returns-clause-accepted c =
    let files = files_of c.args.input.now in
    let one : length files ≡ 1 = omega (arith, c.files.ensures.count, c.if-files-ne1.false) in
    let size : c.size.result ≡ length (file_at files 0).bytes = c.size.ensures in
    let lt : length (file_at files 0).bytes / c.args.bytes < most_chunks = rw (sym size) (omega (arith, c.if-size-bytes.false)) in
    few_chunks c.args.rs.now files c.args.bytes most_chunks one c.requires.some lt

if_none : {A : Type 0} (o : Option A) (P : Type 0) → P → IfNone o P
if_none None P p = p
if_none (Some x) P p = tt

-- there is a chunk, for which memory was refused
pub returns-in_err-ok-clause-none : goal.returns-in_err-ok-clause-none
returns-in_err-ok-clause-none c =
    let rs = c.args.rs.now in
    let files = files_of c.args.input.now in
    let bytes = (file_at files 0).bytes in
    let start = c.begin_or_end-start.result in
    let one : length files ≡ 1 = omega (arith, c.files.ensures.count, c.if-files-ne1.false) in
    let h : IsBeginOrEnd rs bytes 0 start = rw (c.of.ensures, c.blocks-2.ensures.value) at c.begin_or_end-start.ensures in
    let long : c.size-end.result ≡ length bytes = c.size-end.ensures in
    let lt : start < length bytes = omega (arith, c.if-start-end.true, long) in
    let count : length (cut_at rs files []) ≡ 1 = ap length (one_chunk rs files one start h lt) in
    let some : 0 < length (cut_at rs files []) = omega (arith, count) in
    if_none _ _ (inr (inr some))
