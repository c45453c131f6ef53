-- What a format that was read once writes is what its text means.
use Rattle.std.proofs.Common.{◌≡◌, ℕ, List, Result, Ok, Err}
use Rattle.std.specs.Coded.{codes}
use Rattle.std.proofs.Math.Logic.{∥∥₁_elim}
use base.Stored.{Coded-set}
use Rattle.pawk_value.specs.declared.faults.Fault.{Fault}
use Rattle.pawk_value.specs.contracts.faults.Fault as fault_type
use Rattle.pawk_value.specs.declared.faults.Stop.{Stop}
use Rattle.pawk_value.specs.declared.faults.Stop.TheVariants as stop
use Rattle.pawk_value.specs.Value.{Val}
use Rattle.pawk_value.specs.declared.template.Template.{Template}
use Rattle.pawk_value.specs.Format.{pieces_of}
use Rattle.pawk_value.specs.FormatViews.{Writes}
use Rattle.pawk_value.specs.TemplateViews.{IsTemplateOf}
use Rattle.pawk_store.specs.Builtins.{formatted_text}
use Rattle.pawk_builtins.specs.Settles.{Settles}

texts_prop : (x y : Result (List ℕ) Fault) → IsProp (x ≡ y)
texts_prop x y = Coded-set (hlevel (codes, fault_type.the_row.coded)) x y

pub format_settles : (A : Type 0) (s : List ℕ) (vs : List Val) (out : List ℕ) (r : Result A Stop) → Writes (pieces_of s) vs out r → Settles (λ _. out) (formatted_text s vs) r
format_settles A s vs out (Ok u) w = w
format_settles A s vs out (Err (stop.Fault f)) w = w
format_settles A s vs out (Err stop.Memory) w = tt

pub template_settles : (A : Type 0) (t : Template) (s : List ℕ) (vs : List Val) (out : List ℕ) (r : Result A Stop) → ∥ IsTemplateOf t s ∥₁ →
    ((format : List ℕ) → IsTemplateOf t format → Writes (pieces_of format) vs out r) → Settles (λ _. out) (formatted_text s vs) r
template_settles A t s vs out (Ok u) read w = ∥∥₁_elim read (texts_prop _ _) (w s)
template_settles A t s vs out (Err (stop.Fault f)) read w = ∥∥₁_elim read (texts_prop _ _) (w s)
template_settles A t s vs out (Err stop.Memory) read w = tt
