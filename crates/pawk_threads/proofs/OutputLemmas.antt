-- Outputs in parts, and what follows the records after them.
use Rattle.std.proofs.Common.{◌≡◌, ◌∙◌, ℕ, List, [], ◌∷◌, ◌++◌, ap, sym}
use Rattle.std.specs.Prelude.{Vec}
use Rattle.std.specs.declared.alloc.Global.{Global}
use Rattle.std.proofs.lemmas.List.{append-nil}
use Rattle.pawk_code.specs.Programs.{Code}
use Rattle.pawk_store.specs.Globals.{Globals, calls}
use Rattle.pawk_store.specs.Outputs.{in_a_row, finish_with_output_before}
use Rattle.pawk_store.specs.Records.{Left, End}
use Rattle.pawk_store.specs.Runs.{Finish, after_records}
use Rattle.pawk_store.proofs.Framing.{after_records_append}
use Rattle.pawk_merge.proofs.MergeLemmas.{in_a_row-push}

-- what the parts of an output are together
pub parts_together : (before : Vec ℕ Global) (outputs : List (Vec ℕ Global)) (behind : Vec ℕ Global) →
    in_a_row (((before ∷ []) ++ outputs) ++ (behind ∷ [])) ≡ (before.items ++ in_a_row outputs) ++ behind.items
parts_together before outputs behind = in_a_row-push (before ∷ outputs) behind

-- what follows the records, with what was written before them in front
pub in_front : (code : Code) (budget : ℕ) (left : Left) (out : List ℕ) (e : End Globals) (f : Finish Globals) → e.output ≡ [] →
    after_records calls code.expressions code budget left e ≡ f →
    after_records calls code.expressions code budget left (record e { output = out }) ≡ finish_with_output_before out f
in_front code budget left out e f none is =
    ap (λ (o : List ℕ). after_records calls code.expressions code budget left (record e { output = o })) (sym (append-nil out) ∙ ap (λ (o : List ℕ). out ++ o) (sym none))
    ∙ after_records_append out calls code.expressions code budget left e ∙ ap (finish_with_output_before out) is

-- the same of an end that is reported otherwise
pub gone_on : (code : Code) (budget : ℕ) (out : List ℕ) (e x : End Globals) (f : Finish Globals) → x ≡ record e { output = out } → e.output ≡ [] →
    after_records calls code.expressions code budget e.left e ≡ f →
    after_records calls code.expressions code budget x.left x ≡ finish_with_output_before out f
gone_on code budget out e x f same none is =
    ap (λ (y : End Globals). after_records calls code.expressions code budget y.left y) same ∙ in_front code budget e.left out e f none is
