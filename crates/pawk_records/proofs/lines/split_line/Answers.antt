use Rattle.std.proofs.Common.{◌≡◌, ◌+◌, ◌<◌, ◌∷◌, rules, tests, Bool, true, false, not, length, take, drop, refl, ap, ◌∙◌, arith}
use Rattle.std.proofs.lemmas.List.{length-drop, take_rest, take_all, drop_all}
use Rattle.std.proofs.lemmas.List.Sums.{prefix_len_is}
use Rattle.std.specs.List.{prefix_len}
use Rattle.pawk_records.specs.Records.{records}
use Rattle.pawk_records.proofs.LineLemmas.{past_none}
use Rattle.pawk_records.proofs.RecordsLemmas.{is_other, records_of_some}
use Rattle.pawk_records.proofs.lines.split_line.Goals as goal

not_true : (b : Bool) → (b ≡ true → ⊥) → not b ≡ true
not_true true h = absurd (h refl)
not_true false h = refl

pub returns-in-Some-clause-cut : goal.returns-in-Some-clause-cut
returns-in-Some-clause-cut c =
    let s = c.args.text.now in
    let e = c.args.separator in
    let from = c.args.from in
    let first = rw take_rest at c.in-Some.ensures in
    let some : 0 < length s = search (rules, tests) in
    let later : prefix_len (is_other e) (drop from s) ≡ c.in-Some.end =
    prefix_len_is (is_other e) (drop from s) c.in-Some.end 0 (omega (arith, first.0.high)) (λ k h. not_true _ (first.0.before k (omega arith) h)) (λ _. ap not first.1) in
    let is : prefix_len (is_other e) s ≡ from + c.in-Some.end =
    past_none e from s c.requires.within c.requires.none ∙ ap (λ n. from + n) later in
    rw take_rest (rw is at (records_of_some e s some))

pub returns-in-None-clause-cut : goal.returns-in-None-clause-cut
returns-in-None-clause-cut c =
    let s = c.args.text.now in
    let e = c.args.separator in
    let from = c.args.from in
    let none = rw take_rest at c.in-None.ensures in
    let some : 0 < length s = search (rules, tests) in
    let later : prefix_len (is_other e) (drop from s) ≡ length (drop from s) =
    prefix_len_is (is_other e) (drop from s) (length (drop from s)) 0 (omega arith) (λ k h. not_true _ (none k (omega arith) h)) (λ h. absurd (omega arith)) in
    let is : prefix_len (is_other e) s ≡ length s =
    omega (arith, past_none e from s c.requires.within c.requires.none, later, length-drop from s, c.requires.within) in
    let front : take (length s) s ≡ s = take_all (length s) s (omega arith) in
    rw is at (records_of_some e s some) ∙ ap (λ l. l ∷ records e (drop (length s + 1) s)) front ∙ ap (λ l. s ∷ records e l) (drop_all (length s + 1) s (omega arith))
