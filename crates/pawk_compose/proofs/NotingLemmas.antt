-- Marks of an array that are noted in a table.
use Rattle.std.proofs.Common.{◌≡◌, ◌≢◌, ◌<◌, ⊎_elim, ℕ, Bool, true, false, List, [], length, get_or, set, Option, Some, None, refl, sym, ◌∙◌, ap, subst}
use Rattle.std.specs.Bool.{MatchBool}
use Rattle.std.proofs.lemmas.List.{get_or-set_same, set-set, set-get_or}
use Rattle.pawk_keyed_map.specs.Keyed.{Rise, found}
use Rattle.pawk_keyed_map.proofs.EntriesLemmas.{rise-put, same_found, put_here, put_other}
use Rattle.pawk_world.specs.Worlds.{element}
use Rattle.pawk_frozen.specs.Marks.{Mark, Marks, Table, blank, mark_at, mark_found, mark_or_blank, put_mark, with_mark}
use Rattle.pawk_compose.specs.Compositions.{noted_again}
use Rattle.pawk_compose.proofs.MarkLemmas.{after_nothing, noted_first}
use Rattle.pawk_compose.proofs.KeyLemmas.{same_key, here, other, gone}

abbrev pub with_array : ℕ → Marks → Table → Table
with_array slot marks table = record table { arrays = set table.arrays slot marks }

-- some marks are noted, and the others are left
pub record AreWriting (before now : Table) (slot : ℕ) (all left : Marks) : Type 0 where
  pub done : Marks
  pub table : now ≡ with_array slot done before
  pub apart : (q : List ℕ) → found q left ≢ None → found q done ≡ None
  pub each : (q : List ℕ) → noted_again (found q done) (found q left) ≡ found q all
  pub rise : Rise done

pub none_written : (before : Table) (slot : ℕ) (all : Marks) → get_or before.arrays slot [] ≡ [] → AreWriting before before slot all all
none_written before slot all none = record {
  done = [];
  table = ap (λ xs. record before { arrays = xs }) (sym (ap (set before.arrays slot) (sym none) ∙ set-get_or before.arrays slot []));
  apart = λ q h. refl;
  each = λ q. noted_first (found q all);
  rise = refl;
}

some_is_there : (m : Mark) (o : Option Mark) → o ≡ Some m → o ≢ None
some_is_there m o e h = let bad : Some m ≡ None = sym e ∙ h in cc

module _ (before now next : Table) (slot : ℕ) (all left rest : Marks) (k : List ℕ) (m : Mark) (within : slot < length before.arrays)
    (is : left ≡ put_mark k m rest) (new : found k rest ≡ None) (h : AreWriting before now slot all left) where
  not_done : found k h.done ≡ None
  not_done = h.apart k (some_is_there m (found k left) (here k m left rest is new))

  at : get_or now.arrays slot [] ≡ h.done
  at = ap (λ (t : Table). get_or t.arrays slot []) h.table ∙ get_or-set_same before.arrays slot h.done [] within

  blank_there : mark_at (element slot k) now ≡ blank
  blank_there = ap (mark_found k) at ∙ ap mark_or_blank not_done

  written : next ≡ with_mark (element slot k) m now → next ≡ with_array slot (put_mark k m h.done) before
  written e =
      e
      ∙ ap (λ ms. record now { arrays = set now.arrays slot (put_mark k m ms) }) at
      ∙ ap (λ (t : Table). record t { arrays = set t.arrays slot (put_mark k m h.done) }) h.table
      ∙ ap (λ xs. record before { arrays = xs }) (set-set before.arrays slot h.done (put_mark k m h.done))

  apart_at : (q : List ℕ) → found q rest ≢ None → found q (put_mark k m h.done) ≡ None
  apart_at q there = ⊎_elim same apart (same_key q k) where
    same : q ≡ k → found q (put_mark k m h.done) ≡ None
    same e = absurd (there (gone k m left rest is new q e))

    apart : q ≢ k → found q (put_mark k m h.done) ≡ None
    apart differs = put_other q k m h.done differs ∙ h.apart q (λ none. there (sym (other k m left rest is new q differs) ∙ none))

  each_here : noted_again (found k (put_mark k m h.done)) (found k rest) ≡ found k all
  each_here =
      ap (noted_again (found k (put_mark k m h.done))) new
      ∙ put_here k m h.done
      ∙ sym (after_nothing m)
      ∙ ap (λ o. noted_again o (Some m)) (sym not_done)
      ∙ ap (noted_again (found k h.done)) (sym (here k m left rest is new))
      ∙ h.each k

  each_at : (q : List ℕ) → noted_again (found q (put_mark k m h.done)) (found q rest) ≡ found q all
  each_at q = ⊎_elim same apart (same_key q k) where
    same : q ≡ k → noted_again (found q (put_mark k m h.done)) (found q rest) ≡ found q all
    same e = subst (λ (x : List ℕ). noted_again (found x (put_mark k m h.done)) (found x rest) ≡ found x all) (sym e) each_here

    apart : q ≢ k → noted_again (found q (put_mark k m h.done)) (found q rest) ≡ found q all
    apart differs =
        ap (λ o. noted_again o (found q rest)) (put_other q k m h.done differs)
        ∙ ap (noted_again (found q h.done)) (sym (other k m left rest is new q differs))
        ∙ h.each q

  one_more : next ≡ with_mark (element slot k) m now → AreWriting before next slot all rest
  one_more e = record {
    done = put_mark k m h.done;
    table = written e;
    apart = apart_at;
    each = each_at;
    rise = rise-put k m h.done h.rise;
  }

  -- what noting the mark of one key says
  abbrev pub Says : Bool → Type 0
  Says first =
      MatchBool first ((mark_at (element slot k) now ≡ blank) × (next ≡ with_mark (element slot k) m now)) (mark_at (element slot k) now ≢ blank)

  pub one_written : (first : Bool) → Says first → AreWriting before next slot all rest
  one_written true told = one_more told.1
  one_written false told = absurd (told blank_there)

pub all_written : (before now : Table) (slot : ℕ) (all left : Marks) → Rise all → left ≡ [] → AreWriting before now slot all left →
    now ≡ with_array slot all before
all_written before now slot all left rise e h =
    let same : h.done ≡ all =
    same_found h.done all h.rise rise (λ q. sym (ap (λ ms. noted_again (found q h.done) (found q ms)) e) ∙ h.each q) in
    h.table ∙ ap (λ ms. with_array slot ms before) same
