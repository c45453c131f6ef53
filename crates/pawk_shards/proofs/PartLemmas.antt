-- Parts of tables, of one chunk or of several, one after the other.
use Rattle.std.proofs.Common.{◌≡◌, ℕ, ◌+◌, Bool, true, false, if◌then◌else◌, List, [], ◌∷◌, ◌++◌, length, Result, Ok, Err, refl, ap, sym, ◌∙◌, subst, append_assoc, length-append, arith}
use Rattle.std.specs.Prelude.{MatchResult}
use Rattle.pawk_input.specs.Input.{Item}
use Rattle.pawk_store.specs.Globals.{Globals}
use Rattle.pawk_store.specs.Records.{through, End}
use Rattle.pawk_frozen.specs.Marks.{Table}
use Rattle.pawk_merge.specs.Merges.{Chunk, Stop, at_cell, with_chunk, merge}
use Rattle.pawk_merge.specs.Tables.{all_take}
use Rattle.pawk_merge_law.specs.Phases.{Phase, MayRun, in_order, FaultsOrCreates}
use Rattle.pawk_merge_law.specs.ChunkedRuns.{HasRecord}
use Rattle.pawk_shards.specs.Apart.{HasCome, EndsSo, OneApartLaw, LaterLaw}
use Rattle.pawk_shards.specs.Joined.{AreNoted, NotesLaw, NotedAgainLaw, NeighboursLaw}
use Rattle.pawk_shards.specs.Told.{Origin, one_chunk, two_parts, last_state, part_chunk, Says}
use Rattle.pawk_shards.specs.Parts.{PartSaysLaw, PartsAsOneLaw, PartApartLaw}

-- the laws that these stand on
pub record Laws : Type 0 where
  pub one : OneApartLaw
  pub later : LaterLaw
  pub notes : NotesLaw
  pub again : NotedAgainLaw
  pub neighbours : NeighboursLaw

-- Records of which the first are such that there is one.
some_first : (items more : List Item) → HasRecord items → HasRecord (items ++ more)
some_first [] more has = absurd has
some_first (i ∷ is) more has = tt

module _ (law : Laws) (p : Phase) (may : MayRun p) where
  -- ---- what a part says

  -- what is said of the records of a part, whatever its origin
  abbrev Noted : List Item → ℕ → Table → Type 0
  Noted chunk count table = HasRecord chunk × (length chunk ≡ count) × AreNoted p table

  says_so : (origin : Origin) (nr : ℕ) (chunk : List Item) (count : ℕ) (output : List ℕ) (table : Table) → Says p origin nr chunk count output table → Noted chunk count table
  says_so (one_chunk state) nr chunk count output table h = (h.some, h.counted, law.notes p may nr chunk (part_chunk state output table) h.told)
  says_so (two_parts first second) nr chunk count output table h =
      let one : Noted h.first_items h.first_count h.first_table = says_so first nr h.first_items h.first_count h.first_output h.first_table h.first in
      let two : Noted h.second_items h.second_count h.second_table =
      says_so second (nr + h.first_count) h.second_items h.second_count h.second_output h.second_table h.second in (
        subst HasRecord h.items (some_first h.first_items h.second_items one.0),
        sym (ap (λ (is : List Item). length is) h.items)
            ∙ length-append h.first_items h.second_items
            ∙ (λ j. one.1 j + two.1 j)
            ∙ h.counted,
        law.again p h.first_table h.second_table table one.2 two.2 h.composed h.slots,
      )

  -- ---- where a part is merged

  abbrev Answer : Type 0
  Answer = Result (End Globals) Stop

  -- what is met by these records
  abbrev Met : List Item → Answer → Type 0
  Met all r = MatchResult r (EndsSo p all) (λ stop. FaultsOrCreates p all)

  -- The records of one chunk end so, whether or not their end is known exactly.
  one_so : (all : List Item) (r : Answer) → MatchResult r (λ f. (in_order p all ≡ f) × EndsSo p all f) (λ stop. FaultsOrCreates p all) → Met all r
  one_so all (Ok f) h = h.1
  one_so all (Err s) h = h

  -- Where the first records are merged, the answer for all is that from there; where the merge stops at them, it stops for all.
  then_so : (some all : List Item) (takes : Bool) (x : End Globals) (r : Answer) → x.left ≡ through → Met some (if takes then Ok x else Err at_cell) →
      (HasCome p some x → Met all r) → (FaultsOrCreates p some → FaultsOrCreates p all) → Met all (if takes then r else Err at_cell)
  then_so some all true x r on first next stays = next (first.goes_on on)
  then_so some all false x r on first next stays = stays first

  -- What a part of this origin says is merged wherever a run has come.
  abbrev Merges : Origin → Type 0
  Merges origin =
      (items : List Item) (e : End Globals) → HasCome p items e → (chunk : List Item) (count : ℕ) (output : List ℕ) (table : Table) →
      Says p origin (p.state.nr + length items) chunk count output table → Met (items ++ chunk) (merge (part_chunk (last_state origin) output table ∷ []) e)

  module _ (first second : Origin) (merges_first : Merges first) (merges_second : Merges second) (items : List Item) (e : End Globals) (come : HasCome p items e)
      (chunk : List Item) (count : ℕ) (output : List ℕ) (table : Table) (h : Says p (two_parts first second) (p.state.nr + length items) chunk count output table) where
    abbrev nr : ℕ
    nr = p.state.nr + length items

    -- the records up to those of the second, and all
    abbrev some : List Item
    some = items ++ h.first_items

    abbrev all : List Item
    all = some ++ h.second_items

    abbrev c : Chunk
    c = part_chunk (last_state first) h.first_output h.first_table

    abbrev d : Chunk
    d = part_chunk (last_state second) h.second_output h.second_table

    first_noted : Noted h.first_items h.first_count h.first_table
    first_noted = says_so first nr h.first_items h.first_count h.first_output h.first_table h.first

    second_noted : Noted h.second_items h.second_count h.second_table
    second_noted = says_so second (nr + h.first_count) h.second_items h.second_count h.second_output h.second_table h.second

    number : nr + h.first_count ≡ p.state.nr + length some
    number = let k = first_noted.1 in omega (arith, k, length-append items h.first_items)

    second_says : Says p second (p.state.nr + length some) h.second_items h.second_count h.second_output h.second_table
    second_says = subst (λ (n : ℕ). Says p second n h.second_items h.second_count h.second_output h.second_table) number h.second

    -- the two, one after the other
    both_met : Met all (merge (c ∷ d ∷ []) e)
    both_met =
        let x = with_chunk c e in
        then_so some all (all_take h.first_table e.world) x (merge (d ∷ []) x) refl
        (merges_first items e come h.first_items h.first_count h.first_output h.first_table h.first)
        (λ there. merges_second some x there h.second_items h.second_count h.second_output h.second_table second_says)
        (λ bad. (law.later p may some h.second_items).0 bad)

    -- the two as one
    two_met : Met (items ++ chunk) (merge (part_chunk (last_state second) output table ∷ []) e)
    two_met =
        let as_one = law.neighbours p may items e come c d table first_noted.2 second_noted.2 h.composed refl [] in
        let met : Met all (merge (part_chunk (last_state second) (h.first_output ++ h.second_output) table ∷ []) e) = subst (λ r. Met all r) (sym as_one) both_met in
        let grouped : all ≡ items ++ (h.first_items ++ h.second_items) = append_assoc items h.first_items h.second_items in
        subst (λ T. T) (λ j. Met (items ++ h.items j) (merge (part_chunk (last_state second) (h.outputs j) table ∷ []) e))
        (subst (λ is. Met is (merge (part_chunk (last_state second) (h.first_output ++ h.second_output) table ∷ []) e)) grouped met)

  merges_so : (origin : Origin) → Merges origin
  merges_so (one_chunk state) items e come chunk count output table h =
      let c = part_chunk state output table in
      one_so (items ++ chunk) (merge (c ∷ []) e) (law.one p may items e come chunk c h.some h.told)
  merges_so (two_parts first second) items e come chunk count output table h =
      two_met first second (merges_so first) (merges_so second) items e come chunk count output table h

-- ---- the laws

pub part_says : Laws → PartSaysLaw
part_says law p may nr chunk count output table part = says_so law p may part.origin nr chunk count output table part.says

pub parts_as_one : PartsAsOneLaw
parts_as_one p before some others m n output more t u w first second are slots = record {
  origin = two_parts first.origin second.origin;
  says = record {
    first_items = some;
    first_count = m;
    first_output = output;
    first_table = t;
    second_items = others;
    second_count = n;
    second_output = more;
    second_table = u;
    first = first.says;
    second = second.says;
    items = refl;
    counted = refl;
    outputs = refl;
    composed = are;
    slots = slots;
  };
}

pub part_apart : Laws → PartApartLaw
part_apart law p may items e come chunk count output table part = merges_so law p may part.origin items e come chunk count output table part.says
