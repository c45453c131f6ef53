-- Sections that tell of records, one after the other.
use Rattle.std.proofs.Common.{◌≡◌, ◌∙◌, ℕ, ◌+◌, List, [], ◌∷◌, ◌++◌, length, refl, ap, sym, subst, append_assoc, length-append, add-zero, arith}
use Rattle.std.proofs.lemmas.Grind.{flat_map-append}
use Rattle.std.proofs.lemmas.List.Concat.{flat_map-cons}
use Rattle.std.proofs.lemmas.List.Elements.{All-append, All-nil}
use Rattle.pawk_input.specs.Input.{Item, file_items}
use Rattle.pawk_lines.specs.Lines.{Line, IsLine, line_bytes}
use Rattle.pawk_parts.specs.Parts.{all_bytes}
use Rattle.pawk_tables.specs.Layout.{Section, file, part, kept, AllSpell}
use Rattle.pawk_merge_law.specs.Phases.{Phase}
use Rattle.pawk_merge_law.specs.ChunkedRuns.{all_of}
use Rattle.pawk_shards.specs.Numbers.{AreSameButNumbers}
use Rattle.pawk_shards.specs.Told.{Tell, IsPartOf, Says, Origin, one_chunk, two_parts}
use Rattle.pawk_map.specs.Sections.{SaySections, name_after}

-- ---- records, but for their numbers

pub same_refl : (is : List Item) → AreSameButNumbers is is
same_refl [] = tt
same_refl (i ∷ is) = (refl, same_refl is)

pub same_append : (is js ks ls : List Item) → AreSameButNumbers is js → AreSameButNumbers ks ls → AreSameButNumbers (is ++ ks) (js ++ ls)
same_append [] [] ks ls h k = k
same_append [] (j ∷ js) ks ls h k = absurd h
same_append (i ∷ is) [] ks ls h k = absurd h
same_append (i ∷ is) (j ∷ js) ks ls h k = (h.0, same_append is js ks ls h.1 k)

pub same_then : (is js ks : List Item) → AreSameButNumbers is js → AreSameButNumbers js ks → AreSameButNumbers is ks
same_then [] [] ks h k = k
same_then [] (j ∷ js) ks h k = absurd h
same_then (i ∷ is) [] ks h k = absurd h
same_then (i ∷ is) (j ∷ js) [] h k = absurd k
same_then (i ∷ is) (j ∷ js) (l ∷ ls) h k =
    (k.0 ∙ ap (λ (x : Item). record x { file = l.file; nr = l.nr }) h.0, same_then is js ls h.1 k.1)

pub same_back : (is js : List Item) → AreSameButNumbers is js → AreSameButNumbers js is
same_back [] [] h = tt
same_back [] (j ∷ js) h = absurd h
same_back (i ∷ is) [] h = absurd h
same_back (i ∷ is) (j ∷ js) h = (ap (λ (x : Item). record x { file = i.file; nr = i.nr }) (sym h.0), same_back is js h.1)

pub same_length : (is js : List Item) → AreSameButNumbers is js → length is ≡ length js
same_length [] [] h = refl
same_length [] (j ∷ js) h = absurd h
same_length (i ∷ is) [] h = absurd h
same_length (i ∷ is) (j ∷ js) h = let e = same_length is js h.1 in omega (arith, e)

pub same_file : (place there : ℕ) (name : List ℕ) (nr nr' fnr : ℕ) (records : List (List ℕ)) → AreSameButNumbers (file_items place name nr fnr records) (file_items there name nr' fnr records)
same_file place there name nr nr' fnr [] = tt
same_file place there name nr nr' fnr (r ∷ records) = (refl, same_file place there name (nr + 1) (nr' + 1) (fnr + 1) records)

-- The records of a file in two.
pub file_append : (place : ℕ) (name : List ℕ) (nr fnr : ℕ) (rs more : List (List ℕ)) →
    file_items place name nr fnr (rs ++ more) ≡ file_items place name nr fnr rs ++ file_items place name (nr + length rs) (fnr + length rs) more
file_append place name nr fnr [] more = rw (add-zero nr, add-zero fnr) refl
file_append place name nr fnr (r ∷ rs) more =
    let i : Item = record { bytes = r; file = place; name = name; nr = nr + 1; fnr = fnr + 1 } in
    let e : nr + 1 + length rs ≡ nr + length (r ∷ rs) = omega arith in
    let f : fnr + 1 + length rs ≡ fnr + length (r ∷ rs) = omega arith in
    ap (λ is. i ∷ is) (subst (λ n. file_items place name (nr + 1) (fnr + 1) (rs ++ more) ≡ file_items place name (nr + 1) (fnr + 1) rs ++ file_items place name n (fnr + length (r ∷ rs)) more) e
    (subst (λ n. file_items place name (nr + 1) (fnr + 1) (rs ++ more) ≡ file_items place name (nr + 1) (fnr + 1) rs ++ file_items place name (nr + 1 + length rs) n more) f
    (file_append place name (nr + 1) (fnr + 1) rs more)))

pub file_length : (place : ℕ) (name : List ℕ) (nr fnr : ℕ) (rs : List (List ℕ)) → length (file_items place name nr fnr rs) ≡ length rs
file_length place name nr fnr [] = refl
file_length place name nr fnr (r ∷ rs) = let e = file_length place name (nr + 1) (fnr + 1) rs in omega (arith, e)

-- ---- what is spelled

module _ (scalars arrays : ℕ) where
  spell_append : (ss ts : List Section) (ls ks : List Line) → AllSpell scalars arrays ss ls → AllSpell scalars arrays ts ks → AllSpell scalars arrays (ss ++ ts) (ls ++ ks)
  spell_append [] ts ls ks h k = subst (λ x. AllSpell scalars arrays ts (x ++ ks)) (sym h) k
  spell_append (s ∷ ss) ts ls ks h k =
      (h.0, h.1 ++ ks, h.2, spell_append ss ts h.1 ks h.3 k, ap (λ x. x ++ ks) h.4 ∙ append_assoc h.0 h.1 ks)

  pub say_none : SaySections scalars arrays [] []
  say_none = record { lines = []; are = All-nil IsLine; spell = refl; whole = refl }

  pub say_append : (ss ts : List Section) (bytes more : List ℕ) → SaySections scalars arrays ss bytes → SaySections scalars arrays ts more → SaySections scalars arrays (ss ++ ts) (bytes ++ more)
  say_append ss ts bytes more h k = record {
    lines = h.lines ++ k.lines;
    are = All-append IsLine h.lines k.lines h.are k.are;
    spell = spell_append ss ts h.lines k.lines h.spell k.spell;
    whole = ap (λ x. x ++ more) h.whole ∙ ap (λ x. all_bytes h.lines ++ x) k.whole ∙ sym (flat_map-append line_bytes h.lines k.lines);
  }

-- ---- what is told

pub name_append : (name : List ℕ) (ss ts : List Section) → name_after name (ss ++ ts) ≡ name_after (name_after name ss) ts
name_append name [] ts = refl
name_append name (file other ∷ ss) ts = name_append other ss ts
name_append name (part count output table ∷ ss) ts = name_append name ss ts
name_append name (kept fnr bytes ∷ ss) ts = name_append name ss ts

pub all_append : (cs ds : List (List Item)) → all_of (cs ++ ds) ≡ all_of cs ++ all_of ds
all_append cs ds = flat_map-append (λ items. items) cs ds

all_length : (c : List Item) (cs : List (List Item)) → length (all_of (c ∷ cs)) ≡ length c + length (all_of cs)
all_length c cs = ap length (flat_map-cons (λ items. items) c cs) ∙ length-append c (all_of cs)

-- A part is of as many records as it says.
says_counted : (p : Phase) (o : Origin) (nr : ℕ) (chunk : List Item) (count : ℕ) (output : List ℕ) (table : _) → Says p o nr chunk count output table → length chunk ≡ count
says_counted p (one_chunk state) nr chunk count output table h = h.counted
says_counted p (two_parts first second) nr chunk count output table h =
    let a = says_counted p first nr h.first_items h.first_count h.first_output h.first_table h.first in
    let b = says_counted p second (nr + h.first_count) h.second_items h.second_count h.second_output h.second_table h.second in
    let l : length chunk ≡ length h.first_items + length h.second_items = ap length (sym h.items) ∙ length-append h.first_items h.second_items in
    let n : h.first_count + h.second_count ≡ count = h.counted in
    omega (arith, a, b, l, n)

part_counted : (p : Phase) (nr : ℕ) (chunk : List Item) (count : ℕ) (output : List ℕ) (table : _) → IsPartOf p nr chunk count output table → length chunk ≡ count
part_counted p nr chunk count output table h = says_counted p h.origin nr chunk count output table h.says

module _ (p : Phase) (rs : List ℕ) where
  pub tell_append : (nr : ℕ) (name : List ℕ) (ss ts : List Section) (cs ds : List (List Item)) →
      Tell p rs nr name ss cs → Tell p rs (nr + length (all_of cs)) (name_after name ss) ts ds → Tell p rs nr name (ss ++ ts) (cs ++ ds)
  tell_append nr name [] ts [] ds h k = subst (λ n. Tell p rs n name ts ds) (add-zero nr) k
  tell_append nr name [] ts (c ∷ cs) ds h k = absurd h
  tell_append nr name (file other ∷ ss) ts cs ds h k = tell_append nr other ss ts cs ds h k
  tell_append nr name (part count output table ∷ ss) ts [] ds h k = absurd h
  tell_append nr name (part count output table ∷ ss) ts (c ∷ cs) ds h k =
      let counted : length c ≡ count = part_counted p nr c count output table h.0 in
      let l = all_length c cs in
      let e : nr + length (all_of (c ∷ cs)) ≡ nr + count + length (all_of cs) = omega (arith, l, counted) in
      (h.0, tell_append (nr + count) name ss ts cs ds h.1 (subst (λ n. Tell p rs n (name_after name ss) ts ds) e k))
  tell_append nr name (kept fnr bytes ∷ ss) ts [] ds h k = absurd h
  tell_append nr name (kept fnr bytes ∷ ss) ts (c ∷ cs) ds h k =
      let l = all_length c cs in
      let e : nr + length (all_of (c ∷ cs)) ≡ nr + length c + length (all_of cs) = omega (arith, l) in
      (h.0, h.1, tell_append (nr + length c) name ss ts cs ds h.2 (subst (λ n. Tell p rs n (name_after name ss) ts ds) e k))
