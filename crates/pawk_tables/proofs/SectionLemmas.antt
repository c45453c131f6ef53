-- Sections in front of bytes.
use Rattle.std.proofs.Common.{◌≡◌, ◌==◌, ℕ, true, false, List, [], ◌∷◌, ◌++◌, Some, length, take, drop, refl, ap, sym, ◌∙◌, subst}
use Rattle.std.proofs.lemmas.List.{take-append-drop, take_at, drop_at}
use Rattle.pawk_frozen.specs.Marks.{Table}
use Rattle.pawk_lines.specs.Lines.{Line, BeginsLine}
use Rattle.pawk_lines.specs.Lines as lines
use Rattle.pawk_lines.proofs.LineLaws.{line_same}
use Rattle.pawk_parts.specs.Parts.{all_bytes, is_mark_line, table_of, BeginsOtherLine, IsTableInFront, SayTable}
use Rattle.pawk_tables.specs.Layout.{file, part, kept}
use Rattle.pawk_tables.specs.Reading.{BeginsLines, IsInFront, IsPartAfter, IsSectionInFront, Item, section, records}
use Rattle.pawk_tables.proofs.Fronts.{after_line, first_line, from_no_mark, kind_same, lines_same, more_lines, tails_same}

-- ---- marks in front of bytes

-- marks that say a table, up to a line that is none
pub record IsMarked (scalars arrays : ℕ) (s : List ℕ) (table : Table) (r : List ℕ) : Type 0 where
  pub marks : List Line
  pub say : SayTable scalars arrays marks table
  pub begins : BeginsLines s marks r
  pub next : BeginsOtherLine r

pub marked : (m n : ℕ) (s : List ℕ) (t : Table) (count : ℕ) → IsTableInFront m n s t count → IsMarked m n s t (drop count s)
marked m n s t count h = record {
  marks = h.lines;
  say = h.say;
  begins = record { lines = h.say.lines; front = sym (take-append-drop count s) ∙ ap (λ v. v ++ drop count s) h.front };
  next = h.ends;
}

pub table_in_front : (m n : ℕ) (s r : List ℕ) (t : Table) → IsMarked m n s t r → (count : ℕ) × IsTableInFront m n s t count
table_in_front m n s r t h =
    let bytes = all_bytes h.marks in
    let split : s ≡ bytes ++ r = h.begins.front in
    let front : take (length bytes) s ≡ bytes = ap (take (length bytes)) split ∙ take_at bytes r (length bytes) refl in
    let back : drop (length bytes) s ≡ r = ap (drop (length bytes)) split ∙ drop_at bytes r (length bytes) refl in
    (length bytes, record { lines = h.marks; say = h.say; front = front; ends = subst BeginsOtherLine (sym back) h.next })

-- ---- parts

-- what a part wrote, and then its marks
pub part_from_marked : (m n : ℕ) (s r q output : List ℕ) (t : Table) → BeginsLine s (lines.output output) r → IsMarked m n r t q → IsPartAfter m n s output t q
part_from_marked m n s r q output t h k = record {
  marks = k.marks;
  say = k.say;
  begins = more_lines s r q (lines.output output) k.marks h k.begins;
  next = k.next;
}

pub marked_from_part : (m n : ℕ) (s r q found output : List ℕ) (t : Table) → BeginsLine s (lines.output found) r → IsPartAfter m n s output t q → IsMarked m n r t q
marked_from_part m n s r q found output t h k = record {
  marks = k.marks;
  say = k.say;
  begins = (after_line s r q (lines.output found) (lines.output output) k.marks h k.begins).others;
  next = k.next;
}

pub part_first : (m n : ℕ) (s q output : List ℕ) (t : Table) → IsPartAfter m n s output t q → (r : List ℕ) × BeginsLine s (lines.output output) r
part_first m n s q output t h = (all_bytes h.marks ++ q, first_line s q (lines.output output) h.marks h.begins)

pub section_from_part : (m n k : ℕ) (s r q output : List ℕ) (t : Table) → BeginsLine s (lines.part k) r → IsPartAfter m n r output t q → IsSectionInFront m n s (part k output t) q
section_from_part m n k s r q output t h p = record {
  spelling = lines.part k ∷ lines.output output ∷ p.marks;
  spelled = (p.marks, p.say, refl);
  begins = more_lines s r q (lines.part k) (lines.output output ∷ p.marks) h p.begins;
  next = p.next;
}

-- ---- the first line of an item

abbrev pub head : Item → Line
head (section (file name)) = lines.file name
head (section (part count output table)) = lines.part count
head (section (kept fnr bytes)) = lines.last fnr bytes
head (records count) = lines.records count

-- the item begins with its first line
pub item_first : (m n : ℕ) (s q : List ℕ) (i : Item) → IsInFront m n s i q → (r : List ℕ) × BeginsLine s (head i) r
item_first m n s q (section (file name)) h =
    let b : BeginsLines s (lines.file name ∷ []) q = subst (λ ls. BeginsLines s ls q) h.spelled h.begins in
    (all_bytes [] ++ q, first_line s q (lines.file name) [] b)
item_first m n s q (section (part count output table)) h =
    let others = lines.output output ∷ h.spelled.0 in
    let b : BeginsLines s (lines.part count ∷ others) q = subst (λ ls. BeginsLines s ls q) h.spelled.2 h.begins in
    (all_bytes others ++ q, first_line s q (lines.part count) others b)
item_first m n s q (section (kept fnr bytes)) h =
    let b : BeginsLines s (lines.last fnr bytes ∷ []) q = subst (λ ls. BeginsLines s ls q) h.spelled h.begins in
    (all_bytes [] ++ q, first_line s q (lines.last fnr bytes) [] b)
item_first m n s q (records count) h = (q, h.0)

-- the line in front is the first of the item
pub head_same : (m n : ℕ) (s r q : List ℕ) (l : Line) (i : Item) → BeginsLine s l r → IsInFront m n s i q → l ≡ head i
head_same m n s r q l i h k = let f = item_first m n s q i k in (line_same s l (head i) r f.0 h f.1).line

-- where the line of a part is in front, it is a part that is
pub part_none : (m n k : ℕ) (s r q : List ℕ) (i : Item) → BeginsLine s (lines.part k) r → ((output : List ℕ) (t : Table) (rest : List ℕ) → ¬ IsPartAfter m n r output t rest) → IsInFront m n s i q → ⊥
part_none m n k s r q (section (file name)) here none h = let e : lines.part k ≡ lines.file name = head_same m n s r q (lines.part k) (section (file name)) here h in cc
part_none m n k s r q (section (part count output table)) here none h =
    let others = lines.output output ∷ h.spelled.0 in
    let b : BeginsLines s (lines.part count ∷ others) q = subst (λ ls. BeginsLines s ls q) h.spelled.2 h.begins in
    none output table q (record {
      marks = h.spelled.0;
      say = h.spelled.1;
      begins = (after_line s r q (lines.part k) (lines.part count) others here b).others;
      next = h.next;
    })
part_none m n k s r q (section (kept fnr bytes)) here none h = let e : lines.part k ≡ lines.last fnr bytes = head_same m n s r q (lines.part k) (section (kept fnr bytes)) here h in cc
part_none m n k s r q (records count) here none h = let e : lines.part k ≡ lines.records count = head_same m n s r q (lines.part k) (records count) here h in cc

-- nothing comes after the number of records
pub records_last : (m n k : ℕ) (s r q : List ℕ) (i : Item) → BeginsLine s (lines.records k) r → IsInFront m n s i q → r ≡ []
records_last m n k s r q (section (file name)) here h = let e : lines.records k ≡ lines.file name = head_same m n s r q (lines.records k) (section (file name)) here h in cc
records_last m n k s r q (section (part count output table)) here h = let e : lines.records k ≡ lines.part count = head_same m n s r q (lines.records k) (section (part count output table)) here h in cc
records_last m n k s r q (section (kept fnr bytes)) here h = let e : lines.records k ≡ lines.last fnr bytes = head_same m n s r q (lines.records k) (section (kept fnr bytes)) here h in cc
records_last m n k s r q (records count) here h = (line_same s (lines.records k) (lines.records count) r q here h.0).left ∙ h.1

pub not_empty : (r : List ℕ) → r ≡ [] → false ≡ (length r == 0) → ⊥
not_empty r e f = let bad : false ≡ true = f ∙ ap (λ v. length v == 0) e in cc

-- ---- one item is in front

pub record IsSameItem (i k : Item) (r q : List ℕ) : Type 0 where
  pub item : i ≡ k
  pub left : r ≡ q

some_same : (t u : Table) → Some t ≡ Some u → t ≡ u
some_same t u e = cc

table_same : (m n : ℕ) (ms ns : List Line) (t u : Table) → SayTable m n ms t → SayTable m n ns u → ms ≡ ns → t ≡ u
table_same m n ms ns t u h k e = some_same t u (sym h.said ∙ ap (table_of m n) e ∙ k.said)

-- the same part, from the lines of both
part_same : (m n c d : ℕ) (s r q o p : List ℕ) (t u : Table) → IsSectionInFront m n s (part c o t) r → IsSectionInFront m n s (part d p u) q → IsSameItem (section (part c o t)) (section (part d p u)) r q
part_same m n c d s r q o p t u h k =
    let ms = h.spelled.0 in
    let ns = k.spelled.0 in
    let a : BeginsLines s (lines.part c ∷ lines.output o ∷ ms) r = subst (λ ls. BeginsLines s ls r) h.spelled.2 h.begins in
    let b : BeginsLines s (lines.part d ∷ lines.output p ∷ ns) q = subst (λ ls. BeginsLines s ls q) k.spelled.2 k.begins in
    let one = tails_same s r q (lines.part c) (lines.part d) (lines.output o ∷ ms) (lines.output p ∷ ns) a b in
    let two = tails_same one.middle r q (lines.output o) (lines.output p) ms ns one.mine one.others in
    let marks = kind_same is_mark_line two.middle r q ms ns h.spelled.1.mark_lines k.spelled.1.mark_lines two.mine (from_no_mark r h.next) two.others (from_no_mark q k.next) in
    let parts : lines.part c ≡ lines.part d = one.line in
    let outputs : lines.output o ≡ lines.output p = two.line in
    let counts : c ≡ d = cc in
    let texts : o ≡ p = cc in
    let tables : t ≡ u = table_same m n ms ns t u h.spelled.1 k.spelled.1 marks.lines in
    record { item = rw (counts, texts, tables) refl; left = marks.left }

-- the same section of one line
one_line_same : (s r q : List ℕ) (l k : Line) (ls ks : List Line) → ls ≡ l ∷ [] → ks ≡ k ∷ [] → BeginsLines s ls r → BeginsLines s ks q → (l ≡ k) × (r ≡ q)
one_line_same s r q l k ls ks e f h j =
    let a : BeginsLines s (l ∷ []) r = subst (λ v. BeginsLines s v r) e h in
    let b : BeginsLines s (k ∷ []) q = subst (λ v. BeginsLines s v q) f j in
    let same = lines_same s r q (l ∷ []) (k ∷ []) refl a b in
    let lists : l ∷ [] ≡ k ∷ [] = same.lines in
    (cc, same.left)

items_same : (m n : ℕ) (s r q : List ℕ) (i k : Item) → head i ≡ head k → IsInFront m n s i r → IsInFront m n s k q → IsSameItem i k r q
items_same m n s r q (section (file a)) (section (file b)) e h k =
    let same = one_line_same s r q (lines.file a) (lines.file b) h.spelling k.spelling h.spelled k.spelled h.begins k.begins in
    let names : a ≡ b = cc in
    record { item = rw names refl; left = same.1 }
items_same m n s r q (section (file a)) (section (part d p u)) e h k = absurd cc
items_same m n s r q (section (file a)) (section (kept f b)) e h k = absurd cc
items_same m n s r q (section (file a)) (records d) e h k = absurd cc
items_same m n s r q (section (part c o t)) (section (file b)) e h k = absurd cc
items_same m n s r q (section (part c o t)) (section (part d p u)) e h k = part_same m n c d s r q o p t u h k
items_same m n s r q (section (part c o t)) (section (kept f b)) e h k = absurd cc
items_same m n s r q (section (part c o t)) (records d) e h k = absurd cc
items_same m n s r q (section (kept g a)) (section (file b)) e h k = absurd cc
items_same m n s r q (section (kept g a)) (section (part d p u)) e h k = absurd cc
items_same m n s r q (section (kept g a)) (section (kept f b)) e h k =
    let same = one_line_same s r q (lines.last g a) (lines.last f b) h.spelling k.spelling h.spelled k.spelled h.begins k.begins in
    let numbers : g ≡ f = cc in
    let texts : a ≡ b = cc in
    record { item = rw (numbers, texts) refl; left = same.1 }
items_same m n s r q (section (kept g a)) (records d) e h k = absurd cc
items_same m n s r q (records c) (section (file b)) e h k = absurd cc
items_same m n s r q (records c) (section (part d p u)) e h k = absurd cc
items_same m n s r q (records c) (section (kept f b)) e h k = absurd cc
items_same m n s r q (records c) (records d) e h k =
    let counts : c ≡ d = cc in
    record { item = rw counts refl; left = h.1 ∙ sym k.1 }

pub item_same : (m n : ℕ) (s r q : List ℕ) (i k : Item) → IsInFront m n s i r → IsInFront m n s k q → IsSameItem i k r q
item_same m n s r q i k h j = let f = item_first m n s r i h in items_same m n s r q i k (head_same m n s f.0 q (head i) k f.1 j) h j
