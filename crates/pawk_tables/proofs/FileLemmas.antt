-- Whole files.
use Rattle.std.proofs.Common.{◌≡◌, ℕ, false, List, [], ◌∷◌, ◌++◌, refl, ap, sym, ◌∙◌, subst, append_assoc}
use Rattle.std.specs.Prelude.{All}
use Rattle.std.proofs.lemmas.List.{append-nil}
use Rattle.std.proofs.lemmas.List.Elements.{All-append, All-push}
use Rattle.pawk_lines.specs.Lines.{Line, IsLine, BeginsLine, line_bytes}
use Rattle.pawk_lines.specs.Lines as lines
use Rattle.pawk_parts.specs.Parts.{all_bytes, is_mark_line}
use Rattle.pawk_tables.specs.Layout.{AllSpell, Header, header_lines, IsBody, IsTableFile, Section, file, part, kept, Spells}
use Rattle.pawk_tables.specs.Reading.{is_assign_line, AreInTurn, BeginsLines, BeginsNoAssignment, Follows, IsHeaderInFront, Item, section, records}
use Rattle.pawk_tables.proofs.Fronts.{back_lines, first_line, front_lines, lines_in_turn, one_line}
use Rattle.pawk_tables.proofs.HeaderLemmas.{header_same}
use Rattle.pawk_tables.proofs.Writing.{all_bytes-append}
use Rattle.pawk_tables.proofs.SectionLemmas.{head, item_first, item_same}
use Rattle.pawk_tables.proofs.DigestLemmas.{split_at_end}

-- ---- the first line of what is in turn

pub record IsHead (s : List ℕ) : Type 0 where
  pub item : Item
  pub rest : List ℕ
  pub begins : BeginsLine s (head item) rest

head_of_turn : (m n : ℕ) (s : List ℕ) (ss : List Section) (count : ℕ) → AreInTurn m n s ss count → IsHead s
head_of_turn m n s [] count h = record { item = records count; rest = []; begins = h.0 }
head_of_turn m n s (t ∷ ss) count h = let f = item_first m n s h.0 (section t) h.1 in record { item = section t; rest = f.0; begins = f.1 }

head_is_no_assignment : (i : Item) → is_assign_line (head i) ≡ false
head_is_no_assignment (section (file name)) = refl
head_is_no_assignment (section (part count output table)) = refl
head_is_no_assignment (section (kept fnr bytes)) = refl
head_is_no_assignment (records count) = refl

head_is_no_mark : (i : Item) → is_mark_line (head i) ≡ false
head_is_no_mark (section (file name)) = refl
head_is_no_mark (section (part count output table)) = refl
head_is_no_mark (section (kept fnr bytes)) = refl
head_is_no_mark (records count) = refl

no_assignment : (s : List ℕ) → IsHead s → BeginsNoAssignment s
no_assignment s h = record { line = head h.item; rest = h.rest; begins = h.begins; other = head_is_no_assignment h.item }

follows : (t : Section) (s : List ℕ) → IsHead s → Follows t s
follows (file name) s h = tt
follows (part count output table) s h = record { line = head h.item; rest = h.rest; begins = h.begins; other = head_is_no_mark h.item }
follows (kept fnr bytes) s h = tt

-- ---- from lines to items in turn, and back

pub to_turn : (m n : ℕ) (s : List ℕ) (ss : List Section) (middle : List Line) (count : ℕ) → AllSpell m n ss middle → BeginsLines s (middle ++ lines.records count ∷ []) [] → AreInTurn m n s ss count
to_turn m n s [] middle count spell h =
    let last : BeginsLines s (lines.records count ∷ []) [] = subst (λ ls. BeginsLines s (ls ++ lines.records count ∷ []) []) spell h in
    (first_line s [] (lines.records count) [] last, refl)
to_turn m n s (t ∷ ss) middle count spell h =
    let front = spell.0 in
    let rest = spell.1 in
    let last = lines.records count ∷ [] in
    let whole : BeginsLines s ((front ++ rest) ++ last) [] = subst (λ ls. BeginsLines s (ls ++ last) []) spell.4 h in
    let split : BeginsLines s (front ++ (rest ++ last)) [] = subst (λ ls. BeginsLines s ls []) (append_assoc front rest last) whole in
    let left = all_bytes (rest ++ last) ++ [] in
    let more = to_turn m n left ss rest count spell.3 (back_lines s [] front (rest ++ last) split) in (
      left,
      record { spelling = front; spelled = spell.2; begins = front_lines s [] front (rest ++ last) split; next = follows t left (head_of_turn m n left ss count more) },
      more,
    )

pub record IsSpelled (m n : ℕ) (s : List ℕ) (ss : List Section) (count : ℕ) : Type 0 where
  pub middle : List Line
  pub spelled : AllSpell m n ss middle
  pub begins : BeginsLines s (middle ++ lines.records count ∷ []) []

pub from_turn : (m n : ℕ) (s : List ℕ) (ss : List Section) (count : ℕ) → AreInTurn m n s ss count → IsSpelled m n s ss count
from_turn m n s [] count h = record { middle = []; spelled = refl; begins = one_line s [] (lines.records count) h.0 }
from_turn m n s (t ∷ ss) count (rest, here, later) =
    let more = from_turn m n rest ss count later in
    let last = lines.records count ∷ [] in
    let whole : BeginsLines s (here.spelling ++ (more.middle ++ last)) [] = lines_in_turn s rest [] here.spelling (more.middle ++ last) here.begins more.begins in
    record {
      middle = here.spelling ++ more.middle;
      spelled = (here.spelling, more.middle, here.spelled, more.spelled, refl);
      begins = subst (λ ls. BeginsLines s ls []) (sym (append_assoc here.spelling more.middle last)) whole;
    }

-- ---- bodies

pub body_in_turn : (m n : ℕ) (s : List ℕ) (h : Header) (ss : List Section) (count : ℕ) → IsBody m n s h ss count → (rest : List ℕ) × IsHeaderInFront s h rest × AreInTurn m n rest ss count
body_in_turn m n s h ss count b =
    let others = b.middle ++ lines.records count ∷ [] in
    let rest = all_bytes others ++ [] in
    let whole : BeginsLines s (header_lines h ++ others) [] = record { lines = b.lines; front = b.whole ∙ sym (append-nil (all_bytes (header_lines h ++ others))) } in
    let turn = to_turn m n rest ss b.middle count b.spelled (back_lines s [] (header_lines h) others whole) in (
      rest,
      record { begins = front_lines s [] (header_lines h) others whole; next = no_assignment rest (head_of_turn m n rest ss count turn) },
      turn,
    )

pub body_from_turn : (m n : ℕ) (s rest : List ℕ) (h : Header) (ss : List Section) (count : ℕ) → IsHeaderInFront s h rest → AreInTurn m n rest ss count → IsBody m n s h ss count
body_from_turn m n s rest h ss count front turn =
    let others = from_turn m n rest ss count turn in
    let last = others.middle ++ lines.records count ∷ [] in
    let whole = lines_in_turn s rest [] (header_lines h) last front.begins others.begins in
    record { middle = others.middle; spelled = others.spelled; lines = whole.lines; whole = whole.front ∙ append-nil (all_bytes (header_lines h ++ last)) }

-- ---- one way to read them

pub record IsSameTurn (ss ts : List Section) (c d : ℕ) : Type 0 where
  pub sections : ss ≡ ts
  pub count : c ≡ d

turn_same : (m n : ℕ) (s : List ℕ) (ss ts : List Section) (c d : ℕ) → AreInTurn m n s ss c → AreInTurn m n s ts d → IsSameTurn ss ts c d
turn_same m n s [] [] c d h k =
    let same : records c ≡ records d = (item_same m n s [] [] (records c) (records d) h k).item in
    record { sections = refl; count = cc }
turn_same m n s [] (t ∷ ts) c d h k =
    let same : records c ≡ section t = (item_same m n s [] k.0 (records c) (section t) h k.1).item in
    absurd cc
turn_same m n s (t ∷ ss) [] c d h k =
    let same : section t ≡ records d = (item_same m n s h.0 [] (section t) (records d) h.1 k).item in
    absurd cc
turn_same m n s (t ∷ ss) (u ∷ ts) c d h k =
    let here = item_same m n s h.0 k.0 (section t) (section u) h.1 k.1 in
    let items : section t ≡ section u = here.item in
    let heads : t ≡ u = cc in
    let later : AreInTurn m n h.0 ts d = rw here.left k.2 in
    let more = turn_same m n h.0 ss ts c d h.2 later in
    let tails : ss ≡ ts = more.sections in
    record { sections = rw (heads, tails) refl; count = more.count }

pub body_same : (m n : ℕ) (s : List ℕ) (h k : Header) (ss ts : List Section) (c d : ℕ) → IsBody m n s h ss c → IsBody m n s k ts d → (h ≡ k) × (ss ≡ ts) × (c ≡ d)
body_same m n s h k ss ts c d i j =
    let a = body_in_turn m n s h ss c i in
    let b = body_in_turn m n s k ts d j in
    let headers = header_same s a.0 b.0 h k a.1 b.1 in
    let later : AreInTurn m n a.0 ts d = rw headers.left b.2 in
    let others = turn_same m n a.0 ss ts c d a.2 later in
    (headers.header, others.sections, others.count)

pub file_same : (m n : ℕ) (s : List ℕ) (h k : Header) (ss ts : List Section) (c d : ℕ) → IsTableFile m n s h ss c → IsTableFile m n s k ts d → (h ≡ k) × (ss ≡ ts) × (c ≡ d)
file_same m n s h k ss ts c d i j =
    let a = split_at_end s i.body i.whole in
    let b = split_at_end s j.body j.whole in
    let same : j.body ≡ i.body = sym b.front ∙ a.front in
    body_same m n i.body h k ss ts c d i.is (subst (λ v. IsBody m n v k ts d) same j.is)

-- ---- bodies that are written

pub one_more_spells : (m n : ℕ) (ss : List Section) (t : Section) (ls ks : List Line) → AllSpell m n ss ls → Spells m n t ks → AllSpell m n (ss ++ t ∷ []) (ls ++ ks)
one_more_spells m n [] t ls ks h k = (ks, [], k, refl, ap (λ v. v ++ ks) h ∙ sym (append-nil ks))
one_more_spells m n (s ∷ ss) t ls ks (front, rest, here, later, e) k = (
  front,
  rest ++ ks,
  here,
  one_more_spells m n ss t rest ks later k,
  ap (λ v. v ++ ks) e ∙ append_assoc front rest ks,
)

pub body_is_written : (m n : ℕ) (h : Header) (ss : List Section) (ls : List Line) (count : ℕ) → All IsLine (header_lines h) → AllSpell m n ss ls → All IsLine ls → IsLine (lines.records count) → IsBody m n (all_bytes (header_lines h) ++ (all_bytes ls ++ line_bytes (lines.records count))) h ss count
body_is_written m n h ss ls count header spell middle last =
    let others = ls ++ lines.records count ∷ [] in
    let bytes : all_bytes others ≡ all_bytes ls ++ line_bytes (lines.records count) =
    all_bytes-append ls (lines.records count ∷ []) ∙ ap (λ v. all_bytes ls ++ v) (append-nil (line_bytes (lines.records count))) in
    record {
      middle = ls;
      spelled = spell;
      lines = All-append IsLine (header_lines h) others header (All-push IsLine ls (lines.records count) middle last);
      whole = sym (all_bytes-append (header_lines h) others ∙ ap (λ v. all_bytes (header_lines h) ++ v) bytes);
    }
