-- Headers in front of bytes.
use Rattle.std.proofs.Common.{◌≡◌, ℕ, List, [], ◌∷◌, ◌++◌, Option, Some, None, true, false, refl, ap, sym, ◌∙◌, subst}
use Rattle.std.specs.Prelude.{All, IsTrue}
use Rattle.std.proofs.lemmas.List.{map-append}
use Rattle.std.proofs.lemmas.List.Elements.{All-cons, All-nil}
use Rattle.pawk_lines.specs.Lines.{Line, BeginsLine, program, budget, assign, shard, before}
use Rattle.pawk_lines.proofs.LineLaws.{line_same}
use Rattle.pawk_parts.specs.Parts.{all_bytes}
use Rattle.pawk_settings.specs.declared.assignment.Assignment.{Assignment}
use Rattle.pawk_store.specs.Openings.{pairs_of}
use Rattle.pawk_tables.specs.Layout.{Header, Pairs, assign_lines, place_lines, program_lines}
use Rattle.pawk_tables.specs.Reading.{is_assign_line, BeginsLines, BeginsNoAssignment, HasNoLine, IsHeaderInFront}
use Rattle.pawk_tables.proofs.Fronts.{after_line, back_lines, first_line, from_no_assignment, front_lines, kind_same, lines_in_turn, lines_same, one_line, tails_same}

-- ---- where the shards lie

pub place_first : (s q : List ℕ) (o : Option (ℕ × ℕ × ℕ)) (n : ℕ) → BeginsLines s (place_lines o n) q → (l : Line) × (r : List ℕ) × BeginsLine s l r
place_first s q None n h = (before n, all_bytes [] ++ q, first_line s q (before n) [] h)
place_first s q (Some p) n h = (shard p.0 p.1 p.2, all_bytes (before n ∷ []) ++ q, first_line s q (shard p.0 p.1 p.2) (before n ∷ []) h)

shard_is_not_before : (k j i n : ℕ) → shard k j i ≡ before n → ⊥
shard_is_not_before k j i n e = cc

pub place_none : (s r q : List ℕ) (k j i : ℕ) (o : Option (ℕ × ℕ × ℕ)) (n : ℕ) → BeginsLine s (shard k j i) r → ((m : ℕ) (t : List ℕ) → ¬ BeginsLine r (before m) t) → BeginsLines s (place_lines o n) q → ⊥
place_none s r q k j i None n here none h = shard_is_not_before k j i n (after_line s r q (shard k j i) (before n) [] here h).line
place_none s r q k j i (Some p) n here none h =
    let a = after_line s r q (shard k j i) (shard p.0 p.1 p.2) (before n ∷ []) here h in
    none n (all_bytes [] ++ q) (first_line r q (before n) [] a.others)

-- ---- assignments

-- one assignment more
pub assignments_more : (s r q : List ℕ) (ps : List Assignment) (a : Assignment) → BeginsLines s (assign_lines (pairs_of ps)) r → BeginsLine r (assign a.name.items a.value.items) q → BeginsLines s (assign_lines (pairs_of (ps ++ a ∷ []))) q
assignments_more s r q ps a h k =
    let pairs : pairs_of (ps ++ a ∷ []) ≡ pairs_of ps ++ (a.name.items, a.value.items) ∷ [] = map-append _ ps (a ∷ []) in
    let lines : assign_lines (pairs_of (ps ++ a ∷ [])) ≡ assign_lines (pairs_of ps) ++ assign a.name.items a.value.items ∷ [] =
    ap assign_lines pairs ∙ map-append _ (pairs_of ps) ((a.name.items, a.value.items) ∷ []) in
    subst (λ ls. BeginsLines s ls q) (sym lines) (lines_in_turn s r q (assign_lines (pairs_of ps)) (assign a.name.items a.value.items ∷ []) h (one_line r q (assign a.name.items a.value.items) k))

-- a line that is none of them is not an assignment
assign_is_one : (s r : List ℕ) (a b : List ℕ) → BeginsNoAssignment s → BeginsLine s (assign a b) r → ⊥
assign_is_one s r a b o h =
    let same = (line_same s o.line (assign a b) o.rest r o.begins h).line in
    let bad : true ≡ false = sym (ap is_assign_line same) ∙ o.other in
    cc

-- more assignments follow some that are there
pub assignments_left : (s r q : List ℕ) (ps os : Pairs) → BeginsLines s (assign_lines ps) r → BeginsLines s (assign_lines os) q → BeginsNoAssignment q → (cs : Pairs) × BeginsLines r (assign_lines cs) q
assignments_left s r q [] os h k o = (os, subst (λ t. BeginsLines t (assign_lines os) q) h.front k)
assignments_left s r q (a ∷ ps) [] h k o =
    let f = first_line s r (assign a.0 a.1) (assign_lines ps) h in
    absurd (assign_is_one s (all_bytes (assign_lines ps) ++ r) a.0 a.1 (subst BeginsNoAssignment (sym k.front) o) f)
assignments_left s r q (a ∷ ps) (b ∷ os) h k o =
    let tails = tails_same s r q (assign a.0 a.1) (assign b.0 b.1) (assign_lines ps) (assign_lines os) h k in
    assignments_left tails.middle r q ps os tails.mine tails.others o

-- where no line begins, no assignments with a line after them do
no_assignments : (r q : List ℕ) (cs : Pairs) → HasNoLine r → BeginsLines r (assign_lines cs) q → BeginsNoAssignment q → ⊥
no_assignments r q [] none h o = none o.line o.rest (subst (λ t. BeginsLine t o.line o.rest) (sym h.front) o.begins)
no_assignments r q (c ∷ cs) none h o = none (assign c.0 c.1) (all_bytes (assign_lines cs) ++ q) (first_line r q (assign c.0 c.1) (assign_lines cs) h)

pub assignments_none : (s r q : List ℕ) (ps os : Pairs) → BeginsLines s (assign_lines ps) r → HasNoLine r → BeginsLines s (assign_lines os) q → BeginsNoAssignment q → ⊥
assignments_none s r q ps os h none k o = let left = assignments_left s r q ps os h k o in no_assignments r q left.0 none left.1 o

-- ---- the parts of a header, in turn

pub record IsInSteps (s : List ℕ) (h : Header) (q : List ℕ) : Type 0 where
  pub after_program : List ℕ
  pub after_assignments : List ℕ
  pub after_place : List ℕ
  pub program : BeginsLines s (program_lines h.program h.budget) after_program
  pub assignments : BeginsLines after_program (assign_lines h.assignments) after_assignments
  pub other : BeginsNoAssignment after_assignments
  pub place : BeginsLines after_assignments (place_lines h.shard h.before) after_place
  pub first : BeginsLines after_place (assign_lines h.first) q
  pub next : BeginsNoAssignment q

-- the line that says where the shards lie is no assignment
place_other : (s q : List ℕ) (o : Option (ℕ × ℕ × ℕ)) (n : ℕ) → BeginsLines s (place_lines o n) q → BeginsNoAssignment s
place_other s q None n h = record { line = before n; rest = all_bytes [] ++ q; begins = first_line s q (before n) [] h; other = refl }
place_other s q (Some p) n h = record { line = shard p.0 p.1 p.2; rest = all_bytes (before n ∷ []) ++ q; begins = first_line s q (shard p.0 p.1 p.2) (before n ∷ []) h; other = refl }

pub to_steps : (s q : List ℕ) (h : Header) → IsHeaderInFront s h q → IsInSteps s h q
to_steps s q h k =
    let program = program_lines h.program h.budget in
    let assignments = assign_lines h.assignments in
    let place = place_lines h.shard h.before in
    let first = assign_lines h.first in
    let one = back_lines s q program (assignments ++ (place ++ first)) k.begins in
    let two = back_lines (all_bytes (assignments ++ (place ++ first)) ++ q) q assignments (place ++ first) one in
    let three = front_lines (all_bytes (place ++ first) ++ q) q place first two in
    record {
      after_program = all_bytes (assignments ++ (place ++ first)) ++ q;
      after_assignments = all_bytes (place ++ first) ++ q;
      after_place = all_bytes first ++ q;
      program = front_lines s q program (assignments ++ (place ++ first)) k.begins;
      assignments = front_lines (all_bytes (assignments ++ (place ++ first)) ++ q) q assignments (place ++ first) one;
      other = place_other (all_bytes (place ++ first) ++ q) (all_bytes first ++ q) h.shard h.before three;
      place = three;
      first = back_lines (all_bytes (place ++ first) ++ q) q place first two;
      next = k.next;
    }

pub from_steps : (s q : List ℕ) (h : Header) → IsInSteps s h q → IsHeaderInFront s h q
from_steps s q h k =
    let program = program_lines h.program h.budget in
    let assignments = assign_lines h.assignments in
    let place = place_lines h.shard h.before in
    let first = assign_lines h.first in
    record {
      begins = lines_in_turn s k.after_program q program (assignments ++ (place ++ first)) k.program
          (lines_in_turn k.after_program k.after_assignments q assignments (place ++ first) k.assignments
          (lines_in_turn k.after_assignments k.after_place q place first k.place k.first));
      next = k.next;
    }

-- ---- each part is in front once

pub record IsSameProgram (t u : List ℕ) (n m : ℕ) (r q : List ℕ) : Type 0 where
  pub text : t ≡ u
  pub budget : n ≡ m
  pub left : r ≡ q

pub program_same : (s r q t u : List ℕ) (n m : ℕ) → BeginsLines s (program_lines t n) r → BeginsLines s (program_lines u m) q → IsSameProgram t u n m r q
program_same s r q t u n m h k =
    let same = lines_same s r q (program_lines t n) (program_lines u m) refl h k in
    let lines : program_lines t n ≡ program_lines u m = same.lines in
    let texts : program t ≡ program u = cc in
    let numbers : budget n ≡ budget m = cc in
    record { text = cc; budget = cc; left = same.left }

pub record IsSamePlace (o p : Option (ℕ × ℕ × ℕ)) (n m : ℕ) (r q : List ℕ) : Type 0 where
  pub shard : o ≡ p
  pub before : n ≡ m
  pub left : r ≡ q

pub place_same : (s r q : List ℕ) (o p : Option (ℕ × ℕ × ℕ)) (n m : ℕ) → BeginsLines s (place_lines o n) r → BeginsLines s (place_lines p m) q → IsSamePlace o p n m r q
place_same s r q None None n m h k =
    let same = lines_same s r q (before n ∷ []) (before m ∷ []) refl h k in
    let lines : before n ∷ [] ≡ before m ∷ [] = same.lines in
    record { shard = refl; before = cc; left = same.left }
place_same s r q None (Some p) n m h k =
    absurd (shard_is_not_before p.0 p.1 p.2 n (after_line s (all_bytes (before m ∷ []) ++ q) r (shard p.0 p.1 p.2) (before n) [] (first_line s q (shard p.0 p.1 p.2) (before m ∷ []) k) h).line)
place_same s r q (Some o) None n m h k =
    absurd (shard_is_not_before o.0 o.1 o.2 m (after_line s (all_bytes (before n ∷ []) ++ r) q (shard o.0 o.1 o.2) (before m) [] (first_line s r (shard o.0 o.1 o.2) (before n ∷ []) h) k).line)
place_same s r q (Some (i, j, d)) (Some (k, l, e)) n m h g =
    let same = lines_same s r q (shard i j d ∷ before n ∷ []) (shard k l e ∷ before m ∷ []) refl h g in
    let lines : shard i j d ∷ before n ∷ [] ≡ shard k l e ∷ before m ∷ [] = same.lines in
    let first : i ≡ k = cc in
    let second : j ≡ l = cc in
    let third : d ≡ e = cc in
    let triples : ◌≡◌ {A = ℕ × ℕ × ℕ} (i, j, d) (k, l, e) = rw (first, second, third) refl in
    record { shard = ap Some triples; before = cc; left = same.left }

are_assignments : (ps : Pairs) → All (λ l. IsTrue (is_assign_line l)) (assign_lines ps)
are_assignments [] = All-nil (λ l. IsTrue (is_assign_line l))
are_assignments (p ∷ ps) = All-cons (λ l. IsTrue (is_assign_line l)) (assign p.0 p.1) (assign_lines ps) refl (are_assignments ps)

pairs_same : (ps os : Pairs) → assign_lines ps ≡ assign_lines os → ps ≡ os
pairs_same [] [] e = refl
pairs_same [] (o ∷ os) e = cc
pairs_same (p ∷ ps) [] e = cc
pairs_same ((a, b) ∷ ps) ((c, d) ∷ os) e =
    let names : a ≡ c = cc in
    let values : b ≡ d = cc in
    let tails : assign_lines ps ≡ assign_lines os = cc in
    let rest : ps ≡ os = pairs_same ps os tails in
    let head : ◌≡◌ {A = List ℕ × List ℕ} (a, b) (c, d) = rw (names, values) refl in
    rw (head, rest) refl

pub record IsSameAssignments (ps os : Pairs) (r q : List ℕ) : Type 0 where
  pub pairs : ps ≡ os
  pub left : r ≡ q

pub assignments_same : (s r q : List ℕ) (ps os : Pairs) → BeginsLines s (assign_lines ps) r → BeginsNoAssignment r → BeginsLines s (assign_lines os) q → BeginsNoAssignment q → IsSameAssignments ps os r q
assignments_same s r q ps os h o k p =
    let same = kind_same is_assign_line s r q (assign_lines ps) (assign_lines os) (are_assignments ps) (are_assignments os) h (from_no_assignment r o) k (from_no_assignment q p) in
    record { pairs = pairs_same ps os same.lines; left = same.left }

-- ---- one header is in front

pub record IsSameHeader (h k : Header) (r q : List ℕ) : Type 0 where
  pub header : h ≡ k
  pub left : r ≡ q

abbrev header_with : List ℕ → ℕ → Pairs → Option (ℕ × ℕ × ℕ) → ℕ → Pairs → Header
header_with t n ps o m os = record { program = t; budget = n; assignments = ps; shard = o; before = m; first = os }

parts_same : (t u : List ℕ) (n m : ℕ) (ps qs : Pairs) (o p : Option (ℕ × ℕ × ℕ)) (i j : ℕ) (fs gs : Pairs) → t ≡ u → n ≡ m → ps ≡ qs → o ≡ p → i ≡ j → fs ≡ gs → header_with t n ps o i fs ≡ header_with u m qs p j gs
parts_same t u n m ps qs o p i j fs gs a b c d e f = rw (a, b, c, d, e, f) refl

pub header_same : (s r q : List ℕ) (h k : Header) → IsHeaderInFront s h r → IsHeaderInFront s k q → IsSameHeader h k r q
header_same s r q h k i j =
    let a = to_steps s r h i in
    let b = to_steps s q k j in
    let one = program_same s a.after_program b.after_program h.program k.program h.budget k.budget a.program b.program in
    let assignments : BeginsLines a.after_program (assign_lines k.assignments) b.after_assignments = rw one.left b.assignments in
    let two = assignments_same a.after_program a.after_assignments b.after_assignments h.assignments k.assignments a.assignments a.other assignments b.other in
    let place : BeginsLines a.after_assignments (place_lines k.shard k.before) b.after_place = rw two.left b.place in
    let three = place_same a.after_assignments a.after_place b.after_place h.shard k.shard h.before k.before a.place place in
    let first : BeginsLines a.after_place (assign_lines k.first) q = rw three.left b.first in
    let four = assignments_same a.after_place r q h.first k.first a.first a.next first b.next in
    record { header = parts_same h.program k.program h.budget k.budget h.assignments k.assignments h.shard k.shard h.before k.before h.first k.first one.text one.budget two.pairs three.shard three.before four.pairs; left = four.left }
