-- What is written of a table file.
use Rattle.std.proofs.Common.{◌≡◌, ◌∙◌, ℕ, ◌+◌, ◌-◌, ◌≤◌, List, [], ◌∷◌, ◌++◌, length, take, drop, Option, Result, Ok, Err, IfOk, refl, ap, sym, subst, append-nil, length-append, take-append-drop, arith}
use Rattle.std.specs.Prelude.{All}
use Rattle.std.proofs.lemmas.List.{take-append-le, drop-append-le, take_all, length-drop}
use Rattle.std.proofs.lemmas.List.Concat.{flat_map-cons}
use Rattle.std.proofs.lemmas.List.Elements.{All-head, All-tail, All-nil, All-cons}
use Rattle.hex.specs.Hex.{encode_lower}
use Rattle.sha2.specs.Hashers.{Holds256}
use Rattle.sha2.specs.Sha256.{sha256}
use Rattle.sha2.specs.declared.Sha256.{Sha256}
use Rattle.std.specs.Io.KnownBytes.{Appends}
use Rattle.std.proofs.KnownBytes.{Appends-trans}
use Rattle.pawk_records.specs.Records.{records_by}
use Rattle.pawk_window.specs.Cuts.{MayCut}
use Rattle.pawk_input.specs.Input.{Item}
use Rattle.pawk_lines.specs.Lines.{Line, IsLine, line_bytes}
use Rattle.pawk_lines.specs.Lines as lines
use Rattle.pawk_parts.specs.Parts.{all_bytes}
use Rattle.pawk_merge.specs.declared.chunk_result.ChunkResult.{ChunkResult}
use Rattle.pawk_tables.specs.Layout.{Section, file, part, kept, Spells, end_bytes}
use Rattle.pawk_merge_law.specs.ChunkedRuns.{HasRecord, all_of}
use Rattle.pawk_shards.specs.Numbers.{AreSameButNumbers}
use Rattle.pawk_shards.specs.Told.{Tell, kept_records}
use Rattle.pawk_map.specs.Sections.{Parts, SaySections, name_after}
use Rattle.pawk_map.specs.Parted.{AreTablesOf, parts_from}
use Rattle.pawk_map.specs.Maps.{Writes, Goes, GoesUnder, Ground, IsFront, Tells}
use Rattle.pawk_map.specs.declared.draft.Course.TheVariants.{On}
use Rattle.pawk_map.specs.declared.draft.Progress.{Progress}
use Rattle.pawk_map.proofs.TellLemmas.{same_refl, say_none, say_append, name_append}
use Rattle.pawk_map.proofs.MapLemmas.{writes_then, tells_none}

-- ---- cuts

-- Where some first bytes may be cut, all bytes are of two parts.
pub cut_front : (rs front back : List ℕ) (p : ℕ) → MayCut rs front p → Parts rs (front ++ back) p
cut_front rs front back p cut =
    let within : p ≤ length front = cut.within in
    let l = length-append front back in
    record {
      within = omega (arith, within, l);
      parts = cut.parts back ∙ ap (λ x. records_by rs x ++ records_by rs (drop p front ++ back)) (sym (take-append-le p front back within))
          ∙ ap (λ x. records_by rs (take p (front ++ back)) ++ records_by rs x) (sym (drop-append-le p front back within));
    }

pub cut_bytes : (rs bytes : List ℕ) (n p : ℕ) → MayCut rs (take n bytes) p → Parts rs bytes p
cut_bytes rs bytes n p cut = subst (λ x. Parts rs x p) (take-append-drop n bytes) (cut_front rs (take n bytes) (drop n bytes) p cut)

-- The two parts.
pub cut_two : (rs bytes front last : List ℕ) (p : ℕ) → Parts rs bytes p → front ≡ take p bytes → last ≡ take (length bytes - p) (drop p bytes) → records_by rs bytes ≡ records_by rs front ++ records_by rs last
cut_two rs bytes front last p h front_is last_is =
    let long : length (drop p bytes) ≤ length bytes - p = let l = length-drop p bytes in omega (arith, l) in
    h.parts ∙ ap (λ x. records_by rs x ++ records_by rs (drop p bytes)) (sym front_is)
    ∙ ap (λ x. records_by rs front ++ records_by rs x) (sym (last_is ∙ take_all (length bytes - p) (drop p bytes) long))

-- ---- lines

pub say_one : (scalars arrays : ℕ) (s : Section) (ls : List Line) → All IsLine ls → Spells scalars arrays s ls → SaySections scalars arrays (s ∷ []) (all_bytes ls)
say_one scalars arrays s ls are spells = record {
  lines = ls;
  are = are;
  spell = (ls, [], spells, refl, sym (append-nil ls));
  whole = refl;
}

one_line : (l : Line) → all_bytes (l ∷ []) ≡ line_bytes l
one_line l = flat_map-cons line_bytes l [] ∙ append-nil (line_bytes l)

-- A section of one line.
pub say_line : (scalars arrays : ℕ) (s : Section) (l : Line) → IsLine l → Spells scalars arrays s (l ∷ []) → SaySections scalars arrays (s ∷ []) (line_bytes l)
say_line scalars arrays s l is spells =
    subst (SaySections scalars arrays (s ∷ [])) (one_line l) (say_one scalars arrays s (l ∷ []) (All-cons IsLine l [] is (All-nil IsLine)) spells)

-- ---- the line of a file

pub front_none : (last name : List ℕ) → last ≡ name → IsFront last name []
front_none last name same = (
  [],
  record { named = same; tells = λ p rs nr sections chunks h. subst (λ n. Tell p rs nr n sections chunks) (sym same) h },
  say_none,
)

pub front_file : (last name : List ℕ) → IsLine (lines.file name) → IsFront last name (line_bytes (lines.file name))
front_file last name is = (
  file name ∷ [],
  record { named = refl; tells = λ p rs nr sections chunks h. h },
  λ scalars arrays. say_line scalars arrays (file name) (lines.file name) is refl,
)

-- ---- sections of a file

pub goes_under : (scalars arrays : ℕ) (a b c : Option (List ℕ)) (old new : Progress) (mid : Sha256) (name line bytes : List ℕ) (sections : List Section) (count : ℕ) →
    IsFront old.name.items name line → Writes a b old.digest mid line → Writes b c mid new.digest bytes → new.name.items ≡ name → new.records ≡ old.records + count →
    SaySections scalars arrays sections bytes → name_after name sections ≡ name → GoesUnder scalars arrays a c old new name sections count
goes_under scalars arrays a b c old new mid name line bytes sections count front first second named counted say ends = record {
  front = front.0;
  leads = front.1;
  goes = record {
    bytes = line ++ bytes;
    say = say_append scalars arrays front.0 sections line bytes (front.2 scalars arrays) say;
    wrote = writes_then a b c old.digest mid new.digest line bytes first second;
    name = named ∙ sym ends ∙ ap (λ n. name_after n sections) (sym front.1.named) ∙ sym (name_append old.name.items front.0 sections);
    counted = counted;
  };
}

-- ---- the record that is held back

some_records : (is : List Item) → (length is ≡ 0 → ⊥) → HasRecord is
some_records [] h = absurd (h refl)
some_records (i ∷ is) h = tt

no_items : (is : List Item) → length is ≡ 0 → is ≡ []
no_items [] h = refl
no_items (i ∷ is) h = absurd (omega (arith, h))

pub held_none : (u : Ground) (taken : Option (List ℕ)) (s : Progress) (is : List Item) → length is ≡ 0 → Tells u taken taken s is On s
held_none u taken s is none = subst (λ x. Tells u taken taken s x On s) (sym (no_items is none)) (tells_none u taken s)

pub held_kept : (u : Ground) (a b : Option (List ℕ)) (old new : Progress) (name : List ℕ) (fnr : ℕ) (bytes : List ℕ) (count : ℕ) →
    (length (kept_records u.rs name fnr bytes) ≡ count) → (count ≡ 0 → ⊥) → GoesUnder u.scalars u.arrays a b old new name (kept fnr bytes ∷ []) count →
    Tells u a b old (kept_records u.rs name fnr bytes) On new
held_kept u a b old new name fnr bytes count long some h =
    let is = kept_records u.rs name fnr bytes in
    let one : all_of (is ∷ []) ≡ is = flat_map-cons (λ (items : List Item). items) is [] ∙ append-nil is in
    record {
      sections = h.front ++ kept fnr bytes ∷ [];
      chunks = is ∷ [];
      goes = subst (λ n. Goes u.scalars u.arrays a b old new (h.front ++ kept fnr bytes ∷ []) n) (sym long ∙ ap length (sym one)) h.goes;
      tell = h.leads.tells u.phase u.rs (u.nr + old.records) (kept fnr bytes ∷ []) (is ∷ []) (some_records is (λ e. some (sym long ∙ e)), refl, tt);
      are = subst (λ x. AreSameButNumbers x is) (sym one) (same_refl is);
      stops = λ over. absurd cc;
    }

-- ---- parts

-- how many records came before the chunk after these
abbrev pub nr_after : ℕ → List ChunkResult → ℕ
nr_after nr [] = nr
nr_after nr (r ∷ rs) = nr_after r.state.nr rs

pub nr_one : (nr : ℕ) (rs : List ChunkResult) (r : ChunkResult) → nr_after nr (rs ++ r ∷ []) ≡ r.state.nr
nr_one nr [] r = refl
nr_one nr (s ∷ rs) r = nr_one s.state.nr rs r

parts_one : (nr : ℕ) (rs : List ChunkResult) (r : ChunkResult) → parts_from nr (rs ++ r ∷ []) ≡ parts_from nr rs ++ part (r.state.nr - nr_after nr rs) r.output.items r.table ∷ []
parts_one nr [] r = refl
parts_one nr (s ∷ rs) r = ap (λ x. part (s.state.nr - nr) s.output.items s.table ∷ x) (parts_one s.state.nr rs r)

-- a chunk's table is of so many scalars and arrays
abbrev pub IsTableOf : ℕ → ℕ → ChunkResult → Type 0
IsTableOf scalars arrays r = (length r.table.scalars ≡ scalars) × (length r.table.arrays ≡ arrays)

front_fits : (scalars arrays : ℕ) (rs : List ChunkResult) (r : ChunkResult) → AreTablesOf scalars arrays (rs ++ r ∷ []) → AreTablesOf scalars arrays rs × IsTableOf scalars arrays r
front_fits scalars arrays [] r h = (All-nil (IsTableOf scalars arrays), All-head (IsTableOf scalars arrays) r [] h)
front_fits scalars arrays (s ∷ rs) r h =
    let rest = front_fits scalars arrays rs r (All-tail (IsTableOf scalars arrays) s (rs ++ r ∷ []) h) in
    (All-cons (IsTableOf scalars arrays) s rs (All-head (IsTableOf scalars arrays) s (rs ++ r ∷ []) h) rest.0, rest.1)

-- One part more.
pub parts_more : (nr : ℕ) (rs : List ChunkResult) (r : ChunkResult) (before now : List ℕ) (count : ℕ) →
    count ≡ r.state.nr - nr_after nr rs →
    ((scalars arrays : ℕ) → AreTablesOf scalars arrays rs → SaySections scalars arrays (parts_from nr rs) before) →
    ((ls : List Line) × All IsLine ls × Spells (length r.table.scalars) (length r.table.arrays) (part count r.output.items r.table) ls × (now ≡ before ++ all_bytes ls)) →
    (scalars arrays : ℕ) → AreTablesOf scalars arrays (rs ++ r ∷ []) → SaySections scalars arrays (parts_from nr (rs ++ r ∷ [])) now
parts_more nr rs r before now count at say wrote scalars arrays fit =
    let both = front_fits scalars arrays rs r fit in
    let s : Section = part count r.output.items r.table in
    let spells : Spells scalars arrays s wrote.0 =
    subst (λ n. Spells scalars n s wrote.0) both.1.1 (subst (λ n. Spells n (length r.table.arrays) s wrote.0) both.1.0 wrote.2) in
    let all : SaySections scalars arrays (parts_from nr rs ++ s ∷ []) (before ++ all_bytes wrote.0) =
    say_append scalars arrays (parts_from nr rs) (s ∷ []) before (all_bytes wrote.0) (say scalars arrays both.0)
    (say_one scalars arrays s wrote.0 wrote.1 spells) in
    subst (λ x. SaySections scalars arrays x now) (ap (λ n. parts_from nr rs ++ part n r.output.items r.table ∷ []) at ∙ sym (parts_one nr rs r))
    (subst (SaySections scalars arrays (parts_from nr rs ++ s ∷ [])) (sym wrote.3) all)

-- What is so of all that was written is so of a result.
pub kept_after : {X E : Type 0} (r : Result X E) (P Q : X → Type 0) → ((x : X) → P x → Q x) → IfOk r P → IfOk r Q
kept_after (Ok x) P Q f h = f x h
kept_after (Err e) P Q f h = tt

-- ---- the end of a file

-- After bytes that a digest holds, the line with the number of records was written, and the line with the digest of all.
pub end_written : (a b c : Option (List ℕ)) (old mid : Sha256) (count : ℕ) (line digest end : List ℕ) → Writes a b old mid line → line ≡ line_bytes (lines.records count) →
    ((m : List ℕ) → Holds256 mid m → digest ≡ sha256 m) → end ≡ line_bytes (lines.end (encode_lower digest)) → Appends b c end → (body : List ℕ) → Holds256 old body →
    Appends a c (line_bytes (lines.records count) ++ end_bytes (body ++ line_bytes (lines.records count)))
end_written a b c old mid count line digest end wrote line_is digested end_is appends body held =
    let last = line_bytes (lines.records count) in
    let first : Appends a b last = subst (Appends a b) line_is wrote.appends in
    let whole : digest ≡ sha256 (body ++ last) = digested (body ++ last) (subst (λ l. Holds256 mid (body ++ l)) line_is (wrote.holds body held)) in
    let second : Appends b c (end_bytes (body ++ last)) = subst (Appends b c) (end_is ∙ ap (λ d. line_bytes (lines.end (encode_lower d))) whole) appends in
    Appends-trans a b c last (end_bytes (body ++ last)) first second
