-- The pieces of a format, as the code reads them, and the text that they make.
use Rattle.std.proofs.Common.{◌≡◌, ℕ, suc, ◌<◌, Bool, true, false, cond, not, eqb, leb, get_or, ◌||◌, List, [], ◌∷◌, ◌++◌, length, take, drop, map, Some, None, Result, Ok, Err, IsErrAnd, refl, ap, sym, ◌∙◌, subst, arith, append_assoc, length-append, length-drop, one-add}
use Rattle.std.proofs.lemmas.Bool.Decides.{nat_tests}
use Rattle.std.proofs.lemmas.List.{append-nil}
use Rattle.std.specs.List.{prefix_len}
use Rattle.memchr.specs.Find.{IsFirstByte, is_byte}
use Rattle.std.proofs.lemmas.List.Sums.{prefix_len_is}
use Rattle.pawk_value.specs.declared.faults.Fault.{Fault}
use Rattle.pawk_value.specs.declared.faults.Fault.TheVariants.{Length}
use Rattle.pawk_value.specs.declared.faults.Stop.{Stop}
use Rattle.pawk_value.specs.declared.faults.Stop.TheVariants as stop
use Rattle.pawk_value.specs.Numeral.{begins}
use Rattle.pawk_value.specs.Value.{Val}
use Rattle.pawk_value.specs.declared.pieces.Piece.TheVariants as code
use Rattle.pawk_value.specs.declared.pieces.Piece as pieces
use Rattle.pawk_value.specs.Format.{spelling_in_front, past_directive, directive_of, is_proper, is_percent, is_plain, Piece, Plain, Percent, Place, Malformed, pieces_within, and_then, within_limit, value_text, text_of_pieces, has_bytes, bytes_or_later, writes}
use Rattle.pawk_value.specs.FormatViews.{cap_directive, cap_piece, cap_pieces_of, shown_pieces, values_after, text_after, piece_text, Longer, Makes, Writes}
use Rattle.pawk_value.proofs.FormatLemmas.{shorter_directive}
use Rattle.pawk_value.proofs.FormatLawLemmas.{from_plain_byte, percent_piece, place_piece, malformed_piece, enough_bytes}

-- ---- the piece in front

no_truth : (b : Bool) → (b ≡ true → ⊥) → not b ≡ true
no_truth true h = absurd (h refl)
no_truth false h = refl

no_plain : (b : Bool) → b ≡ true → not b ≡ false
no_plain b h = rw h refl

pub plain_before : (s : List ℕ) (k : ℕ) → IsFirstByte (is_byte 37) s (Some k) → k ≡ prefix_len is_plain s
plain_before s k h =
    sym (prefix_len_is is_plain s k 0 (omega (arith, h.0.high)) (λ j l. no_truth (eqb (get_or s j 0) 37) (h.0.before j (omega arith) l)) (λ l. no_plain (eqb (get_or s k 0) 37) h.1))

pub all_plain : (s : List ℕ) → IsFirstByte (is_byte 37) s None → length s ≡ prefix_len is_plain s
all_plain s h =
    sym (prefix_len_is is_plain s (length s) 0 (omega arith) (λ j l. no_truth (eqb (get_or s j 0) 37) (h j (omega arith) l)) (λ l. absurd (omega arith)))

pub front_percent : (s : List ℕ) → begins is_percent s ≡ true → cap_pieces_of (37 ∷ s) ≡ Percent ∷ cap_pieces_of (drop 1 s)
front_percent s e =
    ap (map cap_piece) (sym (enough_bytes (suc (length s)) (37 ∷ s) (omega arith)) ∙ percent_piece (length s) s e ∙ ap (λ l. Percent ∷ l) (enough_bytes (length s) (drop 1 s) (omega (arith, length-drop 1 s))))

pub front_place : (s : List ℕ) → begins is_percent s ≡ false → is_proper (spelling_in_front s) ≡ true → cap_pieces_of (37 ∷ s) ≡ Place (cap_directive (directive_of (spelling_in_front s))) ∷ cap_pieces_of (past_directive s)
front_place s e p =
    ap (map cap_piece) (sym (enough_bytes (suc (length s)) (37 ∷ s) (omega arith)) ∙ place_piece (length s) s e p ∙ ap (λ l. Place (directive_of (spelling_in_front s)) ∷ l) (enough_bytes (length s) (past_directive s) (shorter_directive s)))

pub front_malformed : (s : List ℕ) → begins is_percent s ≡ false → is_proper (spelling_in_front s) ≡ false → cap_pieces_of (37 ∷ s) ≡ Malformed ∷ []
front_malformed s e p =
    ap (map cap_piece) (sym (enough_bytes (suc (length s)) (37 ∷ s) (omega arith)) ∙ malformed_piece (length s) s e p)

pub no_pieces_left : cap_pieces_of [] ≡ []
unfolding pieces_within
no_pieces_left = refl

front_byte : (b : ℕ) (s : List ℕ) → is_percent b ≡ false → cap_pieces_of (b ∷ s) ≡ Plain b ∷ cap_pieces_of s
front_byte b s e =
    ap (map cap_piece) (sym (enough_bytes (suc (length s)) (b ∷ s) (omega arith)) ∙ from_plain_byte (length s) b s e)

pub front_plain : (s : List ℕ) → cap_pieces_of s ≡ map Plain (take (prefix_len is_plain s) s) ++ cap_pieces_of (drop (prefix_len is_plain s) s)
front_plain [] = refl
front_plain (b ∷ s) =
    let more = front_plain s in
    elim (is_percent b) as (λ v. (is_percent b ≡ v) → cap_pieces_of (b ∷ s) ≡ map Plain (take (prefix_len is_plain (b ∷ s)) (b ∷ s)) ++ cap_pieces_of (drop (prefix_len is_plain (b ∷ s)) (b ∷ s))) [
      | true ↦ (λ e. rw e refl)
      | false ↦ (λ e. front_byte b s e ∙ rw (e, one-add) (ap (λ l. Plain b ∷ l) more))
    ] refl

-- a byte that is no `%` is plain
pub some_plain : (s : List ℕ) → 0 < length s → (get_or s 0 0 ≡ 37 → ⊥) → 0 < prefix_len is_plain s
some_plain [] h n = absurd (omega arith)
some_plain (b ∷ s) h n = let plain : eqb b 37 ≡ false = grind (arith, nat_tests) in rw plain (omega arith)

pub first_is : (s : List ℕ) → 0 < length s → get_or s 0 0 ≡ 37 → s ≡ 37 ∷ drop 1 s
first_is [] h e = absurd (omega arith)
first_is (b ∷ s) h e = ap (λ x. x ∷ s) e

-- ---- the text so far, and that of the rest

text_plain : (bs : List ℕ) (ps : List Piece) (vs : List Val) (out : List ℕ) → text_of_pieces (map Plain bs ++ ps) vs out ≡ text_of_pieces ps vs (out ++ bs)
unfolding text_of_pieces
text_plain [] ps vs out = rw append-nil refl
text_plain (b ∷ bs) ps vs out = text_plain bs ps vs (out ++ b ∷ []) ∙ ap (λ l. text_of_pieces ps vs l) (append_assoc out (b ∷ []) bs)

text_front : (p : pieces.Piece) (ps : List Piece) (vs : List Val) (out : List ℕ) → text_of_pieces (shown_pieces p ++ ps) vs out ≡ and_then (piece_text out p vs) (λ all. text_of_pieces ps (values_after p vs) all)
unfolding text_of_pieces
text_front (code.Plain bytes) ps vs out = text_plain bytes.now ps vs out
text_front code.Percent ps vs out = refl
text_front (code.Place d) ps vs out = refl
text_front code.Malformed ps vs out = refl

pub no_more_text : (vs : List Val) (out : List ℕ) → text_of_pieces [] vs out ≡ within_limit out
unfolding text_of_pieces
no_more_text vs out = refl

pub step_text : (p : pieces.Piece) (all rest : List Piece) (vs : List Val) (out made : List ℕ) → all ≡ shown_pieces p ++ rest → piece_text out p vs ≡ Ok made → text_of_pieces rest (values_after p vs) made ≡ text_of_pieces all vs out
step_text p all rest vs out made e m = sym (ap (λ l. text_of_pieces l vs out) e ∙ text_front p rest vs out ∙ rw m refl)

stop_text : (p : pieces.Piece) (all rest : List Piece) (vs : List Val) (out : List ℕ) (f : Fault) → all ≡ shown_pieces p ++ rest → piece_text out p vs ≡ Err f → text_of_pieces all vs out ≡ Err f
stop_text p all rest vs out f e m = ap (λ l. text_of_pieces l vs out) e ∙ text_front p rest vs out ∙ rw m refl

-- ---- the first byte

some_bytes : (out : List ℕ) (b : ℕ) (t : List ℕ) → has_bytes (out ++ b ∷ t) ≡ true
some_bytes [] b t = refl
some_bytes (a ∷ out) b t = refl

or_true : (b : Bool) → (b || true) ≡ true
or_true true = refl
or_true false = refl

within_is : (t made : List ℕ) → within_limit t ≡ Ok made → made ≡ t
within_is t made h =
    elim (leb (length t) 16777216) as (λ v. cond v (Ok t) (Err Length) ≡ Ok made → made ≡ t) [ true ↦ (λ e. cc) | false ↦ (λ e. absurd cc) ] h

longer_bytes : (b : ℕ) (out : List ℕ) (r : Result (List ℕ) Fault) (made : List ℕ) → text_after (b ∷ out) r ≡ Ok made → has_bytes made ≡ true
longer_bytes b out (Ok t) made h = rw (within_is (b ∷ (out ++ t)) made h) refl
longer_bytes b out (Err f) made h = absurd cc

plain_writes : (bs : List ℕ) (rest : List Piece) (vs : List Val) (out made : List ℕ) → made ≡ out ++ bs → (has_bytes made || writes rest vs) ≡ (has_bytes out || writes (map Plain bs ++ rest) vs)
unfolding writes
plain_writes [] rest vs out made h = rw (h, append-nil) refl
plain_writes (b ∷ bs) rest vs out made h = rw (h, some_bytes out b bs, or_true (has_bytes out)) refl

pub step_writes : (p : pieces.Piece) (rest : List Piece) (vs : List Val) (out made : List ℕ) → piece_text out p vs ≡ Ok made → (has_bytes made || writes rest (values_after p vs)) ≡ (has_bytes out || writes (shown_pieces p ++ rest) vs)
unfolding writes
step_writes (code.Plain bytes) rest vs out made h = plain_writes bytes.now rest vs out made cc
step_writes code.Percent rest vs out made h = rw (within_is (out ++ 37 ∷ []) made h) (rw (some_bytes out 37 [], or_true (has_bytes out)) refl)
step_writes (code.Place d) rest vs [] made h = rw h refl
step_writes (code.Place d) rest vs (b ∷ out) made h = rw (longer_bytes b out (value_text d vs) made h) refl
step_writes code.Malformed rest vs out made h = absurd cc

plain_stops : (bs : List ℕ) (rest : List Piece) (vs : List Val) (out : List ℕ) → length out < length (out ++ bs) → (has_bytes out || writes (map Plain bs ++ rest) vs) ≡ true
unfolding writes
plain_stops [] rest vs out h = absurd (omega (arith, length-append out []))
plain_stops (b ∷ bs) rest vs out h = or_true (has_bytes out)

first_stops : (r : Result (List ℕ) Fault) (later : Bool) → Longer [] r → bytes_or_later r later ≡ true
first_stops (Ok []) later h = absurd (omega arith)
first_stops (Ok (b ∷ t)) later h = refl
first_stops (Err f) later h = absurd h

pub stop_writes : (p : pieces.Piece) (rest : List Piece) (vs : List Val) (out : List ℕ) → Longer out (piece_text out p vs) → (has_bytes out || writes (shown_pieces p ++ rest) vs) ≡ true
unfolding writes
stop_writes (code.Plain bytes) rest vs out h = plain_stops bytes.now rest vs out h
stop_writes code.Percent rest vs out h = or_true (has_bytes out)
stop_writes (code.Place d) rest vs [] h = first_stops (text_after [] (value_text d vs)) (writes rest (drop 1 vs)) h
stop_writes (code.Place d) rest vs (b ∷ out) h = refl
stop_writes code.Malformed rest vs out h = absurd h

-- ---- a stop

stop_at : (A B : Type 0) (p : pieces.Piece) (all from rest : List Piece) (values vs : List Val) (out made end : List ℕ) (e : Stop) → from ≡ shown_pieces p ++ rest → text_of_pieces from vs out ≡ text_of_pieces all values [] → (has_bytes out || writes from vs) ≡ writes all values → Makes {A = A} out (piece_text out p vs) made (Err e) → Writes {A = B} all values end (Err e)
stop_at A B p all from rest values vs out made end (stop.Fault f) e text first m = sym text ∙ stop_text p from rest vs out f e m
stop_at A B p all from rest values vs out made end stop.Memory e text first m = sym first ∙ ap (λ l. has_bytes out || writes l vs) e ∙ stop_writes p rest vs out m

pub stop_passed_on : (A B : Type 0) (p : pieces.Piece) (all from rest : List Piece) (values vs : List Val) (out made end : List ℕ) (e : Stop) (r : Result B Stop) → from ≡ shown_pieces p ++ rest → text_of_pieces from vs out ≡ text_of_pieces all values [] → (has_bytes out || writes from vs) ≡ writes all values → Makes {A = A} out (piece_text out p vs) made (Err e) → IsErrAnd r (λ x. x ≡ e) → Writes {A = B} all values end r
stop_passed_on A B p all from rest values vs out made end e (Ok x) f text first m h = absurd h
stop_passed_on A B p all from rest values vs out made end e (Err x) f text first m h =
    let P : Stop → Type 0 = λ y. Writes {A = B} all values end (Err y) in
    subst P (sym h) (stop_at A B p all from rest values vs out made end e f text first m)

-- ---- the end

pub past_limit : (out : List ℕ) → 16777216 < length out → within_limit out ≡ Err Length
past_limit out h = let fits : leb (length out) 16777216 ≡ false = grind (arith, nat_tests) in rw fits refl

pub nothing_left : (rest : List ℕ) → length rest ≡ 0 → cap_pieces_of rest ≡ []
nothing_left [] h = no_pieces_left
nothing_left (b ∷ rest) h = absurd (omega arith)

never_longer : (out : List ℕ) → Longer out (within_limit out) → ⊥
never_longer out h = elim (leb (length out) 16777216) as (λ v. Longer out (cond v (Ok out) (Err Length)) → ⊥) [ true ↦ (λ l. absurd (omega arith)) | false ↦ (λ l. l) ] h

pub end_of_text : (A : Type 0) (all from : List Piece) (values vs : List Val) (out : List ℕ) (r : Result A Stop) → from ≡ [] → text_of_pieces from vs out ≡ text_of_pieces all values [] → Makes {A = A} out (within_limit out) out r → Writes {A = A} all values out r
end_of_text A all from values vs out (Ok u) e text m = sym text ∙ ap (λ l. text_of_pieces l vs out) e ∙ no_more_text vs out ∙ m
end_of_text A all from values vs out (Err (stop.Fault f)) e text m = sym text ∙ ap (λ l. text_of_pieces l vs out) e ∙ no_more_text vs out ∙ m
end_of_text A all from values vs out (Err stop.Memory) e text m = absurd (never_longer out m)
