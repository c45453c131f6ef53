-- Answers with a trace.
use Rattle.std.proofs.Common.{◌≡◌, ◌+◌, ℕ, List, [], ◌∷◌, ◌++◌, Result, Ok, Err, Some, refl, ap, sym, subst, ◌∙◌, ⊎_elim, append_assoc}
use Rattle.std.specs.List.{All}
use Rattle.std.specs.Prelude.{length}
use Rattle.std.specs.Fmt.{decimal}
use Rattle.std.proofs.lemmas.Bool.{cases_lt}
use Rattle.std.proofs.lemmas.List.{append-nil, set-get_or, get_or_past}
use Rattle.pawk_value.specs.Value.{Val, Maybe}
use Rattle.pawk_array.specs.Entries.{Rise, found, value_of}
use Rattle.pawk_array.proofs.EntriesLemmas.{put_same}
use Rattle.pawk_world.specs.declared.halt.Halt.{Halt as Code}
use Rattle.pawk_world.specs.Halts.{Halt}
use Rattle.pawk_world.specs.Worlds.{gives, halts, element, read}
use Rattle.pawk_world.specs.Answers.{Answers}
use Rattle.pawk_world.specs.Writings.{fill_after}
use Rattle.pawk_store.specs.Globals.{Globals, array_at, with_array, with_cell, with_value, calls}
use Rattle.pawk_commute.specs.Traces.{Event, put, creations, Traced, traced, traced_answer}
use Rattle.pawk_noted.specs.Reports.{puts}

-- ---- elements that are looked for

rises_at : (g : Globals) (n : ℕ) → All Rise g.arrays → Rise (array_at g n)
rises_at g n h =
    ⊎_elim (λ below. h n [] below) (λ past. subst Rise (sym (get_or_past g.arrays n [] past)) refl) (cases_lt n (length g.arrays))

-- an element that is there is left alone
left_alone : (n : ℕ) (key : List ℕ) (v : Val) (g : Globals) → All Rise g.arrays → found key (array_at g n) ≡ Some v → with_cell (element n key) g ≡ g
left_alone n key v g h e =
    let es = array_at g n in
    ap (λ o. with_value (element n key) (value_of o) g) e
    ∙ ap (λ x. with_array n x g) (put_same key v es (rises_at g n h) e)
    ∙ ap (λ xs. record g { arrays = xs }) (set-get_or g.arrays n [])

-- one that is there is read, and nothing else happens
pub read_there : (n : ℕ) (key : List ℕ) (v : Val) (s : Traced) → All Rise s.globals.arrays → found key (array_at s.globals n) ≡ Some v →
    (traced calls).ask (read n key) s ≡ gives v s
read_there n key v s h e =
    ap (λ o. traced_answer s.trace (creations n key o) (gives (value_of o) (with_cell (element n key) s.globals))) e
    ∙ ap (λ g. gives v (record { globals = g; trace = s.trace ++ [] })) (left_alone n key v s.globals h e)
    ∙ ap (λ t. gives v (record { globals = s.globals; trace = t })) (append-nil s.trace)

-- ---- pieces of a text

fill_gives : (n k : ℕ) (ts : List (List ℕ)) (s : Traced) (after : Globals) → fill_after calls n k ts s.globals ≡ gives tt after →
    fill_after (traced calls) n k ts s ≡ gives tt (record { globals = after; trace = s.trace ++ puts n k ts })
fill_gives n k [] s after e =
    ap (λ t. gives tt (record { globals = s.globals; trace = t })) (sym (append-nil s.trace)) ∙ ap (traced_answer s.trace []) e
fill_gives n k (t ∷ ts) s after e =
    let c = element n (decimal (k + 1)) in
    let v = Maybe t in
    fill_gives n (k + 1) ts (record { globals = with_value c v s.globals; trace = s.trace ++ put c v ∷ [] }) after e
    ∙ ap (λ es. gives tt (record { globals = after; trace = es })) (append_assoc s.trace (put c v ∷ []) (puts n (k + 1) ts))

no_halt : {X : Type 0} (x : X) (s : Globals) (h : Halt) (t : Globals) → gives x s ≡ halts h t → ⊥
no_halt x s h t e = cc

fill_no_halt : (n k : ℕ) (ts : List (List ℕ)) (g : Globals) (h : Halt) (after : Globals) → fill_after calls n k ts g ≡ halts h after → ⊥
fill_no_halt n k [] g h after e = no_halt tt g h after e
fill_no_halt n k (t ∷ ts) g h after e = fill_no_halt n (k + 1) ts (with_value (element n (decimal (k + 1))) (Maybe t) g) h after e

filled : (n k : ℕ) (ts : List (List ℕ)) (s : Traced) (r : Result (Unit {0}) Code) (after : Globals) → Answers (λ _. tt) (fill_after calls n k ts s.globals) r after →
    Answers (λ _. tt) (fill_after (traced calls) n k ts s) r (record { globals = after; trace = s.trace ++ puts n k ts })
filled n k ts s (Ok t) after h = fill_gives n k ts s after h
filled n k ts s (Err e) after h = λ q is. absurd (fill_no_halt n k ts s.globals q after (h q is))

-- the events of all pieces are there before
pub answers_filled : (n k : ℕ) (ts : List (List ℕ)) (s told : Traced) (r : Result (Unit {0}) Code) (after : Globals) →
    told ≡ record { globals = s.globals; trace = s.trace ++ puts n k ts } → Answers (λ _. tt) (fill_after calls n k ts told.globals) r after →
    Answers (λ _. tt) (fill_after (traced calls) n k ts s) r (record { globals = after; trace = told.trace })
answers_filled n k ts s told r after is h =
    let here = subst (λ (g : Globals). Answers {T = Unit {0}} (λ _. tt) (fill_after calls n k ts g) r after) (ap (λ t. t.globals) is) h in
    subst (λ (es : List Event). Answers {T = Unit {0}} (λ _. tt) (fill_after (traced calls) n k ts s) r (record { globals = after; trace = es }))
    (sym (ap (λ t. t.trace) is)) (filled n k ts s r after here)
