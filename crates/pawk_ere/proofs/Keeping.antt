-- What a cache keeps stays right.
use Rattle.std.proofs.Common.{◌≡◌, ℕ, Bool, true, eqb, Option, Some, None, Result, Ok, Err, List, Vec, Global, Contains, IfOk, IfSome, OnOk, OnErr, refl, subst, sym, ⊎_elim}
use Rattle.std.specs.declared.alloc.AllocError.{AllocError}
use Rattle.std.specs.Map.{lookup_entry, remove_entry}
use Rattle.std.specs.Cmp.Lexicographic.{pointwise}
use Rattle.std.proofs.lemmas.Slice.Eq.{slice_eq-Decides}
use Rattle.std.proofs.lemmas.Bool.Decides.{Decides-eqb}
use Rattle.lru.specs.LruCache.{LruCache, lru_cache, put_entries}
use Rattle.lru.proofs.CallerLemmas.{Contains-remove_entry, Contains-lookup_entry, Contains-put_entries}
use Rattle.pawk_ere_automaton.specs.Regex.{Regex}
use Rattle.pawk_ere.specs.Answers.{IsAnswer, IsFor}
use Rattle.pawk_ere.specs.Caches.{AreOfTexts, IsAnswerOfText, IsOfText}
use Rattle.pawk_ere_syntax.specs.Pattern.{Pattern}

abbrev Entry : Type 0
Entry = Vec ℕ Global × Regex

pub answer_of : (r : Result (Option (ℕ × ℕ)) AllocError) (bytes text : List ℕ) (start : ℕ) (own : Regex) → IsOfText bytes own → ((e : Pattern) → IsFor e own → IfOk r (λ found. IsAnswer e text start found)) → IfOk r (λ found. IsAnswerOfText bytes text start found)
answer_of (Ok found) bytes text start own m h = record { pattern = m.pattern; spelled = m.spelled; answer = h m.pattern m.meaning }
answer_of (Err why) bytes text start own m h = tt

-- the key that passes the test of a text has its bytes
same_bytes : (bytes : List ℕ) (key : Vec ℕ Global) → pointwise eqb bytes key.items ≡ true → bytes ≡ key.items
same_bytes bytes key h = (slice_eq-Decides Decides-eqb bytes key.items (pointwise eqb bytes key.items) refl).0 h

pub rest_of : (test : Vec ℕ Global → Bool) (old : List Entry) (new : LruCache (Vec ℕ Global) Regex) (cap : ℕ) → new ≡ lru_cache (remove_entry test old) cap → AreOfTexts old → AreOfTexts new.entries
rest_of test old new cap h f e x = f e (Contains-remove_entry test old e (subst (λ (c : LruCache (Vec ℕ Global) Regex). Contains c.entries e) h x))

pub taken_of : (bytes : List ℕ) (old : List Entry) (o : Option Entry) → o ≡ lookup_entry (λ (k : Vec ℕ Global). pointwise eqb bytes k.items) old → AreOfTexts old → IfSome o (λ e. e.0.items ≡ bytes) × IfSome o (λ e. IsOfText e.0.items e.1)
taken_of bytes old None h f = (tt, tt)
taken_of bytes old (Some e) h f =
    let x = Contains-lookup_entry (λ (k : Vec ℕ Global). pointwise eqb bytes k.items) old e (sym h) in
    (sym (same_bytes bytes e.0 x.1), f e x.0)

pub kept_of : {X Y : Type 0} (r : Result X Y) (old new : LruCache (Vec ℕ Global) Regex) (k : Vec ℕ Global) (v : Regex)
    → OnOk r (new ≡ lru_cache (put_entries (λ (a b : Vec ℕ Global). pointwise eqb a.items b.items) old k v) old.cap) → OnErr r (new ≡ old) → AreOfTexts old.entries → IsOfText k.items v → AreOfTexts new.entries
kept_of (Err y) old new k v ok err f g e x = f e (subst (λ (c : LruCache (Vec ℕ Global) Regex). Contains c.entries e) err x)
kept_of (Ok y) old new k v ok err f g e x = ⊎_elim
    (λ a. f e a)
    (λ b. subst (IsOfText e.0.items) (sym b.0) (⊎_elim
    (λ same. subst (λ (a : Vec ℕ Global). IsOfText a.items v) (sym same) g)
    (λ w. subst (λ bytes. IsOfText bytes v) (same_bytes k.items e.0 w.2) g) b.1))
    (Contains-put_entries (λ (a b : Vec ℕ Global). pointwise eqb a.items b.items) old k v e (subst (λ (c : LruCache (Vec ℕ Global) Regex). Contains c.entries e) ok x))
