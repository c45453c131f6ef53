-- What a walk has handed out, and what is left.
use Rattle.std.proofs.Common.{◌≡◌, ℕ, ◌+◌, List, [], ◌∷◌, ◌++◌, length, map, refl, ap, sym, ◌∙◌, subst, append_assoc, length-append, ◌<◌, Option, None, Some, IsSome, arith, rules, suc}
use Rattle.std.proofs.lemmas.List.{append-nil, map-append}
use Rattle.std.specs.declared.ops.Range.{Range}
use Rattle.pawk_fields.specs.FieldSeparator.{range_of}
use Rattle.pawk_fields.specs.FieldWalks.{AddsLeft, AreLeft, HandsOut, IsOver, NeedsFinder, Rest, most_left}

-- these fields were handed out
pub record Passes (first now : Rest) : Type 0 where
  pub fields : List (ℕ × ℕ)
  pub left : (rest : List (ℕ × ℕ)) → AreLeft now rest → AreLeft first (fields ++ rest)

pub passes_none : (first : Rest) → Passes first first
passes_none first = record { fields = []; left = λ rest h. h }

pub passes_one : (first now later : Rest) (f : ℕ × ℕ) → Passes first now → HandsOut now later f → Passes first later
passes_one first now later f h step = record {
  fields = h.fields ++ f ∷ [];
  left = λ rest l. subst (AreLeft first) (sym (append_assoc h.fields (f ∷ []) rest)) (h.left (f ∷ rest) (step.onto rest l));
}

pub passes_all : (first now : Rest) (h : Passes first now) → IsOver now → AreLeft first h.fields
passes_all first now h l = subst (AreLeft first) (append-nil h.fields) (h.left [] ((l []).1 refl))

-- what is near the end has a place to go on from
goes_on : (next : Option ℕ) (s : List ℕ) (n : ℕ) → n < most_left next s → IsSome next
goes_on None s n lt = absurd (omega arith)
goes_on (Some p) s n lt = search rules

-- a walk that hands out a field was not over
pub needed_before : (old new : Rest) → most_left new.next new.text < most_left old.next old.text → NeedsFinder old
needed_before old new nearer = goes_on old.next old.text (most_left new.next new.text) nearer

-- ---- their ranges were added to a list

pub record Adds (first now : Rest) (old new : List (Range ℕ)) : Type 0 where
  pub out : Passes first now
  pub added : new ≡ old ++ map range_of out.fields

pub adds_none : (first : Rest) (old : List (Range ℕ)) → Adds first first old old
unfolding passes_none
adds_none first old = record { out = passes_none first; added = sym (append-nil old) }

pub adds_one : (first now later : Rest) (old new longer : List (Range ℕ)) (f : Range ℕ) → Adds first now old new → HandsOut now later (f.start, f.end) → longer ≡ new ++ f ∷ [] → Adds first later old longer
unfolding passes_one
adds_one first now later old new longer f a step more = record {
  out = passes_one first now later (f.start, f.end) a.out step;
  added = more ∙ ap (λ l. l ++ f ∷ []) a.added ∙ append_assoc old (map range_of a.out.fields) (f ∷ [])
      ∙ ap (λ l. old ++ l) (sym (map-append range_of a.out.fields ((f.start, f.end) ∷ [])));
}

pub adds_all : (first now : Rest) (old new : List (Range ℕ)) → Adds first now old new → IsOver now → AddsLeft first old new
adds_all first now old new a l = record { fields = a.out.fields; left = passes_all first now a.out l; added = a.added }
