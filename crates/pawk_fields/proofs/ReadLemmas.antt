-- Reading an expression is spelling it.
use Rattle.std.proofs.Common.{◌≡◌, ℕ, zero, suc, ◌+◌, ◌*◌, ◌≤◌, max, arith, Bool, true, false, ◌&&◌, cond, eqb, leb, Option, Some, None, List, [], ◌∷◌, length, refl, sym, ap, ◌∙◌, subst, inl, inr, ⊎_elim, length-append}
use Rattle.std.proofs.lemmas.Bool.{leb-true, le-leb}
use Rattle.std.proofs.Math.Nat.{mul-suc}
use Rattle.std.specs.Option.{option_map}
use Rattle.pawk_ere_syntax.specs.declared.token.EreToken.{EreToken}
use Rattle.pawk_ere_syntax.specs.declared.token.EreToken.TheVariants.{Leaf, Times, Bar, Open, Close, Caret, Dollar}
use Rattle.pawk_ere_syntax.specs.Pattern.{Pattern, Empty, Start, End, Bytes, Group, Repeat, Sequence, Either}
use Rattle.pawk_ere_syntax.specs.Bounds.{number_at, bound_at, bound_of, after_comma, most_of, between, from_least}
use Rattle.pawk_ere_syntax.specs.Brackets.{bracket_at}
use Rattle.pawk_ere_syntax.specs.Escapes.{escape_at}
use Rattle.pawk_ere_syntax.specs.Grammar.{Alt, Branch, Piece, Atom, Level, Derives, tokens_of, size, repeated_size, IsSound, AreSound}
use Rattle.pawk_ere_syntax.specs.Machine.{run, start}
use Rattle.pawk_ere_syntax.specs.Tokens.{token_at, byte_of, set_of, Lexes, SpellsEre, SpellsNone}
use Rattle.pawk_ere_syntax.proofs.Progress.{spells_one}
use Rattle.pawk_ere_syntax.proofs.Reading.{run-tokens_of, run-is_tokens_of, some_inj}
use Rattle.pawk_fields.specs.ReadEre.{onto_tokens, tokens_within, if_small, of_tokens, read_ere}
use Rattle.pawk_fields.specs.Laws.{ReadLaw}

-- ---- tokens are sound

-- what holds of both sides holds of a choice
by_if : {A : Type 0} (P : Type 0) (b : Bool) (x y z : A) → cond b x y ≡ z → (b ≡ true → x ≡ z → P) → (y ≡ z → P) → P
by_if P true x y z h f g = f refl h
by_if P false x y z h f g = g h

sound_as : (t u : EreToken) (r s : List ℕ) → ◌≡◌ {A = Option (EreToken × List ℕ)} (Some (u, r)) (Some (t, s)) → IsSound u → IsSound t
sound_as t u r s h ok = subst IsSound (ap (λ (x : EreToken × List ℕ). x.0) (some_inj (u, r) (t, s) h)) ok

both_true : (a b : Bool) → a && b ≡ true → a ≡ true
both_true true b h = refl
both_true false b h = h

between_sound : (least most : ℕ) (rest s : List ℕ) (t : EreToken) → between least most rest ≡ Some (t, s) → IsSound t
between_sound least most rest s t h = by_if (IsSound t) (leb least most && leb most 255) (Some (Times least (Some most), rest)) None (Some (t, s)) h
    (λ b e. sound_as t (Times least (Some most)) rest s e (leb-true least most (both_true _ _ b)))
    (λ e. cc)

from_least_sound : (least : ℕ) (rest s : List ℕ) (t : EreToken) → from_least least rest ≡ Some (t, s) → IsSound t
from_least_sound least rest s t h = by_if (IsSound t) (leb least 255) (Some (Times least None, rest)) None (Some (t, s)) h
    (λ b e. sound_as t (Times least None) rest s e tt)
    (λ e. cc)

most_sound : (least : ℕ) (o : Option (ℕ × List ℕ)) (s : List ℕ) (t : EreToken) → most_of least o ≡ Some (t, s) → IsSound t
most_sound least None s t h = cc
most_sound least (Some (most, [])) s t h = cc
most_sound least (Some (most, c ∷ rest)) s t h = by_if (IsSound t) (eqb c 125) (between least most rest) None (Some (t, s)) h
    (λ b e. between_sound least most rest s t e)
    (λ e. cc)

comma_sound : (least : ℕ) (rest s : List ℕ) (t : EreToken) → after_comma least rest ≡ Some (t, s) → IsSound t
comma_sound least [] s t h = cc
comma_sound least (c ∷ rest) s t h = by_if (IsSound t) (eqb c 125) (from_least least rest) (most_of least (number_at (c ∷ rest))) (Some (t, s)) h
    (λ b e. from_least_sound least rest s t e)
    (λ e. most_sound least (number_at (c ∷ rest)) s t e)

bound_sound : (o : Option (ℕ × List ℕ)) (s : List ℕ) (t : EreToken) → bound_of o ≡ Some (t, s) → IsSound t
bound_sound None s t h = cc
bound_sound (Some (least, [])) s t h = cc
bound_sound (Some (least, c ∷ rest)) s t h = by_if (IsSound t) (eqb c 125) (between least least rest) (cond (eqb c 44) (after_comma least rest) None) (Some (t, s)) h
    (λ b e. between_sound least least rest s t e)
    (λ e. by_if (IsSound t) (eqb c 44) (after_comma least rest) None (Some (t, s)) e
    (λ b e. comma_sound least rest s t e)
    (λ e. cc))

byte_sound : (o : Option (ℕ × List ℕ)) (s : List ℕ) (t : EreToken) → byte_of o ≡ Some (t, s) → IsSound t
byte_sound None s t h = cc
byte_sound (Some x) s t h = sound_as t _ x.1 s h tt

set_sound : (o : Option (List Bool × List ℕ)) (s : List ℕ) (t : EreToken) → set_of o ≡ Some (t, s) → IsSound t
set_sound None s t h = cc
set_sound (Some x) s t h = sound_as t _ x.1 s h tt

token_sound : (bytes s : List ℕ) (t : EreToken) → token_at bytes ≡ Some (t, s) → IsSound t
unfolding token_at bound_at
token_sound [] s t h = cc
token_sound (c ∷ rest) s t h =
    by_if P (eqb c 94) _ _ z h (λ b e. sound_as t Caret rest s e tt) (λ h.
    by_if P (eqb c 36) _ _ z h (λ b e. sound_as t Dollar rest s e tt) (λ h.
    by_if P (eqb c 124) _ _ z h (λ b e. sound_as t Bar rest s e tt) (λ h.
    by_if P (eqb c 40) _ _ z h (λ b e. sound_as t Open rest s e tt) (λ h.
    by_if P (eqb c 41) _ _ z h (λ b e. sound_as t Close rest s e tt) (λ h.
    by_if P (eqb c 42) _ _ z h (λ b e. sound_as t (Times 0 None) rest s e tt) (λ h.
    by_if P (eqb c 43) _ _ z h (λ b e. sound_as t (Times 1 None) rest s e tt) (λ h.
    by_if P (eqb c 63) _ _ z h (λ b e. sound_as t (Times 0 (Some 1)) rest s e (omega arith)) (λ h.
    by_if P (eqb c 46) _ _ z h (λ b e. sound_as t (Leaf _) rest s e tt) (λ h.
    by_if P (eqb c 92) _ _ z h (λ b e. byte_sound (escape_at rest) s t e) (λ h.
    by_if P (eqb c 123) _ _ z h (λ b e. bound_sound (number_at rest) s t e) (λ h.
    by_if P (eqb c 91) _ _ z h (λ b e. set_sound (bracket_at rest) s t e) (λ h.
    sound_as t (Leaf _) rest s h tt))))))))))))
  where
    P : Type 0
    P = IsSound t

    z : Option (EreToken × List ℕ)
    z = Some (t, s)

-- ---- the tokens of a text

-- what a text is cut into is what it lexes as
abbrev IsLexed : ℕ → Type 0
IsLexed most = (rest : List ℕ) (us : List EreToken) → tokens_within most rest ≡ Some us → Lexes rest us × AreSound us

-- what a cut text lexes as
lexed : (most : ℕ) (bytes : List ℕ) (ts : List EreToken) → tokens_within most bytes ≡ Some ts → Lexes bytes ts × AreSound ts
unfolding tokens_within
lexed zero [] ts h = subst (λ us. Lexes [] us × AreSound us) (some_inj [] ts h) (refl, tt)
lexed (suc most) [] ts h = subst (λ us. Lexes [] us × AreSound us) (some_inj [] ts h) (refl, tt)
lexed zero (b ∷ s) ts h = cc
lexed (suc most) (b ∷ s) ts h = first (λ rest us is. lexed most rest us is) (token_at (b ∷ s)) refl h
  where
    rests : IsLexed most → (t : EreToken) (rest : List ℕ) (o : Option (List EreToken)) → token_at (b ∷ s) ≡ Some (t, rest) → tokens_within most rest ≡ o → option_map (λ us. t ∷ us) o ≡ Some ts → Lexes (b ∷ s) ts × AreSound ts
    rests later t rest None at is h = cc
    rests later t rest (Some us) at is h =
        let more = later rest us is in
        subst (λ us. Lexes (b ∷ s) us × AreSound us) (some_inj (t ∷ us) ts h) ((rest, at, more.0), (token_sound (b ∷ s) rest t at, more.1))

    first : IsLexed most → (o : Option (EreToken × List ℕ)) → token_at (b ∷ s) ≡ o → onto_tokens (tokens_within most) o ≡ Some ts → Lexes (b ∷ s) ts × AreSound ts
    first later None at h = cc
    first later (Some x) at h = rests later x.0 x.1 (tokens_within most x.1) at refl h

no_token_left : (x : EreToken × List ℕ) → token_at [] ≡ Some x → ⊥
unfolding token_at
no_token_left x h = cc

-- what a text lexes as is cut from it
cut_as : (ts : List EreToken) (most : ℕ) (bytes : List ℕ) → length ts ≤ most → Lexes bytes ts → tokens_within most bytes ≡ Some ts
unfolding tokens_within
cut_as [] zero bytes few l = ap (tokens_within zero) l
cut_as [] (suc most) bytes few l = ap (tokens_within (suc most)) l
cut_as (t ∷ ts) zero bytes few l = absurd (omega arith)
cut_as (t ∷ ts) (suc most) [] few l = absurd (no_token_left (t, l.0) l.1)
cut_as (t ∷ ts) (suc most) (b ∷ s) few l =
    ap (onto_tokens (tokens_within most)) l.1 ∙ ap (option_map (λ us. t ∷ us)) (cut_as ts most l.0 (omega arith) l.2)

-- ---- an expression has at most three times as many tokens as its size

turns_grow : (n k : ℕ) → n ≤ n * max k 1
turns_grow n zero = let e : n * max zero 1 ≡ n = omega arith in omega arith
turns_grow n (suc k) = let e : max (suc k) 1 ≡ suc k = omega arith in subst (λ x. n ≤ n * x) (sym e) (let m : n * suc k ≡ n * k + n = mul-suc n k in omega arith)

repeated_grows : (n least : ℕ) (most : Option ℕ) → n ≤ repeated_size n least most
repeated_grows n least None = let x = turns_grow n least in omega arith
repeated_grows n least (Some most) = let x = turns_grow n most in omega arith

-- an atom has one token less, since a repetition may follow
abbrev spare : Level → ℕ
spare Alt = 1
spare Branch = 1
spare Piece = 1
spare Atom = 2

group_few : (a : Pattern) → length (tokens_of a) + 1 ≤ 3 * size a → length (tokens_of (Group a)) + 2 ≤ 3 * size (Group a)
group_few a h = let e = length-append (tokens_of a) (Close ∷ []) in omega arith

repeat_few : (a : Pattern) (least : ℕ) (most : Option ℕ) → length (tokens_of a) + 2 ≤ 3 * size a → length (tokens_of (Repeat a least most)) + 1 ≤ 3 * size (Repeat a least most)
repeat_few a least most h = let e = length-append (tokens_of a) (Times least most ∷ []) in let g = repeated_grows (size a) least most in omega arith

sequence_few : (a b : Pattern) → length (tokens_of a) + 1 ≤ 3 * size a → length (tokens_of b) + 1 ≤ 3 * size b → length (tokens_of (Sequence a b)) + 1 ≤ 3 * size (Sequence a b)
sequence_few a b h k = let e = length-append (tokens_of a) (tokens_of b) in omega arith

either_few : (a b : Pattern) → length (tokens_of a) + 1 ≤ 3 * size a → length (tokens_of b) + 1 ≤ 3 * size b → length (tokens_of (Either a b)) + 1 ≤ 3 * size (Either a b)
either_few a b h k = let e = length-append (tokens_of a) (Bar ∷ tokens_of b) in omega arith

few_tokens : (l : Level) (e : Pattern) → Derives l e → length (tokens_of e) + spare l ≤ 3 * size e
few_tokens Alt Empty d = absurd d
few_tokens Branch Empty d = absurd d
few_tokens Piece Empty d = absurd d
few_tokens Atom Empty d = absurd d
few_tokens Alt Start d = omega arith
few_tokens Branch Start d = omega arith
few_tokens Piece Start d = omega arith
few_tokens Atom Start d = absurd d
few_tokens Alt End d = omega arith
few_tokens Branch End d = omega arith
few_tokens Piece End d = omega arith
few_tokens Atom End d = absurd d
few_tokens Alt (Bytes members) d = omega arith
few_tokens Branch (Bytes members) d = omega arith
few_tokens Piece (Bytes members) d = omega arith
few_tokens Atom (Bytes members) d = omega arith
few_tokens Alt (Group a) d = let g = group_few a (few_tokens Alt a d) in omega arith
few_tokens Branch (Group a) d = let g = group_few a (few_tokens Alt a d) in omega arith
few_tokens Piece (Group a) d = let g = group_few a (few_tokens Alt a d) in omega arith
few_tokens Atom (Group a) d = group_few a (few_tokens Alt a d)
few_tokens Alt (Repeat a least most) d = repeat_few a least most (few_tokens Atom a d.0)
few_tokens Branch (Repeat a least most) d = repeat_few a least most (few_tokens Atom a d.0)
few_tokens Piece (Repeat a least most) d = repeat_few a least most (few_tokens Atom a d.0)
few_tokens Atom (Repeat a least most) d = absurd d
few_tokens Alt (Sequence a b) d = sequence_few a b (few_tokens Branch a d.0) (few_tokens Piece b d.1)
few_tokens Branch (Sequence a b) d = sequence_few a b (few_tokens Branch a d.0) (few_tokens Piece b d.1)
few_tokens Piece (Sequence a b) d = absurd d
few_tokens Atom (Sequence a b) d = absurd d
few_tokens Alt (Either a b) d = either_few a b (few_tokens Alt a d.0) (few_tokens Branch b d.1)
few_tokens Branch (Either a b) d = absurd d
few_tokens Piece (Either a b) d = absurd d
few_tokens Atom (Either a b) d = absurd d

-- ---- the law

small_is : (o : Option Pattern) (e : Pattern) → if_small o ≡ Some e → (o ≡ Some e) × (size e ≤ 4096)
small_is None e h = cc
small_is (Some x) e h = by_if ((Some x ≡ Some e) × (size e ≤ 4096)) (leb (size x) 4096) (Some x) None (Some e) h
    (λ b same. (same, subst (λ y. size y ≤ 4096) (some_inj x e same) (leb-true (size x) 4096 b)))
    (λ h. cc)

small_if : (e : Pattern) → size e ≤ 4096 → if_small (Some e) ≡ Some e
small_if e h = let b : leb (size e) 4096 ≡ true = le-leb (size e) 4096 h in ap (λ v. cond v (Some e) None) b

read_is : (bytes : List ℕ) (e : Pattern) → read_ere bytes ≡ Some e → SpellsEre bytes e
unfolding read_ere
read_is [] e h = subst (SpellsEre []) (some_inj Empty e h) (record { tokens = refl; form = inl refl; small = omega arith })
read_is (b ∷ s) e h = go (tokens_within (3 * 4096) (b ∷ s)) refl h
  where
    go : (o : Option (List EreToken)) → tokens_within (3 * 4096) (b ∷ s) ≡ o → of_tokens o ≡ Some e → SpellsEre (b ∷ s) e
    go None is h = cc
    go (Some ts) is h =
        let cut = lexed (3 * 4096) (b ∷ s) ts is in
        let small = small_is (run ts start) e h in
        let same = run-is_tokens_of ts e cut.1 small.0 in
        record { tokens = subst (Lexes (b ∷ s)) same.1 cut.0; form = inr same.0; small = small.1 }

read_if : (bytes : List ℕ) (e : Pattern) → SpellsEre bytes e → read_ere bytes ≡ Some e
unfolding read_ere
read_if [] e h = ap Some (spells_one [] Empty e (record { tokens = refl; form = inl refl; small = omega arith }) h)
read_if (b ∷ s) e h = ⊎_elim
    (λ empty. let none : b ∷ s ≡ [] = subst (λ x. Lexes (b ∷ s) (tokens_of x)) empty h.tokens in absurd cc)
    (λ d.
    let few = few_tokens Alt e d in
    let small = h.small in
    ap of_tokens (cut_as (tokens_of e) (3 * 4096) (b ∷ s) (omega arith) h.tokens) ∙ ap if_small (run-tokens_of e d) ∙ small_if e small)
    h.form

pub read_law_lem : (bytes : List ℕ) → ReadLaw bytes
read_law_lem bytes = record {
  some = λ e. (read_is bytes e, read_if bytes e);
  none = (λ h e spelled. let x = read_if bytes e spelled in cc, λ h. go (read_ere bytes) refl h);
}
  where
    go : (o : Option Pattern) → read_ere bytes ≡ o → SpellsNone bytes → read_ere bytes ≡ None
    go None is h = is
    go (Some e) is h = absurd (h e (read_is bytes e is))
