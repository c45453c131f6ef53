-- From one token to the next.
use Rattle.std.proofs.Common.{◌≡◌, ◌<◌, Bool, List, [], ◌∷◌, ◌++◌, length, Option, Some, None, refl, sym, ap, subst, ◌∙◌, append_assoc}
use Rattle.std.proofs.lemmas.List.{append-nil}
use Rattle.pawk_lex.specs.declared.token.Token.{Token}
use Rattle.pawk_lex.specs.declared.refusal.SyntaxRefusal.{SyntaxRefusal}
use Rattle.pawk_lex.specs.declared.refusal.SyntaxRefusal.TheVariants as refusal
use Rattle.pawk_lex.specs.Bytes.{Text}
use Rattle.pawk_lex.specs.Tokens.{Tok, tok, divides_after}
use Rattle.pawk_lex.specs.Next.{finds}
use Rattle.pawk_lex.specs.Cut.{Gap, Takes, CutFrom, at_end, a_token, Cut}
use Rattle.pawk_lex.specs.Reads.{State, start_state, Hands}
use Rattle.pawk_lex.specs.TokenLists.{CutUpTo, no_token, one_more, RefusedBy, IsRefused, EndsBy}
use Rattle.pawk_lex.proofs.Fronts.{takes_found}
use Rattle.pawk_lex.proofs.Within.{NextWithin, next_within}
use Rattle.pawk_lex.proofs.CutLaws.{IsSame, takes_unique, no_more, cut_unique}

-- the lexer has handed out these tokens of the text, and refused nothing
pub record IsGoing (text : Text) (ts : List Tok) (s : State) : Type 0 where
  pub size : s.size ≡ length text
  pub fresh : s.last_refusal ≡ None
  pub before : CutUpTo text ts s.divides s.rest

pub sets_out : (text : Text) → IsGoing text [] (start_state text)
sets_out text = record { size = refl; fresh = refl; before = no_token }

taken : (s : State) (t : Token) (rest : Text) → Hands s t rest → Takes s.divides s.rest (tok t.value) rest
taken s t rest h = record { text = h.text; gap = h.gap; begins = h.begins }

pub goes_on : (text : Text) (ts : List Tok) (s : State) (t : Token) (rest : Text) → IsGoing text ts s → Hands s t rest → IsGoing text (ts ++ tok t.value ∷ []) (record s { rest = rest; divides = divides_after (tok t.value) })
goes_on text ts s t rest g h = record { size = g.size; fresh = g.fresh; before = one_more g.before (taken s t rest h) }

pub hands_shorter : (s : State) (t : Token) (rest : Text) → Hands s t rest → length rest < length s.rest
hands_shorter s t rest h =
    let within : NextWithin s.rest (finds (tok t.value) rest) = rw (takes_found (taken s t rest h)) at (next_within s.divides s.rest) in
    within

cut_all : {text y : Text} {ts us : List Tok} {d : Bool} → CutUpTo text ts d y → CutFrom d y us → Cut text (ts ++ us)
cut_all no_token c = c
cut_all {us = us} (one_more {ts = ts} {t = t} k l) c = rw (append_assoc ts (t ∷ []) us) (cut_all k (a_token l c))

pub comes_to_end : (text : Text) (ts : List Tok) (s : State) → IsGoing text ts s → Gap s.rest [] → Cut text ts
comes_to_end text ts s g e = rw (append-nil ts) at (cut_all g.before (at_end e))

pub comes_to_refusal : (text : Text) (ts : List Tok) (s : State) (e : SyntaxRefusal) → IsGoing text ts s → RefusedBy s e → IsRefused text ts e
comes_to_refusal text ts s e g f =
    let sized : s ≡ record s { size = length text } = ap (λ n. record s { size = n }) g.size in
    let settled : ◌≡◌ {A = State} (record s { size = length text }) (record s { size = length text; last_refusal = None }) = ap (λ o. record s { size = length text; last_refusal = o }) g.fresh in
    let P : State → Type 0 = λ v. RefusedBy v e in
    record { divides = s.divides; rest = s.rest; before = g.before; fails = subst P (sized ∙ settled) f }

-- ---- a text that is cut is not refused

record IsContinued (ts us : List Tok) (d : Bool) (y : Text) : Type 0 where
  more : List Tok
  all_is : us ≡ ts ++ more
  cut : CutFrom d y more

next_cut : {d : Bool} {y rest : Text} {t : Tok} (ts us vs : List Tok) → Takes d y t rest → us ≡ ts ++ vs → CutFrom d y vs → IsContinued (ts ++ t ∷ []) us (divides_after t) rest
next_cut {d} {y} {rest} {t} ts us [] k e (at_end g) = absurd (no_more d y rest t g k)
next_cut {d} {y} {rest} {t} ts us (u ∷ vs) k e (a_token {rest = more} l c) = go (takes_unique l k)
  where
    go : IsSame u t more rest → IsContinued (ts ++ t ∷ []) us (divides_after t) rest
    go s = record { more = vs; all_is = e ∙ ap (λ v. ts ++ v ∷ vs) s.token ∙ sym (append_assoc ts (t ∷ []) vs); cut = rw (s.token, s.left) at c }

continued : {text y : Text} {ts us : List Tok} {d : Bool} → CutUpTo text ts d y → Cut text us → IsContinued ts us d y
continued {us = us} no_token c = record { more = us; all_is = refl; cut = c }
continued {us = us} (one_more {ts = ts} k l) c = let r = continued k c in next_cut ts us r.more l r.all_is r.cut

stuck : (s : State) (e : SyntaxRefusal) (vs : List Tok) → RefusedBy s e → CutFrom s.divides s.rest vs → ⊥
stuck s refusal.Memory vs f c = f
stuck s (refusal.At why place) [] f (at_end g) = f.no_end g
stuck s (refusal.At why place) (t ∷ vs) f (a_token {rest = rest} k c) = f.no_token t rest k

pub ends_whole : (text : Text) (ts us : List Tok) (o : Option SyntaxRefusal) → EndsBy text ts o → Cut text us → (ts ≡ us) × (o ≡ None)
ends_whole text ts us None k c = (cut_unique k c, refl)
ends_whole text ts us (Some e) k c =
    let r = continued k.before c in
    absurd (stuck (record { size = length text; rest = k.rest; divides = k.divides; last_refusal = None }) e r.more k.fails r.cut)
