-- One answer of the lexer.
use Rattle.std.proofs.Common.{◌≡◌, ◌≤◌, ℕ, ◌+◌, ◌-◌, Bool, [], ◌∷◌, length, Some, None, Ok, Err, refl, sym, ◌∙◌, inl, inr, IsTrue, arith}
use Rattle.pawk_lex.specs.declared.fault.SyntaxFault.{SyntaxFault}
use Rattle.pawk_lex.specs.declared.fault.SyntaxFault.TheVariants as fault
use Rattle.pawk_lex.specs.declared.refusal.SyntaxRefusal.{SyntaxRefusal}
use Rattle.pawk_lex.specs.Bytes.{Text}
use Rattle.pawk_lex.specs.Refusals.{is_lexer_refusal}
use Rattle.pawk_lex.specs.declared.token.Token.{Token}
use Rattle.pawk_lex.specs.Tokens.{Tok, tok}
use Rattle.pawk_lex.specs.Gaps.{skip}
use Rattle.pawk_lex.specs.Next.{Finding, token_at, next}
use Rattle.pawk_lex.specs.Cut.{Gap}
use Rattle.pawk_lex.specs.Reads.{State, refusal_of, Hands, FailsBy, IsFault, NeedsMemory}
use Rattle.pawk_lex.proofs.Fronts.{takes_found, gap_none}
use Rattle.pawk_lex.proofs.Sound.{skip_sound, token_sound, none_sound}
use Rattle.pawk_lex.proofs.Telling.{IsTold, token_told, wants}
use Rattle.pawk_lex.proofs.Within.{skip_shorter, Within, token_within, NextWithin, next_within}

pub next_is : (d : Bool) (z y : Text) (r : Finding) → y ≡ skip z → token_at d y ≡ r → next d z ≡ r
unfolding next
next_is d z y r s e = rw (← s) e

pub start_within : (z y : Text) (size : ℕ) → y ≡ skip z → length z ≤ size → length y ≤ size
start_within z y size s h = rw s (omega (arith, skip_shorter z))

pub start_is : (z y : Text) (size : ℕ) → y ≡ skip z → length z ≤ size → size - length y + length (skip z) ≡ size
start_is z y size s h = rw s (omega (arith, skip_shorter z))

pub rest_within : (d : Bool) (z y : Text) (t : Tok) (rest : Text) (size : ℕ) → y ≡ skip z → token_at d y ≡ Ok (Some (t, rest)) → length z ≤ size → length rest ≤ size
rest_within d z y t rest size s e h =
    let shorter : NextWithin z (Ok (Some (t, rest))) = rw (next_is d z y _ s e) at (next_within d z) in
    omega arith

pub hands : (old : State) (y : Text) (t : Token) (rest : Text) → y ≡ skip old.rest → token_at old.divides y ≡ Ok (Some (tok t.value, rest)) → t.span.start + length (skip old.rest) ≡ old.size → t.span.end + length rest ≡ old.size → Hands old t rest
hands old y t rest s e b n = record {
  text = skip old.rest;
  gap = skip_sound old.rest;
  begins = token_sound old.divides (skip old.rest) (tok t.value) rest (rw s at e);
  start = b;
  end = n;
}

pub ends : (d : Bool) (z y : Text) → y ≡ skip z → token_at d y ≡ Ok None → Gap z []
ends d z y s e = none_sound d z (next_is d z y _ s e)

pub refuses : (old : State) (y : Text) (f : SyntaxFault) (e : SyntaxRefusal) → y ≡ skip old.rest → length old.rest ≤ old.size → IsFault (NeedsMemory old.divides y) (token_at old.divides y) f → e ≡ refusal_of old.size f → FailsBy old e
refuses old y fault.Memory e s h g is = rw is (wants old.divides old.rest y s g)
refuses old y (fault.At why left) e s h g is =
    let finding = next_is old.divides old.rest y _ s g in
    let within : NextWithin old.rest (Err (fault.At why left)) = rw finding at (next_within old.divides old.rest) in
    rw is (record {
      at_least = omega arith;
      at_most = omega arith;
      no_end = λ k. let bad : ◌≡◌ {A = Finding} (Ok None) (Err (fault.At why left)) = sym (gap_none old.divides old.rest k) ∙ finding in absurd cc;
      no_token = λ t rest k. let bad : ◌≡◌ {A = Finding} (Ok (Some (t, rest))) (Err (fault.At why left)) = sym (takes_found k) ∙ finding in absurd cc;
      left = left;
      fault = finding;
      place_is = refl;
    })

-- the fault's number is one of the lexer's
pub tells : (d : Bool) (y : Text) (size : ℕ) (f : SyntaxFault) (e : SyntaxRefusal) → IsFault (NeedsMemory d y) (token_at d y) f → e ≡ refusal_of size f → IsTrue (is_lexer_refusal e)
tells d y size fault.Memory e g is = rw is refl
tells d y size (fault.At why left) e g is =
    let told : IsTold (Err (fault.At why left)) = rw g at (token_told d y) in
    rw (is, told) refl

-- where nothing but what separates tokens is left, there is neither a token nor a fault, nor a refused allocation
at_end : (d : Bool) (z y : Text) → y ≡ skip z → Gap z [] → token_at d y ≡ Ok None
unfolding next
at_end d z y s k = rw s (gap_none d z k)

end_needs_none : (d : Bool) (y : Text) → token_at d y ≡ Ok None → NeedsMemory d y → ⊥
end_needs_none d y e (inl h) = rw e at h
end_needs_none d [] e (inr h) = h
end_needs_none d (b ∷ z) e (inr h) =
    let within : Within (b ∷ z) (Ok None) = rw e at (token_within d (b ∷ z)) in
    absurd cc

pub no_token_at_end : (d : Bool) (z y : Text) (t : Tok) (rest : Text) → y ≡ skip z → token_at d y ≡ Ok (Some (t, rest)) → Gap z [] → ⊥
no_token_at_end d z y t rest s e k = let bad : ◌≡◌ {A = Finding} (Ok None) (Ok (Some (t, rest))) = sym (at_end d z y s k) ∙ e in absurd cc

pub no_fault_at_end : (d : Bool) (z y : Text) (f : SyntaxFault) → y ≡ skip z → IsFault (NeedsMemory d y) (token_at d y) f → Gap z [] → ⊥
no_fault_at_end d z y fault.Memory s g k = end_needs_none d y (at_end d z y s k) g
no_fault_at_end d z y (fault.At why left) s g k = let bad : ◌≡◌ {A = Finding} (Ok None) (Err (fault.At why left)) = sym (at_end d z y s k) ∙ g in absurd cc
