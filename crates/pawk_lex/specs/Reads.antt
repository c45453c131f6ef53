-- What the functions of the lexer ensure.
use Rattle.std.specs.Prelude.{◌≡◌, ◌≤◌, ◌⊎◌, ℕ, ◌+◌, ◌-◌, Bool, false, [], ◌∷◌, length, Option, Some, None, Result, Ok, Err}
use Rattle.std.specs.Borrow.{Bor}
use Rattle.pawk_lex.specs.declared.token.TokenValue.{TokenValue}
use Rattle.pawk_lex.specs.declared.token.Token.{Token}
use Rattle.pawk_lex.specs.declared.refusal.Cause.{Cause}
use Rattle.pawk_lex.specs.declared.fault.SyntaxFault.{SyntaxFault}
use Rattle.pawk_lex.specs.declared.fault.SyntaxFault.TheVariants as fault
use Rattle.pawk_lex.specs.declared.refusal.SyntaxRefusal.{SyntaxRefusal}
use Rattle.pawk_lex.specs.declared.refusal.SyntaxRefusal.TheVariants as refusal
use Rattle.pawk_lex.specs.Bytes.{Text}
use Rattle.pawk_lex.specs.Tokens.{Tok, string, ere, name, function_name, tok, divides_after}
use Rattle.pawk_lex.specs.Next.{Finding, token_at, next}
use Rattle.pawk_lex.specs.Cut.{Gap, Begins, Takes}

-- the fault that the lexical rules find; or out of memory, where memory is needed
abbrev pub IsFault : Type 0 → Finding → SyntaxFault → Type 0
IsFault needed finding (fault.At why left) = finding ≡ Err (fault.At why left)
IsFault needed finding fault.Memory = needed

-- a token, and the text after it
abbrev pub IsFinding : Type 0 → Finding → Result (TokenValue × Bor Text) SyntaxFault → Type 0
IsFinding needed finding (Ok p) = finding ≡ Ok (Some (tok p.0, p.1.now))
IsFinding needed finding (Err e) = IsFault needed finding e

-- the same, or nothing at the end
abbrev pub IsSomeFinding : Type 0 → Finding → Result (Option (TokenValue × Bor Text)) SyntaxFault → Type 0
IsSomeFinding needed finding (Ok (Some p)) = finding ≡ Ok (Some (tok p.0, p.1.now))
IsSomeFinding needed finding (Ok None) = finding ≡ Ok None
IsSomeFinding needed finding (Err e) = IsFault needed finding e

-- a token whose bytes are copied
abbrev pub HasBytes : Tok → Type 0
HasBytes (string bytes) = Unit {0}
HasBytes (ere bytes) = Unit {0}
HasBytes (name w) = Unit {0}
HasBytes (function_name w) = Unit {0}
HasBytes _ = ⊥

-- what was found is such a token
abbrev pub CopiesBytes : Finding → Type 0
CopiesBytes (Ok (Some p)) = HasBytes p.0
CopiesBytes (Ok None) = ⊥
CopiesBytes (Err e) = ⊥

-- a string begins here
abbrev pub OpensString : Text → Type 0
OpensString [] = ⊥
OpensString (b ∷ z) = b ≡ 34

-- memory is needed for what this text begins with: for a string, whole or not, an expression or a name
abbrev pub NeedsMemory : Bool → Text → Type 0
NeedsMemory divides z = CopiesBytes (token_at divides z) ⊎ OpensString z

-- the same of what comes after what separates tokens
pub record WantsMemory (divides : Bool) (z : Text) : Type 0 where
  pub text : Text
  pub gap : Gap z text
  pub needs : ((t : Tok) × (rest : Text) × Begins divides text t rest × HasBytes t) ⊎ OpensString text

-- how far a text is read: its size in bytes, what is left of it, whether a slash divides there, and
-- the refusal that was answered
pub record State : Type 0 where
  pub size : ℕ
  pub rest : Text
  pub divides : Bool
  pub last_refusal : Option SyntaxRefusal

-- nothing is read of this text
abbrev pub start_state : Text → State
start_state text = record { size = length text; rest = text; divides = false; last_refusal = None }

-- the place of a byte, counted from 1, where `left` bytes are left from it on
abbrev pub place_of : ℕ → ℕ → ℕ
place_of size left = size - left + 1

abbrev pub refusal_of : ℕ → SyntaxFault → SyntaxRefusal
refusal_of size (fault.At why left) = refusal.At why (place_of size left)
refusal_of size fault.Memory = refusal.Memory

-- the token is the next one: after what separates tokens the rest of the text begins with it, at
-- its span, whose bytes are counted from 0
pub record Hands (old : State) (t : Token) (rest : Text) : Type 0 where
  pub text : Text
  pub gap : Gap old.rest text
  pub begins : Begins old.divides text (tok t.value) rest
  pub start : t.span.start + length text ≡ old.size
  pub end : t.span.end + length rest ≡ old.size

-- the text is at fault: it neither ends nor begins with a token, and the lexical rules report this
-- cause at this byte of it
pub record Fails (old : State) (why : Cause) (place : ℕ) : Type 0 where
  pub at_least : 1 ≤ place
  pub at_most : place ≤ old.size
  pub no_end : Gap old.rest [] → ⊥
  pub no_token : (t : Tok) (rest : Text) → Takes old.divides old.rest t rest → ⊥
  pub left : ℕ
  pub fault : next old.divides old.rest ≡ Err (fault.At why left)
  pub place_is : place ≡ place_of old.size left

abbrev pub FailsBy : State → SyntaxRefusal → Type 0
FailsBy old (refusal.At why place) = Fails old why place
FailsBy old refusal.Memory = WantsMemory old.divides old.rest

-- what the lexer answers from a state in which it has not refused, and its state then
abbrev pub Lexes : State → Result (Option Token) SyntaxRefusal → State → Type 0
Lexes old (Ok (Some t)) new = Hands old t new.rest
    × (new ≡ record old { rest = new.rest; divides = divides_after (tok t.value) })
Lexes old (Ok None) new = Gap old.rest [] × (new ≡ record old { rest = [] })
Lexes old (Err e) new = FailsBy old e × (new ≡ record old { last_refusal = Some e })

abbrev pub Refuses : Result (Option Token) SyntaxRefusal → SyntaxRefusal → Type 0
Refuses (Ok token) e = ⊥
Refuses (Err f) e = f ≡ e
