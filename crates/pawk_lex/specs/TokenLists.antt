-- All tokens of a text.
use Rattle.std.specs.Prelude.{Bool, false, List, [], ◌∷◌, ◌++◌, length, map, Option, Some, None}
use Rattle.pawk_lex.specs.declared.token.Token.{Token}
use Rattle.pawk_lex.specs.declared.refusal.SyntaxRefusal.{SyntaxRefusal}
use Rattle.pawk_lex.specs.declared.refusal.SyntaxRefusal.TheVariants as refusal
use Rattle.pawk_lex.specs.declared.token_list.TokenList.{TokenList}
use Rattle.pawk_lex.specs.Bytes.{Text}
use Rattle.pawk_lex.specs.Tokens.{Tok, tok, divides_after}
use Rattle.pawk_lex.specs.Cut.{Takes, Cut}
use Rattle.pawk_lex.specs.Reads.{State, Fails}

-- the text is cut into these tokens, and then `rest` follows, at whose front a slash divides or not
pub data CutUpTo : Text → List Tok → Bool → Text → Type 0 where
  no_token : {text : Text} → CutUpTo text [] false text
  one_more : {text y rest : Text} {ts : List Tok} {divides : Bool} {t : Tok} →
      CutUpTo text ts divides y → Takes divides y t rest →
      CutUpTo text (ts ++ t ∷ []) (divides_after t) rest

-- the refusal is of the text, not of an allocation
abbrev pub RefusedBy : State → SyntaxRefusal → Type 0
RefusedBy old (refusal.At why place) = Fails old why place
RefusedBy old refusal.Memory = ⊥

-- the text is refused after these tokens
pub record IsRefused (text : Text) (ts : List Tok) (e : SyntaxRefusal) : Type 0 where
  pub divides : Bool
  pub rest : Text
  pub before : CutUpTo text ts divides rest
  pub fails : RefusedBy (record { size = length text; rest = rest; divides = divides; last_refusal = None }) e

abbrev pub values : List Token → List Tok
values = map (λ t. tok t.value)

abbrev pub EndsBy : Text → List Tok → Option SyntaxRefusal → Type 0
EndsBy text ts None = Cut text ts
EndsBy text ts (Some e) = IsRefused text ts e

abbrev pub IsTokenListOf : Text → TokenList → Type 0
IsTokenListOf text r = EndsBy text (values r.tokens.items) r.refusal
