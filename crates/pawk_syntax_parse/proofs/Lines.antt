-- One step of passing over newlines.
use Rattle.std.proofs.Common.{◌≡◌, ◌<◌, true, false, List, [], ◌∷◌, length, drop, refl, arith}
use Rattle.pawk_lex.specs.declared.token.Mark.TheVariants.{Newline}
use Rattle.std.proofs.lemmas.Bool.{false≢true}
use Rattle.pawk_lex.specs.Tokens.{Tok}
use Rattle.pawk_syntax_tree.specs.Parse.{sees, skip_lines}

pub one_line : (ts : List Tok) → sees Newline ts ≡ true → skip_lines ts ≡ skip_lines (drop 1 ts)
unfolding skip_lines
one_line [] e = refl
one_line (x ∷ ts) e = rw e refl

pub shorter : (ts : List Tok) → sees Newline ts ≡ true → length (drop 1 ts) < length ts
unfolding sees
shorter [] e = absurd (false≢true e)
shorter (x ∷ ts) e = omega arith

pub no_line_left : (ts : List Tok) → sees Newline ts ≡ false → skip_lines ts ≡ ts
unfolding skip_lines
no_line_left [] e = refl
no_line_left (x ∷ ts) e = rw e refl
