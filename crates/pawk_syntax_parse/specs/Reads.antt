-- What a function that reads ensures: the outcome that the definitions compute, unless memory fails.
use Rattle.std.specs.Prelude.{◌≡◌, ◌≢◌, ◌<◌, ℕ, List, map, Some, None, Result, Ok, Err}
use Rattle.pawk_lex.specs.declared.refusal.SyntaxRefusal.{SyntaxRefusal}
use Rattle.pawk_lex.specs.declared.refusal.SyntaxRefusal.TheVariants.{Memory}
use Rattle.pawk_lex.specs.Tokens.{Tok, tok}
use Rattle.pawk_syntax_parse.specs.declared.cursor.Cursor.{Cursor}
use Rattle.pawk_syntax_parse.specs.declared.phrase.Phrase.{Phrase}
use Rattle.pawk_syntax_parse.specs.declared.phrase.Phrases.{Phrases}
use Rattle.pawk_syntax_tree.specs.Tree.{Tree, view, views}
use Rattle.pawk_syntax_tree.specs.Parse.{Outcome}

abbrev pub input : Cursor → List Tok
input c = map (λ t. tok t.value) c.rest.now

abbrev pub nothing : Unit {0} → Unit {0}
nothing x = x

abbrev pub Gives : {X A : Type 0} → (X → A) → Outcome A → Result X SyntaxRefusal → List Tok → Type 0
Gives seen outcome (Ok x) new = outcome ≡ Some (seen x, new)
Gives seen outcome (Err e) new = e ≢ Memory → outcome ≡ None

-- the tree of a phrase
abbrev pub tree_of : Phrase → Tree
tree_of p = view p.expr

abbrev pub trees_of : Phrases → List Tree
trees_of ps = views ps.list.items

-- an operand with its level
abbrev pub operand_of : Phrase × ℕ → Tree × ℕ
operand_of o = (tree_of o.0, o.1)

-- an operand that was found has a level below this
abbrev pub IsBelow : ℕ → Outcome (Tree × ℕ) → Type 0
IsBelow least (Some p) = p.0.1 < least
IsBelow least None = Unit {0}

-- an operand; or none of this level or a tighter one, unless memory fails
abbrev pub GivesFrom : ℕ → Outcome (Tree × ℕ) → Result (Phrase × ℕ) SyntaxRefusal → List Tok → Type 0
GivesFrom least outcome (Ok o) new = outcome ≡ Some (operand_of o, new)
GivesFrom least outcome (Err e) new = e ≢ Memory → IsBelow least outcome
