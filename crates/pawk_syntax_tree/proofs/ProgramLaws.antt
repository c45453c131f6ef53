-- Both directions, for a program.
use Rattle.std.proofs.Common.{◌≡◌, List, [], Some}
use Rattle.pawk_lex.specs.Tokens.{Tok}
use Rattle.pawk_syntax_tree.proofs.Tokens.{OnFound}
use Rattle.pawk_syntax_tree.specs.Item.{Part, AreLow}
use Rattle.pawk_syntax_tree.specs.ItemGrammar.{Programs}
use Rattle.pawk_syntax_tree.specs.ItemCanonical.{canon_program}
use Rattle.pawk_syntax_tree.specs.ItemParse.{program}
use Rattle.pawk_syntax_tree.proofs.ItemSound.{sound_program}
use Rattle.pawk_syntax_tree.proofs.ItemKept.{program_kept}
use Rattle.pawk_syntax_tree.proofs.ItemAgain.{program_again}

pub read_is_derived : (ts rest : List Tok) (xs : List Part) → program ts ≡ Some (xs, rest) → Programs ts xs × (rest ≡ [])
read_is_derived ts rest xs e =
    let found : OnFound (λ ys stop. Programs ts ys × (stop ≡ [])) (Some (xs, rest)) = rw e at (sound_program ts) in
    found

pub derived_is_read : (ts : List Tok) (xs : List Part) → Programs ts xs → AreLow xs → program (canon_program xs) ≡ Some (xs, [])
derived_is_read ts xs d low = program_again xs (program_kept d) low
