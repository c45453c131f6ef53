-- Names among others.
use Rattle.std.proofs.Common.{◌≡◌, List, [], ◌∷◌, refl}
use Rattle.std.specs.List.{list_any}
use Rattle.std.specs.Str.{bytes_eq}
use Rattle.pawk_lex.specs.Bytes.{Text}
use Rattle.pawk_lex.specs.Vocabulary as vocabulary
use Rattle.pawk_syntax_tree.specs.declared.tree.Name.{Name}
use Rattle.pawk_syntax_tree.specs.Item.{texts}

pub among_names : (w : Text) (ps : List Name) → vocabulary.is_among (texts ps) w ≡ list_any (λ p. bytes_eq w p.text.items) ps
among_names w [] = refl
among_names w (p ∷ ps) = rw (among_names w ps) refl
