-- Lists of demands.
use Rattle.std.proofs.Common.{◌≡◌, ℕ, zero, suc, arith, ◌+◌, ◌<◌, List, [], ◌∷◌, ◌++◌, map, length, get_or, drop, refl, drop-cons, add-one}
use Rattle.std.specs.List.{All, list_any, flat_map}
use Rattle.std.specs.Str.{bytes_eq}
use Rattle.std.proofs.lemmas.List.Elements.{All-append}
use Rattle.pawk_lex.specs.Bytes.{Text}
use Rattle.pawk_lex.specs.Vocabulary.{is_among}
use Rattle.pawk_syntax_tree.specs.declared.tree.Name.{Name as CodeName}
use Rattle.pawk_syntax_tree.specs.declared.item.ProgramItem.{ProgramItem}
use Rattle.pawk_syntax_tree.specs.Item.{texts, part}
use Rattle.pawk_syntax_check.specs.Mentions.{of_part}
use Rattle.pawk_syntax_check.specs.declared.variables.Variables.{Variables}
use Rattle.pawk_syntax_check.specs.declared.demand.Demand.{Demand as Code}
use Rattle.pawk_syntax_check.specs.declared.demand.Demand.TheVariants as code
use Rattle.pawk_syntax_check.specs.Tables.{Extends}
use Rattle.pawk_syntax_check.specs.Demands.{demands_of, demands_from}
use Rattle.pawk_syntax_check.specs.DemandViews.{Speaks}

pub among_parameters : (w : Text) (ps : List CodeName) → is_among (texts ps) w ≡ list_any (λ p. bytes_eq w p.text.items) ps
among_parameters w [] = refl
among_parameters w (p ∷ ps) = rw (among_parameters w ps) refl

speaks_demand : (t n : Variables) → Extends t n → (d : Code) → Speaks t d → Speaks n d
speaks_demand t n e (code.Array v) h = e v h
speaks_demand t n e (code.Scalar v) h = e v h
speaks_demand t n e (code.Alike v w) h = (e v h.0, e w h.1)

pub speaks_on : (t n : Variables) (ds : List Code) → Extends t n → All (Speaks t) ds → All (Speaks n) ds
speaks_on t n ds e h = λ k d below. speaks_demand t n e (get_or ds k d) (h k d below)

single : (t : Variables) (d : Code) → Speaks t d → All (Speaks t) (d ∷ [])
single t d h zero d' below = h
single t d h (suc k) d' below = absurd (omega (arith, below))

pub one_more_demand : (t : Variables) (ds : List Code) (d : Code) → All (Speaks t) ds → Speaks t d → All (Speaks t) (ds ++ d ∷ [])
one_more_demand t ds d h s = All-append (Speaks t) ds (d ∷ []) h (single t d s)

pub one_more_item : (functions : _) (items : List ProgramItem) (i : ℕ) (d : ProgramItem) → i < length items →
    demands_from functions (i + 1) (map part (drop i items))
    ≡ flat_map (demands_of functions (i + 1) (part (get_or items i d))) (of_part (part (get_or items i d))) ++ demands_from functions (i + 1 + 1) (map part (drop (i + 1) items))
one_more_item functions items i d h = rw (drop-cons items i d, add-one (i + 1), add-one i) refl

pub flat_map-map : {X Y Z : Type 0} (f : Y → List Z) (g : X → Y) (xs : List X) → flat_map f (map g xs) ≡ flat_map (λ x. f (g x)) xs
flat_map-map f g [] = refl
flat_map-map f g (x ∷ xs) = rw (flat_map-map f g xs) refl
