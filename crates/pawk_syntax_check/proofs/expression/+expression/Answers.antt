use Rattle.std.proofs.Common.{rules, [], ◌∷◌, length, refl}
use Rattle.pawk_syntax_tree.specs.Tree.{trees, views}
use Rattle.pawk_syntax_check.specs.Mentions.{array, call, builtin, plain, of_call, of_builtin, inside_all}
use Rattle.pawk_syntax_check.specs.Views.{seen}
use Rattle.pawk_syntax_check.proofs.Lists.{after, count_is}
use Rattle.pawk_syntax_check.proofs.Shapes.{view-Call, view-Builtin, view-Element, view-Member}
use Rattle.pawk_syntax_check.proofs.expression.+expression.Goals as goal

pub inside-returns-in_ok-mention-in-Call : goal.inside-returns-in_ok-mention-in-Call
inside-returns-in_ok-mention-in-Call t c =
    let f = c.in-Call.name in
    let as' = c.in-Call.arguments in
    after _ _ (seen c.args.mentions.now) (seen c.mention-in-Call.new.mentions) _ (call f.text.items (length as'.items) ∷ []) (inside_all (of_call f.text.items) 0 (trees (views as'.items))) (search rules) (search rules) (rw (c.in-Call.is, view-Call f as', count_is as'.items) refl)

pub inside-returns-in_ok-mention-in-Builtin : goal.inside-returns-in_ok-mention-in-Builtin
inside-returns-in_ok-mention-in-Builtin t c =
    let f = c.in-Builtin.function in
    let as' = c.in-Builtin.arguments in
    after _ _ (seen c.args.mentions.now) (seen c.mention-in-Builtin.new.mentions) _ (builtin f (trees (views as'.items)) ∷ []) (inside_all (of_builtin f) 0 (trees (views as'.items))) (search rules) (search rules) (rw (c.in-Builtin.is, view-Builtin f c.in-Builtin.start as') refl)

pub inside-returns-in_ok-mention-in-Element : goal.inside-returns-in_ok-mention-in-Element
inside-returns-in_ok-mention-in-Element t c =
    let x = c.in-Element.name in
    let as' = c.in-Element.keys in
    after _ _ (seen c.args.mentions.now) (seen c.mention.new.mentions) _ (array x.text.items ∷ []) (inside_all plain 0 (trees (views as'.items))) (search rules) (search rules) (rw (c.in-Element.is, view-Element x as') refl)

pub inside-returns-in_ok-mention-in-Member : goal.inside-returns-in_ok-mention-in-Member
inside-returns-in_ok-mention-in-Member t c =
    let x = c.in-Member.name in
    let as' = c.in-Member.keys in
    after _ _ (seen c.args.mentions.now) (seen c.mention-in-Member.new.mentions) _ (array x.text.items ∷ []) (inside_all plain 0 (trees (views as'.items))) (search rules) (search rules) (rw (c.in-Member.is, view-Member as' x) refl)
