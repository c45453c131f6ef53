use Rattle.std.proofs.Common.{◌≡◌, ◌++◌, ◌∷◌, [], rules, append_assoc, refl, true}
use Rattle.pawk_syntax_tree.specs.Tree.{trees, view, views}
use Rattle.pawk_syntax_tree.specs.Statement.{option_view}
use Rattle.pawk_syntax_tree.specs.Item.{seen as statements_seen}
use Rattle.pawk_syntax_check.specs.Mentions.{target, array, return, of_value, of_values, of_option, of_body}
use Rattle.pawk_syntax_check.specs.Views.{seen}
use Rattle.pawk_syntax_check.proofs.Lists.{after}
use Rattle.pawk_syntax_check.proofs.Shapes.{view-IfElse, view-For, view-ForIn, view-Return, view-Delete}
use Rattle.pawk_syntax_check.proofs.statement.+statement.Goals as goal

pub statement-returns-in_ok-guarded-in-IfElse : goal.statement-returns-in_ok-guarded-in-IfElse
statement-returns-in_ok-guarded-in-IfElse t c =
    let in_loop = c.args.in_loop in
    let arm = c.in-IfElse in
    let front = of_value (view arm.e) ++ of_body in_loop (statements_seen arm.a.items) in
    after _ _ (seen c.args.mentions.now) (seen c.guarded-in-IfElse.new.mentions) _ front (of_body in_loop (statements_seen arm.b.items)) (search rules) (search rules) (rw (arm.is, view-IfElse arm.e arm.a arm.b) refl)

pub statement-returns-in_ok-option-in-For-3 : goal.statement-returns-in_ok-option-in-For-3
statement-returns-in_ok-option-in-For-3 t c =
    let arm = c.in-For in
    let front = of_option (option_view arm.a) ++ of_option (option_view arm.b) ++ of_option (option_view arm.c) in
    let heads : seen c.option-in-For-2.new.mentions ≡ seen c.args.mentions.now ++ front =
    rw (c.in_ok-option-in-For-3.ensures, c.in_ok-option-in-For-2.ensures, c.in_ok-option-in-For.ensures) (simp append_assoc) in
    after _ _ (seen c.args.mentions.now) (seen c.option-in-For-2.new.mentions) _ front (of_body true (statements_seen arm.turn.items)) (search rules) heads (rw (arm.is, view-For arm.a arm.b arm.c arm.turn) refl)

pub statement-returns-in_ok-mention-in-ForIn-2 : goal.statement-returns-in_ok-mention-in-ForIn-2
statement-returns-in_ok-mention-in-ForIn-2 t c =
    let arm = c.in-ForIn in
    let front = target arm.key.text.items ∷ array arm.array.text.items ∷ [] in
    let heads : seen c.mention-in-ForIn.new.mentions ≡ seen c.args.mentions.now ++ front =
    rw (c.in_ok-mention-in-ForIn-2.ensures, c.in_ok-mention-in-ForIn.ensures) (simp append_assoc) in
    after _ _ (seen c.args.mentions.now) (seen c.mention-in-ForIn.new.mentions) _ front (of_body true (statements_seen arm.turn.items)) (search rules) heads (rw (arm.is, view-ForIn arm.key arm.array arm.turn) refl)

pub statement-returns-in_ok-mention-in-Return : goal.statement-returns-in_ok-mention-in-Return
statement-returns-in_ok-mention-in-Return t c =
    let arm = c.in-Return in
    after _ _ (seen c.args.mentions.now) (seen c.mention-in-Return.new.mentions) _ (return ∷ []) (of_option (option_view arm.e)) (search rules) (search rules) (rw (arm.is, view-Return arm.e arm.start) refl)

pub statement-returns-in_ok-mention-in-Delete : goal.statement-returns-in_ok-mention-in-Delete
statement-returns-in_ok-mention-in-Delete t c =
    let arm = c.in-Delete in
    after _ _ (seen c.args.mentions.now) (seen c.mention-in-Delete.new.mentions) _ (array arm.array.text.items ∷ []) (of_values (trees (views arm.keys.items))) (search rules) (search rules) (rw (arm.is, view-Delete arm.array arm.keys) refl)
