use Rattle.std.proofs.Common.{◌≡◌, ◌∷◌, [], ◌++◌, true, false, rules}
use Rattle.std.specs.Prelude.{is_some}
use Rattle.pawk_syntax_check.specs.Views.{mention_view}
use Rattle.pawk_resolve.specs.Slots.{place}
use Rattle.pawk_resolve.specs.Tables.{texts}
use Rattle.pawk_resolve.specs.ScopeViews.{table_names}
use Rattle.pawk_resolve.specs.ResolvedPrograms.{mentioned}
use Rattle.pawk_resolve_program.proofs.Among.{kept, left_out}
use Rattle.pawk_resolve_program.proofs.names.add_mention.Goals as goal

pub returns-in_ok-push : goal.returns-in_ok-push
returns-in_ok-push c =
    let ps = table_names c.args.parameters.now in
    let x = c.in-Some.name.now.text.items in
    let one : mentioned (mention_view c.args.mention) ≡ x ∷ [] = search rules in
    let absent : is_some (place ps x) ≡ false = search rules in
    let more : c.push.new.self.items ≡ c.args.names.now.items ++ c.as_slice-then-is_none.result ∷ [] = search rules in
    let text : c.as_slice-then-is_none.result.now ≡ x = search rules in
    kept ps x _ c.args.names.now.items _ c.as_slice-then-is_none.result one absent more text

pub returns-else-is_none : goal.returns-else-is_none
returns-else-is_none c =
    let ps = table_names c.args.parameters.now in
    let x = c.in-Some.name.now.text.items in
    let one : mentioned (mention_view c.args.mention) ≡ x ∷ [] = search rules in
    let there : is_some (place ps x) ≡ true = search rules in
    left_out ps x _ (texts c.args.names.now.items) one there
