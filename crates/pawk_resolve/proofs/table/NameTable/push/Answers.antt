use Rattle.std.proofs.Common.{◌≡◌, ◌++◌, ◌∷◌, [], cond, Some, length, true, false, rules, is_ok}
use Rattle.std.specs.Prelude.{is_some}
use Rattle.std.specs.Str.{bytes_eq}
use Rattle.std.proofs.lemmas.Map.Text.{btree_map_updates_str}
use Rattle.pawk_lex.specs.Bytes.{Text}
use Rattle.pawk_resolve.specs.Tables.{found}
use Rattle.pawk_resolve.proofs.Places.{again_numbered, more_numbered}
use Rattle.pawk_resolve.proofs.table.NameTable.push.Goals as goal

pub invariant_of-self : goal.invariant_of-self
invariant_of-self c =
    let m = c.args.self.now.map in
    let there : is_some (found m c.args.name.now) ≡ true = search rules in
    record { numbered = again_numbered (is_ok c.push.result) _ _ c.args.name m c.args.self.now.numbered there c.push.ensures.items }

pub invariant_of-self-2 : goal.invariant_of-self-2
invariant_of-self-2 c =
    let m = c.args.self.now.map in
    let ys = c.args.self.now.names.items in
    let absent : is_some (found m c.args.name.now) ≡ false = search rules in
    let more : c.push-2.new.self.items ≡ ys ++ c.args.name ∷ [] = search rules in
    let count : c.len-number.result ≡ length ys = search rules in
    let updated : (x : Text) → found c.insert.new.self x ≡ cond (bytes_eq c.args.name.now x) (Some (length ys)) (found m x) =
    λ x. rw (← count) (btree_map_updates_str c.args.name.now m c.insert.new.self _ c.in_ok-insert.ensures.updates x) in
    record { numbered = more_numbered ys _ c.args.name m c.insert.new.self c.args.self.now.numbered absent more updated }
