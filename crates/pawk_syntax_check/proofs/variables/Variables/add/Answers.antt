use Rattle.std.proofs.Common.{◌≡◌, cond, Some, length, rules}
use Rattle.pawk_syntax_check.specs.declared.variables.Variables.{Variables}
use Rattle.pawk_syntax_check.specs.Tables.{Name, number_of}
use Rattle.pawk_syntax_check.proofs.Numbering.{add_key, is_key}
use Rattle.pawk_syntax_check.proofs.variables.Variables.add.Goals as goal

pub returns-clause-table : goal.returns-clause-table
returns-clause-table c =
    let n : Variables = record { keys = c.push.new.self; map = c.insert.new.self } in
    let size : c.len-number.result ≡ length c.args.self.now.keys.items = search rules in
    let lookup : (v : Name) → number_of n v ≡ cond (is_key c.args.key v) (Some (length c.args.self.now.keys.items)) (number_of c.args.self.now v) =
    λ v. rw (← size) (c.in_ok-insert.ensures.updates.0 (record { scope = v.0; name = record { ref_ptr = (0, 0); now = v.1 } })) in
    add_key c.args.self.now n c.args.key c.requires.table c.in_ok-push.ensures.items lookup c.requires.new
