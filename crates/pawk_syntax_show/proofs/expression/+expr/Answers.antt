use Rattle.pawk_syntax_show.proofs.Keys.{few_keys, many_keys}
use Rattle.pawk_syntax_show.proofs.Operators.{binary_written}
use Rattle.pawk_syntax_show.proofs.expression.+expr.Goals as goal

pub append_keys-returns-then-keys-lt2 : goal.append_keys-returns-then-keys-lt2
append_keys-returns-then-keys-lt2 t c =
    few_keys c.append_between.result _ _ c.args.keys.now c.if-keys-lt2.true c.append_between.ensures

pub append_keys-returns-else-keys-lt2 : goal.append_keys-returns-else-keys-lt2
append_keys-returns-else-keys-lt2 t c =
    many_keys c.append_between-else-keys-lt2.result _ _ c.args.keys.now c.if-keys-lt2.false c.append_between-else-keys-lt2.ensures

pub append_expr-returns-in_ok-append_after-in-Binary : goal.append_expr-returns-in_ok-append_after-in-Binary
append_expr-returns-in_ok-append_after-in-Binary t c =
    binary_written c.append_around-in-Binary.result _ _ _ _ c.in-Binary.op c.args.expr.now _ _ c.in-Binary.left c.in-Binary.right
    c.in-Binary.is c.deref-in-Binary.ensures c.deref-in-Binary-2.ensures
    c.in_ok-append_after-in-Binary.ensures c.sign.ensures c.append_around-in-Binary.ensures
