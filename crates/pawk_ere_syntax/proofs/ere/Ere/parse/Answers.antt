use Rattle.std.proofs.Common.{inl, refl, arith}
use Rattle.pawk_ere_syntax.proofs.Refused.{is_empty_of}
use Rattle.pawk_ere_syntax.proofs.ere.Ere.parse.Goals as goal

-- an empty text spells the empty expression
pub returns-then-is_empty-clause-found : goal.returns-then-is_empty-clause-found
returns-then-is_empty-clause-found c =
    record { tokens = is_empty_of c.args.text.now c.is_empty.result c.is_empty.ensures c.if-is_empty.true; form = inl refl; small = omega arith }
