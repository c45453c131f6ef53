use Rattle.std.proofs.Common.{ℕ, List, false, subst}
use Rattle.std.specs.declared.ops.Range.{Range}
use Rattle.pawk_fields.specs.FieldsOf.{AddsBetween}
use Rattle.pawk_builtins.proofs.SplitLemmas.{between_of, between_inside}
use Rattle.pawk_builtins.proofs.between.split_with.Goals as goal

pub returns-clause-pieces : goal.returns-clause-pieces
returns-clause-pieces c =
    let ere = c.args.ere.now in
    let text = c.args.text.now in
    let ranges = c.append_between.new.ranges.items in
    let adds = subst (λ (old : List (Range ℕ)). AddsBetween ere false text old ranges) c.in_ok-ranges.ensures.items c.in_ok-append_between.ensures.added in
    between_of ere text c.requires.pattern ranges adds c.requires.spelled

pub returns-clause-inside : goal.returns-clause-inside
returns-clause-inside c =
    let ere = c.args.ere.now in
    let text = c.args.text.now in
    let ranges = c.append_between.new.ranges.items in
    let adds = subst (λ (old : List (Range ℕ)). AddsBetween ere false text old ranges) c.in_ok-ranges.ensures.items c.in_ok-append_between.ensures.added in
    between_inside ere text ranges adds
