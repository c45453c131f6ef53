use Rattle.std.proofs.Common.{◌≡◌, ◌+◌, ◌*◌, false, get_or, ap, ◌∙◌, sym, arith}
use Rattle.std.specs.Prelude.{◌/◌, ◌%◌}
use Rattle.std.proofs.lemmas.List.FromFn.{fill_by_all}
use Rattle.pawk_ere_automaton.specs.Members.{bit_at, members_of}
use Rattle.pawk_ere_automaton.proofs.members.Members.of.Goals as goal

pub returns : goal.returns
unfolding members_of
returns c =
    let i = c.loop-place.invariant in
    sym (fill_by_all (bit_at c.loop-place.octets) c.args.set.members 256 false i.all (λ k lt.
    let is : k ≡ 8 * (k / 8) + k % 8 = omega arith in
    ap (λ n. get_or c.args.set.members n false) is ∙ sym (i.same (k / 8) (k % 8) (omega arith) (omega arith))))
