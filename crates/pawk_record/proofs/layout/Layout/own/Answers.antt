use Rattle.std.proofs.Common.{◌≡◌, ◌++◌, ◌∙◌, ap, refl, sym, subst, List, [], ◌∷◌, ℕ, length, arith, eqb-true, vec_len}
use Rattle.std.specs.declared.ops.Range.{Range}
use Rattle.pawk_record.specs.declared.layout.Kind.{Kind}
use Rattle.pawk_record.specs.Lines.{AreJoined, IsLaidOut, line_of, values_of}
use Rattle.pawk_record.proofs.JoinLemmas.{outside_laid, own_values}
use Rattle.pawk_record.proofs.layout.Layout.own.Goals as goal

no_kinds : (ks : List Kind) → length ks ≡ 0 → ks ≡ []
no_kinds [] h = refl
no_kinds (k ∷ ks) h = absurd (omega arith)

pub returns-clause-fields : goal.returns-clause-fields
returns-clause-fields c =
    let old = c.args.self.now in
    let lent = c.args.lent.now in
    let new = c.set_joined.new.self in
    let size = eqb-true (vec_len old.kinds) 0 (sym c.is_empty.ensures ∙ c.if-not-is_empty.false) in
    let none : old.kinds.items ≡ [] = no_kinds old.kinds.items (omega (arith, size, old.kinds.ok.0)) in
    own_values lent old.ranges.items new.text.items (line_of c.args.is_own old.text.items lent) new.ranges.items new.kinds.items old.kinds.items
    (c.set_joined.ensures.text ∙ c.set_outside.ensures.text ∙ c.in_ok-extend_from_slice.ensures.items ∙ ap (λ s. s ++ lent) c.clear.ensures.items)
    (c.set_joined.ensures.ranges ∙ c.set_outside.ensures.ranges)
    (c.set_joined.ensures.kinds ∙ c.in_ok-set_outside.ensures.kinds)
    (ap (λ b. line_of b old.text.items lent) c.if-is_own.false)
    none

pub returns-clause-joined : goal.returns-clause-joined
returns-clause-joined c = λ _.
    let old = c.args.self.now in
    let lent = c.args.lent.now in
    let new = c.set_joined.new.self in
    let are : AreJoined c.args.ofs.now lent old.ranges.items = subst (λ (rs : List (Range ℕ)). AreJoined c.args.ofs.now lent rs) c.as_slice.ensures.value (c.are_joined.ensures c.if-not-are_joined.false) in
    let laid = outside_laid c.args.ofs.now lent old.ranges.items new are
    (c.set_joined.ensures.text ∙ c.set_outside.ensures.text ∙ c.in_ok-extend_from_slice.ensures.items ∙ ap (λ s. s ++ lent) c.clear.ensures.items)
    (c.set_joined.ensures.ranges ∙ c.set_outside.ensures.ranges)
    (c.set_joined.ensures.kinds ∙ c.in_ok-set_outside.ensures.kinds) in
    record { laid = subst (λ (ofs : List ℕ). IsLaidOut ofs (values_of new) new) (sym c.in_ok-set_joined.ensures.joined.1) laid }
