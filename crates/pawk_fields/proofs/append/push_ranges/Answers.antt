use Rattle.std.proofs.Common.{rules, arith, subst, sym, ◌∙◌, refl}
use Rattle.std.proofs.lemmas.Grind.{common_steps}
use Rattle.pawk_fields.proofs.WalkLemmas.{adds_none, adds_one, adds_all, needed_before}
use Rattle.pawk_fields.proofs.append.push_ranges.Goals as goal

pub loop-misses-init : goal.loop-misses-init
loop-misses-init g c = record {
  adds = adds_none c.args.fields c.args.ranges.now.items;
  front = grind (arith, common_steps);
  long = search rules;
  needs = λ h. h;
  pattern = search rules;
  text = search rules;
  finder = refl;
  misses = c.no_misses-misses.ensures c.args.fields.text;
}

pub loop-misses-preserved : goal.loop-misses-preserved
loop-misses-preserved g c =
    let i = c.loop-misses.invariant in
    let nearer = rw c.in-Some.is at c.in_ok-field.ensures.nearer in
    let step = rw c.in-Some.is at c.in_ok-field.ensures.field in
    record {
      adds = adds_one c.args.fields c.loop-misses.fields c.next_range.new.self c.args.ranges.now.items c.loop-misses.ranges.items c.push.new.self.items c.in-Some.field i.adds step c.in_ok-push.ensures.items;
      front = grind (arith, common_steps, i.front, i.long, c.in_ok-push.ensures.items);
      long = omega (arith, i.long, c.in_ok-push.ensures.len);
      needs = λ h. i.needs (needed_before c.loop-misses.fields c.next_range.new.self nearer);
      pattern = search rules;
      text = search rules;
      finder = c.in_ok-field.ensures.finder ∙ i.finder;
      misses = subst (λ f. g.F.Finder.are_misses f c.args.fields.text c.next_range.new.misses) i.finder
          (subst (λ t. g.F.Finder.are_misses c.loop-misses.finder t c.next_range.new.misses) i.text c.in_ok-field.ensures.misses);
    }

pub next_range-requires : goal.next_range-requires
next_range-requires g c =
    let i = c.loop-misses.invariant in
    record {
      ready = λ needs. subst (λ f. g.F.Finder.answers_for f c.loop-misses.fields.pattern) (sym i.finder) (subst (g.F.Finder.answers_for c.args.finder.now) (sym i.pattern) (c.requires.ready (i.needs needs)));
      misses = subst (λ f. g.F.Finder.are_misses f c.loop-misses.fields.text c.loop-misses.misses) (sym i.finder)
          (subst (λ t. g.F.Finder.are_misses c.args.finder.now t c.loop-misses.misses) (sym i.text) i.misses);
    }

pub returns-clause-added : goal.returns-clause-added
returns-clause-added g c = adds_all c.args.fields c.loop-misses.fields c.args.ranges.now.items c.loop-misses.ranges.items c.loop-misses.invariant.adds (rw c.in_default.is at c.in_ok-field.ensures.field)
