use Rattle.std.proofs.Common.{arith, ◌∙◌, subst}
use Rattle.pawk_fields.proofs.BetweenLemmas.{next_found, next_none_at_end, none_here, place_here}
use Rattle.pawk_fields.proofs.finder.next_match.Goals as goal

pub returns-then-start-end-clause-found : goal.returns-then-start-end-clause-found
returns-then-start-end-clause-found g c =
    let answer = rw c.in-Some.is at c.in_ok-find_next_match.ensures.answer in
    let i = c.loop-start.invariant in
    next_found c.args.pattern.now c.args.text.now c.args.from c.loop-start.place i.after i.none c.in-Some.start c.in-Some.end answer c.if-start-end.true

pub returns-then-start-text-clause-found : goal.returns-then-start-text-clause-found
returns-then-start-text-clause-found g c =
    let answer = rw c.in-Some.is at c.in_ok-find_next_match.ensures.answer in
    let i = c.loop-start.invariant in
    next_none_at_end c.args.pattern.now c.args.text.now c.args.from c.loop-start.place i.after i.none c.in-Some.start c.in-Some.end answer c.if-start-end.false c.if-start-text.true

pub loop-start-smaller : goal.loop-start-smaller
loop-start-smaller g c =
    let answer = rw c.in-Some.is at c.in_ok-find_next_match.ensures.answer in
    let i = c.loop-start.invariant in
    let low = place_here c.args.pattern.now c.args.text.now c.args.from c.loop-start.place i.after i.none c.in-Some.start c.in-Some.end answer in
    omega (arith, low)

pub loop-start-preserved : goal.loop-start-preserved
loop-start-preserved g c =
    let answer = rw c.in-Some.is at c.in_ok-find_next_match.ensures.answer in
    let i = c.loop-start.invariant in
    let low = place_here c.args.pattern.now c.args.text.now c.args.from c.loop-start.place i.after i.none c.in-Some.start c.in-Some.end answer in
    record {
      after = omega (arith, low);
      within = omega arith;
      none = none_here c.args.pattern.now c.args.text.now c.args.from c.loop-start.place i.after i.none c.in-Some.start c.in-Some.end answer c.if-start-end.false;
      finder = c.in_ok-find_next_match.ensures.same ∙ i.finder;
      misses = subst (λ f. g.F.Finder.are_misses f c.args.text.now c.find_next_match.new.misses) i.finder c.in_ok-find_next_match.ensures.misses;
    }
