use Rattle.std.proofs.Common.{◌≡◌, ℕ, ◌+◌, ◌<◌, ◌≤◌, Option, Some, None, MatchOption, length, ⊎_elim, subst, arith}
use Rattle.std.proofs.lemmas.Bool.{cases_lt}
use Rattle.pawk_ere_syntax.specs.Pattern.{IsLongest, MayStart, NoneFrom, StartsNone}
use Rattle.pawk_ere_automaton.specs.Regex.{Takes}
use Rattle.pawk_ere_automaton.specs.Tree.{regex_of}
use Rattle.pawk_ere_automaton.proofs.Leftmost.{none_beyond, found_none, found_first}
use Rattle.pawk_ere_automaton.proofs.scan.search_on.Goals as goal

-- one start more is ruled out
none_more : (R : ℕ → ℕ → Type 0) (from start : ℕ) → ((k : ℕ) → from ≤ k → k < start → StartsNone R k) → (o : Option ℕ) → o ≡ None → MatchOption o (StartsNone R start) (IsLongest R start) → (k : ℕ) → from ≤ k → k < start + 1 → StartsNone R k
none_more R from start h o is m k ge lt = ⊎_elim {B = start ≤ k}
    (λ x. h k ge x)
    (λ x. let here : start ≡ k = omega arith in subst (StartsNone R) here (subst (λ p. MatchOption p (StartsNone R start) (IsLongest R start)) is m))
    (cases_lt k start)

-- what is known of a walk for all starts at once
abbrev StartsAt : (ℕ → ℕ → Type 0) → ℕ → ℕ → ℕ × ℕ → Type 0
StartsAt R from n x = MayStart R from x.0 × (x.0 ≤ x.1) × (x.1 ≤ n)

may_start : (R : ℕ → ℕ → Type 0) (from n : ℕ) (o : Option (ℕ × ℕ)) (x : ℕ × ℕ) → o ≡ Some x → MatchOption o (NoneFrom R from) (StartsAt R from n) → StartsAt R from n x
may_start R from n o x is m = subst (λ p. MatchOption p (NoneFrom R from) (StartsAt R from n)) is m

longest_at : (R : ℕ → ℕ → Type 0) (start : ℕ) (o : Option ℕ) (end : ℕ) → o ≡ Some end → MatchOption o (StartsNone R start) (IsLongest R start) → IsLongest R start end
longest_at R start o end is m = subst (λ p. MatchOption p (StartsNone R start) (IsLongest R start)) is m

pub loop-start-preserved : goal.loop-start-preserved
loop-start-preserved c = record {
  table = c.in_ok-end-2.ensures.table;
  misses = c.in_ok-end-2.ensures.misses;
  none = none_more (Takes (regex_of c.args.node.now) c.args.text.now) c.args.from c.loop-start.start c.loop-start.invariant.none _ c.in-None-2.is c.in_ok-end-2.ensures.longest;
}

pub returns-clause-found : goal.returns-clause-found
returns-clause-found c =
    found_none (regex_of c.args.node.now) c.args.text.now c.args.from
    (none_beyond (regex_of c.args.node.now) c.args.text.now c.args.from c.requires.within (λ k ge lt. c.loop-start.invariant.none k ge (omega arith)))

pub returns-in-Some-2-clause-found : goal.returns-in-Some-2-clause-found
returns-in-Some-2-clause-found c =
    let e = regex_of c.args.node.now in
    let s = c.args.text.now in
    let ends = c.in-Some.ends in
    let start : StartsAt (Takes e s) c.args.from (length s) ends = may_start (Takes e s) c.args.from (length s) _ ends c.in-Some.is c.in_ok-first_start.ensures.start in
    let best : IsLongest (Takes e s) ends.0 c.in-Some-2.end = longest_at (Takes e s) ends.0 _ c.in-Some-2.end c.in-Some-2.is c.in_ok-end.ensures.longest in
    found_first e s c.args.from ends.0 c.in-Some-2.end start.0.after start.0.none_before best
