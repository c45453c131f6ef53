use Rattle.pawk_ere_automaton.specs.Members.{members_of}
use Rattle.std.proofs.Common.{◌↔◌, ℕ, Bool, false, IsTrue, List, Result, Ok, Err, IfOk, IfSome, subst, sym}
use Rattle.std.specs.declared.alloc.AllocError.{AllocError}
use Rattle.pawk_ere.specs.Answers.{IsFor}
use Rattle.pawk_ere_syntax.specs.Pattern.{Pattern, Matches, HasMatch, NoneFrom}
use Rattle.pawk_ere.specs.Runs.{IsRun, IsTurns}
use Rattle.pawk_ere.specs.Words.{IsPrefilter}
use Rattle.pawk_ere_syntax.specs.Sets.{IsOnlyMember}
use Rattle.pawk_ere_automaton.specs.declared.members.Members.{Members}
use Rattle.pawk_ere_automaton.specs.Regex.{Regex, Takes}
use Rattle.pawk_ere_automaton.specs.Tree.{regex_of}
use Rattle.pawk_ere_automaton.proofs.Leftmost.{match_map}
use Rattle.pawk_ere.proofs.Needed.{none_filtered}
use Rattle.pawk_ere.proofs.matcher.Matcher.is_match.Goals as goal

answers : (r : Result Bool AllocError) (e : Pattern) (own : Regex) (text : List ℕ) (start : ℕ) → IsFor e own → IfOk r (λ told. IsTrue told ↔ HasMatch (Takes own text) start) → IfOk r (λ told. IsTrue told ↔ HasMatch (Matches e text) start)
answers (Ok told) e own text start for h = match_map (Takes own text) (Matches e text) start told (for.same text) h
answers (Err why) e own text start for h = tt

-- nothing is reported where there is no match
no_match : (R : ℕ → ℕ → Type 0) (start : ℕ) → NoneFrom R start → IsTrue false ↔ HasMatch R start
no_match R start none = (λ h. cc, λ m. absurd (none m.0 m.1 m.2 m.3))

pub returns-in-Literal-clause-answer : goal.returns-in-Literal-clause-answer
returns-in-Literal-clause-answer c = λ e for.
    match_map (Takes (regex_of c.self.inside.node) c.args.text.now) (Matches e c.args.text.now) c.args.from c.has_literal.result ((subst (λ n. IsFor e n) (sym c.self.view_is) for).same c.args.text.now)
    (c.has_literal.ensures (regex_of c.self.inside.node) (subst (IsPrefilter (regex_of c.self.inside.node)) c.in-Literal.is c.self.invariant.tells))

pub returns-then-lacks_words-clause-answer : goal.returns-then-lacks_words-clause-answer
returns-then-lacks_words-clause-answer c = λ e for.
    match_map (Takes (regex_of c.self.inside.node) c.args.text.now) (Matches e c.args.text.now) c.args.from false ((subst (λ n. IsFor e n) (sym c.self.view_is) for).same c.args.text.now)
    (no_match (Takes (regex_of c.self.inside.node) c.args.text.now) c.args.from
    (none_filtered (regex_of c.self.inside.node) c.args.text.now c.args.from c.self.inside.prefilter _ c.deref-then-from-eq0.result.now c.if-from-eq0.true c.in-Words.is c.deref-then-from-eq0.ensures.value c.self.invariant.tells (c.lacks_words.ensures.some c.if-lacks_words.true) (c.lacks_words.ensures.none c.if-lacks_words.true)))

pub returns-clause-answer : goal.returns-clause-answer
returns-clause-answer c = λ e for.
    answers c.has_match.result e (regex_of c.self.inside.node) c.args.text.now c.args.from (subst (λ n. IsFor e n) (sym c.self.view_is) for) c.has_match.ensures.told

pub has_run-requires-clause-some : goal.has_run-requires-clause-some
has_run-requires-clause-some c =
    let tells = subst (IsPrefilter (regex_of c.self.inside.node)) c.in-Run.is c.self.invariant.tells in tells.1

pub returns-in-Run-clause-answer : goal.returns-in-Run-clause-answer
returns-in-Run-clause-answer c = λ e for.
    let tells = subst (IsPrefilter (regex_of c.self.inside.node)) c.in-Run.is c.self.invariant.tells in
    match_map (Takes (regex_of c.self.inside.node) c.args.text.now) (Matches e c.args.text.now) c.args.from c.has_run.result ((subst (λ n. IsFor e n) (sym c.self.view_is) for).same c.args.text.now)
    (c.has_run.ensures (regex_of c.self.inside.node) (subst (λ (set : Members). IsRun (regex_of c.self.inside.node) (members_of set) c.in-Run.count) (sym c.deref.ensures) tells.0))

pub has_turns-requires-clause-only : goal.has_turns-requires-clause-only
has_turns-requires-clause-only c =
    let tells = subst (IsPrefilter (regex_of c.self.inside.node)) c.in-Turns.is c.self.invariant.tells in
    subst (λ (set : Members). IfSome c.in-Turns.only (λ byte. IsOnlyMember (members_of set) byte)) (sym c.deref-in-Turns.ensures) tells.1

pub returns-in-Turns-clause-answer : goal.returns-in-Turns-clause-answer
returns-in-Turns-clause-answer c = λ e for.
    let tells = subst (IsPrefilter (regex_of c.self.inside.node)) c.in-Turns.is c.self.invariant.tells in
    match_map (Takes (regex_of c.self.inside.node) c.args.text.now) (Matches e c.args.text.now) c.args.from c.has_turns.result ((subst (λ n. IsFor e n) (sym c.self.view_is) for).same c.args.text.now)
    (c.has_turns.ensures (regex_of c.self.inside.node) (subst (λ (set : Members). IsTurns (regex_of c.self.inside.node) (members_of set)) (sym c.deref-in-Turns.ensures) tells.0))
