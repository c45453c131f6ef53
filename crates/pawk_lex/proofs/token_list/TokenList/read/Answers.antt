use Rattle.std.proofs.Common.{sym, subst}
use Rattle.std.proofs.lemmas.List.{map-append}
use Rattle.pawk_lex.specs.Reads.{State}
use Rattle.pawk_lex.specs.TokenLists.{values}
use Rattle.pawk_lex.proofs.Readings.{IsGoing, sets_out, goes_on, hands_shorter, comes_to_end, comes_to_refusal, ends_whole}
use Rattle.pawk_lex.proofs.token_list.TokenList.read.Goals as goal

pub loop-token-init : goal.loop-token-init
loop-token-init c = rw (c.new-lexer.ensures, c.new-tokens.ensures.items) (sets_out c.args.text.now)

pub loop-token-smaller : goal.loop-token-smaller
loop-token-smaller c =
    let lexes = rw c.in-Ok-Some.field-0-is at (c.in-Ok-Some.ensures.reads c.loop-token.invariant.fresh) in
    hands_shorter _ _ _ lexes.0

pub loop-token-preserved : goal.loop-token-preserved
loop-token-preserved c =
    let lexes = rw c.in-Ok-Some.field-0-is at (c.in-Ok-Some.ensures.reads c.loop-token.invariant.fresh) in
    let going = goes_on _ _ _ _ _ c.loop-token.invariant lexes.0 in
    let P : State → Type 0 = λ v. IsGoing c.args.text.now (values c.push.new.self.items) v in
    subst P (sym lexes.1) (rw (c.in_ok-push-in-Ok-Some.ensures.items, map-append) going)

pub returns-in-Ok-None-clause-tokens : goal.returns-in-Ok-None-clause-tokens
returns-in-Ok-None-clause-tokens c =
    let lexes = rw c.in-Ok-None.field-0-is at (c.in-Ok-None.ensures.reads c.loop-token.invariant.fresh) in
    comes_to_end _ _ _ c.loop-token.invariant lexes.0

pub returns-in-Ok-None-clause-whole : goal.returns-in-Ok-None-clause-whole
returns-in-Ok-None-clause-whole c ts cut = ends_whole _ _ _ _ (returns-in-Ok-None-clause-tokens c) cut

pub returns-in-Err-At-clause-whole : goal.returns-in-Err-At-clause-whole
returns-in-Err-At-clause-whole c ts cut =
    let lexes = rw (c.in-Err-At.field-0-is, ← c.in-Err-At.cause-is, ← c.in-Err-At.place-is) at (c.in-Err-At.ensures.reads c.loop-token.invariant.fresh) in
    ends_whole _ _ _ _ (comes_to_refusal _ _ _ _ c.loop-token.invariant lexes.0) cut
