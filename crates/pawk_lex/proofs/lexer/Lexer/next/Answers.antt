use Rattle.std.proofs.Common.{refl, arith}
use Rattle.pawk_lex.proofs.Turns.{start_is, start_within, rest_within, hands, ends, refuses, tells, no_token_at_end, no_fault_at_end}
use Rattle.pawk_lex.proofs.lexer.Lexer.next.Goals as goal

pub overflow_sub-span : goal.overflow_sub-span
overflow_sub-span c = start_within _ _ _ c.skip-text.ensures c.args.self.now.within

pub overflow_sub-span-in-Ok-Some : goal.overflow_sub-span-in-Ok-Some
overflow_sub-span-in-Ok-Some c =
    let finding = rw c.in-Ok-Some.field-0-is at c.in-Ok-Some.ensures in
    rest_within _ _ _ _ _ _ c.skip-text.ensures finding c.args.self.now.within

pub invariant_of-self-in-Ok-Some : goal.invariant_of-self-in-Ok-Some
invariant_of-self-in-Ok-Some c =
    let finding = rw c.in-Ok-Some.field-0-is at c.in-Ok-Some.ensures in record {
      lexical = c.args.self.now.lexical;
      within = rest_within _ _ _ _ _ _ c.skip-text.ensures finding c.args.self.now.within;
      small = c.args.self.now.small;
    }

pub returns-in-Ok-None-clause-reads : goal.returns-in-Ok-None-clause-reads
returns-in-Ok-None-clause-reads c first =
    let finding = rw c.in-Ok-None.field-0-is at c.in-Ok-None.ensures in
    (ends _ _ _ c.skip-text.ensures finding, refl)

pub returns-in-Ok-Some-clause-reads : goal.returns-in-Ok-Some-clause-reads
returns-in-Ok-Some-clause-reads c first =
    let finding = rw c.in-Ok-Some.field-0-is at c.in-Ok-Some.ensures in
    let end = rest_within _ _ _ _ _ _ c.skip-text.ensures finding c.args.self.now.within in
    (hands _ _ _ _ c.skip-text.ensures finding (start_is _ _ _ c.skip-text.ensures c.args.self.now.within) (omega arith), rw c.divides-self.ensures refl)

pub returns-in-Err-clause-reads : goal.returns-in-Err-clause-reads
returns-in-Err-clause-reads c first =
    (refuses _ _ _ _ c.skip-text.ensures c.args.self.now.within c.in-Err.ensures c.refusal-refusal.ensures, refl)

pub invariant_of-self-in-Err : goal.invariant_of-self-in-Err
invariant_of-self-in-Err c = record {
  within = c.args.self.now.within;
  small = c.args.self.now.small;
  lexical = tells _ _ _ _ _ c.in-Err.ensures c.refusal-refusal.ensures;
}

pub returns-in-Ok-Some-clause-end : goal.returns-in-Ok-Some-clause-end
returns-in-Ok-Some-clause-end c first gap =
    let finding = rw c.in-Ok-Some.field-0-is at c.in-Ok-Some.ensures in
    absurd (no_token_at_end _ _ _ _ _ c.skip-text.ensures finding gap)

pub returns-in-Err-clause-end : goal.returns-in-Err-clause-end
returns-in-Err-clause-end c first gap = absurd (no_fault_at_end _ _ _ _ c.skip-text.ensures c.in-Err.ensures gap)
