use Rattle.std.proofs.Common.{Some, None, Ok, Err, map, refl}
use Rattle.std.proofs.lemmas.Result.{err_from_is_err_and}
use Rattle.pawk_syntax_tree.specs.Item.{part}
use Rattle.pawk_settings.specs.declared.refusal.SettingsRefusal.TheVariants.{Budget}
use Rattle.pawk_settings.specs.SettingsViews.{asked, is_refused_under}
use Rattle.pawk_settings.proofs.AnswerLemmas.{answer_by, fault_first, fault_last, budget_refused, budget_accepted}
use Rattle.pawk_settings.proofs.settings.Settings.new.Goals as goal

pub returns-in_err-assignments : goal.returns-in_err-assignments
returns-in_err-assignments c =
    answer_by c.in_ok-kinds.kinds c.in_ok-functions.functions (map part c.args.items.now) (asked c.args.assigned.now) c.args.budget _ c.in_ok-functions.ensures c.in_ok-kinds.ensures
    (let p = err_from_is_err_and c.from_residual-in_err-assignments.result c.from_residual-in_err-assignments.ensures.1 in rw (p.1, p.2) (λ other. fault_first (is_refused_under c.in_ok-kinds.kinds c.in_ok-functions.functions) (asked c.args.assigned.now) c.args.budget _ (c.in_err-assignments.ensures other)))

pub returns-then-not-is_budget : goal.returns-then-not-is_budget
returns-then-not-is_budget c =
    answer_by c.in_ok-kinds.kinds c.in_ok-functions.functions (map part c.args.items.now) (asked c.args.assigned.now) c.args.budget (Err Budget) c.in_ok-functions.ensures c.in_ok-kinds.ensures
    (λ _. fault_last (is_refused_under c.in_ok-kinds.kinds c.in_ok-functions.functions) (asked c.args.assigned.now) c.args.budget (Some Budget) c.in_ok-assignments.ensures.0 (budget_refused c.args.budget c.is_budget.result c.is_budget.ensures c.if-not-is_budget.true))

pub returns : goal.returns
returns c =
    answer_by c.in_ok-kinds.kinds c.in_ok-functions.functions (map part c.args.items.now) (asked c.args.assigned.now) c.args.budget (Ok (record { assignments = c.in_ok-assignments.assignments; budget = c.args.budget })) c.in_ok-functions.ensures c.in_ok-kinds.ensures
    (fault_last (is_refused_under c.in_ok-kinds.kinds c.in_ok-functions.functions) (asked c.args.assigned.now) c.args.budget None c.in_ok-assignments.ensures.0 (budget_accepted c.args.budget c.is_budget.result c.is_budget.ensures c.if-not-is_budget.false), record { assignments = c.in_ok-assignments.ensures.1; budget = refl })
