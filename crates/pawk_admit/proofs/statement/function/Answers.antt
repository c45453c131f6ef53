use Rattle.std.proofs.Common.{◌≡◌, ◌++◌, None, Some, sym, ap, ◌∙◌, rules}
use Rattle.std.specs.Prelude.{slice_get}
use Rattle.std.specs.Option.{option_map}
use Rattle.std.proofs.lemmas.List.{append-nil}
use Rattle.std.proofs.lemmas.Option.{slice_get-map, slice_get_past, slice_get-get_or}
use Rattle.pawk_code.specs.ProgramViews.{function_view}
use Rattle.pawk_code.specs.StatementViews.{seen}
use Rattle.pawk_admit.specs.Occurrences.{of_function_if_any, of_body}
use Rattle.pawk_admit.proofs.Appends.{at_once}
use Rattle.pawk_admit.proofs.statement.function.Goals as goal

pub returns-in-None : goal.returns-in-None
returns-in-None c =
    let fs = c.args.functions.now in
    let missing : slice_get fs c.args.slot ≡ None = slice_get_past fs c.args.slot c.in-None.ensures.lookup.3 in
    let before = c.args.list.now.items in
    sym (append-nil before)
    ∙ ap (λ r. before ++ of_function_if_any r) (sym (slice_get-map function_view fs c.args.slot ∙ ap (option_map function_view) missing))

pub returns-in-Some : goal.returns-in-Some
returns-in-Some c =
    let fs = c.args.functions.now in
    let f = c.in-Some.function.now in
    let found : slice_get fs c.args.slot ≡ Some f = slice_get-get_or fs c.args.slot f c.in-Some.ensures.lookup.3.0 ∙ ap Some (sym c.in-Some.ensures.lookup.1) in
    at_once _ _ c.args.list.now.items _ (of_body (seen f.body.items)) (search rules)
    (ap of_function_if_any (slice_get-map function_view fs c.args.slot ∙ ap (option_map function_view) found))
