use Rattle.std.proofs.Common.{List, refl, sym, subst}
use Rattle.std.proofs.lemmas.Result.{err_from_is_err_and}
use Rattle.std.specs.Io.KnownBytes.{Appends}
use Rattle.std.specs.Prelude.{ℕ}
use Rattle.pawk_code.specs.ProgramViews.{code_view}
use Rattle.pawk_input.specs.Input.{files_of}
use Rattle.pawk_settings.specs.declared.assignment.Assignment.{Assignment}
use Rattle.pawk_store.specs.Openings.{pairs_of}
use Rattle.pawk_par.specs.Requests.{IsAccepted}
use Rattle.pawk_par.specs.Streams.{Devices, devices, Basis, WhyUnwritten}
use Rattle.pawk_par.specs.declared.refusal.StreamRefusal.{StreamRefusal}
use Rattle.pawk_par.proofs.StreamLemmas.{keeps_same, why_run, why_unwritten}
use Rattle.pawk_par.proofs.streaming.run_streams.Goals as goal

pub returns-in_err-outcome-clause-refused : goal.returns-in_err-outcome-clause-refused
returns-in_err-outcome-clause-refused g c =
    let wanted = c.args.request.now in
    let code = code_view c.in_ok-code.code in
    let made = c.assignments-assignments.result.now in
    let old : Devices = devices (g.S.Source.left c.args.source.now) (g.S.Source.failures c.args.source.now) (g.K.Sink.taken c.args.sink.now) (g.K.Sink.failures c.args.sink.now) in
    let new : Devices = devices (g.S.Source.left c.read_input.new.source) (g.S.Source.failures c.read_input.new.source) (g.K.Sink.taken c.args.sink.now) (g.K.Sink.failures c.args.sink.now) in
    let accepted : IsAccepted wanted code (pairs_of made) = subst (λ (xs : List Assignment). IsAccepted wanted code (pairs_of xs)) (sym c.assignments-assignments.ensures) c.in_ok-code.ensures.accepted in
    let basis : Basis wanted old new = record {
      code = code;
      assignments = pairs_of made;
      accepted = accepted;
      files = files_of c.in_ok-input.input;
      input = c.in_ok-input.ensures.input;
      unread = c.in_ok-input.ensures.unread;
    } in
    let p = err_from_is_err_and c.from_residual-in_err-outcome.result c.from_residual-in_err-outcome.ensures.1 in
    rw (p.1, p.2) (why_run wanted old new basis _ (keeps_same (g.K.Sink.taken c.args.sink.now), refl) c.in_ok-input.ensures.unfailing c.in_err-outcome.ensures.refused)

pub returns-in_err-write_output-clause-refused : goal.returns-in_err-write_output-clause-refused
returns-in_err-write_output-clause-refused g c =
    let wanted = c.args.request.now in
    let code = code_view c.in_ok-code.code in
    let made = c.assignments-assignments.result.now in
    let old : Devices = devices (g.S.Source.left c.args.source.now) (g.S.Source.failures c.args.source.now) (g.K.Sink.taken c.args.sink.now) (g.K.Sink.failures c.args.sink.now) in
    let new : Devices = devices (g.S.Source.left c.read_input.new.source) (g.S.Source.failures c.read_input.new.source) (g.K.Sink.taken c.write_output.new.sink) (g.K.Sink.failures c.write_output.new.sink) in
    let accepted : IsAccepted wanted code (pairs_of made) = subst (λ (xs : List Assignment). IsAccepted wanted code (pairs_of xs)) (sym c.assignments-assignments.ensures) c.in_ok-code.ensures.accepted in
    let basis : Basis wanted old new = record {
      code = code;
      assignments = pairs_of made;
      accepted = accepted;
      files = files_of c.in_ok-input.input;
      input = c.in_ok-input.ensures.input;
      unread = c.in_ok-input.ensures.unread;
    } in
    let p = err_from_is_err_and c.from_residual-in_err-write_output.result c.from_residual-in_err-write_output.ensures.1 in
    let why : WhyUnwritten c.in_ok-outcome.outcome.output old.taken new.taken old.write_failures new.write_failures p.0 =
    subst (λ (e : StreamRefusal). WhyUnwritten c.in_ok-outcome.outcome.output old.taken new.taken old.write_failures new.write_failures e) (sym p.2) c.in_err-write_output.ensures.refused in
    rw p.1 (why_unwritten wanted old new basis c.in_ok-outcome.outcome.output p.0 c.in_ok-outcome.ensures.outcome.output c.in_ok-input.ensures.unfailing why)

pub returns-clause-answered : goal.returns-clause-answered
returns-clause-answered g c =
    let wanted = c.args.request.now in
    let code = code_view c.in_ok-code.code in
    let made = c.assignments-assignments.result.now in
    let before = g.K.Sink.taken c.args.sink.now in
    let after = g.K.Sink.taken c.write_output.new.sink in
    let old : Devices = devices (g.S.Source.left c.args.source.now) (g.S.Source.failures c.args.source.now) before (g.K.Sink.failures c.args.sink.now) in
    let new : Devices = devices (g.S.Source.left c.read_input.new.source) (g.S.Source.failures c.read_input.new.source) after (g.K.Sink.failures c.write_output.new.sink) in
    let accepted : IsAccepted wanted code (pairs_of made) = subst (λ (xs : List Assignment). IsAccepted wanted code (pairs_of xs)) (sym c.assignments-assignments.ensures) c.in_ok-code.ensures.accepted in
    let basis : Basis wanted old new = record {
      code = code;
      assignments = pairs_of made;
      accepted = accepted;
      files = files_of c.in_ok-input.input;
      input = c.in_ok-input.ensures.input;
      unread = c.in_ok-input.ensures.unread;
    } in
    record {
      basis = basis;
      planned = c.in_ok-outcome.ensures.accepted;
      ending_is = c.in_ok-outcome.ensures.outcome.ending;
      route_is = c.in_ok-outcome.ensures.route;
      wrote = subst (λ (l : List ℕ). Appends before after l) (sym c.in_ok-outcome.ensures.outcome.output) c.in_ok-write_output.ensures.all;
    }
