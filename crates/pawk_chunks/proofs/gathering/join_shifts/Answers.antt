use Rattle.std.proofs.Common.{IsOk, ◌++◌, ◌∷◌, [], refl, sym, ap, ◌∙◌, subst}
use Rattle.std.specs.List.{flat_map}
use Rattle.std.proofs.lemmas.List.{map_push, flat_map_more}
use Rattle.std.proofs.lemmas.List.Elements.{All-push}
use Rattle.pawk_chunks.specs.declared.shifts.Shift.{Shift}
use Rattle.pawk_chunks.specs.Shifts.{results_in, results_of}
use Rattle.pawk_chunks.proofs.GatheringLemmas.{Results}
use Rattle.pawk_chunks.proofs.gathering.join_shifts.Goals as goal

pub loop-shift-preserved : goal.loop-shift-preserved
loop-shift-preserved c =
    let ss = c.loop-shift.yielded in
    let s = c.in-Some.shift in
    record {
      seats = c.in_ok-push.ensures.items ∙ (ap (λ l. l ++ s.seat ∷ []) c.loop-shift.invariant.seats ∙ sym (map_push (λ (x : Shift). x.seat) ss s));
      results = c.in_ok-results.ensures
          ∙ (ap (λ l. l ++ c.in_ok-done.field-0.items) c.loop-shift.invariant.results
          ∙ (ap (λ (r : Results). flat_map results_of ss ++ results_in r) (sym c.in_ok-done.was) ∙ flat_map_more results_of [] ss s));
      all = All-push (λ (x : Shift). IsOk x.results) ss s c.loop-shift.invariant.all (subst (λ (r : Results). IsOk r) (sym c.in_ok-done.was) refl);
    }
