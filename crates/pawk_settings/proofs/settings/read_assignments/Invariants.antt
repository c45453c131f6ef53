use Rattle.std.proofs.Common.{◌≡◌, take, drop}
use Rattle.pawk_settings.specs.Assignments.{first_fault}
use Rattle.pawk_settings.specs.SettingsViews.{asked, accepted_texts, asked_texts, is_refused_under}
use Rattle.pawk_settings.proofs.settings.read_assignments.Given as goal

abbrev pub invariant-loop-pair : goal.invariant-loop-pair
invariant-loop-pair l = record {
  so_far : accepted_texts l.assignments.items ≡ asked_texts (asked (take l.pair-index l.assigned));
  faultless : first_fault (is_refused_under l.kinds l.functions) (asked (drop l.pair-index l.assigned)) ≡ first_fault (is_refused_under l.kinds l.functions) (asked l.assigned);
}
