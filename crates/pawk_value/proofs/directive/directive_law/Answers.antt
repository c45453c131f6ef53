use Rattle.pawk_value.proofs.DirectiveLawLemmas as lemmas
use Rattle.pawk_value.proofs.directive.directive_law.Goals as goal

pub returns : goal.returns
returns c = record {
  writes = lemmas.directive_law c.args.directive;
  fails = lemmas.directive_faults c.args.directive;
  idle = lemmas.zero_is_idle c.args.directive;
}
