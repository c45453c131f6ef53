use Rattle.std.proofs.Common.{◌≡◌, map, take}
use Rattle.pawk_array.proofs.texts.Texts.of.Given as goal

abbrev pub invariant-loop-text : goal.invariant-loop-text
invariant-loop-text l = l.copy ≡ map (λ x. x.text.now) (take l.text-index l.texts)
