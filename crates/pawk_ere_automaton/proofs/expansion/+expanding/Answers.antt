use Rattle.std.proofs.Common.{◌≡◌, ℕ, zero, suc, ◌-◌, ◌≤◌, ap, ◌∙◌, arith, rules}
use Rattle.pawk_ere_automaton.specs.Expand.{at_least}
use Rattle.pawk_ere_automaton.specs.Regex.{Regex, Plus, Sequence, copies}
use Rattle.pawk_ere_automaton.proofs.expansion.+expanding.Goals as goal

more : (n : ℕ) (a b all : Regex) → 2 ≤ n → b ≡ Plus a → all ≡ Sequence (copies (n - 1) a) b → all ≡ at_least n a
more zero a b all le h k = absurd (omega arith)
more (suc zero) a b all le h k = absurd (omega arith)
more (suc (suc n)) a b all le h k = let e : suc (suc n) - 1 ≡ suc n = omega arith in k ∙ ap (λ m. Sequence (copies m a) b) e ∙ ap (λ x. Sequence (copies (suc n) a) x) h

pub or_more-returns : goal.or_more-returns
or_more-returns t c = more c.args.least _ _ _ (omega arith) (search rules) c.in_ok-all.ensures
