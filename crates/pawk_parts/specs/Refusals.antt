-- What a refusal says.
use Rattle.pawk_parts.specs.declared.refusal.TableRefusal.{TableRefusal}
use Rattle.pawk_parts.specs.declared.refusal.TableRefusal.TheVariants.{Memory, Damage}

-- a fact where it is not memory that was refused
abbrev pub OnDamage : TableRefusal → Type 0 → Type 0
OnDamage Memory P = Unit {0}
OnDamage Damage P = P
