-- Facts where it is not memory that was refused.
use Rattle.std.proofs.Common.{◌≡◌, refl}
use Rattle.pawk_parts.specs.declared.refusal.TableRefusal.{TableRefusal}
use Rattle.pawk_parts.specs.declared.refusal.TableRefusal.TheVariants.{Memory, Damage}
use Rattle.pawk_parts.specs.Refusals.{OnDamage}

pub on_damage_weaker : {P Q : Type 0} (r : TableRefusal) → (P → Q) → OnDamage r P → OnDamage r Q
on_damage_weaker Memory f h = h
on_damage_weaker Damage f h = f h

pub at_damage : {P : Type 0} (r : TableRefusal) → OnDamage r P → r ≡ Damage → P
at_damage Memory h e = cc
at_damage Damage h e = h

-- memory was refused where no damage is
pub only_memory : {P : Type 0} (r : TableRefusal) → OnDamage r P → ¬ P → r ≡ Memory
only_memory Memory h none = refl
only_memory Damage h none = absurd (none h)
