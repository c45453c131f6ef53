-- The numbers of refusals.
use Rattle.std.specs.Prelude.{ℕ}
use Rattle.pawk_settings.specs.declared.refusal.SettingsRefusal.{SettingsRefusal}
use Rattle.pawk_settings.specs.declared.refusal.SettingsRefusal.TheVariants.{Name, Target, Escape, Budget, Memory}

abbrev pub refusal_number : SettingsRefusal → ℕ
refusal_number Name = 1
refusal_number Target = 2
refusal_number Escape = 3
refusal_number Budget = 4
refusal_number Memory = 5
