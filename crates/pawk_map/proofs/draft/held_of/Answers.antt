use Rattle.std.proofs.Common.{Some, refl, sym, subst}
use Rattle.pawk_map.specs.Maps.{IsHeld}
use Rattle.pawk_map.specs.declared.draft.Course.{Course}
use Rattle.pawk_map.specs.declared.draft.Held.{Held}
use Rattle.pawk_map.proofs.draft.held_of.Goals as goal

pub returns-in_ok-from_slice-in-On : goal.returns-in_ok-from_slice-in-On
returns-in_ok-from_slice-in-On c =
    let held : Held = record { name = c.in_ok-from_slice-in-On.field-0; fnr = c.args.fnr; bytes = c.args.last } in
    subst (λ (o : Course). IsHeld o c.args.name.now c.args.fnr c.args.last.items (Some held)) (sym c.in-On.is)
    (held, refl, c.in_ok-from_slice-in-On.ensures.items, refl, refl)
