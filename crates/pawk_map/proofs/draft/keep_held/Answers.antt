use Rattle.std.proofs.Common.{Option, sym, subst}
use Rattle.pawk_map.specs.Maps.{Tells, held_items}
use Rattle.pawk_map.specs.declared.draft.Course.TheVariants.{On}
use Rattle.pawk_map.specs.declared.draft.Held.{Held}
use Rattle.pawk_map.proofs.MapLemmas.{tells_none}
use Rattle.pawk_map.proofs.draft.keep_held.Goals as goal

pub returns-in-None-clause-tells : goal.returns-in-None-clause-tells
returns-in-None-clause-tells g c = λ u same.
    let taken = g.K.Sink.taken c.args.sink.now in
    subst (λ (o : Option Held). Tells u taken taken c.args.draft.progress (held_items u.rs o) On c.args.draft.progress) (sym c.in-None.is) (tells_none u taken c.args.draft.progress)
