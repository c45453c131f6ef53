use Rattle.std.proofs.Common.{map}
use Rattle.pawk_syntax_tree.specs.Item.{part}
use Rattle.pawk_syntax.specs.Programs.{parts}
use Rattle.pawk_settings.specs.SettingsViews.{asked}
use Rattle.pawk_par.proofs.RequestLemmas.{settings_told}
use Rattle.pawk_par.proofs.preparing.read_settings.Goals as goal

pub returns-in-Ok-clause-accepted : goal.returns-in-Ok-clause-accepted
returns-in-Ok-clause-accepted c =
    settings_told (map part c.tree.result.now) (parts c.args.program.now) (asked c.args.request.now.assigns.now) c.args.request.now.budget c.in-Ok.settings
    c.tree.ensures.items c.in-Ok.ensures
