-- Mentions of the code, without their places.
use Rattle.std.specs.Prelude.{List, map}
use Rattle.std.specs.declared.vec.Vec.{Vec}
use Rattle.std.specs.declared.alloc.Global.{Global}
use Rattle.pawk_syntax_tree.specs.Tree.{trees, views}
use Rattle.pawk_syntax_check.specs.declared.mention.Mention.{Mention as Code}
use Rattle.pawk_syntax_check.specs.declared.mention.Mention.TheVariants as code
use Rattle.pawk_syntax_check.specs.declared.role.NameRole.{NameRole as CodeRole}
use Rattle.pawk_syntax_check.specs.declared.role.NameRole.TheVariants as code_role
use Rattle.pawk_syntax_check.specs.declared.role.Setting.{Setting as CodeSetting}
use Rattle.pawk_syntax_check.specs.declared.role.Setting.TheVariants as code_setting
use Rattle.pawk_syntax_check.specs.Mentions.{Mention, array, scalar, target, argument, value, call, builtin, leave, return, Role, as_value, as_target, as_array, as_argument, Setting, plain, of_call, of_builtin}

abbrev pub mention_view : Code → Mention
mention_view (code.Array x) = array x.now.text.items
mention_view (code.Scalar x) = scalar x.now.text.items
mention_view (code.Target x) = target x.now.text.items
mention_view (code.Argument x f place) = argument x.now.text.items f.now.text.items place
mention_view (code.Value f place) = value f.now.text.items place
mention_view (code.Call f count) = call f.now.text.items count
mention_view (code.Builtin f start as') = builtin f (trees (views as'.now))
mention_view (code.Leave word start in_loop) = leave word in_loop
mention_view (code.Return start) = return

abbrev pub seen : Vec Code Global → List Mention
seen v = map mention_view v.items

abbrev pub role_view : CodeRole → Role
role_view code_role.Value = as_value
role_view code_role.Target = as_target
role_view code_role.Array = as_array
role_view (code_role.Argument f place) = as_argument f.now.text.items place

abbrev pub setting_view : CodeSetting → Setting
setting_view code_setting.Plain = plain
setting_view (code_setting.Call f) = of_call f.now.text.items
setting_view (code_setting.Builtin f) = of_builtin f
