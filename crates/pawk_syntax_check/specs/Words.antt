-- Where words that leave may be (POSIX.1-2017, awk, "Actions" and "User-Defined Functions"; that `next` is in the text
-- of a rule's action itself is this language's own rule).
use Rattle.std.specs.Prelude.{Bool, true, false}
use Rattle.pawk_syntax_tree.specs.declared.statement.Jump.{Jump}
use Rattle.pawk_syntax_tree.specs.declared.statement.Jump.TheVariants as leave
use Rattle.pawk_syntax_tree.specs.Item.{Part, always, matching, between, define}
use Rattle.pawk_syntax_check.specs.Mentions.{Mention, return}
use Rattle.pawk_syntax_check.specs.Mentions as mention

abbrev pub is_rule : Part → Bool
is_rule (always a) = true
is_rule (matching e a) = true
is_rule (between e f a) = true
is_rule _ = false

abbrev pub is_function : Part → Bool
is_function (define f ps a) = true
is_function _ = false

-- next and nextfile in the action of a rule, break and continue in a loop
abbrev pub may_leave : Part → Jump → Bool → Bool
may_leave p leave.Next in_loop = is_rule p
may_leave p leave.NextFile in_loop = is_rule p
may_leave p leave.Break in_loop = in_loop
may_leave p leave.Continue in_loop = in_loop

-- and return in a function
abbrev pub is_placed : Part → Mention → Bool
is_placed p (mention.leave word in_loop) = may_leave p word in_loop
is_placed p return = is_function p
is_placed p _ = true
