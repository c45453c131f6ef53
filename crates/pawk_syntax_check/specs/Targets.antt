-- What may be assigned. (POSIX.1-2017, awk, "Variables and Special Variables", says what each of these variables is set to
-- by a run; this language does not let a program set them.)
use Rattle.std.specs.Prelude.{Bool, true, not}
use Rattle.pawk_lex.specs.Vocabulary.{is_run_variable}
use Rattle.pawk_syntax_check.specs.Mentions.{Mention, target}

-- a variable that the run sets is no target
abbrev pub is_assignable : Mention → Bool
is_assignable (target x) = not (is_run_variable x)
is_assignable _ = true
