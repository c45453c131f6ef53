-- The words and signs of the language (POSIX.1-2017, awk, "Lexical Conventions": keywords, BUILTIN_FUNC, the
-- two-character tokens and the single characters). `nextfile` is a reserved word beside those of
-- the standard.
use Rattle.std.specs.Prelude.{ℕ, Bool, ◌||◌, if◌then◌else◌, List, [], ◌∷◌, ◌++◌, map, Option, Some, None, codes, find}
use Rattle.std.specs.List.{list_any}
use Rattle.std.specs.Str.{bytes_eq}
use Rattle.pawk_lex.specs.Bytes.{Text}
use Rattle.pawk_lex.specs.declared.token.Mark.{Mark}
use Rattle.pawk_lex.specs.declared.token.Mark.TheVariants as m
use Rattle.pawk_lex.specs.declared.token.Builtin.{Builtin}
use Rattle.pawk_lex.specs.declared.token.Builtin.TheVariants as b

-- how each mark is written
abbrev pub mark_text : Mark → Text
mark_text m.Newline = 10 ∷ []
mark_text m.LeftBrace = codes "{"
mark_text m.RightBrace = codes "}"
mark_text m.LeftParenthesis = codes "("
mark_text m.RightParenthesis = codes ")"
mark_text m.LeftBracket = codes "["
mark_text m.RightBracket = codes "]"
mark_text m.Semicolon = codes ";"
mark_text m.Comma = codes ","
mark_text m.Plus = codes "+"
mark_text m.Minus = codes "-"
mark_text m.Star = codes "*"
mark_text m.Slash = codes "/"
mark_text m.Percent = codes "%"
mark_text m.Caret = codes "^"
mark_text m.Not = codes "!"
mark_text m.Greater = codes ">"
mark_text m.Less = codes "<"
mark_text m.Question = codes "?"
mark_text m.Colon = codes ":"
mark_text m.Tilde = codes "~"
mark_text m.Dollar = codes "$"
mark_text m.Assign = codes "="
mark_text m.PlusAssign = codes "+="
mark_text m.MinusAssign = codes "-="
mark_text m.StarAssign = codes "*="
mark_text m.SlashAssign = codes "/="
mark_text m.PercentAssign = codes "%="
mark_text m.CaretAssign = codes "^="
mark_text m.Equal = codes "=="
mark_text m.LessEqual = codes "<="
mark_text m.GreaterEqual = codes ">="
mark_text m.NotEqual = codes "!="
mark_text m.NotMatch = codes "!~"
mark_text m.PlusPlus = codes "++"
mark_text m.MinusMinus = codes "--"
mark_text m.And = codes "&&"
mark_text m.Or = codes "||"
mark_text m.Begin = codes "BEGIN"
mark_text m.End = codes "END"
mark_text m.Function = codes "function"
mark_text m.If = codes "if"
mark_text m.Else = codes "else"
mark_text m.While = codes "while"
mark_text m.For = codes "for"
mark_text m.Do = codes "do"
mark_text m.In = codes "in"
mark_text m.Break = codes "break"
mark_text m.Continue = codes "continue"
mark_text m.Next = codes "next"
mark_text m.NextFile = codes "nextfile"
mark_text m.Exit = codes "exit"
mark_text m.Return = codes "return"
mark_text m.Delete = codes "delete"
mark_text m.Print = codes "print"
mark_text m.Printf = codes "printf"

-- the reserved words
abbrev pub reserved_words : List Mark
reserved_words = m.Begin ∷ m.End ∷ m.Function ∷ m.If ∷ m.Else ∷ m.While ∷ m.For ∷ m.Do ∷ m.In ∷
    m.Break ∷ m.Continue ∷ m.Next ∷ m.NextFile ∷ m.Exit ∷ m.Return ∷ m.Delete ∷ m.Print ∷ m.Printf ∷
    []

-- the signs of two bytes
abbrev pub doubles : List Mark
doubles = m.PlusAssign ∷ m.MinusAssign ∷ m.StarAssign ∷ m.SlashAssign ∷ m.PercentAssign ∷
    m.CaretAssign ∷ m.Equal ∷ m.LessEqual ∷ m.GreaterEqual ∷ m.NotEqual ∷ m.NotMatch ∷ m.PlusPlus ∷
    m.MinusMinus ∷ m.And ∷ m.Or ∷ []

-- the first of the marks that is written so
abbrev pub mark_among : List Mark → Text → Option Mark
mark_among [] w = None
mark_among (x ∷ xs) w = if bytes_eq w (mark_text x) then Some x else mark_among xs w

unfoldable pub reserved_word : Text → Option Mark
reserved_word w = find (λ x. bytes_eq (mark_text x) w) reserved_words

unfoldable pub double : ℕ → ℕ → Option Mark
double b c = mark_among doubles (b ∷ c ∷ [])

-- the signs of one byte, and newline
abbrev pub singles : List Mark
singles = m.Newline ∷ m.LeftBrace ∷ m.RightBrace ∷ m.LeftParenthesis ∷ m.RightParenthesis ∷
    m.LeftBracket ∷ m.RightBracket ∷ m.Semicolon ∷ m.Comma ∷ m.Plus ∷ m.Minus ∷ m.Star ∷ m.Slash ∷
    m.Percent ∷ m.Caret ∷ m.Not ∷ m.Greater ∷ m.Less ∷ m.Question ∷ m.Colon ∷ m.Tilde ∷ m.Dollar ∷
    m.Assign ∷ []

unfoldable pub single : ℕ → Option Mark
single b = mark_among singles (b ∷ [])

-- the name of each built-in function
abbrev pub builtin_text : Builtin → Text
builtin_text b.Length = codes "length"
builtin_text b.Index = codes "index"
builtin_text b.Substr = codes "substr"
builtin_text b.Split = codes "split"
builtin_text b.Sub = codes "sub"
builtin_text b.Gsub = codes "gsub"
builtin_text b.Match = codes "match"
builtin_text b.Sprintf = codes "sprintf"
builtin_text b.Tolower = codes "tolower"
builtin_text b.Toupper = codes "toupper"
builtin_text b.Int = codes "int"

abbrev pub builtins : List Builtin
builtins = b.Length ∷ b.Index ∷ b.Substr ∷ b.Split ∷ b.Sub ∷ b.Gsub ∷ b.Match ∷ b.Sprintf ∷
    b.Tolower ∷ b.Toupper ∷ b.Int ∷ []

unfoldable pub builtin : Text → Option Builtin
builtin w = find (λ x. bytes_eq (builtin_text x) w) builtins

-- the standard's names that this language leaves out: of arithmetic functions, of input and output
-- functions, of variables
abbrev pub left_out_arithmetic : List Text
left_out_arithmetic = codes "sin" ∷ codes "cos" ∷ codes "atan2" ∷ codes "exp" ∷ codes "log" ∷
    codes "sqrt" ∷ codes "rand" ∷ codes "srand" ∷ []

abbrev pub left_out_output : List Text
left_out_output = codes "system" ∷ codes "close" ∷ codes "fflush" ∷ []

abbrev pub left_out_variables : List Text
left_out_variables = codes "ENVIRON" ∷ codes "ARGC" ∷ codes "ARGV" ∷ []

abbrev pub left_out : List Text
left_out = left_out_arithmetic ++ (left_out_output ++ left_out_variables)

abbrev pub is_among : List Text → Text → Bool
is_among names w = list_any (λ x. bytes_eq w x) names

unfoldable pub is_left_out_arithmetic : Text → Bool
is_left_out_arithmetic = is_among left_out_arithmetic

unfoldable pub is_left_out_output : Text → Bool
is_left_out_output = is_among left_out_output

unfoldable pub is_left_out_variable : Text → Bool
is_left_out_variable = is_among left_out_variables

abbrev pub is_left_out : Text → Bool
is_left_out w = is_left_out_arithmetic w || is_left_out_output w || is_left_out_variable w

-- the form of input that this language leaves out
abbrev pub getline : Text
getline = codes "getline"

-- the variables that a program may assign (POSIX.1-2017, awk, "Variables and Special Variables")
abbrev pub assignable_variables : List Text
assignable_variables = codes "RS" ∷ codes "FS" ∷ codes "OFS" ∷ codes "ORS" ∷ codes "SUBSEP" ∷
    codes "CONVFMT" ∷ codes "OFMT" ∷ []

-- the variables that the run of a program sets, and that its text may not assign
abbrev pub run_variables : List Text
run_variables = codes "NR" ∷ codes "NF" ∷ codes "FNR" ∷ codes "FILENAME" ∷ codes "RSTART" ∷
    codes "RLENGTH" ∷ []

unfoldable pub is_assignable_variable : Text → Bool
is_assignable_variable = is_among assignable_variables

unfoldable pub is_run_variable : Text → Bool
is_run_variable = is_among run_variables

abbrev pub is_variable : Text → Bool
is_variable w = is_assignable_variable w || is_run_variable w

-- every word that has a meaning of its own: no variable, array or function of a program bears such a name
abbrev pub words : List Text
words = getline ∷
    (map mark_text reserved_words ++ (map builtin_text builtins ++ (left_out ++ (assignable_variables ++ run_variables))))
