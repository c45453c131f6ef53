-- A program that is ready to run may be lent to several threads.
use denote.Builtin
use denote.Param.Send.{IsSync, sendable, enum_sync, struct_sync}
use denote.Enum.Declared.{shape}
use denote.Struct.Declared as struct
use Rattle.std.specs.contracts.vec.Vec as Vec
use Rattle.std.specs.contracts.option.Option as Option
use Rattle.std.specs.contracts.alloc.Global as Global
use Rattle.std.specs.contracts.impls.GlobalAllocator.TheImpl.{ghosts}
use Rattle.std.proofs.Crossing.{crosses, Vec-sync}
use Rattle.pawk_code.specs.contracts.statement.Simple as Simple
use Rattle.pawk_code.specs.contracts.statement.Leave as Leave
use Rattle.pawk_code.specs.contracts.statement.Operands as Operands
use Rattle.pawk_code.specs.contracts.statement.Head as Head
use Rattle.pawk_code.specs.contracts.expression.Expr as Expr
use Rattle.pawk_code.specs.contracts.expression.Lvalue as Lvalue
use Rattle.pawk_code.specs.contracts.expression.Format as Format
use Rattle.pawk_code.specs.contracts.word.Sign as Sign
use Rattle.pawk_code.specs.contracts.word.Step as Step
use Rattle.pawk_code.specs.contracts.name.Array as Array
use Rattle.pawk_code.specs.contracts.statement.Statement as Statement
use Rattle.pawk_code.specs.contracts.name.Variable as Variable
use Rattle.pawk_code.proofs.statement.Statement.TheLaws.TheKnot as bodies
use Rattle.pawk_code.specs.contracts.program.Selector as Selector
use Rattle.pawk_code.specs.contracts.program.Rule as Rule
use Rattle.pawk_code.specs.contracts.program.Function as Function
use Rattle.pawk_code.specs.contracts.program.Code as Code
use Rattle.pawk_code.specs.contracts.program.ParameterKind as ParameterKind
use Rattle.pawk_code.proofs.expression.Argument.TheLaws.TheKnot as knot

pub sign_sync : IsSync (Sign.the_field).row
sign_sync = search sendable depth 40

pub step_sync : IsSync (Step.the_field).row
step_sync = search sendable depth 40

pub array_sync : IsSync (Array.the_field).row
array_sync = search sendable depth 40

pub expr_sync : IsSync (Expr.the_field).row
expr_sync = search (sendable, crosses, knot.crosses) depth 60 fits 200000

pub place_sync : IsSync (Lvalue.the_field).row
place_sync = search (sendable, crosses, knot.crosses) depth 60 fits 200000

pub format_sync : IsSync (Format.the_field).row
format_sync = search (sendable, crosses, knot.crosses) depth 60 fits 200000

pub expr_row_sync : IsSync Expr.the_row
expr_row_sync = search (sendable, expr_sync) depth 3

pub exprs_sync : IsSync (Vec.the_field Expr.the_row Global.the_row ghosts).row
exprs_sync = search (sendable, crosses, expr_row_sync) depth 20

pub option_sync : IsSync (Option.the_field Expr.the_row).row
option_sync = enum_sync (shape (Option.the_type Expr.the_row)) (tt, ((expr_row_sync, tt), tt))

pub bool_sync : IsSync denote.Builtin.bool
bool_sync = search sendable depth 20

pub operands_sync : IsSync (Operands.the_field).row
operands_sync = struct_sync (struct.shape Operands.the_type) (bool_sync, (exprs_sync, tt))

pub simple_sync : IsSync (Simple.the_field).row
simple_sync = enum_sync (shape Simple.the_type) ((expr_sync, tt), ((place_sync, (expr_sync, tt)), ((sign_sync, (place_sync, (expr_sync, tt))), ((step_sync, (place_sync, tt)), ((operands_sync, tt), ((format_sync, (operands_sync, tt)), ((array_sync, (exprs_sync, tt)), ((array_sync, tt), tt))))))))

pub leave_sync : IsSync (Leave.the_field).row
leave_sync = enum_sync (shape Leave.the_type) (tt, (tt, (tt, (tt, ((option_sync, tt), ((option_sync, tt), tt))))))

pub simple_row_sync : IsSync Simple.the_row
simple_row_sync = search (sendable, simple_sync) depth 3

pub simple_option_sync : IsSync (Option.the_field Simple.the_row).row
simple_option_sync = enum_sync (shape (Option.the_type Simple.the_row)) (tt, ((simple_row_sync, tt), tt))

pub head_sync : IsSync (Head.the_field).row
head_sync = struct_sync (struct.shape Head.the_type) (simple_option_sync, (option_sync, (simple_option_sync, tt)))

pub variable_sync : IsSync (Variable.the_field).row
variable_sync = search sendable depth 40 fits 20000

pub statement_sync : IsSync (Statement.the_field).row
statement_sync = bodies.sync-Statement simple_sync leave_sync expr_sync Vec-sync head_sync variable_sync array_sync

pub statement_row_sync : IsSync Statement.the_row
statement_row_sync = search (sendable, statement_sync) depth 3

pub body_sync : IsSync (Vec.the_field Statement.the_row Global.the_row ghosts).row
body_sync = search (sendable, crosses, statement_row_sync) depth 20

pub body_row_sync : IsSync (Vec.the_row Statement.the_row Global.the_row ghosts)
body_row_sync = search (sendable, crosses, statement_row_sync) depth 20

pub bodies_sync : IsSync (Vec.the_field (Vec.the_row Statement.the_row Global.the_row ghosts) Global.the_row ghosts).row
bodies_sync = search (sendable, crosses, body_row_sync) depth 20

pub selector_sync : IsSync (Selector.the_field).row
selector_sync = enum_sync (shape Selector.the_type) (tt, ((expr_sync, tt), ((expr_sync, (expr_sync, tt)), tt)))

pub rule_sync : IsSync (Rule.the_field).row
rule_sync = struct_sync (struct.shape Rule.the_type) (selector_sync, (body_sync, tt))

pub rule_row_sync : IsSync Rule.the_row
rule_row_sync = search (sendable, rule_sync) depth 3

pub rules_sync : IsSync (Vec.the_field Rule.the_row Global.the_row ghosts).row
rules_sync = search (sendable, crosses, rule_row_sync) depth 20

pub kinds_sync : IsSync (Vec.the_field ParameterKind.the_row Global.the_row ghosts).row
kinds_sync = search (sendable, crosses) depth 30 fits 20000

pub function_sync : IsSync (Function.the_field).row
function_sync = struct_sync (struct.shape Function.the_type) (kinds_sync, (body_sync, tt))

pub function_row_sync : IsSync Function.the_row
function_row_sync = search (sendable, function_sync) depth 3

pub functions_sync : IsSync (Vec.the_field Function.the_row Global.the_row ghosts).row
functions_sync = search (sendable, crosses, function_row_sync) depth 20

pub names_sync : IsSync (Vec.the_field (Vec.the_row denote.Builtin.u8 Global.the_row ghosts) Global.the_row ghosts).row
names_sync = search (sendable, crosses) depth 30 fits 20000

pub code_sync : IsSync (Code.the_field).row
code_sync = struct_sync (struct.shape Code.the_type) (bodies_sync, (rules_sync, (bodies_sync, (functions_sync, (names_sync, (names_sync, (names_sync, tt)))))))

pub code_row_sync : IsSync Code.the_row
code_row_sync = search (sendable, code_sync) depth 3
