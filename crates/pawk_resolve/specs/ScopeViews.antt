-- Scopes of the code.
use Rattle.std.specs.Prelude.{List}
use Rattle.pawk_lex.specs.Bytes.{Text}
use Rattle.pawk_syntax_check.specs.KindViews.{kinds_in}
use Rattle.pawk_resolve.specs.declared.table.NameTable.{NameTable}
use Rattle.pawk_resolve.specs.declared.scope.GlobalNames.{GlobalNames as CodeGlobals}
use Rattle.pawk_resolve.specs.declared.scope.Scope.{Scope as CodeScope}
use Rattle.pawk_resolve.specs.Tables.{texts}
use Rattle.pawk_resolve.specs.Scopes.{Globals, Scope}

abbrev pub table_names : NameTable → List Text
table_names t = texts t.names.items

abbrev pub globals_view : CodeGlobals → Globals
globals_view g = record {
  kinds = kinds_in g.kinds;
  scalars = table_names g.scalars;
  arrays = table_names g.arrays;
  functions = table_names g.functions;
  expressions = table_names g.expressions;
}

abbrev pub scope_view : CodeScope → Scope
scope_view s = record { globals = globals_view s.globals.now; item = s.item; parameters = table_names s.parameters.now }
