use Rattle.std.proofs.Common.{◌≡◌, ℕ, List, Option, map, length, sym, ◌∙◌, ap}
use Rattle.std.proofs.lemmas.List.{length-map}
use Rattle.pawk_lex.specs.Bytes.{Text}
use Rattle.pawk_syntax_tree.specs.Item.{part}
use Rattle.pawk_syntax_check.specs.Functions.{function_of}
use Rattle.pawk_syntax_check.specs.FunctionViews.{function_under}
use Rattle.pawk_syntax_check.specs.Tables.{names, key_view}
use Rattle.pawk_syntax_check.specs.Demands.{demands_from}
use Rattle.pawk_syntax_check.proofs.Agreement.{below_all}
use Rattle.pawk_syntax_check.proofs.kinds.MarkedDemands.new.Goals as goal

pub marks-requires : goal.marks-requires
marks-requires c =
    let d = c.in_ok-demands.demands in
    let keys = d.variables.keys in
    let size : c.len.result ≡ length (names d.variables) = c.len.ensures ∙ keys.ok.0 ∙ sym (length-map keys.items key_view) in
    rw (size, c.as_slice.ensures.value) (below_all d.variables d.list.items c.in_ok-demands.ensures.numbered.numbered)

pub returns : goal.returns
returns c =
    let d = c.in_ok-demands.demands in
    let keys = d.variables.keys in
    let m = c.in_ok-marks.marks in
    let ps = map part c.args.items.now in
    let size : c.len.result ≡ length (names d.variables) = c.len.ensures ∙ keys.ok.0 ∙ sym (length-map keys.items key_view) in
    let functions : function_under c.args.functions.now ≡ function_of ps = λ i x. c.requires x i in
    let same = c.as_slice.ensures.value in
    record {
      asked = c.in_ok-demands.ensures.demands ∙ ap (λ (f : Text → Option (ℕ × List Text)). demands_from f 1 ps) functions;
      numbered = c.in_ok-demands.ensures.numbered;
      marks_length = c.in_ok-marks.ensures.length ∙ size;
      closed = rw same at c.in_ok-marks.ensures.settled;
      forced = λ n e. c.in_ok-marks.ensures.forced n (rw same e);
    }
