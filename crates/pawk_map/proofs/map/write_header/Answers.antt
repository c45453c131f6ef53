use Rattle.std.proofs.Common.{◌∙◌, ◌++◌, ap, subst}
use Rattle.pawk_parts.specs.Parts.{all_bytes}
use Rattle.pawk_tables.specs.Layout.{header_lines}
use Rattle.pawk_map.specs.Maps.{Writes}
use Rattle.pawk_map.specs.Orders.{header_in}
use Rattle.pawk_map.proofs.map.write_header.Goals as goal

pub returns-clause-wrote : goal.returns-clause-wrote
returns-clause-wrote g c =
    let a = g.K.Sink.taken c.args.sink.now in
    let b = g.K.Sink.taken c.write_lines.new.sink in
    let head = all_bytes (header_lines (header_in c.args.order)) in (
      c.new-digest.result,
      c.new-digest.ensures,
      subst (λ l. Writes a b c.new-digest.result c.write_lines.new.digest l) (c.deref.ensures.value ∙ c.in_ok-push_header.ensures.written ∙ ap (λ l. l ++ head) c.new-lines.ensures.items) c.in_ok-write_lines.ensures,
    )
