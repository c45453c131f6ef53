use Rattle.std.proofs.Common.{◌∙◌, ◌-◌, length, take, drop, ap, subst}
use Rattle.pawk_records.specs.Separator.{rs_of}
use Rattle.pawk_map.specs.Sections.{Parts}
use Rattle.pawk_map.proofs.SayLemmas.{cut_two}
use Rattle.pawk_map.proofs.cut.part_last.Goals as goal

pub returns : goal.returns
returns c =
    let rs = rs_of c.args.separator in
    let bytes = c.args.bytes.items in
    let place = c.begin_of_last-place.result in
    cut_two rs bytes c.truncate.new.self.items c.in_ok-last.last.items place
    (subst (λ b. Parts rs b place) c.deref.ensures.value c.begin_of_last-place.ensures) c.truncate.ensures.items
    (c.in_ok-last.ensures.items ∙ ap (λ b. take (length b - place) (drop place b)) c.deref-2.ensures.value)
