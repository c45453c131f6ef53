use Rattle.std.proofs.Common.{◌≡◌, ◌+◌, subst, rules}
use Rattle.pawk_map.specs.Maps.{IsFront, Writes}
use Rattle.pawk_map.specs.declared.draft.Progress.{Progress}
use Rattle.pawk_map.proofs.SayLemmas.{goes_under}
use Rattle.pawk_map.proofs.draft.write_sections.Goals as goal

pub returns-then-records-eq0-clause-some : goal.returns-then-records-eq0-clause-some
returns-then-records-eq0-clause-some g c = λ scalars arrays sections some say ends. absurd (some c.if-records-eq0.true)

pub returns-clause-some : goal.returns-clause-some
returns-clause-some g c =
    let name = c.args.name.now in
    let line = c.in_ok-line.line.items in
    let taken = g.K.Sink.taken c.args.sink.now in
    let mid_taken = g.K.Sink.taken c.write_lines.new.sink in
    let now_taken = g.K.Sink.taken c.write_lines-2.new.sink in
    let mid = c.write_lines.new.digest in
    let now : Progress = record { digest = c.write_lines-2.new.digest; name = c.in_ok-progress.field-0; records = c.in_ok-progress-2.field-0 } in
    let front : IsFront c.args.progress.name.items name line = subst (λ n. IsFront n name line) c.deref.ensures.value c.in_ok-line.ensures in
    let first : Writes taken mid_taken c.args.progress.digest mid line = subst (Writes taken mid_taken c.args.progress.digest mid) c.deref-2.ensures.value c.in_ok-write_lines.ensures in
    let second : Writes mid_taken now_taken mid now.digest c.args.lines.now = c.in_ok-write_lines-2.ensures in
    let counted : now.records ≡ c.args.progress.records + c.args.records = search rules in
    λ scalars arrays sections some say ends.
    goes_under scalars arrays taken mid_taken now_taken c.args.progress now mid name line c.args.lines.now sections c.args.records
    front first second c.in_ok-progress.ensures.items counted say ends
