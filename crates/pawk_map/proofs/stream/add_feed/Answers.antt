use Rattle.std.proofs.Common.{ℕ, Vec, Global, ap, refl, sym, subst, ◌∙◌}
use Rattle.pawk_window.specs.Windows.{Contents}
use Rattle.pawk_map.specs.Maps.{ReadsOn}
use Rattle.pawk_map.specs.Readings.{ground_of}
use Rattle.pawk_map.specs.declared.draft.Course.{Course}
use Rattle.pawk_map.specs.declared.draft.Course.TheVariants.{On, Over}
use Rattle.pawk_map.specs.declared.stream.Stream.{Stream}
use Rattle.pawk_map.proofs.FileLemmas.{reads_none, reads_then, file_added}
use Rattle.pawk_map.proofs.stream.add_feed.Goals as goal

pub loop-init : goal.loop-init
loop-init g c =
    let s : Stream = record { draft = c.args.stream.draft; window = c.clear.new.self; spare = c.args.stream.spare } in
    let goes = ap (λ (w : Contents). w.ended) c.clear.ensures in
    record {
      reads = reads_none (ground_of c.args.reading) _ _ _ s 0 goes;
      by_rs = ap (λ (w : Contents). w.rs) c.clear.ensures ∙ c.requires.by_rs;
      goes = goes;
      name = refl;
    }

pub returns-then-is_ended-clause-adds : goal.returns-then-is_ended-clause-adds
returns-then-is_ended-clause-adds g c =
    let u = ground_of c.args.reading in
    let s : Stream = record { draft = c.args.stream.draft; window = c.clear.new.self; spare = c.args.stream.spare } in
    let left = g.S.Source.left c.loop.feed.source in
    let now_left = g.S.Source.left c.step.new.feed.source in
    let taken = g.K.Sink.taken c.loop.sink in
    let now_taken = g.K.Sink.taken c.step.new.sink in
    let last = subst (λ (n : Vec ℕ Global). ReadsOn u left now_left taken now_taken n.items c.loop.stream c.loop.fnr c.in_ok-next.course c.in_ok-next.next c.in_ok-next.count) c.loop.invariant.name c.in_ok-next.ensures.reads in
    let last_on = subst (λ (o : Course). ReadsOn u left now_left taken now_taken c.args.feed.now.name.items c.loop.stream c.loop.fnr o c.in_ok-next.next c.in_ok-next.count) c.in-On.is last in
    file_added g.S.Source.left u c.args.feed.now _ _ now_left s On c.in_ok-next.next c.in_ok-next.count (ap (λ (w : Contents). w.tail) c.clear.ensures)
    (reads_then u _ _ _ _ _ _ _ s 0 c.loop.stream c.loop.fnr On c.in_ok-next.next c.in_ok-next.count c.loop.invariant.reads c.loop.invariant.goes last_on)
    (λ _. sym c.is_ended.ensures ∙ c.if-is_ended.true)

pub returns-in-Over-clause-adds : goal.returns-in-Over-clause-adds
returns-in-Over-clause-adds g c =
    let u = ground_of c.args.reading in
    let s : Stream = record { draft = c.args.stream.draft; window = c.clear.new.self; spare = c.args.stream.spare } in
    let left = g.S.Source.left c.loop.feed.source in
    let now_left = g.S.Source.left c.step.new.feed.source in
    let taken = g.K.Sink.taken c.loop.sink in
    let now_taken = g.K.Sink.taken c.step.new.sink in
    let last = subst (λ (n : Vec ℕ Global). ReadsOn u left now_left taken now_taken n.items c.loop.stream c.loop.fnr c.in_ok-next.course c.in_ok-next.next c.in_ok-next.count) c.loop.invariant.name c.in_ok-next.ensures.reads in
    let last_over = subst (λ (o : Course). ReadsOn u left now_left taken now_taken c.args.feed.now.name.items c.loop.stream c.loop.fnr o c.in_ok-next.next c.in_ok-next.count) c.in-Over.is last in
    file_added g.S.Source.left u c.args.feed.now _ _ now_left s Over c.in_ok-next.next c.in_ok-next.count (ap (λ (w : Contents). w.tail) c.clear.ensures)
    (reads_then u _ _ _ _ _ _ _ s 0 c.loop.stream c.loop.fnr Over c.in_ok-next.next c.in_ok-next.count c.loop.invariant.reads c.loop.invariant.goes last_over)
    (λ on. absurd cc)

pub loop-preserved : goal.loop-preserved
loop-preserved g c =
    let u = ground_of c.args.reading in
    let s : Stream = record { draft = c.args.stream.draft; window = c.clear.new.self; spare = c.args.stream.spare } in
    let left = g.S.Source.left c.loop.feed.source in
    let now_left = g.S.Source.left c.step.new.feed.source in
    let taken = g.K.Sink.taken c.loop.sink in
    let now_taken = g.K.Sink.taken c.step.new.sink in
    let last = subst (λ (n : Vec ℕ Global). ReadsOn u left now_left taken now_taken n.items c.loop.stream c.loop.fnr c.in_ok-next.course c.in_ok-next.next c.in_ok-next.count) c.loop.invariant.name c.in_ok-next.ensures.reads in
    let last_on = subst (λ (o : Course). ReadsOn u left now_left taken now_taken c.args.feed.now.name.items c.loop.stream c.loop.fnr o c.in_ok-next.next c.in_ok-next.count) c.in-On.is last in
    record {
      reads = reads_then u _ _ _ _ _ _ _ s 0 c.loop.stream c.loop.fnr On c.in_ok-next.next c.in_ok-next.count c.loop.invariant.reads c.loop.invariant.goes last_on;
      by_rs = c.in_ok-next.ensures.by_rs;
      goes = sym c.is_ended.ensures ∙ c.if-is_ended.false;
      name = c.in_ok-next.ensures.name ∙ c.loop.invariant.name;
    }
