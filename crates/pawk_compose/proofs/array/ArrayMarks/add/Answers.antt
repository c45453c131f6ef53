use Rattle.std.proofs.Common.{◌≡◌, Some, refl, sym, subst}
use Rattle.pawk_keyed_map.specs.Keys.{text_of}
use Rattle.pawk_frozen.specs.Marks.{Marks, mark_found, put_mark}
use Rattle.pawk_frozen.specs.MarkViews.{mark_view}
use Rattle.pawk_shards.specs.Joined.{composed}
use Rattle.pawk_compose.proofs.KeyLemmas.{AreNoting, all_noted, fewer_left, first_follows, none_noted, one_noted}
use Rattle.pawk_compose.proofs.array.ArrayMarks.add.Goals as goal

pub loop-key-init : goal.loop-key-init
loop-key-init c =
    subst (λ (left : Marks). AreNoting c.args.self.now c.args.marks c.args.self.now left) (sym c.into_pairs-pairs.ensures)
    (none_noted c.args.self.now c.args.marks c.requires)

pub append-requires : goal.append-requires
append-requires c =
    let k = text_of c.in-Some.key in
    let m = mark_view c.in-Some.mark in
    rw (c.in_ok-first.ensures.value, c.text.ensures)
    (first_follows k m c.loop-key.pairs c.next.new.self c.in-Some.ensures.0 c.in-Some.ensures.1 c.loop-key.self c.loop-key.invariant.follow)

-- for a short key, and for a long one, whose memory is freed
pub loop-key-smaller : goal.loop-key-smaller
loop-key-smaller c =
    fewer_left (text_of c.in-Some.key) (mark_view c.in-Some.mark) c.loop-key.pairs c.next.new.self c.in-Some.ensures.0 c.in-Some.ensures.1

pub loop-key-smaller-in_ok-first : goal.loop-key-smaller-in_ok-first
loop-key-smaller-in_ok-first c =
    fewer_left (text_of c.in-Some.key) (mark_view c.in-Some.mark) c.loop-key.pairs c.next.new.self c.in-Some.ensures.0 c.in-Some.ensures.1

pub loop-key-preserved : goal.loop-key-preserved
loop-key-preserved c =
    let k = text_of c.in-Some.key in
    let m = mark_view c.in-Some.mark in
    let now = c.loop-key.self in
    let w = mark_view c.append.new.first in
    let one : composed (mark_found k now) m ≡ Some w = rw (c.in_ok-first.ensures.value, c.text.ensures) at c.append.ensures in
    rw c.text.ensures
    (one_noted c.args.self.now c.args.marks now (put_mark k w now) c.loop-key.pairs c.next.new.self k m w c.in-Some.ensures.0 c.in-Some.ensures.1 refl one c.loop-key.invariant)

pub loop-key-preserved-in_ok-first : goal.loop-key-preserved-in_ok-first
loop-key-preserved-in_ok-first c =
    let k = text_of c.in-Some.key in
    let m = mark_view c.in-Some.mark in
    let now = c.loop-key.self in
    let w = mark_view c.append.new.first in
    let one : composed (mark_found k now) m ≡ Some w = rw (c.in_ok-first.ensures.value, c.text.ensures) at c.append.ensures in
    rw c.text.ensures
    (one_noted c.args.self.now c.args.marks now (put_mark k w now) c.loop-key.pairs c.next.new.self k m w c.in-Some.ensures.0 c.in-Some.ensures.1 refl one c.loop-key.invariant)

pub returns : goal.returns
returns c =
    let all = all_noted c.args.self.now c.args.marks c.loop-key.self c.loop-key.pairs c.in_default.ensures.0 c.loop-key.invariant in
    record { joined = all.0; rise = all.1 }
