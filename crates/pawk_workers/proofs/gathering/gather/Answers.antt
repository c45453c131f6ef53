use Rattle.std.proofs.Common.{◌≡◌, ◌<◌, ℕ, List, [], ◌∷◌, ◌++◌, length, All, IsOk, refl, sym, ap, ◌∙◌, subst, arith}
use Rattle.std.specs.List.{flat_map}
use Rattle.std.proofs.lemmas.List.{map_push, flat_map_more}
use Rattle.std.proofs.lemmas.List.Elements.{All-same, All-head, All-tail, All-push}
use Rattle.pawk_workers.specs.Counting.{Numbered, Enters, numbered_in, numbered_of}
use Rattle.pawk_workers.specs.declared.shifts.CountShift.{CountShift}
use Rattle.pawk_workers.proofs.CountLemmas.{Counts, enters_shift, written_back}
use Rattle.pawk_workers.proofs.gathering.gather.Goals as goal

pub enter_counts-requires : goal.enter_counts-requires
enter_counts-requires c =
    let P = λ (s : CountShift). All (λ (r : Numbered). r.0 < c.args.blocks) (numbered_of s) in
    let steps = c.in-Some.ensures.steps.0 in
    let left : All P (c.in-Some.shift ∷ c.next.new.self.rest.items) = All-same P _ _ (sym steps) c.loop-shift.invariant.within in
    let here : All (λ (r : Numbered). r.0 < c.args.blocks) (numbered_in c.in-Some.shift.counts) = All-head P c.in-Some.shift c.next.new.self.rest.items left in
    let v = c.in_ok-numbered.field-0 in
    let ok : All (λ (r : Numbered). r.0 < c.args.blocks) v.items = subst (λ (r : Counts). All (λ (x : Numbered). x.0 < c.args.blocks) (numbered_in r)) c.in_ok-numbered.was here in
    let long : c.args.blocks ≡ length c.deref_mut.result.now = omega (arith, c.deref_mut.ensures.len, c.loop-shift.invariant.len) in
    record {
      within = subst (All (λ (x : Numbered). x.0 < length c.deref_mut.result.now)) (sym c.as_slice.ensures.value)
          (subst (λ (k : ℕ). All (λ (x : Numbered). x.0 < k) v.items) long ok);
    }

pub loop-shift-preserved : goal.loop-shift-preserved
loop-shift-preserved c =
    let P = λ (s : CountShift). All (λ (r : Numbered). r.0 < c.args.blocks) (numbered_of s) in
    let steps = c.in-Some.ensures.steps.0 in
    let left : All P (c.in-Some.shift ∷ c.next.new.self.rest.items) = All-same P _ _ (sym steps) c.loop-shift.invariant.within in
    let ss = c.loop-shift.yielded in
    let s = c.in-Some.shift in
    let here = c.as_slice.result.now in
    let new = c.enter_counts.new.counts in
    let before = c.loop-shift.counts.items in
    let wrote = c.enter_counts.ensures.len in
    let back = written_back c.loop-shift.counts.len new before (omega (arith, wrote, c.deref_mut.ensures.len)) (omega (arith, c.loop-shift.counts.ok.0)) in
    let so_far : Enters (flat_map numbered_of ss) c.deref_mut.result.now = subst (Enters (flat_map numbered_of ss)) (sym c.deref_mut.ensures.value) c.loop-shift.invariant.counts in
    let entered : Enters (flat_map numbered_of ss ++ here) new = enters_shift (flat_map numbered_of ss) here c.deref_mut.result.now new so_far c.enter_counts.ensures.entered in
    let same : flat_map numbered_of ss ++ here ≡ flat_map numbered_of (ss ++ s ∷ []) =
    ap (λ l. flat_map numbered_of ss ++ l) (c.as_slice.ensures.value ∙ sym (ap numbered_in c.in_ok-numbered.was)) ∙ flat_map_more numbered_of [] ss s in
    record {
      within = All-tail P _ _ left;
      seats = c.in_ok-push.ensures.items ∙ (ap (λ l. l ++ s.seat ∷ []) c.loop-shift.invariant.seats ∙ sym (map_push (λ (x : CountShift). x.seat) ss s));
      len = c.loop-shift.invariant.len;
      counts = subst (Enters (flat_map numbered_of (ss ++ s ∷ []))) (sym back) (subst (λ (l : List Numbered). Enters l new) same entered);
      all = All-push (λ (x : CountShift). IsOk x.counts) ss s c.loop-shift.invariant.all (subst (λ (r : Counts). IsOk r) (sym c.in_ok-numbered.was) refl);
    }
