use Rattle.std.proofs.Common.{◌++◌, ◌∙◌, ◌<◌, ap, ℕ, List, Option, IfSome, length, slice_range, refl, sym, subst, arith, inl, inr}
use Rattle.std.proofs.lemmas.List.{take_rest}
use Rattle.pawk_ere.specs.Answers.{AreMissesFor, IsFor}
use Rattle.pawk_code.specs.declared.word.ReplacedMatches.TheVariants.{All}
use Rattle.pawk_value.specs.Limits.{length_limit}
use Rattle.pawk_store.specs.Builtins.{replaced, replacement}
use Rattle.pawk_builtins.specs.ReplaceWalks.{IsAhead, IsNextReplaced}
use Rattle.pawk_builtins.proofs.LongLemmas.{is_meant, both, longer}
use Rattle.pawk_builtins.proofs.ReplaceLemmas.{laid_step, laid_all, count_more, count_within}
use Rattle.pawk_builtins.proofs.replace.replace_all.Goals as goal
use Rattle.pawk_builtins.proofs.replace.replace_all.Goals.{then-count-gt0+in_ok-extend_from_slice, else-count-gt0}

pub overflow_add-count : goal.overflow_add-count
overflow_add-count c =
    let i = c.loop-misses.invariant in
    let text = c.args.text.now in
    let e = c.requires.matcher.0 in
    let for = c.requires.matcher.1 in
    let next = subst (λ (o : Option (ℕ × ℕ)). IsNextReplaced e text c.loop-misses.from c.loop-misses.behind o) c.in-Some.is (c.in_ok-found.ensures.found e (subst (IsFor e) (sym i.matcher) for)) in
    let few = count_more e c.args.replacement.now text c.loop-misses.out.items c.loop-misses.place c.loop-misses.from c.loop-misses.count c.loop-misses.behind c.in-Some.found (i.laid e for) next in
    let short = c.requires.short in
    omega arith

pub loop-misses-preserved : goal.loop-misses-preserved
loop-misses-preserved c =
    let i = c.loop-misses.invariant in
    let text = c.args.text.now in
    let r = c.args.replacement.now in
    let ahead = subst (λ (o : Option (ℕ × ℕ)). IfSome o (IsAhead text c.loop-misses.from c.loop-misses.behind)) c.in-Some.is c.in_ok-found.ensures.ahead in
    let put = is_meant c.push_match.new.out.items _ c.in_ok-push_match.ensures (omega arith) in
    record {
      matcher = c.next_match.ensures.matcher ∙ i.matcher;
      misses = subst (λ m. AreMissesFor m text c.next_match.new.misses) i.matcher c.next_match.ensures.misses;
      ordered = c.place_past.ensures.within.0;
      high = c.place_past.ensures.within.1;
      laid = λ e for.
          let next = subst (λ (o : Option (ℕ × ℕ)). IsNextReplaced e text c.loop-misses.from c.loop-misses.behind o) c.in-Some.is (c.in_ok-found.ensures.found e (subst (IsFor e) (sym i.matcher) for)) in
          laid_step e r text (replaced All e r text) c.loop-misses.out.items c.loop-misses.place c.loop-misses.from c.loop-misses.count c.loop-misses.behind c.in-Some.found
          c.push_match.new.out.items c.place_past.result i.ordered ahead (i.laid e for) next put c.place_past.ensures.place;
    }

pub returns-then-len-gt-LENGTH_LIMIT-clause-text : goal.returns-then-len-gt-LENGTH_LIMIT-clause-text
returns-then-len-gt-LENGTH_LIMIT-clause-text c = λ e for.
    let i = c.loop-misses.invariant in
    let text = c.args.text.now in
    let r = c.args.replacement.now in
    let m = c.in-Some.found in
    let out = c.loop-misses.out.items in
    let ahead = subst (λ (o : Option (ℕ × ℕ)). IfSome o (IsAhead text c.loop-misses.from c.loop-misses.behind)) c.in-Some.is c.in_ok-found.ensures.ahead in
    let next = subst (λ (o : Option (ℕ × ℕ)). IsNextReplaced e text c.loop-misses.from c.loop-misses.behind o) c.in-Some.is (c.in_ok-found.ensures.found e (subst (IsFor e) (sym i.matcher) for)) in
    let full = out ++ slice_range text c.loop-misses.place m.0 ++ replacement (slice_range text m.0 m.1) r in
    let laid = laid_step e r text (replaced All e r text) out c.loop-misses.place c.loop-misses.from c.loop-misses.count c.loop-misses.behind m full c.place_past.result i.ordered ahead (i.laid e for) next refl c.place_past.ensures.place in
    let over : length_limit < length c.push_match.new.out.items = omega arith in
    let meant = both c.push_match.new.out.items full c.in_ok-push_match.ensures over in
    inr (record {
      some = (omega arith, omega (arith, laid.number));
      long = (over, subst (λ (t : List ℕ). length_limit < length t) (sym laid.text) (longer full _ meant));
    })

pub returns-then-len-gt-LENGTH_LIMIT-clause-few : goal.returns-then-len-gt-LENGTH_LIMIT-clause-few
returns-then-len-gt-LENGTH_LIMIT-clause-few c =
    let i = c.loop-misses.invariant in
    let text = c.args.text.now in
    let e = c.requires.matcher.0 in
    let for = c.requires.matcher.1 in
    let next = subst (λ (o : Option (ℕ × ℕ)). IsNextReplaced e text c.loop-misses.from c.loop-misses.behind o) c.in-Some.is (c.in_ok-found.ensures.found e (subst (IsFor e) (sym i.matcher) for)) in
    let few = count_more e c.args.replacement.now text c.loop-misses.out.items c.loop-misses.place c.loop-misses.from c.loop-misses.count c.loop-misses.behind c.in-Some.found (i.laid e for) next in
    let short = c.requires.short in
    omega arith

pub returns-clause-text : goal.returns-clause-text
returns-clause-text c = λ e for.
    let i = c.loop-misses.invariant in
    let text = c.args.text.now in
    let r = c.args.replacement.now in
    let out = c.loop-misses.out.items in
    let next = subst (λ (o : Option (ℕ × ℕ)). IsNextReplaced e text c.loop-misses.from c.loop-misses.behind o) c.in_default.is (c.in_ok-found.ensures.found e (subst (IsFor e) (sym i.matcher) for)) in
    let all = laid_all e r text (replaced All e r text) out c.loop-misses.place c.loop-misses.from c.loop-misses.count c.loop-misses.behind i.ordered (i.laid e for) next in
    inl (
      all.0,
      λ h. elim c.if-count-gt0.branch [
        | then-count-gt0+in_ok-extend_from_slice w ↦
            all.1 ∙ (ap (λ t. out ++ t) (sym (take_rest text c.loop-misses.place)) ∙ sym w.in_ok-extend_from_slice.ensures.items) ∙ sym (ap (λ v. v.items) w.out-is)
        | else-count-gt0 w ↦ absurd (omega (arith, h, w.if-count-gt0.false))
      ],
    )

pub returns-clause-few : goal.returns-clause-few
returns-clause-few c =
    let i = c.loop-misses.invariant in
    let text = c.args.text.now in
    let r = c.args.replacement.now in
    let e = c.requires.matcher.0 in
    let for = c.requires.matcher.1 in
    let all = (i.laid e for).number in
    let most = count_within e r text in
    let short = c.requires.short in
    omega arith
