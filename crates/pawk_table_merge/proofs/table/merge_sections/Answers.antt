use Rattle.std.proofs.Common.{Option, Some, None, refl, subst}
use Rattle.pawk_tables.specs.Reading.{IsInFront, item_of, section, records}
use Rattle.pawk_tables.specs.Views.{section_of}
use Rattle.pawk_tables.specs.declared.section.ReadSection.{ReadSection}
use Rattle.pawk_table_merge.specs.declared.merging.TableEnd.{TableEnd}
use Rattle.pawk_table_merge.specs.Sections.{MergesSection}
use Rattle.pawk_table_merge.proofs.TableLemmas.{merges_none, merges_more, merges_last, merges_all}
use Rattle.pawk_table_merge.proofs.RefusalLemmas.{Laws, if_err, sections_refused, section_refused}
use Rattle.pawk_table_merge.proofs.table.merge_sections.Goals as goal

pub loop-init : goal.loop-init
loop-init g c = record { merges = merges_none _ _ _ _ _ _ refl refl; ready = c.requires.ready }

pub returns-in-Some-clause-merges : goal.returns-in-Some-clause-merges
returns-in-Some-clause-merges g c =
    let s = c.args.setting in
    let h = c.args.shape in
    let t = section_of c.in-Section.section in
    let rest = c.loop.rest.now in
    let after = c.in_ok-item.after.now in
    let mid = g.K.Sink.taken c.loop.sink in
    let now_taken = g.K.Sink.taken c.merge_section.new.sink in
    let here : IsInFront h.scalars h.arrays rest (section t) after = subst (λ (i : ReadSection). IsInFront h.scalars h.arrays rest (item_of i) after) c.in-Section.is c.in_ok-item.ensures.found in
    let last : MergesSection s t mid now_taken c.loop.progress c.in_ok-next-in-Section.next (Some c.in-Some.end) =
    subst (λ (e : Option TableEnd). MergesSection s t mid now_taken c.loop.progress c.in_ok-next-in-Section.next e) c.in-Some.is c.in_ok-next-in-Section.ensures.merges in
    merges_last c.fronts_are_single.ensures.section s h c.args.sections.now rest _ mid now_taken c.args.flow c.loop.progress c.loop.invariant.merges t after here c.in_ok-next-in-Section.next c.in-Some.end last

pub returns-then-may_end-clause-merges : goal.returns-then-may_end-clause-merges
returns-then-may_end-clause-merges g c =
    let h = c.args.shape in
    let rest = c.loop.rest.now in
    let after = c.in_ok-item.after.now in
    let here : IsInFront h.scalars h.arrays rest (records c.in-Records.records) after = subst (λ (i : ReadSection). IsInFront h.scalars h.arrays rest (item_of i) after) c.in-Records.is c.in_ok-item.ensures.found in
    merges_all c.fronts_are_single.ensures.section c.args.setting h c.args.sections.now rest _ _ c.args.flow c.loop.progress c.loop.invariant.merges c.in-Records.records after here
    (c.may_end.ensures c.if-may_end.true).0 (c.may_end.ensures c.if-may_end.true).1

pub loop-preserved : goal.loop-preserved
loop-preserved g c =
    let s = c.args.setting in
    let h = c.args.shape in
    let t = section_of c.in-Section.section in
    let rest = c.loop.rest.now in
    let after = c.in_ok-item.after.now in
    let mid = g.K.Sink.taken c.loop.sink in
    let now_taken = g.K.Sink.taken c.merge_section.new.sink in
    let here : IsInFront h.scalars h.arrays rest (section t) after = subst (λ (i : ReadSection). IsInFront h.scalars h.arrays rest (item_of i) after) c.in-Section.is c.in_ok-item.ensures.found in
    let more : MergesSection s t mid now_taken c.loop.progress c.in_ok-next-in-Section.next None =
    subst (λ (e : Option TableEnd). MergesSection s t mid now_taken c.loop.progress c.in_ok-next-in-Section.next e) c.in_default.is c.in_ok-next-in-Section.ensures.merges in
    record {
      merges = merges_more c.fronts_are_single.ensures.section s h c.args.sections.now rest _ mid now_taken c.args.flow c.loop.progress c.loop.invariant.merges t after here c.in_ok-next-in-Section.next more;
      ready = c.in_ok-next-in-Section.ensures.ready;
    }

pub returns-in_err-item-clause-refused : goal.returns-in_err-item-clause-refused
returns-in_err-item-clause-refused g c =
    let law : Laws = record { pieces = c.pieces_follow.ensures.pieces tt; output = c.output_is_appended.ensures.records tt } in
    if_err _ _ (sections_refused law c.args.setting c.args.shape c.args.sections.now c.loop.rest.now _ _ c.args.flow c.loop.progress c.loop.invariant.merges)

pub returns-in_err-next-in-Section-clause-refused : goal.returns-in_err-next-in-Section-clause-refused
returns-in_err-next-in-Section-clause-refused g c =
    let law : Laws = record { pieces = c.pieces_follow.ensures.pieces tt; output = c.output_is_appended.ensures.records tt } in
    let h = c.args.shape in
    let rest = c.loop.rest.now in
    let after = c.in_ok-item.after.now in
    let here : IsInFront h.scalars h.arrays rest (section (section_of c.in-Section.section)) after = subst (λ (i : ReadSection). IsInFront h.scalars h.arrays rest (item_of i) after) c.in-Section.is c.in_ok-item.ensures.found in
    if_err _ _ (section_refused law c.args.setting h c.args.sections.now rest _ _ c.args.flow c.loop.progress c.loop.invariant.merges c.fronts_are_single.ensures.section _ (section_of c.in-Section.section) after here
    c.in_err-next-in-Section.ensures.refused)

pub returns-in-Records-clause-refused : goal.returns-in-Records-clause-refused
returns-in-Records-clause-refused g c =
    let law : Laws = record { pieces = c.pieces_follow.ensures.pieces tt; output = c.output_is_appended.ensures.records tt } in
    sections_refused law c.args.setting c.args.shape c.args.sections.now c.loop.rest.now _ _ c.args.flow c.loop.progress c.loop.invariant.merges

pub returns-clause-refused : goal.returns-clause-refused
returns-clause-refused g c =
    let law : Laws = record { pieces = c.pieces_follow.ensures.pieces tt; output = c.output_is_appended.ensures.records tt } in
    sections_refused law c.args.setting c.args.shape c.args.sections.now c.loop.rest.now _ _ c.args.flow c.loop.progress c.loop.invariant.merges
