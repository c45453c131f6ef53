use Rattle.std.proofs.Common.{◌<◌, length, map, ◌∙◌, ap, sym, arith}
use Rattle.std.proofs.lemmas.List.{get_or-map}
use Rattle.pawk_code.specs.ProgramViews.{rule_view}
use Rattle.pawk_ere.proofs.Needed.{filled}
use Rattle.pawk_prefilter.specs.Passages.{texts_of}
use Rattle.pawk_prefilter.proofs.PassageLemmas.{one_more_rule}
use Rattle.pawk_prefilter.proofs.passage.words_of_rules.Goals as goal

pub loop-rule-preserved : goal.loop-rule-preserved
loop-rule-preserved c =
    let within : c.loop-rule.rule-index < length c.args.rules.now = omega (arith, c.loop-rule-test.true) in
    one_more_rule (texts_of c.args.expressions.now) c.loop-rule.all.items c.in_ok-words.words.items c.append.new.self.items (map rule_view c.args.rules.now) c.loop-rule.rule-index (rule_view c.rule-item.result)
    c.in_ok-append.ensures.items
    (λ d. get_or-map rule_view c.args.rules.now c.loop-rule.rule-index c.rule-item.result d within ∙ ap rule_view (sym c.rule-item.is))
    c.loop-rule.invariant
    (c.in_ok-words.ensures (filled c.in_ok-words.words c.is_empty.result c.is_empty.ensures c.if-is_empty.false))
