use Rattle.std.proofs.Common.{◌≡◌, false, sym}
use Rattle.pawk_lex.specs.declared.token.Mark.TheVariants as m
use Rattle.pawk_syntax_tree.specs.Parse.{sees, after}
use Rattle.pawk_syntax_tree.specs.ItemParse.{pattern}
use Rattle.pawk_syntax_parse.specs.Reads.{input}
use Rattle.pawk_syntax_grammar.proofs.item.pattern.Goals as goal

pub returns : goal.returns
unfolding pattern after
returns c =
    let unseen : sees m.Comma (input c.boxed_whole.new.ts) ≡ false = sym c.if-eat.ensures.seen in
    let here : input c.eat.new.self ≡ input c.boxed_whole.new.ts = rw unseen at c.if-eat.ensures.after in
    rw (c.in_ok-p.ensures, unseen) (rw here at c.matching.ensures)
