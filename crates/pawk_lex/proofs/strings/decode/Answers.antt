use Rattle.std.proofs.Common.{sym, ◌∙◌}
use Rattle.std.proofs.lemmas.List.{take_rest}
use Rattle.pawk_lex.proofs.Decoding.{decode_done, decode_turn}
use Rattle.pawk_lex.proofs.strings.decode.Goals as goal

pub returns : goal.returns
returns c = decode_done _ _ _ (sym c.string_byte.ensures.value ∙ c.in_default.is) c.loop-byte.invariant

pub loop-byte-preserved : goal.loop-byte-preserved
loop-byte-preserved c =
    rw take_rest (decode_turn _ _ _ _ c.in-Some.byte c.in-Some.length (sym c.in-Some.ensures.value) c.in-Some.ensures.within.0 c.in_ok-push.ensures.items c.loop-byte.invariant)
