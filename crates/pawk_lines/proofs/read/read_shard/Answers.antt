use Rattle.std.proofs.Common.{◌∷◌, [], refl}
use Rattle.std.proofs.lemmas.Result.{err_from_is_err_and}
use Rattle.pawk_words.specs.declared.word.Gap.TheVariants.{Space, Newline}
use Rattle.pawk_lines.specs.declared.name.Name.TheVariants as a
use Rattle.pawk_lines.specs.Lines.{count}
use Rattle.pawk_lines.proofs.Forms.{Counts, counts_code, count_field, fail_line, two_first, two_next, some_count, two_counts, one_front, more_front}
use Rattle.pawk_lines.proofs.Turns.{Then}
use Rattle.pawk_lines.proofs.read.read_shard.Goals as goal

pub returns-in_err-first : goal.returns-in_err-first
returns-in_err-first c =
    let p = err_from_is_err_and c.from_residual.result c.from_residual.ensures.1 in
    rw (p.1, p.2) (fail_line a.Shard c.args.bytes.now c.in_err-first.field-0.0 (two_first (Counts Space) (Then (Counts Space) (Counts Newline)) c.args.bytes.now c.in_err-first.field-0.0 (counts_code Space) two_counts c.in_err-first.ensures))

pub returns-in_err-last : goal.returns-in_err-last
returns-in_err-last c =
    let p = err_from_is_err_and c.from_residual-in_err-last.result c.from_residual-in_err-last.ensures.1 in
    rw (p.1, p.2) (fail_line a.Shard c.args.bytes.now c.in_err-last.field-0.0 (two_next (Counts Space) (Then (Counts Space) (Counts Newline)) c.args.bytes.now c.in_ok-first.rest.now (count c.in_ok-first.first) Space c.in_err-last.field-0.0 (counts_code Space) (count_field c.in_ok-first.first Space c.in_ok-first.ensures.0) c.in_ok-first.ensures.1 (two_first (Counts Space) (Counts Newline) c.in_ok-first.rest.now c.in_err-last.field-0.0 (counts_code Space) (some_count Newline) c.in_err-last.ensures)))

pub returns-in_err-of : goal.returns-in_err-of
returns-in_err-of c =
    let p = err_from_is_err_and c.from_residual-in_err-of.result c.from_residual-in_err-of.ensures.1 in
    rw (p.1, p.2) (fail_line a.Shard c.args.bytes.now c.in_err-of.field-0.0 (two_next (Counts Space) (Then (Counts Space) (Counts Newline)) c.args.bytes.now c.in_ok-first.rest.now (count c.in_ok-first.first) Space c.in_err-of.field-0.0 (counts_code Space) (count_field c.in_ok-first.first Space c.in_ok-first.ensures.0) c.in_ok-first.ensures.1 (two_next (Counts Space) (Counts Newline) c.in_ok-first.rest.now c.in_ok-last.rest.now (count c.in_ok-last.last) Space c.in_err-of.field-0.0 (counts_code Space) (count_field c.in_ok-last.last Space c.in_ok-last.ensures.0) c.in_ok-last.ensures.1 c.in_err-of.ensures)))

pub returns : goal.returns
returns c = record {
  line = (c.in_ok-first.ensures.0, c.in_ok-last.ensures.0, c.in_ok-of.ensures.0);
  words = (count c.in_ok-first.first, Space) ∷ (count c.in_ok-last.last, Space) ∷ (count c.in_ok-of.of, Newline) ∷ [];
  is = refl;
  front = more_front c.args.bytes.now c.in_ok-first.rest.now c.in_ok-of.rest.now (count c.in_ok-first.first) Space ((count c.in_ok-last.last, Space) ∷ (count c.in_ok-of.of, Newline) ∷ []) c.in_ok-first.ensures.1
      (more_front c.in_ok-first.rest.now c.in_ok-last.rest.now c.in_ok-of.rest.now (count c.in_ok-last.last) Space ((count c.in_ok-of.of, Newline) ∷ []) c.in_ok-last.ensures.1
      (one_front c.in_ok-last.rest.now c.in_ok-of.rest.now (count c.in_ok-of.of) Newline c.in_ok-of.ensures.1));
}
