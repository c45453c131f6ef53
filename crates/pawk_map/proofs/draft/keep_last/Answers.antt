use Rattle.std.proofs.Common.{◌≡◌, ◌∙◌, ◌++◌, ◌∷◌, [], ℕ, List, length, ap, refl, sym, subst}
use Rattle.pawk_lines.specs.Lines as lines
use Rattle.pawk_lines.specs.Lines.{line_bytes}
use Rattle.pawk_records.specs.Records.{records_by}
use Rattle.pawk_records.specs.Separator.{rs_of}
use Rattle.pawk_tables.specs.Layout.{Section, kept}
use Rattle.pawk_shards.specs.Told.{kept_records}
use Rattle.pawk_map.specs.Maps.{Ground, GoesUnder, Tells}
use Rattle.pawk_map.specs.Sections.{SaySections, name_after}
use Rattle.pawk_map.specs.declared.draft.Course.TheVariants.{On}
use Rattle.pawk_map.specs.declared.draft.Progress.{Progress}
use Rattle.pawk_map.proofs.TellLemmas.{file_length}
use Rattle.pawk_map.proofs.SayLemmas.{held_kept, held_none, kept_after, say_line}
use Rattle.pawk_map.proofs.draft.keep_last.Goals as goal

pub returns-then-count-eq0 : goal.returns-then-count-eq0
returns-then-count-eq0 g c = λ u same.
    let held = c.args.held in
    let records : List ℕ → List ℕ → ℕ = λ rs bytes. length (records_by rs bytes) in
    let long : length (kept_records u.rs held.name.items held.fnr held.bytes.items) ≡ 0 =
    file_length 0 held.name.items 0 held.fnr (records_by u.rs held.bytes.items)
    ∙ ap (λ r. records r held.bytes.items) (same ∙ sym c.of.ensures) ∙ ap (λ b. records (rs_of c.of.result) b) (sym c.deref.ensures.value)
    ∙ sym c.count_records-count.ensures ∙ c.if-count-eq0.true in
    held_none u (g.K.Sink.taken c.args.sink.now) c.args.progress (kept_records u.rs held.name.items held.fnr held.bytes.items) long

pub returns : goal.returns
returns g c =
    let held = c.args.held in
    let name = held.name.items in
    let bytes = held.bytes.items in
    let fnr = held.fnr in
    let count = c.count_records-count.result in
    let taken = g.K.Sink.taken c.args.sink.now in
    let now_taken = g.K.Sink.taken c.write_sections.new.sink in
    let s : Section = kept fnr bytes in
    let records : List ℕ → List ℕ → ℕ = λ rs bytes. length (records_by rs bytes) in
    let long : (u : Ground) → u.rs ≡ c.args.rs.now → length (kept_records u.rs name fnr bytes) ≡ count = λ u same.
    file_length 0 name 0 fnr (records_by u.rs bytes)
    ∙ ap (λ r. records r bytes) (same ∙ sym c.of.ensures) ∙ ap (λ b. records (rs_of c.of.result) b) (sym c.deref.ensures.value)
    ∙ sym c.count_records-count.ensures in
    let h = c.in_ok-push_kept.ensures in
    let bytes_are = c.deref-2.ensures.value in
    let out : c.push_kept.new.out.items ≡ line_bytes (lines.last fnr bytes) =
    h.written ∙ ap (λ l. l ++ line_bytes (lines.last fnr c.deref-2.result.now)) c.new-lines.ensures.items ∙ ap (λ b. line_bytes (lines.last fnr b)) bytes_are in
    let is = subst (λ b. lines.IsLine (lines.last fnr b)) bytes_are h.line in
    let say : (scalars arrays : ℕ) → SaySections scalars arrays (s ∷ []) c.deref-4.result.now = λ scalars arrays.
    subst (SaySections scalars arrays (s ∷ [])) (sym (c.deref-4.ensures.value ∙ out)) (say_line scalars arrays s (lines.last fnr bytes) is refl) in
    let P : Progress → Type 0 = λ new. (scalars arrays : ℕ) (sections : List Section) → (count ≡ 0 → ⊥) → SaySections scalars arrays sections c.deref-4.result.now →
    name_after c.deref-3.result.now sections ≡ c.deref-3.result.now → GoesUnder scalars arrays taken now_taken c.args.progress new c.deref-3.result.now sections count in
    let Q : Progress → Type 0 = λ new. (u : Ground) → u.rs ≡ c.args.rs.now → Tells u taken now_taken c.args.progress (kept_records u.rs name fnr bytes) On new in
    kept_after c.write_sections.result P Q
    (λ new p u same. held_kept u taken now_taken c.args.progress new name fnr bytes count (long u same) c.if-count-eq0.false
    (subst (λ n. GoesUnder u.scalars u.arrays taken now_taken c.args.progress new n (s ∷ []) count) c.deref-3.ensures.value (p u.scalars u.arrays (s ∷ []) c.if-count-eq0.false (say u.scalars u.arrays) refl)))
    c.write_sections.ensures.some
