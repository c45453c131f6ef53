use Rattle.std.proofs.Common.{◌≡◌, ◌∙◌, ◌+◌, ◌∷◌, [], ℕ, List, Vec, Global, length, ap, inr, refl, sym, subst, rules}
use Rattle.std.specs.Prelude.{MatchOption}
use Rattle.std.specs.List.{flat_map}
use Rattle.pawk_records.specs.Records.{records_by}
use Rattle.pawk_input.specs.Input.{File, file_at, file_items, files_of}
use Rattle.pawk_input.specs.Plan.{chunk_items}
use Rattle.pawk_tables.specs.Layout.{kept}
use Rattle.pawk_pieces.proofs.NumberedLemmas.{numbered_on}
use Rattle.pawk_map.specs.Runs.{IsApart, phase_in}
use Rattle.pawk_map.specs.Sections.{SaySections}
use Rattle.pawk_map.specs.declared.apart.Apart.{Apart}
use Rattle.pawk_map.proofs.ApartLemmas.{is_apart, is_none}
use Rattle.pawk_map.proofs.apart.run_apart.Goals as goal

pub run_parts-requires-clause-chunked : goal.run_parts-requires-clause-chunked
run_parts-requires-clause-chunked g c κs within = record {
  one_byte = c.requires.one_byte;
  ready = c.in_ok-input.ensures.ready c.args.piece.rs.now;
  planned = inr c.in_ok-plan-2.ensures.placed;
}

pub run_parts-requires-clause-numbered : goal.run_parts-requires-clause-numbered
run_parts-requires-clause-numbered g c κs within =
    let rs = c.args.piece.rs.now in
    let nr = c.in_ok-nr.nr in
    let f = file_at (files_of c.in_ok-input.input) 0 in
    numbered_on nr nr c.args.piece.fnr f.name (records_by rs f.bytes)
    (flat_map (chunk_items rs (files_of c.in_ok-input.input)) c.in_ok-plan-2.plan) refl c.in_ok-plan-2.ensures.records

pub returns : goal.returns
returns g c =
    let s = c.args.setting in
    let piece = c.args.piece in
    let rs = piece.rs.now in
    let nr = c.in_ok-nr.nr in
    let files = files_of c.in_ok-input.input in
    let items = flat_map (chunk_items rs files) c.in_ok-plan-2.plan in
    let bytes = c.in_ok-bytes.bytes in
    let x : Apart = record { lines = c.in_ok-lines_of.field-0; records = c.count_records.result; is_through = c.is_some-is_through.result; bytes = bytes } in
    let at : nr ≡ s.state.now.nr + c.args.before = search rules in
    let same : bytes.items ≡ piece.bytes.items = c.in_ok-bytes.ensures piece.name.now piece.bytes.items c.in_ok-input.ensures.file in
    let are : items ≡ file_items 0 piece.name.now nr piece.fnr (records_by rs piece.bytes.items) =
    c.in_ok-plan-2.ensures.records ∙ ap (λ (fs : List File). file_items 0 (file_at fs 0).name nr piece.fnr (records_by rs (file_at fs 0).bytes)) c.in_ok-input.ensures.file in
    let counted : c.count_records.result ≡ length (records_by rs piece.bytes.items) =
    c.count_records.ensures ∙ ap (λ r. length (records_by r c.deref-2.result.now)) c.of.ensures ∙ ap (λ b. length (records_by rs b)) (c.deref-2.ensures.value ∙ same) in
    let said : MatchOption c.in_ok-parts.parts ((scalars arrays : ℕ) → SaySections scalars arrays (kept piece.fnr piece.bytes.items ∷ []) x.lines.items) (λ (l : Vec ℕ Global). x.lines.items ≡ l.items) =
    subst (λ b. MatchOption c.in_ok-parts.parts ((scalars arrays : ℕ) → SaySections scalars arrays (kept piece.fnr b ∷ []) x.lines.items) (λ (l : Vec ℕ Global). x.lines.items ≡ l.items))
    (c.deref.ensures.value ∙ same) c.in_ok-lines_of.ensures in
    subst (λ n. IsApart (phase_in s) n piece x) at
    (is_apart (phase_in s) nr piece x items c.in_ok-parts.parts are counted
    (λ off. is_none c.in_ok-parts.parts (sym c.is_some-is_through.ensures ∙ off)) c.in_ok-parts.ensures said)
