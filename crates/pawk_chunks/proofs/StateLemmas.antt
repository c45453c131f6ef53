-- Copies of a record state.
use Rattle.std.proofs.Common.{◌≡◌, ◌∙◌, ℕ, ℤ, Bool, List, [], Option, Vec, Global, ap}
use Rattle.std.specs.Option.{option_map}
use Rattle.pawk_record.specs.Records.{Record, SplitRecord}
use Rattle.pawk_store.specs.declared.state.RecordState.{RecordState as Code}
use Rattle.pawk_store.specs.RecordStates.{RecordState}
use Rattle.pawk_store.specs.StateViews.{state_of}
use Rattle.pawk_merge_law.specs.Chunks.{chunk_state}

no_record : (r : Record) → r.text ≡ [] → r.fields ≡ [] → r ≡ record { text = []; fields = [] }
no_record r t f = ap (λ x. record { text = x; fields = r.fields }) t ∙ ap (λ xs. record { text = []; fields = xs }) f

pub same_state : (nr : ℕ) (s : Code) (line : SplitRecord) (rstart rlength : ℤ) (taken : Option (Vec ℕ Global)) (ranges : Vec Bool Global) →
    line.record_now.text ≡ [] → line.record_now.fields ≡ [] → rstart ≡ s.rstart → rlength ≡ s.rlength →
    option_map (λ (v : Vec ℕ Global). v.items) taken ≡ option_map (λ (v : Vec ℕ Global). v.items) s.taken → ranges.items ≡ s.ranges.items →
    state_of (record { line = line; nr = nr; fnr = s.fnr; name = s.name; rstart = rstart; rlength = rlength; status = s.status; taken = taken; ranges = ranges }) ≡ chunk_state nr (state_of s)
same_state nr s line rstart rlength taken ranges text fields starts longs takes ranged =
    let rest : Record → ℤ → ℤ → Option (List ℕ) → List Bool → RecordState = λ l a b t r.
    record { line = l; nr = nr; fnr = s.fnr; name = (state_of s).name; rstart = a; rlength = b; status = s.status; taken = t; ranges = r } in
    let old = option_map (λ (v : Vec ℕ Global). v.items) s.taken in
    let now = option_map (λ (v : Vec ℕ Global). v.items) taken in
    let none : Record = record { text = []; fields = [] } in
    ap (λ l. rest l rstart rlength now ranges.items) (no_record line.record_now text fields)
    ∙ ap (λ a. rest none a rlength now ranges.items) starts
    ∙ ap (λ b. rest none s.rstart b now ranges.items) longs
    ∙ ap (λ t. rest none s.rstart s.rlength t ranges.items) takes
    ∙ ap (λ r. rest none s.rstart s.rlength old r) ranged
