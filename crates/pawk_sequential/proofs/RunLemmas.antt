-- How a run goes on after a record.
use Rattle.std.proofs.Common.{◌≡◌, ◌∙◌, ℕ, List, ◌∷◌, true, false, Option, refl, ap, if◌then◌else◌}
use Rattle.std.proofs.lemmas.Bool.{false≢true, true≢false}
use Rattle.pawk_world.specs.Worlds.{Calls}
use Rattle.pawk_code.specs.Programs.{Code}
use Rattle.pawk_input.specs.Input.{Item}
use Rattle.pawk_store.specs.Records.{Left, through, next_file, exit, fault, clash, End, one_record, run_part}
use Rattle.pawk_store.specs.Runs.{after_leaving, is_skipped, records_from}
use Rattle.pawk_sequential.specs.Ends.{ends_records, file_left}

module _ {S : Type 0} where
  after_end : (go : Option ℕ → End S → End S) (file : ℕ) (left : Left) (e : End S) → ends_records left ≡ true → after_leaving go file left e ≡ e
  after_end go file through e is = absurd (false≢true is)
  after_end go file next_file e is = absurd (false≢true is)
  after_end go file (exit n) e is = refl
  after_end go file (fault f) e is = refl
  after_end go file clash e is = refl

  after_next : (go : Option ℕ → End S → End S) (file : ℕ) (left : Left) (e : End S) → ends_records left ≡ false → after_leaving go file left e ≡ go (file_left left file) e
  after_next go file through e is = refl
  after_next go file next_file e is = refl
  after_next go file (exit n) e is = absurd (true≢false is)
  after_next go file (fault f) e is = absurd (true≢false is)
  after_next go file clash e is = absurd (true≢false is)

module _ {S : Type 0} (calls : Calls S) (eres : List (List ℕ)) (code : Code) (budget : ℕ) where
  one_more : (skip : Option ℕ) (e r : End S) (i : Item) (later : List Item) → is_skipped skip i ≡ false → run_part (one_record calls eres code.functions code.rules i) budget e.world e.state e.output ≡ r → records_from calls eres code budget skip e (i ∷ later) ≡ after_leaving (λ s x. records_from calls eres code budget s x later) i.file r.left r
  one_more skip e r i later goes ran =
      ap (λ b. if b then records_from calls eres code budget skip e later else after_leaving (λ s x. records_from calls eres code budget s x later) i.file (run_part (one_record calls eres code.functions code.rules i) budget e.world e.state e.output).left (run_part (one_record calls eres code.functions code.rules i) budget e.world e.state e.output)) goes
      ∙ ap (λ (r : End S). after_leaving (λ s x. records_from calls eres code budget s x later) i.file r.left r) ran

  -- the run ends at a record
  pub last_record : (skip : Option ℕ) (e r : End S) (i : Item) (later : List Item) → is_skipped skip i ≡ false → run_part (one_record calls eres code.functions code.rules i) budget e.world e.state e.output ≡ r → ends_records r.left ≡ true → records_from calls eres code budget skip e (i ∷ later) ≡ r
  last_record skip e r i later goes ran ends =
      one_more skip e r i later goes ran ∙ after_end (λ s x. records_from calls eres code budget s x later) i.file r.left r ends

  -- the run goes on after a record
  pub next_record : (skip : Option ℕ) (e r : End S) (i : Item) (later : List Item) → is_skipped skip i ≡ false → run_part (one_record calls eres code.functions code.rules i) budget e.world e.state e.output ≡ r → ends_records r.left ≡ false → records_from calls eres code budget skip e (i ∷ later) ≡ records_from calls eres code budget (file_left r.left i.file) r later
  next_record skip e r i later goes ran ends =
      one_more skip e r i later goes ran ∙ after_next (λ s x. records_from calls eres code budget s x later) i.file r.left r ends
