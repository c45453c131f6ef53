-- How many chunks the plan by size has, and that one by at least a size is never refused for them.
use Rattle.std.proofs.Common.{◌≡◌, ◌≢◌, ℕ, zero, suc, ◌+◌, ◌-◌, ◌*◌, ◌/◌, ◌<◌, ◌≤◌, Bool, true, false, if◌then◌else◌, nat_le, max, List, [], ◌∷◌, length, refl, ap, arith, length-append, mul-add, mul-suc, mul-zero, mul-le-mul_left, mul-le-mul_right}
use Rattle.std.proofs.lemmas.Nat.{le-div}
use Rattle.pawk_records.specs.Begins.{begins_by, begins_at, places_where}
use Rattle.pawk_records.specs.Records.{records_by}
use Rattle.pawk_input.specs.Input.{File, total_size}
use Rattle.pawk_input.specs.Plan.{chunks_at, chunks_of, places_by_size, places_by_size_from, sized}
use Rattle.pawk_input.specs.Limits.{most_chunks}
use Rattle.pawk_input.specs.declared.cutting.CutRefusal.{CutRefusal}
use Rattle.pawk_input.specs.declared.cutting.CutRefusal.TheVariants.{NoRecord, NotRising, TooMany, Memory}
use Rattle.pawk_routes.specs.Cuttings.{IsRefused, PlanRefused, size_taken}
use Rattle.pawk_routes.specs.declared.cutting.Cutting.TheVariants.{AtLeast}

abbrev Below : ℕ → List ℕ → Type 0
Below n [] = Unit {0}
Below n (p ∷ ps) = (p < n) × Below n ps

one_where : (from bound : ℕ) (later : List ℕ) → from < bound → Below bound later → (b : Bool) → Below bound (if b then from ∷ later else later)
one_where from bound later low below true = (low, below)
one_where from bound later low below false = below

-- the places that pass a test are those that were tested
where_below : (test : ℕ → Bool) (from n bound : ℕ) → from + n ≤ bound → Below bound (places_where test from n)
where_below test from zero bound h = tt
where_below test from (suc n) bound h = one_where from bound (places_where test (from + 1) n) (omega arith) (where_below test (from + 1) n bound (omega arith)) (test from)

one_apart : (size from bound p : ℕ) (taken left : List ℕ) → size * length taken + p ≤ bound → size * length left + from ≤ bound → (b : Bool) → nat_le (from + size) p ≡ b
    → size * length (if b then p ∷ taken else left) + from ≤ bound
one_apart size from bound p taken left far near true is =
    let past : from + size ≤ p = grind (arith) in
    omega (arith, far, past, mul-suc size (length taken))
one_apart size from bound p taken left far near false is = near

-- of places below a bound, those that are taken from one on lie apart by the size
apart : (size from bound : ℕ) (ps : List ℕ) → from ≤ bound → Below bound ps → size * length (places_by_size_from (λ _. size) from ps) + from ≤ bound
apart size from bound [] low below = omega (arith, mul-zero size)
apart size from bound (p ∷ ps) low below =
    one_apart size from bound p (places_by_size_from (λ _. size) p ps) (places_by_size_from (λ _. size) from ps)
    (apart size p bound ps (omega (arith, below.0)) below.1) (apart size from bound ps low below.1) (nat_le (from + size) p) refl

-- a file has one chunk, and others that have no more bytes than it
pub record Count (size bytes count : ℕ) : Type 0 where
  pub others : ℕ
  pub few : count ≤ others + 1
  pub small : size * others ≤ bytes

count_places : (size bound : ℕ) (ps : List ℕ) → Below bound ps → Count size bound (length (places_by_size (λ _. size) ps))
count_places size bound [] below = record { others = 0; few = omega arith; small = omega (arith, mul-zero size) }
count_places size bound (p ∷ ps) below =
    let far = apart size p bound ps (omega (arith, below.0)) below.1 in
    record { others = length (places_by_size_from (λ _. size) p ps); few = omega arith; small = omega (arith, far) }

length_at : (rs : List ℕ) (file : ℕ) (bytes : List ℕ) (nr : ℕ) (ps : List ℕ) → length (chunks_at rs file bytes nr ps) ≡ length ps
length_at rs file bytes nr [] = refl
length_at rs file bytes nr (p ∷ ps) = ap suc (length_at rs file bytes nr ps)

-- all files have as many chunks as there are, and others that have no more bytes than all
pub record CountAll (size total files count : ℕ) : Type 0 where
  pub others : ℕ
  pub few : count ≤ others + files
  pub small : size * others ≤ total

count_all : (rs : List ℕ) (size file nr : ℕ) (files : List File) → CountAll size (total_size files) (length files) (length (chunks_of rs (λ _ places. places_by_size (λ _. size) places) file nr files))
count_all rs size file nr [] = record { others = 0; few = omega arith; small = omega (arith, mul-zero size) }
count_all rs size file nr (f ∷ fs) =
    let places = places_by_size (λ _. size) (begins_by rs f.bytes) in
    let here = count_places size (length f.bytes) (begins_by rs f.bytes) (where_below (begins_at rs f.bytes) 0 (length f.bytes) (length f.bytes) (omega arith)) in
    let before = nr + length (records_by rs f.bytes) in
    let later = count_all rs size (file + 1) before fs in
    let both = length-append (chunks_at rs file f.bytes nr places) (chunks_of rs (λ _ places. places_by_size (λ _. size) places) (file + 1) before fs) in
    let at = length_at rs file f.bytes nr places in
    record {
      others = here.others + later.others;
      few = omega (arith, both, at, here.few, later.few);
      small = omega (arith, mul-add size here.others later.others, here.small, later.small);
    }

-- there are no more than there may be, where the files are not
pub not_many : (rs : List ℕ) (files : List File) (bytes : ℕ) → length files ≤ most_chunks → length (sized rs files (size_taken files bytes)) ≤ most_chunks
not_many rs files bytes few = by_test (nat_le (length (sized rs files size)) most_chunks) refl
  where
    size : ℕ
    size = size_taken files bytes

    k : ℕ
    k = max (most_chunks - length files) 1

    count : CountAll size (total_size files) (length files) (length (sized rs files size))
    count = count_all rs size 0 0 files

    by_test : (b : Bool) → nat_le (length (sized rs files size)) most_chunks ≡ b → length (sized rs files size) ≤ most_chunks
    by_test true is = grind (arith)
    by_test false is =
        let many : most_chunks < length (sized rs files size) = grind (arith) in
        let enough : k ≤ count.others = grind (arith, many, count.few) in
        let great : total_size files / k + 1 ≤ size = grind (arith) in
        let wide : (total_size files / k + 1) * k ≤ size * k = mul-le-mul_right k great in
        let all : size * k ≤ size * count.others = mul-le-mul_left size enough in
        let some : 0 < k = grind (arith) in
        let over = le-div (total_size files / k + 1) (total_size files) k some (omega (arith, wide, all, count.small)) in
        absurd (omega (arith, over))

why_not : (rs : List ℕ) (files : List File) (bytes : ℕ) (e : CutRefusal) → length files ≤ most_chunks → e ≢ Memory → PlanRefused rs files (AtLeast bytes) e → ⊥
why_not rs files bytes NoRecord few other why = why
why_not rs files bytes NotRising few other why = why
why_not rs files bytes TooMany few other why = let most = not_many rs files bytes few in omega (arith, most, why)
why_not rs files bytes Memory few other why = other refl

-- a plan by at least a size is there where the files are not too many
pub is_planned : (rs : List ℕ) (files : List File) (bytes : ℕ) → length files ≤ most_chunks → IsRefused rs files (AtLeast bytes) → ⊥
is_planned rs files bytes few refused = why_not rs files bytes refused.0 few refused.1 refused.2
