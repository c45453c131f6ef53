-- Scalars after assignments among the files.
use Rattle.std.proofs.Common.{◌≡◌, ◌∙◌, ℕ, zero, suc, ℤ, pos, ◌+◌, ◌<◌, ◌≤◌, Bool, true, false, if◌then◌else◌, List, [], ◌∷◌, ◌++◌, length, map, take, Vec, Global, Result, Ok, Err, refl, ap, sym, subst, arith, rules, tests, slice_index_or}
use Rattle.std.specs.Prelude.{◌==◌, slice_set}
use Rattle.std.specs.List.{prefix_len}
use Rattle.std.specs.Str.{bytes_eq}
use Rattle.std.proofs.lemmas.List.{length-map, length-take-le, map-append, take-map, take_more}
use Rattle.pawk_value.specs.declared.faults.Fault.{Fault}
use Rattle.pawk_value.specs.declared.faults.Fault.TheVariants.{Numeral, Overflow}
use Rattle.pawk_value.specs.Bytes.{is_blank, is_digit, is_minus}
use Rattle.pawk_value.specs.Range.{FitsWord, in_range, in_range_or_fault}
use Rattle.pawk_value.specs.Value.{Val, Uninit, Maybe}
use Rattle.pawk_value.specs.Numeral.{signed, digits_value, after_while, begins, without_sign, without_point, has_fraction, has_exponent, number_of_digits, number_of}
use Rattle.pawk_value.specs.Conversion.{num_of}
use Rattle.pawk_world.specs.Worlds.{Cell, scalar, element}
use Rattle.pawk_store.specs.Globals.{Globals, value_at, with_value}
use Rattle.pawk_store.specs.Openings.{texts_of, value_after}
use Rattle.pawk_admit.specs.declared.role.Role.TheVariants.{Adder}
use Rattle.pawk_merge_law.specs.Settings.{FitsIfOk, role_of_cell}
use Rattle.pawk_merge_law.specs.Phases.{Phase}
use Rattle.pawk_merge_law.specs.Flows.{Pairs}
use Rattle.pawk_pieces.specs.Operands.{assigned, assigned_values, AssignedLaw, ReadyLaw}

-- ---- assignments after others

-- What a name is assigned after more, over what it was assigned before.
value_more : (pairs more : Pairs) (name : List ℕ) (v : Val) → value_after more name (value_after pairs name v) ≡ value_after (pairs ++ more) name v
value_more [] more name v = refl
value_more (a ∷ rest) more name v = value_more rest more name (if bytes_eq name a.0 then Maybe a.1 else v)

-- No assignment changes nothing.
values_none : (names : List (List ℕ)) (vs : List Val) → assigned_values names [] vs ≡ vs
values_none [] vs = refl
values_none (name ∷ names) [] = refl
values_none (name ∷ names) (v ∷ vs) = ap (λ ws. v ∷ ws) (values_none names vs)

-- Assignments one after the other are those of both together.
values_more : (names : List (List ℕ)) (pairs more : Pairs) (vs : List Val) → assigned_values names more (assigned_values names pairs vs) ≡ assigned_values names (pairs ++ more) vs
values_more [] pairs more vs = refl
values_more (name ∷ names) pairs more [] = refl
values_more (name ∷ names) pairs more (v ∷ vs) = λ i. value_more pairs more name v i ∷ values_more names pairs more vs i

-- They do so among globals.
pub assigned_none : (names : List (List ℕ)) (g : Globals) → assigned names [] g ≡ g
assigned_none names g = λ i. record g { scalars = values_none names g.scalars i }

pub follow : AssignedLaw
follow names pairs more g = (assigned_none names g, λ i. record g { scalars = values_more names pairs more g.scalars i })

-- ---- slot by slot

-- Where the name of one slot more is assigned a text last, that is the slot's value.
values_set : (names : List (List ℕ)) (name : List ℕ) (pairs : Pairs) (vs : List Val) (text : List ℕ) → ((v : Val) → value_after pairs name v ≡ Maybe text) →
    assigned_values (names ++ name ∷ []) pairs vs ≡ slice_set (assigned_values names pairs vs) (length names) (Maybe text)
values_set [] name pairs [] text last = refl
values_set [] name pairs (v ∷ vs) text last = ap (λ w. w ∷ vs) (last v)
values_set (n ∷ names) name pairs [] text last = refl
values_set (n ∷ names) name pairs (v ∷ vs) text last = ap (λ ws. value_after pairs n v ∷ ws) (values_set names name pairs vs text last)

-- Where it is assigned none, the slot stays.
values_stay : (names : List (List ℕ)) (name : List ℕ) (pairs : Pairs) (vs : List Val) → ((v : Val) → value_after pairs name v ≡ v) → assigned_values (names ++ name ∷ []) pairs vs ≡ assigned_values names pairs vs
values_stay [] name pairs [] stays = refl
values_stay [] name pairs (v ∷ vs) stays = ap (λ w. w ∷ vs) (stays v)
values_stay (n ∷ names) name pairs [] stays = refl
values_stay (n ∷ names) name pairs (v ∷ vs) stays = ap (λ ws. value_after pairs n v ∷ ws) (values_stay names name pairs vs stays)

-- The same among globals.
assigned_set : (names : List (List ℕ)) (name : List ℕ) (pairs : Pairs) (g : Globals) (text : List ℕ) → ((v : Val) → value_after pairs name v ≡ Maybe text) →
    assigned (names ++ name ∷ []) pairs g ≡ record g { scalars = slice_set (assigned names pairs g).scalars (length names) (Maybe text) }
assigned_set names name pairs g text last = λ i. record g { scalars = values_set names name pairs g.scalars text last i }

assigned_stay : (names : List (List ℕ)) (name : List ℕ) (pairs : Pairs) (g : Globals) → ((v : Val) → value_after pairs name v ≡ v) → assigned (names ++ name ∷ []) pairs g ≡ assigned names pairs g
assigned_stay names name pairs g stays = λ i. record g { scalars = values_stay names name pairs g.scalars stays i }

-- The names of one slot more, and how many there were before.
names_more : (items : List (Vec ℕ Global)) (i : ℕ) (item : Vec ℕ Global) → i < length items → item ≡ slice_index_or items i item → take (i + 1) (texts_of items) ≡ take i (texts_of items) ++ item.items ∷ []
names_more items i item less is =
    let name : Vec ℕ Global → List ℕ = λ x. x.items in
    take-map name (i + 1) items
    ∙ ap (map name) (take_more items i item less ∙ ap (λ x. take i items ++ x ∷ []) (sym is))
    ∙ map-append name (take i items) (item ∷ [])
    ∙ ap (λ names. names ++ item.items ∷ []) (sym (take-map name i items))

names_before : (items : List (Vec ℕ Global)) (i : ℕ) → i < length items → length (take i (texts_of items)) ≡ i
names_before items i less = ap length (take-map (λ (x : Vec ℕ Global). x.items) i items) ∙ length-map (take i items) (λ (x : Vec ℕ Global). x.items) ∙ length-take-le i items (omega (arith, less))

-- One slot more, whose name is assigned this text last, or none.
module _ (items : List (Vec ℕ Global)) (i : ℕ) (item : Vec ℕ Global) (less : i < length items) (is : item ≡ slice_index_or items i item) (pairs : Pairs) (g before : Globals)
    (so_far : before ≡ assigned (take i (texts_of items)) pairs g) where
  pub goes_on_set : (text : List ℕ) → ((v : Val) → value_after pairs item.items v ≡ Maybe text) → with_value (scalar i) (Maybe text) before ≡ assigned (take (i + 1) (texts_of items)) pairs g
  goes_on_set text last =
      ap (λ b. with_value (scalar i) (Maybe text) b) so_far
      ∙ ap (λ n. with_value (scalar n) (Maybe text) (assigned (take i (texts_of items)) pairs g)) (sym (names_before items i less))
      ∙ sym (assigned_set (take i (texts_of items)) item.items pairs g text last)
      ∙ ap (λ names. assigned names pairs g) (sym (names_more items i item less is))

  pub goes_on_same : ((v : Val) → value_after pairs item.items v ≡ v) → before ≡ assigned (take (i + 1) (texts_of items)) pairs g
  goes_on_same stays =
      so_far ∙ sym (assigned_stay (take i (texts_of items)) item.items pairs g stays)
      ∙ ap (λ names. assigned names pairs g) (sym (names_more items i item less is))

-- ---- the numbers of texts

-- One of two results that fit.
one_fits : (b : Bool) (x y : Result ℤ Fault) → FitsIfOk x → FitsIfOk y → FitsIfOk (if b then x else y)
one_fits true x y h k = h
one_fits false x y h k = k

zero_fits : FitsWord (pos 0)
zero_fits = search rules

fits_word : (z : ℤ) → in_range z ≡ true → FitsWord z
fits_word z h = search (rules, tests)

-- A number in range, or the fault.
ranged_fits : (z : ℤ) → FitsIfOk (in_range_or_fault z)
ranged_fits z = by (in_range z) refl
  where
    by : (b : Bool) → in_range z ≡ b → FitsIfOk (if b then Ok z else Err Overflow)
    by true e = fits_word z e
    by false e = tt

-- The number of digits.
digits_fit : (negative : Bool) (count value : ℕ) (rest : List ℕ) → FitsIfOk (number_of_digits negative count value rest)
digits_fit negative count value rest =
    let number : Result ℤ Fault = in_range_or_fault (signed negative value) in
    let whole : Result ℤ Fault = (if has_exponent (without_point rest) then Err Numeral else number) in
    let some : Result ℤ Fault = (if count == 0 then Ok (pos 0) else whole) in
    one_fits (has_fraction rest) (Err Numeral) some tt
    (one_fits (count == 0) (Ok (pos 0)) whole zero_fits
    (one_fits (has_exponent (without_point rest)) (Err Numeral) number tt (ranged_fits (signed negative value))))

-- The number of a text is one of 64 bits, if it has one.
text_fits : (s : List ℕ) → FitsIfOk (number_of s)
unfolding number_of
text_fits s =
    let t = after_while is_blank s in
    let u = without_sign t in
    digits_fit (begins is_minus t) (prefix_len is_digit u) (digits_value (take (prefix_len is_digit u) u)) (after_while is_digit u)

-- ---- records that may be run in chunks

-- A value after assignments has a number of 64 bits, or none, if it had.
value_fits : (pairs : Pairs) (name : List ℕ) (v : Val) → FitsIfOk (num_of v) → FitsIfOk (num_of (value_after pairs name v))
value_fits [] name v h = h
value_fits (a ∷ rest) name v h = value_fits rest name (if bytes_eq name a.0 then Maybe a.1 else v) (by (bytes_eq name a.0))
  where
    by : (b : Bool) → FitsIfOk (num_of (if b then Maybe a.1 else v))
    by true = text_fits a.1
    by false = h

-- So does each scalar.
scalar_fits : (names : List (List ℕ)) (pairs : Pairs) (vs : List Val) (n : ℕ) → FitsIfOk (num_of (slice_index_or vs n Uninit)) → FitsIfOk (num_of (slice_index_or (assigned_values names pairs vs) n Uninit))
scalar_fits [] pairs vs n h = h
scalar_fits (name ∷ names) pairs [] n h = h
scalar_fits (name ∷ names) pairs (v ∷ vs) zero h = value_fits pairs name v h
scalar_fits (name ∷ names) pairs (v ∷ vs) (suc n) h = scalar_fits names pairs vs n h

-- There are as many scalars.
as_many : (names : List (List ℕ)) (pairs : Pairs) (vs : List Val) → length (assigned_values names pairs vs) ≡ length vs
as_many [] pairs vs = refl
as_many (name ∷ names) pairs [] = refl
as_many (name ∷ names) pairs (v ∷ vs) = ap suc (as_many names pairs vs)

-- Each adder has a number of 64 bits, or none, if it had.
adder_fits : (p : Phase) (pairs : Pairs) → ((c : Cell) → role_of_cell p.roles c ≡ Adder → FitsIfOk (num_of (value_at c p.globals))) → (c : Cell) → role_of_cell p.roles c ≡ Adder → FitsIfOk (num_of (value_at c (assigned p.code.scalars pairs p.globals)))
adder_fits p pairs h (scalar n) role = scalar_fits p.code.scalars pairs p.globals.scalars n (h (scalar n) role)
adder_fits p pairs h (element n key) role = h (element n key) role

-- So records that may be run in chunks may be run so after assignments.
pub keeps_ready : ReadyLaw
keeps_ready p pairs may = record {
  allows = may.allows;
  role_slots = (subst (λ n. length p.roles.scalars ≤ n) (sym (as_many p.code.scalars pairs p.globals.scalars)) may.role_slots.0, may.role_slots.1);
  in_order = may.in_order;
  numbers = adder_fits p pairs may.numbers;
}
