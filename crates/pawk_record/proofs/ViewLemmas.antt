-- What a record shows.
use Rattle.std.proofs.Common.{◌+◌, ◌≡◌, ◌⊎◌, ℕ, ◌-◌, ◌<◌, ◌≤◌, arith, zero, suc, Bool, cond, leb, List, [], ◌∷◌, ◌++◌, length, map, Option, Some, None, Result, Ok, Err, refl, sym, ap, ◌∙◌, subst, ⊎_elim, true, false, append-nil, length-append}
use Rattle.std.proofs.lemmas.Bool.{cases_lt, le-leb, leb-true}
use Rattle.std.proofs.lemmas.List.{length-map}
use Rattle.std.proofs.lemmas.Option.{slice_get_past}
use Rattle.std.specs.Prelude.{IfSome, is_none, slice_get}
use Rattle.std.specs.declared.ops.Range.{Range}
use Rattle.pawk_value.specs.Value.{Val}
use Rattle.pawk_value.specs.declared.faults.Fault.{Fault}
use Rattle.pawk_value.specs.declared.faults.Fault.TheVariants.{Field, Length}
use Rattle.pawk_fields.specs.FieldSeparator.{range_of}
use Rattle.pawk_fields.specs.FieldList.{fields_of}
use Rattle.pawk_record.specs.declared.layout.Kind.{Kind}
use Rattle.pawk_record.specs.declared.layout.Layout.{Layout}
use Rattle.pawk_record.specs.declared.record.Record.TheInside.{Inside}
use Rattle.pawk_record.specs.declared.splitter.Splitter.{Splitter}
use Rattle.pawk_record.specs.Lines.{IsLaidOut, line_of, values}
use Rattle.pawk_record.specs.Records.{Record, IsPrepared, field_at, joined, of_fields, read, record_or_fault, value_or_uninit, with_field, with_value}
use Rattle.pawk_record.specs.Splitting.{first_place, left}
use Rattle.pawk_record.specs.Views.{record_of, shown, text_of}
use Rattle.pawk_record.proofs.LaidLemmas.{laid_values}
use Rattle.pawk_record.proofs.LineLemmas.{length-values}
use Rattle.pawk_record.proofs.SplittingLemmas.{candidates, left_none}

-- ---- fields that were found

-- the values of the first ranges are those of all
values_front : (text : List ℕ) (rs more : List (Range ℕ)) (ks : List Kind) (i : ℕ) → i < length rs → slice_get (values text rs ks) i ≡ slice_get (values text (rs ++ more) ks) i
unfolding values
values_front text [] more ks i h = absurd (omega arith)
values_front text (r ∷ rs) more [] zero h = refl
values_front text (r ∷ rs) more [] (suc i) h = values_front text rs more [] i (omega arith)
values_front text (r ∷ rs) more (k ∷ ks) zero h = refl
values_front text (r ∷ rs) more (k ∷ ks) (suc i) h = values_front text rs more ks i (omega arith)

field_above : (r : Record) (n : ℕ) → (n ≡ 0 → ⊥) → field_at r n ≡ value_or_uninit (slice_get r.fields (n - 1))
field_above r zero h = absurd (h refl)
field_above r (suc n) h = let e : n ≡ suc n - 1 = omega arith in ap (λ k. value_or_uninit (slice_get r.fields k)) e

pub field_prepared : (r : Inside) (n : ℕ) → (n ≡ 0 → ⊥) → IsPrepared (shown r) n → value_or_uninit (slice_get (values (text_of r) r.here.ranges.items r.here.kinds.items) (n - 1)) ≡ field_at (record_of r) n
field_prepared r n some ready = ⊎_elim
    (λ lt. ap value_or_uninit (values_front (text_of r) rs more ks (n - 1) lt))
    (λ ge.
    let here = length-values (text_of r) rs ks in
    let all : length (record_of r).fields ≤ length rs = omega (arith, ready) in
    ap value_or_uninit (slice_get_past (values (text_of r) rs ks) (n - 1) (omega (arith, here)) ∙ sym (slice_get_past (record_of r).fields (n - 1) (omega (arith, all)))))
    (cases_lt (n - 1) (length rs))
    ∙ sym (field_above (record_of r) n some)
  where
    rs : List (Range ℕ)
    rs = r.here.ranges.items

    more : List (Range ℕ)
    more = map range_of (left r.splitter (text_of r) r.next)

    ks : List Kind
    ks = r.here.kinds.items

pub is_left : (next : Option ℕ) → is_none next ≡ true → next ≡ None
is_left None h = refl
is_left (Some p) h = cc

pub some_left : (next : Option ℕ) → next ≡ None → is_none next ≡ false → ⊥
some_left next h e = let same : is_none next ≡ true = ap is_none h in cc

-- with no place to go on from, all fields were found
pub none_more : (r : Inside) → r.next ≡ None → length (record_of r).fields ≡ length r.here.ranges.items
none_more r h =
    length-values (text_of r) (r.here.ranges.items ++ map range_of (left r.splitter (text_of r) r.next)) r.here.kinds.items
    ∙ ap (λ o. length (r.here.ranges.items ++ map range_of (left r.splitter (text_of r) o))) h
    ∙ ap (λ l. length (r.here.ranges.items ++ map range_of l)) (left_none r.splitter (text_of r))
    ∙ ap length (append-nil r.here.ranges.items)

pub prepared_by : (r : Inside) (n most : ℕ) → n ≤ most → (most ≤ length r.here.ranges.items) ⊎ (r.next ≡ None) → IsPrepared (shown r) n
prepared_by r n most enough h = ⊎_elim (λ x. omega arith) (λ x. let all = none_more r x in omega (arith, all)) h

pub all_found : (r : Inside) (most : ℕ) → length r.here.ranges.items < most → (most ≤ length r.here.ranges.items) ⊎ (r.next ≡ None) → length r.here.ranges.items ≡ length (record_of r).fields
all_found r most few h = ⊎_elim (λ x. absurd (omega arith)) (λ x. sym (none_more r x)) h

-- as many ranges were found as there are fields, where no more fields are
pub count_found : (r : Inside) → length (record_of r).fields ≤ length r.here.ranges.items → length r.here.ranges.items ≡ length (record_of r).fields
count_found r h =
    let rs = r.here.ranges.items in
    let more = map range_of (left r.splitter (text_of r) r.next) in
    let long = length-values (text_of r) (rs ++ more) r.here.kinds.items in
    omega (arith, long, length-append rs more)

-- the fields are those that were found and those that are left
pub left_counted : (r : Inside) (text : List ℕ) (more count : ℕ) → text ≡ text_of r → more ≡ length (left r.splitter text r.next) → count ≡ more + length r.here.ranges.items
    → count ≡ length (record_of r).fields
left_counted r text more count same is sum =
    let rs = r.here.ranges.items in
    let rest = left r.splitter (text_of r) r.next in
    let long = length-values (text_of r) (rs ++ map range_of rest) r.here.kinds.items in
    let here : more ≡ length rest = is ∙ ap (λ t. length (left r.splitter t r.next)) same in
    omega (arith, long, sum, here, length-map rest range_of, length-append rs (map range_of rest))

-- how many fields there are stays so while more are found
pub counted_still : (r : Inside) (text : List ℕ) (ranges : List (Range ℕ)) (next : Option ℕ) (s : Splitter) → text ≡ text_of r
    → ranges ++ map range_of (left s text next) ≡ r.here.ranges.items ++ map range_of (left r.splitter text r.next)
    → IfSome r.counted (λ count. count ≡ length (record_of r).fields)
    → IfSome r.counted (λ count. count ≡ length (values (text_of r) (ranges ++ map range_of (left s (text_of r) next)) r.here.kinds.items))
counted_still r text ranges next s is same counted =
    let all = subst (λ t. ranges ++ map range_of (left s t next) ≡ r.here.ranges.items ++ map range_of (left r.splitter t r.next)) is same in
    subst (λ rs. IfSome r.counted (λ count. count ≡ length (values (text_of r) rs r.here.kinds.items))) (sym all) counted

no_length : (rs : List (Range ℕ)) → length rs ≡ 0 → rs ≡ []
no_length [] h = refl
no_length (r ∷ rs) h = absurd (omega arith)

-- where all were found their values are the fields
pub found_values : (r : Inside) → length r.here.ranges.items ≡ length (record_of r).fields → values (text_of r) r.here.ranges.items r.here.kinds.items ≡ (record_of r).fields
found_values r h =
    let rs = r.here.ranges.items in
    let more = map range_of (left r.splitter (text_of r) r.next) in
    let long = length-values (text_of r) (rs ++ more) r.here.kinds.items in
    let none : more ≡ [] = no_length more (omega (arith, long, length-append rs more, h)) in
    ap (λ l. values (text_of r) l r.here.kinds.items) (sym (append-nil rs) ∙ ap (λ l. rs ++ l) (sym none))

-- the record of a line that was made its own
pub owned : (r : Inside) (own : Bool) (here : Layout) (s : Splitter) → line_of own here.text.items r.lent.now ≡ text_of r
    → values (line_of own here.text.items r.lent.now) here.ranges.items here.kinds.items ≡ values (text_of r) r.here.ranges.items r.here.kinds.items
    → length r.here.ranges.items ≡ length (record_of r).fields
    → record { text = line_of own here.text.items r.lent.now; fields = values (line_of own here.text.items r.lent.now) (here.ranges.items ++ map range_of (left s (line_of own here.text.items r.lent.now) None)) here.kinds.items } ≡ record_of r
owned r own here s same fields all =
    let line = line_of own here.text.items r.lent.now in
    let pair : List ℕ → List Val → Record = λ t vs. record { text = t; fields = vs } in
    ap (λ l. pair line (values line (here.ranges.items ++ map range_of l) here.kinds.items)) (left_none s line)
    ∙ ap (λ l. pair line (values line l here.kinds.items)) (append-nil here.ranges.items)
    ∙ ap (pair line) (fields ∙ found_values r all)
    ∙ ap (λ t. pair t (record_of r).fields) same

-- ---- reading

-- a line without ranges, of which all fields are left
pub read_line : (fs : List ℕ) (paragraph : Bool) (text : List ℕ) (s : Splitter) (own : List ℕ) (rs : List (Range ℕ)) (ks : List Kind) (next : Option ℕ) → own ≡ text → rs ≡ [] → ks ≡ [] → next ≡ first_place text → fields_of fs paragraph text ≡ Ok (left s text (first_place text))
    → read fs paragraph text ≡ (record { text = own; fields = values own (rs ++ map range_of (left s own next)) ks }, None)
read_line fs paragraph text s own rs ks next is none no_kinds first found =
    let at : List ℕ → Record = λ t. record { text = t; fields = values t (rs ++ map range_of (left s t next)) ks } in
    let with : List Val → Record = λ vs. record { text = text; fields = vs } in
    let pair : Record → Record × Option Fault = λ r. (r, None) in
    ap (record_or_fault text) found
    ∙ ap (λ vs. pair (with vs)) (sym (candidates text (left s text (first_place text))))
    ∙ ap (λ o. pair (with (values text (map range_of (left s text o)) []))) (sym first)
    ∙ ap (λ l. pair (with (values text (l ++ map range_of (left s text next)) []))) (sym none)
    ∙ ap (λ l. pair (with (values text (rs ++ map range_of (left s text next)) l))) (sym no_kinds)
    ∙ ap (λ t. pair (at t)) (sym is)

no_values : (text : List ℕ) (rs : List (Range ℕ)) (ks : List Kind) (s : Splitter) → rs ≡ [] → values text (rs ++ map range_of (left s text None)) ks ≡ []
unfolding values
no_values text rs ks s none =
    ap (λ l. values text (l ++ map range_of (left s text None)) ks) none
    ∙ ap (λ l. values text (map range_of l) ks) (left_none s text)

pub new_values : (text : List ℕ) (rs : List (Range ℕ)) (ks : List Kind) (s : Splitter) → rs ≡ [] → values text (rs ++ map range_of (left s text None)) ks ≡ []
new_values = no_values

pub read_fault : (fs : List ℕ) (paragraph : Bool) (text : List ℕ) (s : Splitter) (rs : List (Range ℕ)) (ks : List Kind) → rs ≡ [] → (fault : Fault) → fields_of fs paragraph text ≡ Err fault
    → read fs paragraph text ≡ (record { text = text; fields = values text (rs ++ map range_of (left s text None)) ks }, Some fault)
read_fault fs paragraph text s rs ks none fault h =
    let pair : List Val → Record × Option Fault = λ vs. (record { text = text; fields = vs }, Some fault) in
    ap (record_or_fault text) h ∙ ap pair (sym (no_values text rs ks s none))

-- ---- assignments

pub field_assigned : (n : ℕ) (v : Val) (ofs : List ℕ) (r : Record) (vs : List Val) (layout : Layout) (s : Splitter) → vs ≡ r.fields → n ≤ 32767 → IsLaidOut ofs (with_value n v vs) layout → length layout.text.items ≤ 16777216
    → with_field n v ofs r ≡ Ok (record { text = layout.text.items; fields = values layout.text.items (layout.ranges.items ++ map range_of (left s layout.text.items None)) layout.kinds.items })
field_assigned n v ofs r vs layout s same low l short =
    let ws = with_value n v vs in
    let test : leb n 32767 ≡ true = le-leb n 32767 low in
    let size : leb (length (joined ofs ws)) 16777216 ≡ true = le-leb (length (joined ofs ws)) 16777216 (subst (λ t. length t ≤ 16777216) l.text short) in
    let make : List ℕ → List Val → Result Record Fault = λ t us. Ok (record { text = t; fields = us }) in
    ap (λ b. cond b (of_fields (with_value n v r.fields) (joined ofs (with_value n v r.fields))) (Err Field)) test
    ∙ ap (λ us. of_fields (with_value n v us) (joined ofs (with_value n v us))) (sym same)
    ∙ ap (λ b. cond b (make (joined ofs ws) ws) (Err Length)) size
    ∙ ap (λ t. make t ws) (sym l.text)
    ∙ ap (make layout.text.items) (sym (laid_values ofs ws layout l))
    ∙ ap (λ rs. make layout.text.items (values layout.text.items rs layout.kinds.items))
    (sym (append-nil layout.ranges.items) ∙ ap (λ l. layout.ranges.items ++ map range_of l) (sym (left_none s layout.text.items)))

pub field_too_long : (n : ℕ) (v : Val) (ofs : List ℕ) (r : Record) (vs : List Val) (fault : Fault) → vs ≡ r.fields → n ≤ 32767 → fault ≡ Length → 16777216 < length (joined ofs (with_value n v vs)) → with_field n v ofs r ≡ Err fault
field_too_long n v ofs r vs fault same low is long =
    let ws = with_value n v vs in
    let test : leb n 32767 ≡ true = le-leb n 32767 low in
    let size : leb (length (joined ofs ws)) 16777216 ≡ false = go (leb (length (joined ofs ws)) 16777216) refl in
    let make : List ℕ → List Val → Result Record Fault = λ t us. Ok (record { text = t; fields = us }) in
    ap (λ b. cond b (of_fields (with_value n v r.fields) (joined ofs (with_value n v r.fields))) (Err Field)) test
    ∙ ap (λ us. of_fields (with_value n v us) (joined ofs (with_value n v us))) (sym same)
    ∙ ap (λ b. cond b (make (joined ofs ws) ws) (Err Length)) size
    ∙ ap Err (sym is)
  where
    go : (b : Bool) → leb (length (joined ofs (with_value n v vs))) 16777216 ≡ b → leb (length (joined ofs (with_value n v vs))) 16777216 ≡ false
    go true h = absurd (let low = leb-true (length (joined ofs (with_value n v vs))) 16777216 h in omega arith)
    go false h = h
