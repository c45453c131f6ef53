-- Elements that are joined to what was noted of them.
use Rattle.std.proofs.Common.{◌≡◌, ◌<◌, ℕ, suc, length, arith, Bool, true, false, cond, List, [], ◌∷◌, Option, Some, None, refl, sym, ◌∙◌, ap}
use Rattle.std.specs.Prelude.{◌&&◌, ◌||◌, is_some}
use Rattle.std.specs.List.{list_all, list_any}
use Rattle.std.specs.Ordering.{eq_by_cmp, is_eq}
use Rattle.std.specs.declared.cmp.Ordering.{Ordering}
use Rattle.std.specs.declared.cmp.Ordering.TheVariants.{Less, Equal, Greater}
use Rattle.std.specs.FinMap.Entries.{by_order, find, find-put, is_some-find}
use Rattle.std.proofs.lemmas.Cmp.{tied_itself}
use Rattle.pawk_value.specs.Value.{Val}
use Rattle.pawk_array.specs.Entries.{Entries, order, Rise, found, put, value_of}
use Rattle.pawk_array.proofs.EntriesLemmas.{total, same_text, rise-put, same_found}
use Rattle.pawk_frozen.specs.Marks.{Mark, blank, summed, last_put, created, Marks, mark_or_blank, mark_found, put_mark}
use Rattle.pawk_merge.specs.Joins.{takes, joined_element}
use Rattle.pawk_merge.specs.Tables.{with_element, join_keys, keys_of, join_array, element_takes, array_takes}

abbrev pub same_key : List ℕ → List ℕ → Bool
same_key q k = eq_by_cmp order q k

equal_by : (o : Ordering) → is_eq o ≡ true → o ≡ Equal
equal_by Less e = cc
equal_by Equal e = refl
equal_by Greater e = cc

pub same_is : (q k : List ℕ) → same_key q k ≡ true → q ≡ k
same_is q k e = same_text q k (equal_by (order q k) e)

-- an element of which nothing is known and nothing was noted
stays_none : (m : Mark) (o : Option Val) → joined_element m o ≡ None → o ≡ None
stays_none blank o e = e
stays_none (summed t l g) o e = cc
stays_none (last_put w) o e = cc
stays_none created o e = cc

-- the element with this key
pub found-with_element : (q k : List ℕ) (o : Option Val) (es : Entries) → (o ≡ None → found k es ≡ None) →
    found q (with_element k o es) ≡ cond (same_key q k) o (found q es)
found-with_element q k None es none = by (same_key q k) refl where
  by : (b : Bool) → same_key q k ≡ b → found q es ≡ cond b None (found q es)
  by true e = rw (same_is q k e) (none refl)
  by false e = refl
found-with_element q k (Some v) es none = find-put order total q k v es

pub rise-with_element : (k : List ℕ) (o : Option Val) (es : Entries) → Rise es → Rise (with_element k o es)
rise-with_element k None es h = h
rise-with_element k (Some v) es h = rise-put k v es h

pub rise-join_keys : (ks : List (List ℕ)) (marks : Marks) (es : Entries) → Rise es → Rise (join_keys ks marks es)
rise-join_keys [] marks es h = h
rise-join_keys (k ∷ ks) marks es h =
    rise-with_element k (joined_element (mark_found k marks) (found k es)) (join_keys ks marks es) (rise-join_keys ks marks es h)

-- what an element of this key becomes
abbrev becomes : Marks → Entries → List ℕ → Option Val
becomes marks es q = joined_element (mark_found q marks) (found q es)

kept_none : (marks : Marks) (es : Entries) (q : List ℕ) (b : Bool) → becomes marks es q ≡ None → cond b (becomes marks es q) (found q es) ≡ None
kept_none marks es q true e = e
kept_none marks es q false e = stays_none (mark_found q marks) (found q es) e

twice : (b c : Bool) (x y : Option Val) → cond b x (cond c x y) ≡ cond (b || c) x y
twice true c x y = refl
twice false c x y = refl

-- the first key: the one that is looked for, or another
first_key : (marks : Marks) (es rest : Entries) (q k : List ℕ) (c b : Bool) → found q rest ≡ cond c (becomes marks es q) (found q es) → same_key q k ≡ b →
    found q (with_element k (becomes marks es k) rest) ≡ cond b (becomes marks es q) (found q rest)
first_key marks es rest q k c true h e =
    let same = same_is q k e in
    let at : same_key q q ≡ true = rw (← same) at e in
    let none : becomes marks es q ≡ None → found q rest ≡ None = λ none. h ∙ kept_none marks es q c none in
    rw (← same) (found-with_element q q (becomes marks es q) rest none ∙ ap (λ b. cond b (becomes marks es q) (found q rest)) at)
first_key marks es rest q k c false h e = other (becomes marks es k) where
  other : (o : Option Val) → found q (with_element k o rest) ≡ found q rest
  other None = refl
  other (Some v) = find-put order total q k v rest ∙ ap (λ b. cond b (Some v) (found q rest)) e

pub found-join_keys : (ks : List (List ℕ)) (marks : Marks) (es : Entries) (q : List ℕ) →
    found q (join_keys ks marks es) ≡ cond (list_any (same_key q) ks) (becomes marks es q) (found q es)
found-join_keys [] marks es q = refl
found-join_keys (k ∷ ks) marks es q =
    let rest = found-join_keys ks marks es q in
    first_key marks es (join_keys ks marks es) q k (list_any (same_key q) ks) (same_key q k) rest refl
    ∙ ap (λ o. cond (same_key q k) (becomes marks es q) o) rest
    ∙ twice (same_key q k) (list_any (same_key q) ks) (becomes marks es q) (found q es)

-- a key of which nothing was noted
unmarked : (q : List ℕ) (marks : Marks) → list_any (same_key q) (keys_of marks) ≡ false → mark_found q marks ≡ blank
unmarked q marks e = by (find order q marks) (is_some-find order q marks ∙ e) where
  by : (o : Option Mark) → is_some o ≡ false → mark_or_blank o ≡ blank
  by None h = refl
  by (Some m) h = cc

-- each element, where an array is joined to what was noted of it
pub found-join_array : (marks : Marks) (es : Entries) (q : List ℕ) → found q (join_array marks es) ≡ joined_element (mark_found q marks) (found q es)
found-join_array marks es q = found-join_keys (keys_of marks) marks es q ∙ by (list_any (same_key q) (keys_of marks)) refl where
  by : (b : Bool) → list_any (same_key q) (keys_of marks) ≡ b → cond b (becomes marks es q) (found q es) ≡ becomes marks es q
  by true e = refl
  by false e = let none = unmarked q marks e in rw none refl

pub rise-join_array : (marks : Marks) (es : Entries) → Rise es → Rise (join_array marks es)
rise-join_array marks es h = rise-join_keys (keys_of marks) marks es h

-- entries that have at each key what the marks make of it
pub same_join_array : (marks : Marks) (es fs : Entries) → Rise es → Rise fs → ((q : List ℕ) → found q fs ≡ joined_element (mark_found q marks) (found q es)) → fs ≡ join_array marks es
same_join_array marks es fs g h all = same_found fs (join_array marks es) h (rise-join_array marks es g) (λ q. all q ∙ sym (found-join_array marks es q))

-- ---- what is taken

both_true : (a b : Bool) → (a && b) ≡ true → (a ≡ true) × (b ≡ true)
both_true true b h = (refl, h)
both_true false b h = cc

and_true : (a b : Bool) → a ≡ true → b ≡ true → (a && b) ≡ true
and_true true b g h = h
and_true false b g h = cc

all_at : (p : List ℕ → Bool) (ks : List (List ℕ)) (q : List ℕ) → list_all p ks ≡ true → list_any (same_key q) ks ≡ true → p q ≡ true
all_at p [] q h e = cc
all_at p (k ∷ ks) q h e = by (same_key q k) refl e (all_at p ks q (both_true (p k) (list_all p ks) h).1) where
  by : (b : Bool) → same_key q k ≡ b → (b || list_any (same_key q) ks) ≡ true → (list_any (same_key q) ks ≡ true → p q ≡ true) → p q ≡ true
  by true s e rest = let same = same_is q k s in rw same (both_true (p k) (list_all p ks) h).0
  by false s e rest = rest e

all_from : (p : List ℕ → Bool) (ks : List (List ℕ)) → ((q : List ℕ) → p q ≡ true) → list_all p ks ≡ true
all_from p [] h = refl
all_from p (k ∷ ks) h = and_true (p k) (list_all p ks) (h k) (all_from p ks h)

pub element_takes-array_takes : (marks : Marks) (es : Entries) → array_takes marks es ≡ true → (q : List ℕ) → element_takes marks es q ≡ true
element_takes-array_takes marks es h q = by (list_any (same_key q) (keys_of marks)) refl where
  by : (b : Bool) → list_any (same_key q) (keys_of marks) ≡ b → element_takes marks es q ≡ true
  by true e = all_at (element_takes marks es) (keys_of marks) q h e
  by false e = let none = unmarked q marks e in rw none refl

pub array_takes-element_takes : (marks : Marks) (es : Entries) → ((q : List ℕ) → element_takes marks es q ≡ true) → array_takes marks es ≡ true
array_takes-element_takes marks es h = all_from (element_takes marks es) (keys_of marks) h

-- ---- one mark after the other

same_bool : (a b : Bool) → (a ≡ true → b ≡ true) → (b ≡ true → a ≡ true) → a ≡ b
same_bool true b f g = sym (f refl)
same_bool false true f g = g refl
same_bool false false f g = refl

mark_found-put : (q k : List ℕ) (m : Mark) (marks : Marks) → mark_found q (put_mark k m marks) ≡ cond (same_key q k) m (mark_found q marks)
mark_found-put q k m marks = ap mark_or_blank (find-put order total q k m marks) ∙ by (same_key q k) where
  by : (b : Bool) → mark_or_blank (cond b (Some m) (find order q marks)) ≡ cond b m (mark_or_blank (find order q marks))
  by true = refl
  by false = refl

module _ (k : List ℕ) (m : Mark) (marks : Marks) (es : Entries) (none : find order k marks ≡ None) where
  abbrev pub after : Entries
  after = with_element k (joined_element m (found k es)) es

  unmarked_then : mark_found k marks ≡ blank
  unmarked_then = ap mark_or_blank none

  found-after : (q : List ℕ) → found q after ≡ cond (same_key q k) (joined_element m (found k es)) (found q es)
  found-after q = found-with_element q k (joined_element m (found k es)) es (λ e. stays_none m (found k es) e)

  each : (q : List ℕ) (b : Bool) → same_key q k ≡ b →
      joined_element (mark_found q marks) (cond b (joined_element m (found k es)) (found q es))
      ≡ joined_element (cond b m (mark_found q marks)) (found q es)
  each q true e = let same = same_is q k e in rw (same, unmarked_then) refl
  each q false e = refl

  -- the mark of one key, then the others
  pub join_array-put : Rise es → join_array marks after ≡ join_array (put_mark k m marks) es
  join_array-put h =
      same_join_array (put_mark k m marks) es (join_array marks after) h (rise-join_array marks after (rise-with_element k (joined_element m (found k es)) es h))
      (λ q. found-join_array marks after q
      ∙ ap (λ o. joined_element (mark_found q marks) o) (found-after q)
      ∙ each q (same_key q k) refl
      ∙ ap (λ n. joined_element n (found q es)) (sym (mark_found-put q k m marks)))

  takes_each : (q : List ℕ) (b : Bool) → same_key q k ≡ b → takes m (value_of (found k es)) ≡ true →
      takes (mark_found q marks) (value_of (cond b (joined_element m (found k es)) (found q es))) ≡ true →
      takes (cond b m (mark_found q marks)) (value_of (found q es)) ≡ true
  takes_each q true e h g = let same = same_is q k e in rw same h
  takes_each q false e h g = g

  takes_back : (q : List ℕ) (b : Bool) → same_key q k ≡ b →
      takes (cond b m (mark_found q marks)) (value_of (found q es)) ≡ true →
      takes (mark_found q marks) (value_of (cond b (joined_element m (found k es)) (found q es))) ≡ true
  takes_back q true e g = let same = same_is q k e in rw (same, unmarked_then) refl
  takes_back q false e g = g

  abbrev now_takes : List ℕ → Bool
  now_takes q = element_takes (put_mark k m marks) es q

  at_marks : (q : List ℕ) → now_takes q ≡ takes (cond (same_key q k) m (mark_found q marks)) (value_of (found q es))
  at_marks q = ap (λ n. takes n (value_of (found q es))) (mark_found-put q k m marks)

  at_values : (q : List ℕ) → element_takes marks after q ≡ takes (mark_found q marks) (value_of (cond (same_key q k) (joined_element m (found k es)) (found q es)))
  at_values q = ap (λ o. takes (mark_found q marks) (value_of o)) (found-after q)

  same_itself : same_key k k ≡ true
  same_itself = ap is_eq (tied_itself total k)

  pub array_takes-put : array_takes (put_mark k m marks) es ≡ (takes m (value_of (found k es)) && array_takes marks after)
  array_takes-put = same_bool _ _ forth back where
    forth : array_takes (put_mark k m marks) es ≡ true → (takes m (value_of (found k es)) && array_takes marks after) ≡ true
    forth h =
        let all = element_takes-array_takes (put_mark k m marks) es h in
        and_true _ _
        (ap (λ b. takes (cond b m (mark_found k marks)) (value_of (found k es))) (sym same_itself) ∙ sym (at_marks k) ∙ all k)
        (array_takes-element_takes marks after (λ q. at_values q ∙ takes_back q (same_key q k) refl (sym (at_marks q) ∙ all q)))

    back : (takes m (value_of (found k es)) && array_takes marks after) ≡ true → array_takes (put_mark k m marks) es ≡ true
    back h =
        let parts = both_true _ _ h in
        let all = element_takes-array_takes marks after parts.1 in
        array_takes-element_takes (put_mark k m marks) es (λ q. at_marks q ∙ takes_each q (same_key q k) refl parts.0 (sym (at_values q) ∙ all q))

-- ---- looking, which changes nothing

module _ (k : List ℕ) (m : Mark) (marks : Marks) (es : Entries) (none : find order k marks ≡ None) where
  looks_at : (q : List ℕ) → element_takes (put_mark k m marks) es q ≡ takes (cond (same_key q k) m (mark_found q marks)) (value_of (found q es))
  looks_at q = ap (λ n. takes n (value_of (found q es))) (mark_found-put q k m marks)

  takes_both : (q : List ℕ) (b : Bool) → same_key q k ≡ b → takes m (value_of (found k es)) ≡ true → element_takes marks es q ≡ true →
      takes (cond b m (mark_found q marks)) (value_of (found q es)) ≡ true
  takes_both q true e h g = let same = same_is q k e in rw same h
  takes_both q false e h g = g

  takes_rest : (q : List ℕ) (b : Bool) → same_key q k ≡ b → takes (cond b m (mark_found q marks)) (value_of (found q es)) ≡ true → element_takes marks es q ≡ true
  takes_rest q true e g = let same = same_is q k e in let blank_there : mark_found k marks ≡ blank = ap mark_or_blank none in rw (same, blank_there) refl
  takes_rest q false e g = g

  -- whether one key takes what was noted of it, then the others
  pub looks-put : array_takes (put_mark k m marks) es ≡ (takes m (value_of (found k es)) && array_takes marks es)
  looks-put = same_bool _ _ forth back where
    forth : array_takes (put_mark k m marks) es ≡ true → (takes m (value_of (found k es)) && array_takes marks es) ≡ true
    forth h =
        let all = element_takes-array_takes (put_mark k m marks) es h in
        and_true _ _
        (ap (λ b. takes (cond b m (mark_found k marks)) (value_of (found k es))) (sym (ap is_eq (tied_itself total k))) ∙ sym (looks_at k) ∙ all k)
        (array_takes-element_takes marks es (λ q. takes_rest q (same_key q k) refl (sym (looks_at q) ∙ all q)))

    back : (takes m (value_of (found k es)) && array_takes marks es) ≡ true → array_takes (put_mark k m marks) es ≡ true
    back h =
        let parts = both_true _ _ h in
        let all = element_takes-array_takes marks es parts.1 in
        array_takes-element_takes (put_mark k m marks) es (λ q. looks_at q ∙ takes_both q (same_key q k) refl parts.0 (all q))

-- ---- for the loops

put_found : (k : List ℕ) (v : Val) (es : Entries) → Rise es → found k es ≡ Some v → es ≡ put k v es
put_found k v es h e = same_found es (put k v es) h (rise-put k v es h) (λ q. by q (same_key q k) refl ∙ sym (find-put order total q k v es)) where
  by : (q : List ℕ) (b : Bool) → same_key q k ≡ b → found q es ≡ cond b (Some v) (found q es)
  by q true s = let same = same_is q k s in rw same e
  by q false s = refl

-- an element of which nothing was noted stays
pub with_element_found : (k : List ℕ) (es : Entries) → Rise es → es ≡ with_element k (found k es) es
with_element_found k es h = by (found k es) refl where
  by : (o : Option Val) → found k es ≡ o → es ≡ with_element k o es
  by None e = refl
  by (Some v) e = put_found k v es h e

pub length-put_mark : (k : List ℕ) (m : Mark) (marks : Marks) → find order k marks ≡ None → length (put_mark k m marks) ≡ suc (length marks)
length-put_mark k m [] e = refl
length-put_mark k m (x ∷ marks) e = by (order k x.0) refl (length-put_mark k m marks) where
  by : (o : Ordering) → order k x.0 ≡ o → (find order k marks ≡ None → length (put_mark k m marks) ≡ suc (length marks)) →
      length (by_order o ((k, m) ∷ x ∷ marks) ((x.0, m) ∷ marks) (x ∷ put_mark k m marks)) ≡ suc (suc (length marks))
  by Less s rest = refl
  by Equal s rest = let no : Some x.1 ≡ None = rw s at e in cc
  by Greater s rest = let there : find order k marks ≡ None = rw s at e in ap suc (rest there)

-- a key is taken out whose element takes what was noted of it
pub one_taken : (k : List ℕ) (m : Mark) (before rest : Marks) (es new : Entries) → Rise es → before ≡ put_mark k m rest → find order k rest ≡ None →
    takes m (value_of (found k es)) ≡ true → new ≡ with_element k (joined_element m (found k es)) es →
    (array_takes rest new ≡ array_takes before es) × (join_array rest new ≡ join_array before es)
one_taken k m before rest es new h is none t e = (
  ap (array_takes rest) e ∙ sym (ap (λ b. b && array_takes rest (after k m rest es none)) t) ∙ sym (array_takes-put k m rest es none) ∙ ap (λ ms. array_takes ms es) (sym is),
  ap (join_array rest) e ∙ join_array-put k m rest es none h ∙ ap (λ ms. join_array ms es) (sym is),
)

-- a key is taken out whose element does not
pub one_refused : (k : List ℕ) (m : Mark) (before rest : Marks) (es : Entries) → before ≡ put_mark k m rest → find order k rest ≡ None →
    takes m (value_of (found k es)) ≡ false → array_takes before es ≡ false
one_refused k m before rest es is none t =
    ap (λ ms. array_takes ms es) is ∙ array_takes-put k m rest es none ∙ ap (λ b. b && array_takes rest (after k m rest es none)) t

-- a key is looked at whose element takes what was noted of it
pub look_taken : (k : List ℕ) (m : Mark) (before rest : Marks) (es : Entries) → before ≡ put_mark k m rest → find order k rest ≡ None →
    takes m (value_of (found k es)) ≡ true → array_takes rest es ≡ array_takes before es
look_taken k m before rest es is none t =
    sym (ap (λ ms. array_takes ms es) is ∙ looks-put k m rest es none ∙ ap (λ b. b && array_takes rest es) t)

-- fewer marks are left
pub fewer_marks : (k : List ℕ) (m : Mark) (before rest : Marks) → before ≡ put_mark k m rest → find order k rest ≡ None → length rest < length before
fewer_marks k m before rest is none =
    let same = ap length is in
    let one = length-put_mark k m rest none in
    omega (arith, same, one)
