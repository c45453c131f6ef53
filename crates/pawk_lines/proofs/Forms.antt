-- What follows each name.
use Rattle.std.proofs.Common.{◌≡◌, ◌≤◌, ℕ, ℤ, pos, negsuc, List, [], ◌∷◌, ◌++◌, refl, sym, ap, subst, ◌∙◌, arith, append_assoc, Result, Ok, Err, MatchResult, to_z, of_z}
use Rattle.std.specs.Int.{w64, w128}
use Rattle.std.specs.List.{Contains, AllByRecursion}
use Rattle.std.proofs.lemmas.List.Elements.{All-from_recursion}
use Rattle.std.proofs.lemmas.Int.{ints}
use Rattle.pawk_words.specs.declared.word.Gap.{Gap}
use Rattle.pawk_words.specs.declared.word.Gap.TheVariants.{Space, Newline}
use Rattle.pawk_words.specs.Words.{Word, number, text, IsWord, size_limit, written, written_all}
use Rattle.pawk_value.specs.Range.{FitsWord}
use Rattle.pawk_value.specs.Value.{Uninit, Num, Text, Maybe}
use Rattle.pawk_lines.specs.declared.name.TheConstants.{LINE_NAMES, MARK_NAMES}
use Rattle.pawk_lines.specs.declared.failure.Failure.{Failure}
use Rattle.pawk_lines.specs.declared.name.Name.{Name}
use Rattle.pawk_lines.specs.declared.name.Name.TheVariants as a
use Rattle.pawk_lines.specs.declared.name.NumberLine.{NumberLine}
use Rattle.pawk_lines.specs.declared.name.NumberLine.TheVariants as n
use Rattle.pawk_lines.specs.declared.name.TextLine.{TextLine}
use Rattle.pawk_lines.specs.declared.name.TextLine.TheVariants as t
use Rattle.pawk_lines.specs.declared.name.MarkName.{MarkName}
use Rattle.pawk_lines.specs.declared.name.MarkName.TheVariants as m
use Rattle.pawk_lines.specs.Lines.{Line, format, program, budget, assign, shard, before, file, part, output, scalar, array, element, last, records, end, Mark, added, sum, put, created, IsCount, IsText, IsMark, IsLine, count, mark_words, line_words, BeginsLine}
use Rattle.pawk_lines.specs.Names.{name_words, spelling, number_line_of, text_line_of}
use Rattle.pawk_lines.specs.Reading.{IsWithin, Numbers, Texts, OneOf, Lines, Marks, AfterLine, AfterMark, IsLineAfter, IsMarkAfter, Fails}
use Rattle.pawk_lines.proofs.Turns.{IsCode, Turn, Then, in_turn, one_word, one_written, written_append, fail_first, fail_next, fail_same}
use Rattle.pawk_lines.proofs.NameLemmas.{name_unique, names_code}

-- ---- the kinds of words

abbrev pub Counts : Gap → List (Word × Gap) → Type 0
Counts g = Numbers 0 18446744073709551615 g

abbrev pub Values : Gap → List (Word × Gap) → Type 0
Values g = Numbers 9223372036854775808 9223372036854775807 g

abbrev pub Sums : Gap → List (Word × Gap) → Type 0
Sums g = Numbers 18446744073709551616 18446744073709551616 g

pub word_within : (below above : ℕ) (z : ℤ) → below ≤ size_limit → above ≤ size_limit → IsWithin below above z → IsWord (number z)
word_within below above (pos k) l m h = omega arith
word_within below above (negsuc k) l m h = omega arith

pub numbers_code : (below above : ℕ) (g : Gap) → below ≤ size_limit → above ≤ size_limit → IsCode (Numbers below above g)
numbers_code below above g l m = one_word (Numbers below above g) (λ xs h. (number h.0, g, word_within below above h.0 l m h.1, h.2))

pub counts_code : (g : Gap) → IsCode (Counts g)
counts_code g = numbers_code 0 18446744073709551615 g (omega arith) (omega arith)

pub sums_code : (g : Gap) → IsCode (Sums g)
sums_code g = numbers_code 18446744073709551616 18446744073709551616 g (omega arith) (omega arith)

pub texts_code : (g : Gap) → IsCode (Texts g)
texts_code g = one_word (Texts g) (λ xs h. (text h.0, g, h.1, h.2))

pub count_field : (k : ℕ) (g : Gap) → IsCount k → Counts g ((count k, g) ∷ [])
count_field k g h = (pos k, omega arith, refl)

pub text_field : (s : List ℕ) (g : Gap) → IsText s → Texts g ((text s, g) ∷ [])
text_field s g h = (s, h, refl)

pub sum_within : (z : ℤ) → IsWord (number z) → IsWithin 18446744073709551616 18446744073709551616 z
sum_within (pos k) h = h
sum_within (negsuc k) h = omega arith

pub sum_word : (z : ℤ) → IsWithin 18446744073709551616 18446744073709551616 z → IsWord (number z)
sum_word z h = word_within 18446744073709551616 18446744073709551616 z (omega arith) (omega arith) h

pub sum_field : (z : ℤ) (g : Gap) → IsWord (number z) → Sums g ((number z, g) ∷ [])
sum_field z g h = (z, sum_within z h, refl)

pub value_within : (z : ℤ) → FitsWord z → IsWithin 9223372036854775808 9223372036854775807 z
value_within (pos k) h = omega (arith, ints)
value_within (negsuc k) h = omega (arith, ints)

pub within_value : (z : ℤ) → IsWithin 9223372036854775808 9223372036854775807 z → FitsWord z
within_value (pos k) h = (omega (arith, ints), omega (arith, ints))
within_value (negsuc k) h = (omega (arith, ints), omega (arith, ints))

pub count_of : (g : Gap) (ws : List (Word × Gap)) → Counts g ws → (k : ℕ) × IsCount k × (ws ≡ (count k, g) ∷ [])
count_of g ws (pos k, h, e) = (k, omega arith, e)
count_of g ws (negsuc k, h, e) = absurd (omega arith)

pub sum_of : (g : Gap) (ws : List (Word × Gap)) → Sums g ws → (z : ℤ) × IsWord (number z) × (ws ≡ (number z, g) ∷ [])
sum_of g ws h = (h.0, word_within 18446744073709551616 18446744073709551616 h.0 (omega arith) (omega arith) h.1, h.2)

-- ---- lines

abbrev pub form : Name → List (Word × Gap) → Type 0
form (a.Number x) = Counts Newline
form (a.Text x) = Texts Newline
form a.Assign = Then (Texts Space) (Texts Newline)
form a.Shard = Then (Counts Space) (Then (Counts Space) (Counts Newline))
form a.Scalar = Then (Counts Space) Marks
form a.Element = Then (Texts Space) Marks
form a.Last = Then (Counts Space) (Texts Newline)
form (a.Mark x) = λ ws. ⊥

pub number_words : (x : NumberLine) (k : ℕ) → line_words (number_line_of x k) ≡ name_words (a.Number x) ++ (count k, Newline) ∷ []
number_words n.Format k = refl
number_words n.Budget k = refl
number_words n.Before k = refl
number_words n.Part k = refl
number_words n.Array k = refl
number_words n.Records k = refl

pub number_proper : (x : NumberLine) (k : ℕ) → IsCount k → IsLine (number_line_of x k)
number_proper n.Format k h = h
number_proper n.Budget k h = h
number_proper n.Before k h = h
number_proper n.Part k h = h
number_proper n.Array k h = h
number_proper n.Records k h = h

pub text_words : (x : TextLine) (s : List ℕ) → line_words (text_line_of x s) ≡ name_words (a.Text x) ++ (text s, Newline) ∷ []
text_words t.Program s = refl
text_words t.File s = refl
text_words t.Output s = refl
text_words t.End s = refl

pub text_proper : (x : TextLine) (s : List ℕ) → IsText s → IsLine (text_line_of x s)
text_proper t.Program s h = h
text_proper t.File s h = h
text_proper t.Output s h = h
text_proper t.End s h = h

pub record Parts (l : Line) : Type 0 where
  pub name : Name
  pub fields : List (Word × Gap)
  pub is : line_words l ≡ name_words name ++ fields
  pub fits : form name fields
  pub has : Contains LINE_NAMES name

pub parts : (l : Line) → IsLine l → Parts l
parts (format k) h = record { name = a.Number n.Format; fields = (count k, Newline) ∷ []; is = refl; fits = count_field k Newline h; has = (6, omega arith, refl) }
parts (program s) h = record { name = a.Text t.Program; fields = (text s, Newline) ∷ []; is = refl; fits = text_field s Newline h; has = (7, omega arith, refl) }
parts (budget k) h = record { name = a.Number n.Budget; fields = (count k, Newline) ∷ []; is = refl; fits = count_field k Newline h; has = (8, omega arith, refl) }
parts (assign v s) h = record { name = a.Assign; fields = (text v, Space) ∷ (text s, Newline) ∷ []; is = refl; fits = ((text v, Space) ∷ [], (text s, Newline) ∷ [], text_field v Space h.0, text_field s Newline h.1, refl); has = (9, omega arith, refl) }
parts (shard k j i) h = record {
  name = a.Shard;
  fields = (count k, Space) ∷ (count j, Space) ∷ (count i, Newline) ∷ [];
  is = refl;
  fits = (
    (count k, Space) ∷ [],
    (count j, Space) ∷ (count i, Newline) ∷ [],
    count_field k Space h.0,
    ((count j, Space) ∷ [], (count i, Newline) ∷ [], count_field j Space h.1, count_field i Newline h.2, refl),
    refl,
  );
  has = (10, omega arith, refl);
}
parts (before k) h = record { name = a.Number n.Before; fields = (count k, Newline) ∷ []; is = refl; fits = count_field k Newline h; has = (11, omega arith, refl) }
parts (file s) h = record { name = a.Text t.File; fields = (text s, Newline) ∷ []; is = refl; fits = text_field s Newline h; has = (4, omega arith, refl) }
parts (part k) h = record { name = a.Number n.Part; fields = (count k, Newline) ∷ []; is = refl; fits = count_field k Newline h; has = (3, omega arith, refl) }
parts (output s) h = record { name = a.Text t.Output; fields = (text s, Newline) ∷ []; is = refl; fits = text_field s Newline h; has = (5, omega arith, refl) }
parts (scalar k mark) h = record { name = a.Scalar; fields = (count k, Space) ∷ mark_words mark; is = refl; fits = ((count k, Space) ∷ [], mark_words mark, count_field k Space h.0, (mark, h.1, refl), refl); has = (1, omega arith, refl) }
parts (array k) h = record { name = a.Number n.Array; fields = (count k, Newline) ∷ []; is = refl; fits = count_field k Newline h; has = (2, omega arith, refl) }
parts (element s mark) h = record { name = a.Element; fields = (text s, Space) ∷ mark_words mark; is = refl; fits = ((text s, Space) ∷ [], mark_words mark, text_field s Space h.0, (mark, h.1, refl), refl); has = (0, omega arith, refl) }
parts (last k s) h = record { name = a.Last; fields = (count k, Space) ∷ (text s, Newline) ∷ []; is = refl; fits = ((count k, Space) ∷ [], (text s, Newline) ∷ [], count_field k Space h.0, text_field s Newline h.1, refl); has = (12, omega arith, refl) }
parts (records k) h = record { name = a.Number n.Records; fields = (count k, Newline) ∷ []; is = refl; fits = count_field k Newline h; has = (13, omega arith, refl) }
parts (end s) h = record { name = a.Text t.End; fields = (text s, Newline) ∷ []; is = refl; fits = text_field s Newline h; has = (14, omega arith, refl) }

pub to_form : (x : Name) (ws : List (Word × Gap)) → AfterLine x ws → form x ws
to_form x ws h =
    let p = parts h.0 h.1 in
    let same = name_unique p.name x p.fields ws (sym p.is ∙ h.2) in
    let here : form x p.fields = subst (λ z. form z p.fields) same.0 p.fits in
    subst (form x) same.1 here

pub from_form : (x : Name) (ws : List (Word × Gap)) → form x ws → AfterLine x ws
from_form (a.Number x) ws h =
    let c = count_of Newline ws h in
    (number_line_of x c.0, number_proper x c.0 c.1, number_words x c.0 ∙ ap (λ l. name_words (a.Number x) ++ l) (sym c.2))
from_form (a.Text x) ws h = (text_line_of x h.0, text_proper x h.0 h.1, text_words x h.0 ∙ ap (λ l. name_words (a.Text x) ++ l) (sym h.2))
from_form a.Assign ws (xs, ys, h, k, e) =
    (assign h.0 k.0, (h.1, k.1), ap (λ l. name_words a.Assign ++ l) (sym (e ∙ ap (λ l. l ++ ys) h.2 ∙ ap (λ l. (text h.0, Space) ∷ l) k.2)))
from_form a.Shard ws (xs, zs, h, (ys, vs, k, l, f), e) =
    let c = count_of Space xs h in
    let d = count_of Space ys k in
    let b = count_of Newline vs l in (
      shard c.0 d.0 b.0,
      (c.1, d.1, b.1),
      ap (λ q. name_words a.Shard ++ q)
          (sym (e ∙ ap (λ q. q ++ zs) c.2 ∙ ap (λ q. (count c.0, Space) ∷ q) (f ∙ ap (λ q. q ++ vs) d.2 ∙ ap (λ q. (count d.0, Space) ∷ q) b.2))),
    )
from_form a.Scalar ws (xs, ys, h, k, e) =
    let c = count_of Space xs h in
    (scalar c.0 k.0, (c.1, k.1), ap (λ l. name_words a.Scalar ++ l) (sym (e ∙ ap (λ l. l ++ ys) c.2 ∙ ap (λ l. (count c.0, Space) ∷ l) (sym k.2))))
from_form a.Element ws (xs, ys, h, k, e) =
    (element h.0 k.0, (h.1, k.1), ap (λ l. name_words a.Element ++ l) (sym (e ∙ ap (λ l. l ++ ys) h.2 ∙ ap (λ l. (text h.0, Space) ∷ l) (sym k.2))))
from_form a.Last ws (xs, ys, h, k, e) =
    let c = count_of Space xs h in
    (last c.0 k.0, (c.1, k.1), ap (λ l. name_words a.Last ++ l) (sym (e ∙ ap (λ l. l ++ ys) c.2 ∙ ap (λ l. (count c.0, Space) ∷ l) k.2)))
from_form (a.Mark x) ws h = absurd h

pub fail_line : (x : Name) (s : List ℕ) (f : Failure) → Fails (form x) s f → Fails (AfterLine x) s f
fail_line x s f k = fail_same (form x) (AfterLine x) s f (from_form x) (to_form x) k

-- ---- marks

abbrev Nothing : List (Word × Gap) → Type 0
Nothing ws = ws ≡ []

abbrev pub mark_form : MarkName → List (Word × Gap) → Type 0
mark_form m.Added = Sums Newline
mark_form m.Sum = Then (Sums Space) (Then (Sums Space) (Sums Newline))
mark_form m.Unset = Nothing
mark_form m.Number = Values Newline
mark_form m.Text = Texts Newline
mark_form m.Maybe = Texts Newline
mark_form m.Created = Nothing

pub record MarkParts (k : Mark) : Type 0 where
  pub name : MarkName
  pub fields : List (Word × Gap)
  pub is : mark_words k ≡ name_words (a.Mark name) ++ fields
  pub fits : mark_form name fields
  pub has : Contains MARK_NAMES (a.Mark name)

pub mark_parts : (k : Mark) → IsMark k → MarkParts k
mark_parts (added x) h = record { name = m.Added; fields = (number x, Newline) ∷ []; is = refl; fits = sum_field x Newline h; has = (0, omega arith, refl) }
mark_parts (sum x y z) h = record {
  name = m.Sum;
  fields = (number x, Space) ∷ (number y, Space) ∷ (number z, Newline) ∷ [];
  is = refl;
  fits = (
    (number x, Space) ∷ [],
    (number y, Space) ∷ (number z, Newline) ∷ [],
    sum_field x Space h.0,
    ((number y, Space) ∷ [], (number z, Newline) ∷ [], sum_field y Space h.1, sum_field z Newline h.2, refl),
    refl,
  );
  has = (1, omega arith, refl);
}
mark_parts (put Uninit) h = record { name = m.Unset; fields = []; is = refl; fits = refl; has = (5, omega arith, refl) }
mark_parts (put (Num z)) h = record { name = m.Number; fields = (number z, Newline) ∷ []; is = refl; fits = (z, value_within z h, refl); has = (2, omega arith, refl) }
mark_parts (put (Text s)) h = record { name = m.Text; fields = (text s, Newline) ∷ []; is = refl; fits = text_field s Newline h; has = (3, omega arith, refl) }
mark_parts (put (Maybe s)) h = record { name = m.Maybe; fields = (text s, Newline) ∷ []; is = refl; fits = text_field s Newline h; has = (4, omega arith, refl) }
mark_parts created h = record { name = m.Created; fields = []; is = refl; fits = refl; has = (6, omega arith, refl) }

same_mark : (x y : MarkName) → a.Mark x ≡ a.Mark y → x ≡ y
same_mark x y e = cc

to_mark_form : (x : MarkName) (ws : List (Word × Gap)) → AfterMark (a.Mark x) ws → mark_form x ws
to_mark_form x ws h =
    let p = mark_parts h.0 h.1 in
    let same = name_unique (a.Mark p.name) (a.Mark x) p.fields ws (sym p.is ∙ h.2) in
    let here : mark_form x p.fields = subst (λ z. mark_form z p.fields) (same_mark p.name x same.0) p.fits in
    subst (mark_form x) same.1 here

from_mark_form : (x : MarkName) (ws : List (Word × Gap)) → mark_form x ws → AfterMark (a.Mark x) ws
from_mark_form m.Added ws h =
    let c = sum_of Newline ws h in
    (added c.0, c.1, ap (λ q. name_words (a.Mark m.Added) ++ q) (sym c.2))
from_mark_form m.Sum ws (xs, zs, h, (ys, vs, k, l, f), e) =
    let c = sum_of Space xs h in
    let d = sum_of Space ys k in
    let b = sum_of Newline vs l in (
      sum c.0 d.0 b.0,
      (c.1, d.1, b.1),
      ap (λ q. name_words (a.Mark m.Sum) ++ q)
          (sym (e ∙ ap (λ q. q ++ zs) c.2 ∙ ap (λ q. (number c.0, Space) ∷ q) (f ∙ ap (λ q. q ++ vs) d.2 ∙ ap (λ q. (number d.0, Space) ∷ q) b.2))),
    )
from_mark_form m.Unset ws e = (put Uninit, tt, ap (λ q. name_words (a.Mark m.Unset) ++ q) (sym e))
from_mark_form m.Number ws h = (put (Num h.0), within_value h.0 h.1, ap (λ q. name_words (a.Mark m.Number) ++ q) (sym h.2))
from_mark_form m.Text ws h = (put (Text h.0), h.1, ap (λ q. name_words (a.Mark m.Text) ++ q) (sym h.2))
from_mark_form m.Maybe ws h = (put (Maybe h.0), h.1, ap (λ q. name_words (a.Mark m.Maybe) ++ q) (sym h.2))
from_mark_form m.Created ws e = (created, tt, ap (λ q. name_words (a.Mark m.Created) ++ q) (sym e))

pub fail_mark : (x : MarkName) (s : List ℕ) (f : Failure) → Fails (mark_form x) s f → Fails (AfterMark (a.Mark x)) s f
fail_mark x s f k = fail_same (mark_form x) (AfterMark (a.Mark x)) s f (from_mark_form x) (to_mark_form x) k

-- ---- one word after the other

pub two_first : (First Next : List (Word × Gap) → Type 0) (s : List ℕ) (f : Failure) → IsCode First → (ys : List (Word × Gap)) × Next ys → Fails First s f → Fails (Then First Next) s f
two_first First Next s f code some k = fail_first First (λ _. Next) (Then First Next) s f (in_turn First Next code) (λ xs h. some) k

pub two_next : (First Next : List (Word × Gap) → Type 0) (s r : List ℕ) (w : Word) (g : Gap) (f : Failure) → IsCode First → First ((w, g) ∷ []) → s ≡ written w g ++ r → Fails Next r f → Fails (Then First Next) s f
two_next First Next s r w g f code first is k = fail_next First (λ _. Next) (Then First Next) s r ((w, g) ∷ []) f (in_turn First Next code) first (is ∙ sym (one_written w g r)) k

pub some_count : (g : Gap) → (ys : List (Word × Gap)) × Counts g ys
some_count g = ((count 0, g) ∷ [], count_field 0 g (omega arith))

pub some_text : (g : Gap) → (ys : List (Word × Gap)) × Texts g ys
some_text g = ((text [], g) ∷ [], text_field [] g (omega arith))

pub some_sum : (g : Gap) → (ys : List (Word × Gap)) × Sums g ys
some_sum g = ((number (pos 0), g) ∷ [], sum_field (pos 0) g (omega arith))

pub two_counts : (ys : List (Word × Gap)) × Then (Counts Space) (Counts Newline) ys
two_counts = ((some_count Space).0 ++ (some_count Newline).0, ((some_count Space).0, (some_count Newline).0, (some_count Space).1, (some_count Newline).1, refl))

pub two_sums : (ys : List (Word × Gap)) × Then (Sums Space) (Sums Newline) ys
two_sums = ((some_sum Space).0 ++ (some_sum Newline).0, ((some_sum Space).0, (some_sum Newline).0, (some_sum Space).1, (some_sum Newline).1, refl))

pub some_mark : (ys : List (Word × Gap)) × Marks ys
some_mark = (mark_words created, (created, tt, refl))

pub one_front : (s q : List ℕ) (w : Word) (g : Gap) → s ≡ written w g ++ q → s ≡ written_all ((w, g) ∷ []) ++ q
one_front s q w g e = e ∙ sym (one_written w g q)

pub more_front : (s r q : List ℕ) (w : Word) (g : Gap) (ws : List (Word × Gap)) → s ≡ written w g ++ r → r ≡ written_all ws ++ q → s ≡ written_all ((w, g) ∷ ws) ++ q
more_front s r q w g ws e h = e ∙ ap (λ l. written w g ++ l) h ∙ sym (append_assoc (written w g) (written_all ws) q)

-- ---- a name and what follows it

then_some : (First Next : List (Word × Gap) → Type 0) → (xs : List (Word × Gap)) × First xs → (ys : List (Word × Gap)) × Next ys → (ws : List (Word × Gap)) × Then First Next ws
then_some First Next h k = (h.0 ++ k.0, (h.0, k.0, h.1, k.1, refl))

abbrev HasLine : Name → Type 0
HasLine x = (ys : List (Word × Gap)) × form x ys

all_lines : AllByRecursion HasLine LINE_NAMES
all_lines = (then_some (Texts Space) Marks (some_text Space) some_mark, (then_some (Counts Space) Marks (some_count Space) some_mark, (some_count Newline, (some_count Newline, (some_text Newline, (some_text Newline, (some_count Newline, (some_text Newline, (some_count Newline, (then_some (Texts Space) (Texts Newline) (some_text Space) (some_text Newline), (then_some (Counts Space) (Then (Counts Space) (Counts Newline)) (some_count Space) two_counts, (some_count Newline, (then_some (Counts Space) (Texts Newline) (some_count Space) (some_text Newline), (some_count Newline, (some_text Newline, tt)))))))))))))))

abbrev IsMarkName : Name → Type 0
IsMarkName x = (k : MarkName) × (x ≡ a.Mark k)

all_marks : AllByRecursion IsMarkName MARK_NAMES
all_marks = ((m.Added, refl), ((m.Sum, refl), ((m.Number, refl), ((m.Text, refl), ((m.Maybe, refl), ((m.Unset, refl), ((m.Created, refl), tt)))))))

of_each : (P : Name → Type 0) (names : List Name) (x : Name) → AllByRecursion P names → Contains names x → P x
of_each P names x all has = subst P has.2 (All-from_recursion P names all has.0 x has.1)

pub mark_name : (x : Name) → Contains MARK_NAMES x → IsMarkName x
mark_name x has = of_each IsMarkName MARK_NAMES x all_marks has

some_mark_form : (x : MarkName) → (ys : List (Word × Gap)) × mark_form x ys
some_mark_form m.Added = some_sum Newline
some_mark_form m.Sum = then_some (Sums Space) (Then (Sums Space) (Sums Newline)) (some_sum Space) two_sums
some_mark_form m.Unset = ([], refl)
some_mark_form m.Number = ((number (pos 0), Newline) ∷ [], (pos 0, omega arith, refl))
some_mark_form m.Text = some_text Newline
some_mark_form m.Maybe = some_text Newline
some_mark_form m.Created = ([], refl)

pub line_turn : Turn (OneOf LINE_NAMES) (λ xs ys. Lines (xs ++ ys)) Lines
line_turn = record {
  split = λ ws h. let p = parts h.0 h.1 in (name_words p.name, p.fields, (p.name, p.has, refl), (h.0, h.1, p.is), sym h.2 ∙ p.is);
  join = λ xs ys h k. k;
  code = names_code LINE_NAMES;
}

pub line_some : (xs : List (Word × Gap)) → OneOf LINE_NAMES xs → (ys : List (Word × Gap)) × Lines (xs ++ ys)
line_some xs h =
    let k = of_each HasLine LINE_NAMES h.0 all_lines h.1 in
    let l = from_form h.0 k.0 k.1 in
    (k.0, (l.0, l.1, l.2 ∙ ap (λ q. q ++ k.0) (sym h.2)))

pub mark_turn : Turn (OneOf MARK_NAMES) (λ xs ys. Marks (xs ++ ys)) Marks
mark_turn = record {
  split = λ ws h. let p = mark_parts h.0 h.1 in (name_words (a.Mark p.name), p.fields, (a.Mark p.name, p.has, refl), (h.0, h.1, p.is), sym h.2 ∙ p.is);
  join = λ xs ys h k. k;
  code = names_code MARK_NAMES;
}

pub mark_some : (xs : List (Word × Gap)) → OneOf MARK_NAMES xs → (ys : List (Word × Gap)) × Marks (xs ++ ys)
mark_some xs h =
    let x = mark_name h.0 h.1 in
    let k = some_mark_form x.0 in
    let l = from_mark_form x.0 k.0 k.1 in
    (k.0, (l.0, l.1, l.2 ∙ ap (λ q. q ++ k.0) (sym (h.2 ∙ ap name_words x.1))))

-- ---- the answers of the readers

pub match_weaker : {T E : Type 0} (r : Result T E) (P R : T → Type 0) (Q S : E → Type 0) → ((x : T) → P x → R x) → ((e : E) → Q e → S e) → MatchResult r P Q → MatchResult r R S
match_weaker (Ok x) P R Q S f g h = f x h
match_weaker (Err e) P R Q S f g h = g e h

whole_front : (s r q : List ℕ) (ws xs fields : List (Word × Gap)) → s ≡ written_all xs ++ r → ws ≡ xs ++ fields → r ≡ written_all fields ++ q → s ≡ written_all ws ++ q
whole_front s r q ws xs fields e is h =
    e ∙ ap (λ l. written_all xs ++ l) h ∙ sym (append_assoc (written_all xs) (written_all fields) q) ∙ ap (λ l. l ++ q) (sym (written_append xs fields)) ∙ ap (λ l. written_all l ++ q) (sym is)

pub mark_front : (x : Name) (s r q : List ℕ) (k : Mark) → s ≡ spelling x ++ r → IsMarkAfter x r k q → IsMark k × (s ≡ written_all (mark_words k) ++ q)
mark_front x s r q k e h = (h.mark, whole_front s r q (mark_words k) (name_words x) h.words e h.is h.front)

pub mark_fails : (x : Name) (s r : List ℕ) (f : Failure) → Contains MARK_NAMES x → s ≡ spelling x ++ r → Fails (AfterMark x) r f → Fails Marks s f
mark_fails x s r f has e k = fail_next (OneOf MARK_NAMES) (λ xs ys. Marks (xs ++ ys)) Marks s r (name_words x) f mark_turn (x, has, refl) e k

pub line_front : (x : Name) (s r q : List ℕ) (l : Line) → s ≡ spelling x ++ r → IsLineAfter x r l q → BeginsLine s l q
line_front x s r q l e h = record { line = h.line; front = whole_front s r q (line_words l) (name_words x) h.words e h.is h.front }

pub line_fails : (x : Name) (s r : List ℕ) (f : Failure) → Contains LINE_NAMES x → s ≡ spelling x ++ r → Fails (AfterLine x) r f → Fails Lines s f
line_fails x s r f has e k = fail_next (OneOf LINE_NAMES) (λ xs ys. Lines (xs ++ ys)) Lines s r (name_words x) f line_turn (x, has, refl) e k

pub sum_same : (z : ℤ) → IsWithin 18446744073709551616 18446744073709551616 z → to_z w128 (of_z w128 z) ≡ z
sum_same (pos k) h = omega (arith, ints)
sum_same (negsuc k) h = omega (arith, ints)

pub value_same : (z : ℤ) → FitsWord z → to_z w64 (of_z w64 z) ≡ z
value_same z h = omega (arith, ints)

pub sum_as : (s q : List ℕ) (x y z u v w : ℤ) → u ≡ x → v ≡ y → w ≡ z → IsMarkAfter (a.Mark m.Sum) s (sum x y z) q → IsMarkAfter (a.Mark m.Sum) s (sum u v w) q
sum_as s q x y z u v w e f g h = rw (e, f, g) h

pub added_as : (s q : List ℕ) (x u : ℤ) → u ≡ x → IsMarkAfter (a.Mark m.Added) s (added x) q → IsMarkAfter (a.Mark m.Added) s (added u) q
added_as s q x u e h = rw e h

pub value_as : (s q : List ℕ) (x u : ℤ) → u ≡ x → IsMarkAfter (a.Mark m.Number) s (put (Num x)) q → IsMarkAfter (a.Mark m.Number) s (put (Num u)) q
value_as s q x u e h = rw e h
