-- Proofs of the law of listings.
use Rattle.std.proofs.Common.{◌≡◌, ℕ, zero, suc, ◌<◌, Bool, true, false, List, [], ◌∷◌, length, get_or, Option, Some, refl, ◌∙◌, ap, arith}
use Rattle.std.specs.Prelude.{◌||◌, is_some, if◌then◌else◌}
use Rattle.std.specs.List.{AllByRecursion, IsDistinct}
use Rattle.std.specs.Str.{bytes_eq}
use Rattle.std.specs.Cmp.Lexicographic.{texts_ties}
use Rattle.std.specs.FinMap.Entries.{find, is_sorted, put, find-put, is_sorted-put}
use Rattle.std.proofs.lemmas.Slice.Eq.{bytes_eq-Decides}
use Rattle.std.proofs.lemmas.Map.Keys.{IsDistinct-head, IsDistinct-tail}
use lib.Dec.{T}
use Rattle.pawk_array.specs.Entries.{order}
use Rattle.pawk_array.proofs.EntriesLemmas.{total, holds}
use Rattle.pawk_lex.specs.Vocabulary.{is_among}
use Rattle.pawk_store.specs.Listings.{Named, Content, with_all, all_globals}
use Rattle.pawk_store.specs.ListingLaw.{IsInOrder, ListingLaw, names_of}

is_true : (b : Bool) → T b → b ≡ true
is_true true h = refl
is_true false h = absurd h

put_found : (q k : List ℕ) (c : Content) (l : List Named) → find order q (put order k c l) ≡ (if bytes_eq q k then Some c else find order q l)
put_found q k c l = rw (texts_ties q k) (find-put order total q k c l)

rises : (ns l : List Named) → is_sorted order l ≡ true → is_sorted order (with_all ns l) ≡ true
rises [] l h = h
rises (n ∷ ns) l h = rises ns (put order n.0 n.1 l) (is_true _ (is_sorted-put order total n.0 n.1 l (holds _ h)))

some_of : (b : Bool) (c : Content) (o : Option Content) → is_some (if b then Some c else o) ≡ (b || is_some o)
some_of true c o = refl
some_of false c o = refl

swap : (a b c : Bool) → (a || (b || c)) ≡ ((b || a) || c)
swap true true c = refl
swap true false c = refl
swap false true c = refl
swap false false c = refl

names_found : (q : List ℕ) (ns l : List Named) → is_some (find order q (with_all ns l)) ≡ (is_among (names_of ns) q || is_some (find order q l))
names_found q [] l = refl
names_found q (n ∷ ns) l =
    names_found q ns (put order n.0 n.1 l)
    ∙ ap (λ b. is_among (names_of ns) q || b) (ap is_some (put_found q n.0 n.1 l) ∙ some_of (bytes_eq q n.0) n.1 (find order q l))
    ∙ swap (is_among (names_of ns) q) (bytes_eq q n.0) (is_some (find order q l))

-- a name that is not among others keeps what it has
stays : (q : List ℕ) (ns l : List Named) → AllByRecursion (λ x. bytes_eq q x ≡ false) (names_of ns) → find order q (with_all ns l) ≡ find order q l
stays q [] l h = refl
stays q (n ∷ ns) l h = stays q ns (put order n.0 n.1 l) h.1 ∙ put_found q n.0 n.1 l ∙ ap (λ b. if b then Some n.1 else find order q l) h.0

has_own : (ns l : List Named) → IsDistinct bytes_eq (names_of ns) → (i : ℕ) (d : Named) → i < length ns → find order (get_or ns i d).0 (with_all ns l) ≡ Some (get_or ns i d).1
has_own [] l h i d g = absurd (omega (arith, g))
has_own (n ∷ ns) l h zero d g =
    stays n.0 ns (put order n.0 n.1 l) (IsDistinct-head bytes_eq n.0 (names_of ns) h)
    ∙ put_found n.0 n.0 n.1 l
    ∙ ap (λ b. if b then Some n.1 else find order n.0 l) ((bytes_eq-Decides n.0 n.0).1 refl)
has_own (n ∷ ns) l h (suc i) d g = has_own ns (put order n.0 n.1 l) (IsDistinct-tail bytes_eq n.0 (names_of ns) h) i d (omega (arith, g))

or_none : (b : Bool) → (b || false) ≡ b
or_none true = refl
or_none false = refl

in_order : (all : List Named) → IsInOrder all (with_all all [])
in_order all = record {
  rise = rises all [] refl;
  same_names = λ q. names_found q all [] ∙ or_none (is_among (names_of all) q);
  has = λ h i d g. has_own all [] h i d g;
}

pub listing_holds : ListingLaw
listing_holds names arrays assignments v g = in_order (all_globals names arrays assignments v g)
