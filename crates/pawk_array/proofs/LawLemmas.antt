-- Proofs of the laws.
use Rattle.std.proofs.Common.{◌≡◌, ◌≢◌, ℕ, zero, suc, ◌+◌, ◌^◌, ◌<◌, List, [], ◌∷◌, length, get_or, Some, None, refl, ◌∙◌, ap, arith}
use Rattle.std.specs.Prelude.{if◌then◌else◌, slice_range}
use Rattle.std.specs.Fmt.{decimal}
use Rattle.std.specs.declared.ops.Range.{Range}
use Rattle.std.proofs.lemmas.Fmt.{decimal_injective}
use Rattle.pawk_value.specs.Value.{Maybe}
use Rattle.pawk_array.specs.Entries.{Entries, found, put, with_pieces}
use Rattle.pawk_array.specs.Law.{SameLaw, PutLaw, WithoutLaw, PiecesLaw}
use Rattle.pawk_keyed_map.proofs.EntriesLemmas.{itself, differs, put_here, put_other, flip, rise-put, rise-without, found-without, same_found}

pub same_holds : SameLaw
same_holds es fs g h e = same_found es fs g h e

pub put_holds : PutLaw
put_holds k v es h = record { in_order = rise-put k v es h; here = put_here k v es; others = λ q ne. put_other q k v es ne }

pub without_holds : WithoutLaw
without_holds k es h = record {
  in_order = rise-without k es h;
  here = found-without k k es ∙ ap (λ b. if b then None else found k es) (itself k);
  others = λ q ne. found-without q k es ∙ ap (λ b. if b then None else found q es) (flip k q ∙ differs q k ne);
}

-- what comes after in the list does not touch a key of a number before
stays : (n m : ℕ) (text : List ℕ) (rs : List (Range ℕ)) (es : Entries) → m < n + 1 → n + length rs < 2 ^ 64 →
    found (decimal m) (with_pieces n text rs es) ≡ found (decimal m) es
stays n m text [] es h small = refl
stays n m text (r ∷ rs) es h small =
    let ne : decimal m ≢ decimal (n + 1) = λ e.
    let same = decimal_injective m (n + 1) (omega (arith, h, small)) (omega (arith, small)) e in absurd (omega (arith, h, same)) in
    stays (n + 1) m text rs (put (decimal (n + 1)) (Maybe (slice_range text r.start r.end)) es) (omega (arith, h)) (omega (arith, small))
    ∙ put_other (decimal m) (decimal (n + 1)) (Maybe (slice_range text r.start r.end)) es ne

piece_at : (n : ℕ) (text : List ℕ) (rs : List (Range ℕ)) (es : Entries) (i : ℕ) (d : Range ℕ) → n + length rs < 2 ^ 64 → i < length rs →
    found (decimal (n + i + 1)) (with_pieces n text rs es) ≡ Some (Maybe (slice_range text (get_or rs i d).start (get_or rs i d).end))
piece_at n text [] es i d small h = absurd (omega (arith, h))
piece_at n text (r ∷ rs) es zero d small h =
    let at : n + 0 + 1 ≡ n + 1 = omega arith in
    rw at (stays (n + 1) (n + 1) text rs (put (decimal (n + 1)) (Maybe (slice_range text r.start r.end)) es) (omega arith) (omega (arith, small))
    ∙ put_here (decimal (n + 1)) (Maybe (slice_range text r.start r.end)) es)
piece_at n text (r ∷ rs) es (suc i) d small h =
    let at : n + suc i + 1 ≡ n + 1 + i + 1 = omega arith in
    rw at (piece_at (n + 1) text rs (put (decimal (n + 1)) (Maybe (slice_range text r.start r.end)) es) i d (omega (arith, small)) (omega (arith, h)))

pub pieces_holds : PiecesLaw
pieces_holds text rs i d small h =
    let at : i + 1 ≡ 0 + i + 1 = omega arith in
    rw at (piece_at 0 text rs [] i d (omega (arith, small)) h)
