-- Tables of what is done with names.
use Rattle.std.proofs.Common.{◌≡◌, ℕ, zero, suc, replicate, get_or, refl, ap, ◌∙◌}
use Rattle.pawk_admit.specs.declared.occurrence.GlobalName.{GlobalName}
use Rattle.pawk_admit.specs.declared.occurrence.GlobalName.TheVariants.{Scalar, Array}
use Rattle.pawk_admit.specs.declared.marks.Tables.{Tables}
use Rattle.pawk_admit.specs.Marks.{nothing, marks_of}

blank : {A : Type 0} (n i : ℕ) (d : A) → get_or (replicate n d) i d ≡ d
blank zero i d = refl
blank (suc n) zero d = refl
blank (suc n) (suc i) d = blank n i d

pub fresh : (tables : Tables) (m n : ℕ) → tables.scalars.items ≡ replicate m nothing → tables.arrays.items ≡ replicate n nothing →
    (name : GlobalName) → marks_of tables name ≡ nothing
fresh tables m n e d (Scalar i) = ap (λ l. get_or l i nothing) e ∙ blank m i nothing
fresh tables m n e d (Array i) = ap (λ l. get_or l i nothing) d ∙ blank n i nothing
