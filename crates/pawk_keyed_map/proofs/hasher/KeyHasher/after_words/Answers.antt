use Rattle.std.specs.Prelude.{◌≡◌, ℕ, suc, ◌+◌, ◌*◌, ◌/◌}
use mathlib.Core.Path.{refl}
use native.Mathlib.Omega.{arith}
use Rattle.pawk_keyed_map.specs.Hashing.{after_first}
use Rattle.pawk_keyed_map.proofs.hasher.KeyHasher.after_words.Goals as goal

pub loop-at-init : goal.loop-at-init
unfolding after_first
loop-at-init c = (refl, omega arith, refl)

pub loop-at-preserved : goal.loop-at-preserved
unfolding after_first
loop-at-preserved c =
    let at : ℕ = c.loop-at.at in
    let whole : at ≡ 8 * (at / 8) = omega (arith, c.loop-at.invariant.0) in
    let more : (at + 8) / 8 ≡ suc (at / 8) = omega arith in (
      omega arith,
      omega arith,
      rw (more, c.folded_product-state.ensures, c.word.ensures, ← c.loop-at.invariant.2, ← whole),
    )
