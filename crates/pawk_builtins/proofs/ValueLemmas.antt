-- Values in one buffer stay when bytes are appended to it.
use Rattle.std.proofs.Common.{◌≡◌, ℕ, zero, suc, ◌+◌, ◌-◌, ◌≤◌, ◌<◌, List, [], ◌∷◌, ◌++◌, length, map, drop, take, get_or, refl, ap, ◌∙◌, add-one, arith, length-drop}
use Rattle.std.specs.Prelude.{slice_range, slice_set}
use Rattle.std.specs.declared.ops.Range.{Range}
use Rattle.std.proofs.lemmas.List.{drop-append-le, take-append-le, take_more_set, map-append}
use Rattle.std.proofs.Math.Seq.{drop-append_seam, take-length, take-suc}
use Rattle.pawk_value.specs.declared.held.Held.{Held}
use Rattle.pawk_builtins.specs.ValueViews.{value_in, AreWithin}

range_stays : (bytes more : List ℕ) (a b : ℕ) → a ≤ b → b ≤ length bytes → slice_range (bytes ++ more) a b ≡ slice_range bytes a b
range_stays bytes more a b g h =
    let start : a ≤ length bytes = omega (arith, g, h) in
    let end : b - a ≤ length (drop a bytes) = omega (arith, g, h, length-drop a bytes) in
    rw (drop-append-le a bytes more start) (take-append-le (b - a) (drop a bytes) more end)

pub values_stay : (bytes more : List ℕ) (ps : List (Held × Range ℕ)) → AreWithin bytes ps → map (value_in (bytes ++ more)) ps ≡ map (value_in bytes) ps
values_stay bytes more [] h = refl
values_stay bytes more (p ∷ ps) h =
    let first = h zero p (omega arith) in
    let rest : AreWithin bytes ps = λ k d below. h (suc k) d (omega (arith, below)) in
    rw (range_stays bytes more p.1.start p.1.end first.0 first.1, values_stay bytes more ps rest) refl

pub last_range : (bytes more : List ℕ) (n : ℕ) → n ≡ length bytes + length more → slice_range (bytes ++ more) (length bytes) n ≡ more
last_range bytes more n e =
    let size : n - length bytes ≡ length more = omega (arith, e) in
    rw (drop-append_seam bytes more, size) (take-length more)

-- one more of the places holds what stands at that place of a list
pub next_lent : {R X V : Type 0} (g : R → V) (f : X → V) (room : List R) (r : R) (xs : List X) (n : ℕ) (d : X) → n < length room → n < length xs → map g (take n room) ≡ map f (take n xs) → g r ≡ f (get_or xs n d) → map g (take (n + 1) (slice_set room n r)) ≡ map f (take (n + 1) xs)
next_lent g f room r xs n d in_room in_xs before this =
    let more : map g (take (n + 1) (slice_set room n r)) ≡ map g (take n room) ++ g r ∷ [] =
    ap (map g) (take_more_set room n r in_room) ∙ map-append g (take n room) (r ∷ []) in
    let all : map f (take (n + 1) xs) ≡ map f (take n xs) ++ f (get_or xs n d) ∷ [] =
    ap (λ m. map f (take m xs)) (add-one n) ∙ ap (map f) (take-suc xs n d in_xs) ∙ map-append f (take n xs) (get_or xs n d ∷ []) in
    cc (more, all, before, this)
