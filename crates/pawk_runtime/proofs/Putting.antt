-- A text with its replacements that a place gets.
use Rattle.std.proofs.Common.{◌≡◌, ℕ, ◌<◌, ◌≤◌, ◌==◌, true, false, inl, inr, refl, List, length, pos, Ok, Err, arith}
use Rattle.std.proofs.lemmas.Bool.Decides.{nat_tests}
use Rattle.pawk_value.specs.Value.{Text}
use Rattle.pawk_value.specs.declared.faults.Fault.TheVariants.{Length}
use Rattle.pawk_world.specs.Worlds.{Calls}
use Rattle.pawk_store.specs.Builtins.{Replaced, within_limit}
use Rattle.pawk_store.specs.Parts.{Moment, bind, give, settle}
use Rattle.pawk_store.specs.Places.{Aim, write_at}
use Rattle.pawk_store.specs.Meaning.{put_replaced}
use Rattle.pawk_builtins.specs.Replaces.{Left}

-- where some were replaced, the place gets the text, if it is not too long
pub put_some : {S : Type 0} (calls : Calls S) (aim : Aim) (r : Replaced) (n : ℕ) (text : List ℕ) (m : Moment S) → 0 < n → r.count ≡ n → r.text ≡ text
    → put_replaced calls aim r m ≡ bind (settle (within_limit text)) (λ t. bind (write_at calls aim (Text t)) (λ _. give (pos n))) m
put_some calls aim r n text m some count is =
    let there : (n == 0) ≡ false = grind (arith, nat_tests) in
    rw (count, is, there) refl

pub too_long : (text : List ℕ) → 16777216 < length text → within_limit text ≡ Err Length
too_long text h = grind (arith, nat_tests)

pub short : (text : List ℕ) → length text ≤ 16777216 → within_limit text ≡ Ok text
short text h = grind (arith, nat_tests)

-- what was left is put, or is too long as it is meant to be
pub put_left : {S : Type 0} (calls : Calls S) (aim : Aim) (r : Replaced) (n : ℕ) (text : List ℕ) (m : Moment S) → 0 < n → Left text n (Ok r)
    → put_replaced calls aim r m ≡ bind (settle (within_limit text)) (λ t. bind (write_at calls aim (Text t)) (λ _. give (pos n))) m
put_left calls aim r n text m some (inl is) = put_some calls aim r n text m some is.0 (is.1 some)
put_left calls aim r n text m some (inr both) =
    let there : (r.count == 0) ≡ false = let h = both.some.1 in grind (arith, nat_tests) in
    rw (there, too_long r.text both.long.1, too_long text both.long.0) refl

-- nothing was left, and nothing is put
pub put_none : {S : Type 0} (calls : Calls S) (aim : Aim) (r : Replaced) (n : ℕ) (text : List ℕ) (m : Moment S) → n ≡ 0 → Left text n (Ok r) → put_replaced calls aim r m ≡ give (pos 0) m
put_none calls aim r n text m none (inl is) = let there : (r.count == 0) ≡ true = let h = is.0 in grind (arith, nat_tests) in rw there refl
put_none calls aim r n text m none (inr both) = let h = both.some.0 in absurd (omega arith)
