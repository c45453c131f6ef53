-- What the records do with names of a program that may run in chunks.
use Rattle.std.proofs.Common.{◌≡◌, ℕ, refl, inl, inr}
use Rattle.pawk_code.specs.Programs.{Code}
use Rattle.pawk_admit.specs.declared.occurrence.Touch.{Touch}
use Rattle.pawk_admit.specs.declared.occurrence.Touch.TheVariants.{Look, Set, Assign, Add, AddAndLook, Test, Walk, Split, Pass, Delete}
use Rattle.pawk_admit.specs.declared.occurrence.GlobalName.{GlobalName}
use Rattle.pawk_admit.specs.declared.occurrence.GlobalName.TheVariants.{Scalar, Array}
use Rattle.pawk_admit.specs.declared.occurrence.Occurrence.{Occurrence}
use Rattle.pawk_admit.specs.declared.reason.Reason.{Reason}
use Rattle.pawk_admit.specs.declared.reason.Reason.TheVariants as reason
use Rattle.pawk_admit.specs.declared.role.Role.{Role}
use Rattle.pawk_admit.specs.declared.role.Role.TheVariants.{Fixed, Adder, Setter, Reader}
use Rattle.pawk_admit.specs.declared.occurrence.Occurrence.TheVariants.{Call}
use Rattle.pawk_admit.specs.Reaches.{Reached, from_rules, from_function, Occurs}
use Rattle.pawk_admit.specs.Admission.{IsSeparator, IsArray, Touches, IsRole, Holds, role_of, Suits, KeepToRoles, SeparatorsAreFixed}

-- something is added to a name, and this is done with it
adds_alone : (P : Occurrence → Type 0) → ((r : Reason) → ¬ Holds P r) → (name : GlobalName) → Touches P Add name →
    (t : Touch) → Touches P t name → t ≡ Add
adds_alone P none name h Look q = absurd (none reason.Addition (name, (inl h, inr (Look, q, λ i. i))))
adds_alone P none name h Set q = absurd (none reason.Addition (name, (inl h, inr (Set, q, λ i. i))))
adds_alone P none name h Assign q = absurd (none reason.Addition (name, (inl h, inr (Assign, q, λ i. i))))
adds_alone P none name h Add q = refl
adds_alone P none name h AddAndLook q = absurd (none reason.Value (name, q))
adds_alone P none name h Test q = absurd (none reason.Addition (name, (inl h, inr (Test, q, λ i. i))))
adds_alone P none name h Walk q = absurd (none reason.Addition (name, (inl h, inr (Walk, q, λ i. i))))
adds_alone P none name h Split q = absurd (none reason.Addition (name, (inl h, inr (Split, q, λ i. i))))
adds_alone P none name h Pass q = absurd (none reason.Addition (name, (inl h, inr (Pass, q, λ i. i))))
adds_alone P none name h Delete q = absurd (none reason.Addition (name, (inl h, inr (Delete, q, λ i. i))))

-- what is done with a name that no role but the first has
fixed_suits : (P : Occurrence → Type 0) → ((r : Reason) → ¬ Holds P r) → (name : GlobalName) → IsRole P Fixed name →
    (t : Touch) → Touches P t name → Suits Fixed t
fixed_suits P none name is Look h = inl refl
fixed_suits P none name is Test h = inr (inl refl)
fixed_suits P none name is Walk h = inr (inr refl)
fixed_suits P none name is Set h = absurd (none reason.Assignment (name, inr (inr (h, is.1))))
fixed_suits P none name is Assign h = absurd (none reason.Assignment (name, inl h))
fixed_suits P none name is Delete h = absurd (none reason.Assignment (name, inr (inl h)))
fixed_suits P none name is Add h = absurd (is.0 (h, adds_alone P none name h))
fixed_suits P none name is AddAndLook h = absurd (none reason.Value (name, h))
fixed_suits P none name is Split h = absurd (none reason.Split (name, h))
fixed_suits P none name is Pass h = absurd (none reason.Passing (name, h))

suits : (P : Occurrence → Type 0) → ((r : Reason) → ¬ Holds P r) → (role : Role) (name : GlobalName) → IsRole P role name →
    (t : Touch) → Touches P t name → Suits role t
suits P none Fixed name is t h = fixed_suits P none name is t h
suits P none Adder name is t h = is.1 t h
suits P none Setter name is t h = is.0.1 t h
suits P none Reader name is t h = is.1.1 t h

pub keep_to_roles : KeepToRoles
keep_to_roles code roles none are t name h = suits (Occurs code) none (role_of roles name) name (are name) t h

array_apart : (name : GlobalName) → IsSeparator name → IsArray name → ⊥
array_apart (Scalar n) s a = a
array_apart (Array n) s a = s

fixed_only : (P : Occurrence → Type 0) → ((r : Reason) → ¬ Holds P r) → (role : Role) (name : GlobalName) → IsRole P role name →
    IsSeparator name → role ≡ Fixed
fixed_only P none Fixed name is s = refl
fixed_only P none Adder name is s = absurd (none reason.Addition (name, (inl is.0, inl s)))
fixed_only P none Setter name is s = absurd (is.1 s)
fixed_only P none Reader name is s = absurd (array_apart name s is.0)

pub separators_are_fixed : SeparatorsAreFixed
separators_are_fixed code roles none are name s = fixed_only (Occurs code) none (role_of roles name) name (are name) s

-- a function that is called where the records come to is reached
pub call_reaches : (code : Code) (f : ℕ) → Occurs code (Call f) → Reached code f
call_reaches code f (inl h) = from_rules f h
call_reaches code f (inr h) = from_function h.0 f h.1 h.2
