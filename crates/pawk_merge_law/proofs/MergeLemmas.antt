-- Merges after more output.
use Rattle.std.proofs.Common.{◌≡◌, ℕ, List, [], ◌∷◌, Bool, true, false, if◌then◌else◌, Result, Ok, Err, append_assoc, refl, ap, ◌∙◌}
use Rattle.std.specs.Prelude.{MatchResult}
use Rattle.std.specs.Result.{result_map_both}
use Rattle.pawk_store.specs.Globals.{Globals}
use Rattle.pawk_store.specs.Records.{Left, through, next_file, exit, fault, clash, End}
use Rattle.pawk_merge.specs.Tables.{all_take}
use Rattle.pawk_merge.specs.Merges.{Chunk, Stop, at_cell, with_chunk, after_leaving, merge}
use Rattle.pawk_merge_law.specs.Gathered.{after_output}

abbrev pub Answer : Type 0
Answer = Result (End Globals) Stop

-- an answer whose output has this in front
abbrev pub with_front : List ℕ → Answer → Answer
with_front written r = result_map_both (after_output written) (λ s. s) r

after_front : (written : List ℕ) (l : Left) (go : End Globals → Answer) → ((x : End Globals) → go (after_output written x) ≡ with_front written (go x)) →
    (x : End Globals) → after_leaving l go (after_output written x) ≡ with_front written (after_leaving l go x)
after_front written through go more x = more x
after_front written next_file go more x = refl
after_front written (exit n) go more x = refl
after_front written (fault f) go more x = refl
after_front written clash go more x = refl

if_both : {X Y : Type 0} (f : X → Y) (b : Bool) (x z : X) (y : Y) → y ≡ f x → (if b then y else f z) ≡ f (if b then x else z)
if_both f true x z y e = e
if_both f false x z y e = refl

pub merge_after : (written : List ℕ) (cs : List Chunk) (e : End Globals) → merge cs (after_output written e) ≡ with_front written (merge cs e)
merge_after written [] e = refl
merge_after written (c ∷ cs) e =
    let next = with_chunk c e in
    if_both (with_front written) (all_take c.table e.world) (after_leaving c.left (λ x. merge cs x) next) (Err at_cell) (after_leaving c.left (λ x. merge cs x) (with_chunk c (after_output written e)))
    (ap (λ (out : List ℕ). after_leaving c.left (λ x. merge cs x) (record next { output = out })) (append_assoc written e.output c.output)
    ∙ after_front written c.left (λ x. merge cs x) (λ x. merge_after written cs x) next)

pub without_front : (written : List ℕ) (P : End Globals → Type 0) (Q : Stop → Type 0) (r : Answer) → MatchResult (with_front written r) P Q → MatchResult r (λ e. P (after_output written e)) Q
without_front written P Q (Ok e) h = h
without_front written P Q (Err s) h = h
