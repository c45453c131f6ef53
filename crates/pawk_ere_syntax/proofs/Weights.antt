-- The size of what was read: no token makes it smaller, and the expression has it in the end.
use Rattle.std.proofs.Common.{◌≡◌, ℕ, ◌+◌, ◌-◌, ◌*◌, ◌≤◌, max, Option, Some, None, List, [], ◌∷◌, refl, ap, arith}
use Rattle.std.proofs.Math.Nat.{mul-le-mul_left}
use Rattle.pawk_ere_syntax.specs.declared.token.EreToken.{EreToken}
use Rattle.pawk_ere_syntax.specs.declared.token.EreToken.TheVariants.{Leaf, Times, Bar, Open, Close, Caret, Dollar}
use Rattle.pawk_ere_syntax.specs.Pattern.{Pattern, Empty, Start, End, Bytes, Group, Repeat, Sequence, Either}
use Rattle.pawk_ere_syntax.specs.Grammar.{repeated_size, size}
use Rattle.pawk_ere_syntax.specs.Machine.{Alternation, Builder, branch_with, or_else, whole, put, repeated_piece, after_times, after_bar, after_close, step, if_outermost, finish, then_run, run, size_there, size_before, alternation_weight, outer_weight, weight, gain}
use Rattle.pawk_ere_syntax.proofs.Reading.{some_inj}

le_mul : (n k : ℕ) → 1 ≤ k → n ≤ n * k
le_mul n k h = let x = mul-le-mul_left n h in omega arith

size-repeated : (n least : ℕ) (most : Option ℕ) → n ≤ repeated_size n least most
size-repeated n least None = let x = le_mul n (max least 1) (omega arith) in omega arith
size-repeated n least (Some most) = let x = le_mul n (max most 1) (omega arith) in omega arith

size-branch_with : (b p : Option Pattern) → size_there (branch_with b p) ≡ size_there b + size_there p
size-branch_with b None = omega arith
size-branch_with None (Some p) = omega arith
size-branch_with (Some b) (Some p) = refl

size-or_else : (a b : Option Pattern) (e : Pattern) → or_else a b ≡ Some e → size e ≡ size_before a + size_there b
size-or_else a None e h = cc
size-or_else None (Some b) e h = let x = ap size (some_inj b e h) in omega arith
size-or_else (Some a) (Some b) e h = let x = ap size (some_inj (Either a b) e h) in omega arith

size-whole : (f : Alternation) (e : Pattern) → whole f ≡ Some e → size e ≡ alternation_weight f
size-whole f e h =
    let x = size-or_else f.alternatives (branch_with f.branch f.piece) e h in
    let y = size-branch_with f.branch f.piece in
    omega arith

alternation_weight-put : (f : Alternation) (p : Pattern) → alternation_weight (put f p) ≡ alternation_weight f + size p
alternation_weight-put f p = let y = size-branch_with f.branch f.piece in omega arith

times_step : (least : ℕ) (most : Option ℕ) (a b p : Option Pattern) (outer : List Alternation) (new : Builder)
    → after_times (record { here = record { alternatives = a; branch = b; piece = p }; outer = outer }) (repeated_piece p least most) ≡ Some new
    → weight new ≡ weight (record { here = record { alternatives = a; branch = b; piece = p }; outer = outer }) + (repeated_size (size_there p) least most - size_there p)
times_step least most a b None outer new h = cc
times_step least most a b (Some Empty) outer new h = cc
times_step least most a b (Some Start) outer new h = cc
times_step least most a b (Some End) outer new h = cc
times_step least most a b (Some (Bytes members)) outer new h = let x = ap weight (some_inj _ new h) in let y = size-repeated 1 least most in omega arith
times_step least most a b (Some (Group e)) outer new h = let x = ap weight (some_inj _ new h) in let y = size-repeated (size e + 1) least most in omega arith
times_step least most a b (Some (Repeat e l m)) outer new h = cc
times_step least most a b (Some (Sequence e f)) outer new h = cc
times_step least most a b (Some (Either e f)) outer new h = cc

bar_step : (st new : Builder) (a : Option Pattern) → whole st.here ≡ a → after_bar st a ≡ Some new → weight new ≡ weight st + 1
bar_step st new None is h = cc
bar_step st new (Some a) is h = let x = ap weight (some_inj _ new h) in let y = size-whole st.here a is in omega arith

close_step : (f : Alternation) (outer : List Alternation) (new : Builder) (a : Option Pattern) → whole f ≡ a → after_close a outer ≡ Some new → weight new ≡ alternation_weight f + outer_weight outer
close_step f outer new None is h = cc
close_step f [] new (Some a) is h = cc
close_step f (g ∷ gs) new (Some a) is h =
    let x = ap weight (some_inj _ new h) in
    let y = size-whole f a is in
    let z = alternation_weight-put g (Group a) in
    omega arith

pub weight_step : (t : EreToken) (st new : Builder) → step t st ≡ Some new → weight new ≡ weight st + gain t st
weight_step (Leaf set) st new h = let x = ap weight (some_inj _ new h) in let z = alternation_weight-put st.here (Bytes set.members) in omega arith
weight_step Caret st new h = let x = ap weight (some_inj _ new h) in let z = alternation_weight-put st.here Start in omega arith
weight_step Dollar st new h = let x = ap weight (some_inj _ new h) in let z = alternation_weight-put st.here End in omega arith
weight_step (Times least most) st new h = times_step least most st.here.alternatives st.here.branch st.here.piece st.outer new h
weight_step Bar st new h = bar_step st new (whole st.here) refl h
weight_step Open st new h = let x = ap weight (some_inj _ new h) in omega arith
weight_step Close st new h = let x = close_step st.here st.outer new (whole st.here) refl h in omega arith

pub finish_size : (st : Builder) (e : Pattern) → finish st ≡ Some e → size e ≡ weight st
finish_size st e h = go st.outer refl h
  where
    go : (outer : List Alternation) → st.outer ≡ outer → if_outermost outer (whole st.here) ≡ Some e → size e ≡ weight st
    go [] is f = let x = size-whole st.here e f in let y = ap outer_weight is in omega arith
    go (g ∷ gs) is f = cc

pub weight_run : (ts : List EreToken) (st : Builder) (e : Pattern) → run ts st ≡ Some e → weight st ≤ size e
weight_run [] st e h = let x = finish_size st e h in omega arith
weight_run (t ∷ ts) st e h = go (step t st) refl h (λ new r. weight_run ts new e r)
  where
    go : (o : Option Builder) → step t st ≡ o → then_run (run ts) o ≡ Some e → ((new : Builder) → run ts new ≡ Some e → weight new ≤ size e) → weight st ≤ size e
    go None is r again = cc
    go (Some new) is r again = let x = weight_step t st new is in let y = again new r in omega arith
