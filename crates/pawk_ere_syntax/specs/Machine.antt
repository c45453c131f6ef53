-- How the builder goes over the tokens.
use Rattle.std.specs.Prelude.{ℕ, ◌+◌, ◌-◌, Option, Some, None, List, [], ◌∷◌}
use Rattle.pawk_ere_syntax.specs.declared.token.EreToken.{EreToken}
use Rattle.pawk_ere_syntax.specs.declared.token.EreToken.TheVariants.{Leaf, Times, Bar, Open, Close, Caret, Dollar}
use Rattle.pawk_ere_syntax.specs.Pattern.{Pattern, Start, End, Bytes, Group, Repeat, Sequence, Either}
use Rattle.pawk_ere_syntax.specs.Grammar.{repeated_size, size}

-- what is read of an alt: the alternatives before the last bar, what is after it before the last piece, the last piece
pub record Alternation : Type 0 where
  pub alternatives : Option Pattern
  pub branch : Option Pattern
  pub piece : Option Pattern

-- the alt that is being read, and those around it, the innermost first
pub record Builder : Type 0 where
  pub here : Alternation
  pub outer : List Alternation

abbrev pub nothing : Alternation
nothing = record { alternatives = None; branch = None; piece = None }

abbrev pub branch_with : Option Pattern → Option Pattern → Option Pattern
branch_with b None = b
branch_with None (Some p) = Some p
branch_with (Some b) (Some p) = Some (Sequence b p)

abbrev pub or_else : Option Pattern → Option Pattern → Option Pattern
or_else a None = None
or_else None (Some b) = Some b
or_else (Some a) (Some b) = Some (Either a b)

-- the alt that was read, if its last branch is not empty
abbrev pub whole : Alternation → Option Pattern
whole f = or_else f.alternatives (branch_with f.branch f.piece)

abbrev pub put : Alternation → Pattern → Alternation
put f p = record { alternatives = f.alternatives; branch = branch_with f.branch f.piece; piece = Some p }

abbrev pub repeated_piece : Option Pattern → ℕ → Option ℕ → Option Pattern
repeated_piece (Some (Bytes members)) least most = Some (Repeat (Bytes members) least most)
repeated_piece (Some (Group a)) least most = Some (Repeat (Group a) least most)
repeated_piece _ least most = None

abbrev pub after_times : Builder → Option Pattern → Option Builder
after_times st None = None
after_times st (Some p) = Some (record { here = record { alternatives = st.here.alternatives; branch = st.here.branch; piece = Some p }; outer = st.outer })

abbrev pub after_bar : Builder → Option Pattern → Option Builder
after_bar st None = None
after_bar st (Some a) = Some (record { here = record { alternatives = Some a; branch = None; piece = None }; outer = st.outer })

abbrev pub after_close : Option Pattern → List Alternation → Option Builder
after_close None outer = None
after_close (Some a) [] = None
after_close (Some a) (f ∷ fs) = Some (record { here = put f (Group a); outer = fs })

abbrev pub with_piece : Builder → Pattern → Builder
with_piece st p = record { here = put st.here p; outer = st.outer }

abbrev pub step : EreToken → Builder → Option Builder
step (Leaf set) st = Some (with_piece st (Bytes set.members))
step Caret st = Some (with_piece st Start)
step Dollar st = Some (with_piece st End)
step (Times least most) st = after_times st (repeated_piece st.here.piece least most)
step Bar st = after_bar st (whole st.here)
step Open st = Some (record { here = nothing; outer = st.here ∷ st.outer })
step Close st = after_close (whole st.here) st.outer

-- what was read at the end
abbrev pub if_outermost : List Alternation → Option Pattern → Option Pattern
if_outermost [] o = o
if_outermost (f ∷ fs) o = None

abbrev pub finish : Builder → Option Pattern
finish st = if_outermost st.outer (whole st.here)

-- goes on, if there was no mistake
abbrev pub then_run : (Builder → Option Pattern) → Option Builder → Option Pattern
then_run go None = None
then_run go (Some st) = go st

abbrev pub run : List EreToken → Builder → Option Pattern
run [] st = finish st
run (t ∷ ts) st = then_run (run ts) (step t st)

abbrev pub start : Builder
start = record { here = nothing; outer = [] }

-- the size of what may be there
abbrev pub size_there : Option Pattern → ℕ
size_there None = 0
size_there (Some e) = size e

-- the size of the alternatives, with the bar after them
abbrev pub size_before : Option Pattern → ℕ
size_before None = 0
size_before (Some e) = size e + 1

abbrev pub alternation_weight : Alternation → ℕ
alternation_weight f = size_before f.alternatives + size_there f.branch + size_there f.piece

-- an open group counts 1
abbrev pub outer_weight : List Alternation → ℕ
outer_weight [] = 0
outer_weight (f ∷ fs) = alternation_weight f + 1 + outer_weight fs

-- the size of all that was read
abbrev pub weight : Builder → ℕ
weight st = alternation_weight st.here + outer_weight st.outer

-- by how much a token makes what was read larger
abbrev pub gain : EreToken → Builder → ℕ
gain (Leaf set) st = 1
gain Caret st = 1
gain Dollar st = 1
gain (Times least most) st = repeated_size (size_there st.here.piece) least most - size_there st.here.piece
gain Bar st = 1
gain Open st = 1
gain Close st = 0
