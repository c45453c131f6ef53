-- Marks of a cell, one after the other.
use Rattle.std.proofs.Common.{◌≡◌, true, Option, Some, None, refl, sym, ◌∙◌, ap}
use Rattle.std.specs.Prelude.{is_some}
use Rattle.pawk_frozen.specs.Marks.{Mark, blank, summed, last_put, created, mark_or_blank}
use Rattle.pawk_shards.specs.Joined.{composed}
use Rattle.pawk_compose.specs.Compositions.{may_follow, noted_again}

-- nothing may follow each mark, and each mark may follow nothing
pub nothing_follows : (m : Mark) → may_follow m blank ≡ true
nothing_follows blank = refl
nothing_follows (summed a b c) = refl
nothing_follows (last_put v) = refl
nothing_follows created = refl

pub follows_nothing : (n : Mark) → may_follow blank n ≡ true
follows_nothing blank = refl
follows_nothing (summed a b c) = refl
follows_nothing (last_put v) = refl
follows_nothing created = refl

pub then_nothing : (m : Mark) → composed m blank ≡ Some m
then_nothing blank = refl
then_nothing (summed a b c) = refl
then_nothing (last_put v) = refl
then_nothing created = refl

pub after_nothing : (n : Mark) → composed blank n ≡ Some n
after_nothing blank = refl
after_nothing (summed a b c) = refl
after_nothing (last_put v) = refl
after_nothing created = refl

-- a mark that may follow gives one with the first
are_one : (m n : Mark) → may_follow m n ≡ true → is_some (composed m n) ≡ true
are_one blank blank h = refl
are_one blank (summed d e f) h = refl
are_one blank (last_put v) h = refl
are_one blank created h = refl
are_one (summed a b c) blank h = refl
are_one (summed a b c) (summed d e f) h = refl
are_one (summed a b c) (last_put v) h = h
are_one (summed a b c) created h = h
are_one (last_put u) blank h = refl
are_one (last_put u) (summed d e f) h = h
are_one (last_put u) (last_put v) h = refl
are_one (last_put u) created h = h
are_one created blank h = refl
are_one created (summed d e f) h = h
are_one created (last_put v) h = h
are_one created created h = refl

the_one : (o : Option Mark) → is_some o ≡ true → o ≡ Some (mark_or_blank o)
the_one None h = cc
the_one (Some w) h = refl

pub as_one : (m n : Mark) → may_follow m n ≡ true → composed m n ≡ Some (mark_or_blank (composed m n))
as_one m n h = the_one (composed m n) (are_one m n h)

-- what a key has, read as marks
pub composed_again : (o p r : Option Mark) → may_follow (mark_or_blank o) (mark_or_blank p) ≡ true → r ≡ noted_again o p →
    composed (mark_or_blank o) (mark_or_blank p) ≡ Some (mark_or_blank r)
composed_again o None r h e = then_nothing (mark_or_blank o) ∙ ap (λ x. Some (mark_or_blank x)) (sym e)
composed_again o (Some n) r h e = as_one (mark_or_blank o) n h ∙ ap (λ x. Some (mark_or_blank x)) (sym e)

-- what is noted of a key of which nothing was
pub noted_first : (o : Option Mark) → noted_again None o ≡ o
noted_first None = refl
noted_first (Some n) = after_nothing n
