-- Windows of a source's bytes.
use Rattle.std.specs.Prelude.{◌≡◌, ℕ, ◌<◌, ◌≤◌, Bool, true, false, ◌==◌, List, [], ◌++◌, length, take, drop, Option, IfSome}
use Rattle.std.specs.Io.KnownBytes.{Consumes, IsAtEnd}
use Rattle.pawk_records.specs.Records.{records_by}
use Rattle.pawk_window.specs.Cuts.{NoneEnds}

-- what a window is: the bytes of RS, its size, how many bytes its buffer has; those of whole records, and those that came of
-- the next one; whether the source has ended
pub record Contents : Type 0 where
  pub rs : List ℕ
  pub size : ℕ
  pub room : ℕ
  pub whole : List ℕ
  pub tail : List ℕ
  pub ended : Bool

-- how it lies in a buffer
abbrev pub contents_of : List ℕ → ℕ → List ℕ → ℕ → ℕ → Bool → Contents
contents_of rs size buffer whole filled ended = record {
  rs = rs;
  size = size;
  room = length buffer;
  whole = take whole buffer;
  tail = drop whole (take filled buffer);
  ended = ended;
}

-- what is true of a buffer and the places in it
pub record LiesIn (rs : List ℕ) (size : ℕ) (buffer : List ℕ) (whole filled : ℕ) : Type 0 where
  pub some : 0 < size
  pub order : whole ≤ filled
  pub within : filled ≤ length buffer
  pub unfinished : NoneEnds rs (drop whole (take filled buffer))

-- it has no bytes, and any may come
abbrev pub empty_window : List ℕ → ℕ → ℕ → Contents
empty_window rs size room = record { rs = rs; size = size; room = room; whole = []; tail = []; ended = false }

-- the whole records are no longer there
abbrev pub forgotten : Contents → ℕ → Contents
forgotten w room = record { rs = w.rs; size = w.size; room = room; whole = []; tail = w.tail; ended = w.ended }

-- Bytes were read. After the tail that was there they are the whole records and the tail. There were none just where the
-- source has ended.
pub record HasCome (old new : Option (List ℕ)) (before after : Contents) : Type 0 where
  pub read : List ℕ
  pub consumes : Consumes old new read
  pub parts : before.tail ++ read ≡ after.whole ++ after.tail
  pub ended : after.ended ≡ (length read == 0)

-- The same, by any number of reads.
pub record HaveCome (old new : Option (List ℕ)) (before after : Contents) : Type 0 where
  pub read : List ℕ
  pub consumes : Consumes old new read
  pub parts : before.tail ++ read ≡ after.whole ++ after.tail

-- Until the source has ended: whatever follows, what is whole are whole records.
abbrev pub HoldsRecords : Contents → Type 0
HoldsRecords w =
    w.ended ≡ false → (more : List ℕ) →
    records_by w.rs ((w.whole ++ w.tail) ++ more) ≡ records_by w.rs w.whole ++ records_by w.rs (w.tail ++ more)

-- Once it has ended: nothing is left over.
abbrev pub HasEnded : Option (List ℕ) → Contents → Type 0
HasEnded left w = w.ended ≡ true → (w.tail ≡ []) × IsAtEnd left

-- The records that were to come are those of the window, and then those that are still to come.
abbrev pub ComesNext : Option (List ℕ) → Option (List ℕ) → Contents → Contents → Type 0
ComesNext old new before after =
    IfSome old (λ was. IfSome new (λ is.
    records_by after.rs (before.tail ++ was)
    ≡ records_by after.rs after.whole ++ records_by after.rs (after.tail ++ is)))

-- a window with these whole records
abbrev pub with_records : Contents → List ℕ → Contents
with_records w records = record { rs = w.rs; size = w.size; room = w.room; whole = records; tail = w.tail; ended = w.ended }

-- The next records of a source, and what they leave in a window.
pub record Comes (left now_left : Option (List ℕ)) (before after : Contents) (records : List ℕ) : Type 0 where
  pub bytes : HaveCome left now_left before (with_records after records)
  pub whole : HoldsRecords (with_records after records)
  pub end : HasEnded now_left (with_records after records)
  pub same : after.rs ≡ before.rs
