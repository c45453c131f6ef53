-- A run over a shard, piece by piece, to a table file. POSIX.1-2017, awk, "Overall Program Structure".
use Rattle.std.specs.Prelude.{◌≡◌, ◌⊎◌, ℕ, ◌+◌, List, [], ◌∷◌, ◌++◌, length, flat_map, Option, Some, None, true}
use Rattle.std.specs.Io.KnownBytes.{Appends, Consumes, IsAtEnd}
use Rattle.sha2.specs.Hashers.{Holds256}
use Rattle.sha2.specs.declared.Sha256.{Sha256}
use Rattle.pawk_records.specs.Records.{records_by}
use Rattle.pawk_input.specs.Input.{File, Item, file_items, items}
use Rattle.pawk_merge_law.specs.Phases.{Phase}
use Rattle.pawk_merge_law.specs.ChunkedRuns.{all_of}
use Rattle.pawk_tables.specs.Layout.{Section}
use Rattle.pawk_shards.specs.Numbers.{AreSameButNumbers}
use Rattle.pawk_shards.specs.Told.{Tell, kept_records}
use Rattle.pawk_window.specs.Feeds.{IsFileOf}
use Rattle.pawk_window.specs.declared.feed.Feed.{Feed}
use Rattle.pawk_map.specs.Sections.{name_after, SaySections, EndsKept}
use Rattle.pawk_map.specs.declared.draft.Course.{Course}
use Rattle.pawk_map.specs.declared.draft.Course.TheVariants.{On, Over}
use Rattle.pawk_map.specs.declared.draft.Draft.{Draft}
use Rattle.pawk_map.specs.declared.draft.Held.{Held}
use Rattle.pawk_map.specs.declared.draft.Progress.{Progress}
use Rattle.pawk_map.specs.declared.stream.Stream.{Stream}

-- the record that is held back, if there is one
abbrev pub held_items : List ℕ → Option Held → List Item
held_items rs None = []
held_items rs (Some h) = kept_records rs h.name.items h.fnr h.bytes.items

-- After records that were left so this is held back: a last record of a file of this name, so many of whose records came before, or
-- none where no more are run.
abbrev pub IsHeld : Course → List ℕ → ℕ → List ℕ → Option Held → Type 0
IsHeld On name fnr bytes held =
    (h : Held) × (held ≡ Some h) × (h.name.items ≡ name) × (h.fnr ≡ fnr) × (h.bytes.items ≡ bytes)
IsHeld Over name fnr bytes held = held ≡ None

-- ---- what was written

-- These bytes were written and taken into the digest.
pub record Writes (taken now_taken : Option (List ℕ)) (old new : Sha256) (bytes : List ℕ) : Type 0 where
  pub appends : Appends taken now_taken bytes
  pub holds : (m : List ℕ) → Holds256 old m → Holds256 new (m ++ bytes)

-- These sections, which have so many records, were written, with tables of so many scalars and arrays.
pub record Goes (scalars arrays : ℕ) (taken now_taken : Option (List ℕ)) (old new : Progress) (sections : List Section) (count : ℕ) : Type 0 where
  pub bytes : List ℕ
  pub say : SaySections scalars arrays sections bytes
  pub wrote : Writes taken now_taken old.digest new.digest bytes
  pub name : new.name.items ≡ name_after old.name.items sections
  pub counted : new.records ≡ old.records + count

-- The sections of this front leave the file of the first name for that of the other, and tell of no records.
pub record Leads (last name : List ℕ) (front : List Section) : Type 0 where
  pub named : name_after last front ≡ name
  pub tells : (p : Phase) (rs : List ℕ) (nr : ℕ) (sections : List Section) (chunks : List (List Item)) →
      Tell p rs nr name sections chunks → Tell p rs nr last (front ++ sections) chunks

-- the bytes say such a front
abbrev pub IsFront : List ℕ → List ℕ → List ℕ → Type 0
IsFront last name bytes = (front : List Section) × Leads last name front × ((scalars arrays : ℕ) → SaySections scalars arrays front bytes)

-- Sections of a file of this name, which have so many records, were written, after the line of the file where that was not there yet.
pub record GoesUnder (scalars arrays : ℕ) (taken now_taken : Option (List ℕ)) (old new : Progress) (name : List ℕ) (sections : List Section) (count : ℕ) : Type 0 where
  pub front : List Section
  pub leads : Leads old.name.items name front
  pub goes : Goes scalars arrays taken now_taken old new (front ++ sections) count

-- ---- how far a file has come

-- the records of a shard come after so many: the phase, RS, and how many scalars and arrays there are
pub record Ground : Type 0 where
  pub phase : Phase
  pub rs : List ℕ
  pub nr : ℕ
  pub scalars : ℕ
  pub arrays : ℕ

module _ (u : Ground) where
  -- Sections that tell of these records were written; after the last of them more records are run, or not.
  pub record Tells (taken now_taken : Option (List ℕ)) (old : Progress) (items : List Item) (c : Course) (new : Progress) : Type 0 where
    pub sections : List Section
    pub chunks : List (List Item)
    pub goes : Goes u.scalars u.arrays taken now_taken old new sections (length (all_of chunks))
    pub tell : Tell u.phase u.rs (u.nr + old.records) old.name.items sections chunks
    pub are : AreSameButNumbers (all_of chunks) items
    pub stops : c ≡ Over → EndsKept u.phase (u.nr + old.records) sections chunks

  -- These records came: all that were held back and all of these are told of, held back, or left unread, which none are where
  -- more are run.
  pub record Adds (taken now_taken : Option (List ℕ)) (old : Draft) (items : List Item) (c : Course) (new : Draft) : Type 0 where
    pub told : List Item
    pub unread : List Item
    pub tells : Tells taken now_taken old.progress told c new.progress
    pub are : AreSameButNumbers (told ++ (held_items u.rs new.held ++ unread)) (held_items u.rs old.held ++ items)
    pub on : c ≡ On → unread ≡ []
    pub over : c ≡ Over → new.held ≡ None

-- ---- files

-- the records of a file, so many of which came before
abbrev pub numbered_in : List ℕ → ℕ → List (List ℕ) → List Item
numbered_in name fnr records = file_items 0 name 0 fnr records

-- the records of files
abbrev pub records_of : List ℕ → List File → List Item
records_of rs files = flat_map (λ (f : File). numbered_in f.name 0 (records_by rs f.bytes)) files

module _ {S : Type 0} (left : S → Option (List ℕ)) where
  -- the files of feeds, in order
  abbrev pub AreFilesOf : List (Feed S) → List File → Type 0
  AreFilesOf [] [] = Unit {0}
  AreFilesOf [] (f ∷ fs) = ⊥
  AreFilesOf (x ∷ xs) [] = ⊥
  AreFilesOf (x ∷ xs) (f ∷ fs) = IsFileOf left x f × AreFilesOf xs fs

module _ (u : Ground) where
  -- Part of a file was read, and its records were added. Given are what the source has and the sink took, before and after, and how
  -- many records of the file have come.
  pub record ReadsOn (left now_left taken now_taken : Option (List ℕ)) (name : List ℕ)
      (old : Stream) (fnr : ℕ) (c : Course) (new : Stream) (now_fnr : ℕ) : Type 0 where
    pub read : List ℕ
    pub consumes : Consumes left now_left read
    pub records : List (List ℕ)
    pub adds : Adds u taken now_taken old.draft (numbered_in name fnr records) c new.draft
    pub ended : new.window.ended ≡ true → (new.window.tail ≡ []) × IsAtEnd now_left
    pub parts : (more : List ℕ) → (new.window.ended ≡ true → more ≡ []) →
        records_by u.rs (old.window.tail ++ (read ++ more)) ≡ records ++ records_by u.rs (new.window.tail ++ more)
    pub counted : c ≡ On → now_fnr ≡ fnr + length records

  -- Sections tell of the records of files, and have so many: of all, or of all up to the last ones, which are kept and do not go
  -- through.
  pub record TellFiles (files : List File) (sections : List Section) (count : ℕ) : Type 0 where
    pub chunks : List (List Item)
    pub unread : List Item
    pub tell : Tell u.phase u.rs u.nr [] sections chunks
    pub counted : count ≡ length (all_of chunks)
    pub are : AreSameButNumbers (all_of chunks ++ unread) (items u.rs files)
    pub whole : (unread ≡ []) ⊎ EndsKept u.phase u.nr sections chunks
