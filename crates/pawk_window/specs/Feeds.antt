-- Files whose bytes are still to come. POSIX.1-2017, awk, "INPUT FILES" and "STDIN".
use Rattle.std.specs.Prelude.{◌≡◌, ℕ, List, Option, IfSome}
use Rattle.pawk_input.specs.Input.{File}
use Rattle.pawk_window.specs.declared.feed.Feed.{Feed}

-- the file of a feed: its name, and the bytes that its source has, where it says which
pub record IsFileOf {S : Type 0} (left : S → Option (List ℕ)) (feed : Feed S) (file : File) : Type 0 where
  pub name : file.name ≡ feed.name.items
  pub bytes : IfSome (left feed.source) (λ all. file.bytes ≡ all)
