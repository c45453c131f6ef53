use Rattle.std.proofs.Common.{◌≡◌, ℕ, List, ◌++◌}
use Rattle.std.specs.Io.KnownBytes.{Consumes}
use Rattle.pawk_window.proofs.window.Window.fill_records.Given as goal

abbrev pub invariant-loop : goal.invariant-loop
invariant-loop g l = record {
  come : (read : List ℕ) × Consumes (g.S.Source.left l.initial.source) (g.S.Source.left l.source) read
      × (l.initial.self.tail ++ read ≡ l.self.tail);
  rs : l.self.rs ≡ l.initial.self.rs;
  size : l.self.size ≡ l.initial.self.size;
}
