-- What stays the same of a run over a shard.
use Rattle.std.specs.Prelude.{◌+◌, ◌≤◌, length}
use Rattle.pawk_board.specs.Limits.{IsCrew}
use Rattle.pawk_merge_law.specs.Phases.{MayRun}
use Rattle.pawk_routes.specs.Cuttings.{IsSized}
use Rattle.pawk_map.specs.Maps.{Ground}
use Rattle.pawk_map.specs.Runs.{phase_in}
use Rattle.pawk_map.specs.declared.stream.Reading.{Reading}

-- the records come after BEGIN and after those of the shards before
abbrev pub ground_of : Reading → Ground
ground_of r = record {
  phase = phase_in r.setting;
  rs = r.rs.now;
  nr = r.setting.state.now.nr + r.before;
  scalars = length r.setting.globals.now.scalars;
  arrays = length r.setting.globals.now.arrays;
}

-- pieces may be run in chunks by it, and RS has at most one byte
pub record IsUsable (r : Reading) : Type 0 where
  pub one_byte : length r.rs.now ≤ 1
  pub sized : IsSized r.setting.way.cutting.now
  pub workers : IsCrew r.setting.way.workers
  pub ready : MayRun (phase_in r.setting)
