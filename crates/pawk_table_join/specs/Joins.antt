-- What stays the same of a join of tables.
use Rattle.std.specs.Prelude.{◌≤◌, length}
use Rattle.pawk_routes.specs.Limits.{IsCrew}
use Rattle.pawk_merge_law.specs.Phases.{MayRun}
use Rattle.pawk_routes.specs.Cuttings.{IsSized}
use Rattle.pawk_map.specs.Runs.{phase_in}
use Rattle.pawk_table_join.specs.declared.setting.JoinSetting.{JoinSetting}

-- a record may be run apart by it, and RS has at most one byte
pub record IsUsable (s : JoinSetting) : Type 0 where
  pub one_byte : length s.rs.now ≤ 1
  pub sized : IsSized s.setting.way.cutting.now
  pub workers : IsCrew s.setting.way.workers
  pub ready : MayRun (phase_in s.setting)
