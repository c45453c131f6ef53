use Rattle.std.proofs.Common.{[], ◌∷◌, ◌+◌, length, subst, refl}
use Rattle.std.proofs.KnownBytes.{Appends-nil}
use Rattle.pawk_shards.specs.Told.{Tell}
use Rattle.pawk_tables.specs.Views.{section_of}
use Rattle.pawk_tables.specs.declared.section.Section.{Section}
use Rattle.pawk_table_merge.specs.Sections.{phase_of}
use Rattle.pawk_table_merge.specs.declared.section.Progress.{Progress}
use Rattle.pawk_table_merge.proofs.PartLemmas.{file_section}
use Rattle.pawk_table_merge.proofs.section.merge_section.Goals as goal

pub returns-in-File-clause-merges : goal.returns-in-File-clause-merges
returns-in-File-clause-merges g c =
    let s = c.args.setting in
    let old = c.args.progress in
    let new : Progress = record { flow = old.flow; name = c.in-File.name; has_record = old.has_record; is_ready = old.is_ready } in
    record {
      wrote = [];
      appends = Appends-nil _;
      last = tt;
      is = λ b may items output is_in ss chunks told.
          file_section (phase_of s b) s.rs.now items output old new is_in refl refl ss chunks
          (subst (λ (t : Section). Tell (phase_of s b) s.rs.now ((phase_of s b).state.nr + length items) old.name.now (section_of t ∷ ss) chunks) c.in-File.is told);
    }
