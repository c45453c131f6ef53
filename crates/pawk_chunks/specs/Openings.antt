-- What the chunks of a run begin with, as the code has it.
use Rattle.pawk_code.specs.ProgramViews.{code_view}
use Rattle.pawk_store.specs.StateViews.{state_of}
use Rattle.pawk_admit.specs.Roles.{roles_view}
use Rattle.pawk_chunks.specs.declared.chunk.Opening.{Opening as CodeOpening}
use Rattle.pawk_merge_law.specs.Chunks.{Opening}

abbrev pub opening_view : CodeOpening → Opening
opening_view o = record {
  code = code_view o.job.code.now;
  budget = o.job.budget;
  globals = o.globals.now;
  roles = roles_view o.roles.now;
  state = state_of o.state.now;
}
