-- What a run goes by.
use Rattle.std.specs.Prelude.{◌≡◌, [], ℕ, List, Some, slice_get}
use Rattle.prepared_program.specs.program_sites.Prepared.{IsPrepared, sites_in}
use Rattle.litmus_step.specs.Runs.{CanBeMade, run_of, tasks_of}
use Rattle.prepared_program.specs.declared.program_sites.prepared.Prepared.{Prepared}
use Rattle.prepared_program.specs.declared.program_sites.settings.Settings.{Settings}
use Rattle.litmus_syntax.specs.declared.program.Program.{Program}
use Rattle.executions.specs.execution.Run as lists
use Rattle.executions.specs.execution.Run.{Run}
use Rattle.executions.specs.execution.Execution.{Execution}
use Rattle.runner.specs.declared.terms.Batch.{Batch}
use Rattle.runner.specs.declared.terms.Terms.{Terms}
use Rattle.shared_table.specs.Given.{first_words}
use Rattle.shared_table.specs.Seats.{Opened}

-- The program is made ready under these settings, the run of it can be made, and the words of this table are at first
-- those of the run.
pub record AreGiven (program : Program) (settings : Settings) (prepared : Prepared) (opened : Opened) : Type 0 where
  pub ready : IsPrepared program settings prepared
  pub can : CanBeMade (run_of program settings (sites_in prepared))
  pub list : Execution (run_of program settings (sites_in prepared)) []
  pub words : first_words opened.given ≡ lists.first_words (run_of program settings (sites_in prepared))
  pub tasks : opened.given.tasks ≡ tasks_of (run_of program settings (sites_in prepared))

-- the run of a program that is made ready under settings
abbrev pub run_by : Terms → Run
run_by terms = run_of terms.program.now terms.settings.now (sites_in terms.prepared.now)

-- the run can be made, and the words of the table are at first those of the run
abbrev pub AreTerms : Terms → Type 0
AreTerms terms = AreGiven terms.program.now terms.settings.now terms.prepared.now terms.table.now

-- so it is of each table of several runs
abbrev pub AreGivenEach : Program → Settings → Prepared → List Opened → Type 0
AreGivenEach program settings prepared tables =
    (at : ℕ) (opened : Opened) → slice_get tables at ≡ Some opened → AreGiven program settings prepared opened

-- the run of a program that each run of a batch is
abbrev pub run_of_batch : Batch → Run
run_of_batch batch = run_of batch.program.now batch.settings.now (sites_in batch.prepared.now)
