-- What holds of every program that the calls build and change.
use Rattle.plai_clauses.specs.Program.{ProgramView}
use Rattle.plai_clauses.specs.WellFormed.{IsWellFormed}
use Rattle.plai_clauses.specs.ByModule.{AreByModule}

-- Its clauses, entries and checks are well formed, and entries and checks stand by module name.
pub record IsProgram (program : ProgramView) : Type 0 where
  pub well_formed : IsWellFormed program
  pub ordered : AreByModule program
