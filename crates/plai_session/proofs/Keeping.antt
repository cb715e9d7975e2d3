-- The program whose table a session keeps.
use Rattle.std.proofs.Common.{◌≡◌, Option, None, Some, refl, ◌∙◌, ap}
use Rattle.plai_clauses.specs.Program.{ProgramView}
use Rattle.plai_analysis.specs.declared.analysed.Analysed.{Analysed}
use Rattle.plai_session.specs.Sessions.{program_of, texts_in}

-- an analysis is kept where its texts are
behind_texts : {V : Type 0} (program : ProgramView) (analysed : Option (Analysed V)) → program_of program analysed ≡ program_of program (texts_in analysed)
behind_texts program None = refl
behind_texts program (Some own) = refl

pub kept_taken : {V : Type 0} (program : ProgramView) (taken analysed : Option (Analysed V)) → taken ≡ analysed
    → program_of program taken ≡ program_of program (texts_in analysed)
kept_taken program taken analysed same = ap (program_of program) same ∙ behind_texts program analysed
