-- The code of a session, by which proofs tell sessions apart: that of the tuple of its fields.
use Rattle.std.specs.Prelude.{ℕ, Bool, Option, refl}
use Rattle.std.specs.Coded.{Coded, code_by, coded×, coded_ℕ, coded_bool, coded_option}
use Rattle.plai_clauses.specs.Codes.{program_code}
use Rattle.plai_clauses.specs.Program.{ProgramView}
use Rattle.plai_render.specs.contracts.text_table.TextTable as text_table
use Rattle.plai_render.specs.declared.text_table.TextTable.{TextTable}
use Rattle.plai_session.specs.Sessions.{SessionView}

abbrev pub session_code : {D : Type 0} → Coded D → Coded (SessionView D)
session_code {D} domain_code =
    code_by (D × (ℕ × (ProgramView × (Option TextTable × Bool))))
    (coded× domain_code (coded× coded_ℕ (coded× program_code (coded× (coded_option text_table.the_row.coded) coded_bool))))
    (λ s. (s.domain, (s.limit, (s.program, (s.table, s.lost)))))
    (λ t. record { domain = t.0; limit = t.1.0; program = t.1.1.0; table = t.1.1.1.0; lost = t.1.1.1.1 }) (λ _. refl)
