-- The code of a program, by which proofs tell programs apart: that of the tuple of its fields.
use Rattle.std.specs.Prelude.{List, refl}
use Rattle.std.specs.Coded.{Coded, code_by, coded×, coded_list}
use Rattle.plai_clauses.specs.declared.entry.Entry.{Entry}
use Rattle.plai_clauses.specs.declared.check.Check.{Check}
use Rattle.plai_clauses.specs.declared.modules.Module.{Module}
use Rattle.plai_clauses.specs.declared.definition.Definition.{Definition}
use Rattle.plai_clauses.specs.contracts.entry.Entry as entry
use Rattle.plai_clauses.specs.contracts.check.Check as check
use Rattle.plai_clauses.specs.contracts.modules.Module as home
use Rattle.plai_clauses.specs.contracts.definition.Definition as definition
use Rattle.plai_clauses.specs.Program.{ProgramView}

abbrev pub program_code : Coded ProgramView
program_code =
    code_by (List Module × (List Definition × (List Entry × List Check)))
    (coded× (coded_list home.the_row.coded) (coded× (coded_list definition.the_row.coded) (coded× (coded_list entry.the_row.coded) (coded_list check.the_row.coded))))
    (λ g. (g.modules, (g.definitions, (g.entries, g.checks))))
    (λ p. record { modules = p.0; definitions = p.1.0; entries = p.1.1.0; checks = p.1.1.1 }) (λ _. refl)
