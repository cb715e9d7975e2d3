use Rattle.std.proofs.Common.{List, sym, subst, ap}
use Rattle.std.specs.Prelude.{IsSome}
use Rattle.plai_theory.specs.Words.{IsIn}
use Rattle.plai_clauses.specs.Program.{ProgramView, module_in}
use Rattle.plai_sources.specs.declared.items.NumberedItem.{NumberedItem}
use Rattle.plai_modules.proofs.There.{there-last}
use Rattle.plai_modules.proofs.link.add_file.Goals as goal

pub add_items-requires-clause-there : goal.add_items-requires-clause-there
add_items-requires-clause-there c =
    let name = c.args.file.module in
    subst (λ (p : ProgramView). IsSome (module_in p.modules name)) (sym c.in_ok-add_module.ensures.ok)
    (there-last c.args.program.now.modules _ name c.in_ok-copy.ensures)

pub add_items-requires-clause-items : goal.add_items-requires-clause-items
add_items-requires-clause-items c = λ numbered h. c.requires.items numbered
    (subst (λ (items : List NumberedItem). IsIn numbered items) c.into_vec-items.ensures h)
