use Rattle.std.proofs.Common.{◌≡◌, false, sym, subst}
use Rattle.plai_terms.specs.declared.term.Term.{Term}
use Rattle.plai_terms.specs.Readable.{is_wide}
use Rattle.plai_sources.specs.WellFormed.{IsWellFormedItem}
use Rattle.plai_modules.proofs.KeySets.{narrow_head}
use Rattle.plai_modules.proofs.own_items.add_clause_key.Goals as goal

pub add_head-requires : goal.add_head-requires
add_head-requires c =
    let said = rw c.in-Clause.is at c.requires.1 in
    subst (λ (t : Term). is_wide t ≡ false) (sym c.head_of.ensures) (narrow_head c.in-Clause.read.term said.readable.few_arguments)
