use Rattle.std.proofs.Common.{sym, ap, ◌∙◌}
use Rattle.plai_terms.specs.Preorder.{arguments_of}
use Rattle.plai_terms.proofs.Preorder.{arguments_of-Compound, no_arguments}
use Rattle.plai_terms.proofs.term.Term.into_arguments.Goals as goal

pub returns-in-Compound : goal.returns-in-Compound
returns-in-Compound c = c.into_vec.ensures.items ∙ sym (ap arguments_of c.in-Compound.is ∙ arguments_of-Compound _ _)

pub returns-in_default : goal.returns-in_default
returns-in_default c = c.new.ensures.items ∙ sym (no_arguments _ c.in_default.not-Compound)
