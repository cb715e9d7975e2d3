use Rattle.std.proofs.Common.{ap, ◌∙◌}
use Rattle.std.specs.List.{list_all}
use Rattle.plai_terms.specs.Preorder.{referred}
use Rattle.plai_values.specs.Nodes.{is_no_variable}
use Rattle.plai_values.proofs.GroundTerms.{ground_by_subterms}
use Rattle.plai_values.proofs.groundness.is_ground_term.Goals as goal

pub returns : goal.returns
returns c =
    c.are_no_variables.ensures
    ∙ ap (list_all is_no_variable) (ap referred c.deref.ensures.value ∙ c.in_ok-nodes.ensures)
    ∙ ground_by_subterms c.args.term.now
