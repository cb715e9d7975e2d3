use Rattle.std.proofs.Common.{rules, arith, sym, ap, ◌∙◌, length}
use Rattle.plai_terms.proofs.Renewed.{at_Var, at_Int_read, at_Atom, at_Compound, behind_Var, behind_Int, behind_Atom, behind_Compound, arguments_is}
use Rattle.plai_terms.proofs.rebuild.renewed.Goals as goal

pub take_many-requires : goal.take_many-requires
take_many-requires c =
    let same = ap length (c.as_slice.ensures.items ∙ sym (arguments_is _ _ _ c.in-Compound.is)) in
    omega (arith, same, c.requires)

pub returns-in-Var-clause-term : goal.returns-in-Var-clause-term
returns-in-Var-clause-term c = at_Var _ _ _ c.in-Var.is

pub returns-in-Var-clause-others : goal.returns-in-Var-clause-others
returns-in-Var-clause-others c = behind_Var _ _ _ c.in-Var.is

pub returns-in-Int-clause-term : goal.returns-in-Int-clause-term
returns-in-Int-clause-term c = at_Int_read _ _ c.in-Int.value _ c.in-Int.is (search rules)

pub returns-in-Int-clause-others : goal.returns-in-Int-clause-others
returns-in-Int-clause-others c = behind_Int _ _ _ c.in-Int.is

pub returns-in_ok-copy-in-Atom-clause-term : goal.returns-in_ok-copy-in-Atom-clause-term
returns-in_ok-copy-in-Atom-clause-term c = at_Atom _ _ _ _ c.in-Atom.is c.in_ok-copy-in-Atom.ensures

pub returns-in_ok-copy-in-Atom-clause-others : goal.returns-in_ok-copy-in-Atom-clause-others
returns-in_ok-copy-in-Atom-clause-others c = behind_Atom _ _ _ c.in-Atom.is

pub returns-in_ok-copy-in-Compound-clause-term : goal.returns-in_ok-copy-in-Compound-clause-term
returns-in_ok-copy-in-Compound-clause-term c =
    at_Compound _ _ _ _ _ _ _ _ c.in-Compound.is c.in_ok-copy-in-Compound.ensures c.new.ensures
    c.in_ok-terms-in-Compound.ensures.terms (c.in_ok-terms-in-Compound.ensures.count ∙ ap length c.as_slice.ensures.items)

pub returns-in_ok-copy-in-Compound-clause-others :
    goal.returns-in_ok-copy-in-Compound-clause-others
returns-in_ok-copy-in-Compound-clause-others c =
    behind_Compound _ _ _ _ _ _ c.in-Compound.is c.in_ok-terms-in-Compound.ensures.terms
    (c.in_ok-terms-in-Compound.ensures.count ∙ ap length c.as_slice.ensures.items)
