use Rattle.std.proofs.Common.{rules}
use Rattle.plai_values.proofs.Evaluation.{at_variable, at_integer, at_atom, at_compound}
use Rattle.plai_values.proofs.arithmetic.value_at.Goals as goal

pub returns-in-Int : goal.returns-in-Int
returns-in-Int c others e = at_integer c.args.term.now c.in-Int.value c.args.values.now.items others c.in-Int.is (search rules) e

pub returns-in-Compound : goal.returns-in-Compound
returns-in-Compound c others e =
    at_compound c.args.term.now c.in-Compound.name c.in-Compound.args c.as_slice.result.now c.as_slice-in-Compound.result.now
    c.args.values.now.items c.take_value.new.values.items others c.take_value.result
    c.in-Compound.is c.as_slice.ensures c.as_slice-in-Compound.ensures.items c.take_value.ensures e

pub returns-in-Var : goal.returns-in-Var
returns-in-Var c others e = at_variable c.args.term.now c.in-Var.field-0 c.args.values.now.items others c.in-Var.is e

pub returns-in-Atom : goal.returns-in-Atom
returns-in-Atom c others e = at_atom c.args.term.now c.in-Atom.field-0 c.args.values.now.items others c.in-Atom.is e
