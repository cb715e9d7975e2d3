use Rattle.std.proofs.Common.{rules, ap, ◌∙◌, append_assoc, codes, decimal}
use Rattle.plai_terms.specs.Pieces.{behind_head, head_text}
use Rattle.plai_terms.proofs.Pieces.{head_text-Var, head_text-Int, head_text-Atom, behind-Var, behind-Int, behind-Atom, none_behind, compound_behind}
use Rattle.plai_terms.proofs.Pieces.{compound_head, written_head, holds}
use Rattle.plai_terms.proofs.print.write_whole.Goals as goal

pub returns-in-Var-clause-written : goal.returns-in-Var-clause-written
returns-in-Var-clause-written c =
    written_head _ _ _ _ _ _ (append_assoc c.args.out.now.items (codes "_") (decimal c.in-Var.number))
    (ap head_text c.in-Var.is ∙ head_text-Var c.in-Var.number) c.write_variable.ensures

pub returns-in-Var-clause-waiting : goal.returns-in-Var-clause-waiting
returns-in-Var-clause-waiting c = none_behind _ _ _ (ap behind_head c.in-Var.is ∙ behind-Var c.in-Var.number)

pub returns-in-Int-clause-written : goal.returns-in-Int-clause-written
returns-in-Int-clause-written c = rw (ap head_text c.in-Int.is ∙ head_text-Int c.in-Int.value) (search (rules, c.write_integer.ensures))

pub returns-in-Int-clause-waiting : goal.returns-in-Int-clause-waiting
returns-in-Int-clause-waiting c = none_behind _ _ _ (ap behind_head c.in-Int.is ∙ behind-Int c.in-Int.value)

pub returns-in-Atom-clause-written : goal.returns-in-Atom-clause-written
returns-in-Atom-clause-written c = rw (ap head_text c.in-Atom.is ∙ head_text-Atom c.in-Atom.name) (rw c.as_slice.ensures at c.write_atom.ensures)

pub returns-in-Atom-clause-waiting : goal.returns-in-Atom-clause-waiting
returns-in-Atom-clause-waiting c = none_behind _ _ _ (ap behind_head c.in-Atom.is ∙ behind-Atom c.in-Atom.name)

pub returns-in_ok-push-in-Compound-clause-written :
    goal.returns-in_ok-push-in-Compound-clause-written
returns-in_ok-push-in-Compound-clause-written c =
    holds _ (compound_head _ _ _ _ _ _ _ c.in-Compound.is c.as_slice-in-Compound.ensures c.in_ok-write_atom-in-Compound.ensures
    c.in_ok-push-in-Compound.ensures.items)

pub returns-in_ok-push-in-Compound-clause-waiting :
    goal.returns-in_ok-push-in-Compound-clause-waiting
returns-in_ok-push-in-Compound-clause-waiting c =
    rw (compound_behind _ _ _ c.in-Compound.is c.as_slice-in-Compound-2.ensures.some) (rw c.as_slice-in-Compound-2.ensures.items at c.put_listed.ensures)
