use Rattle.std.proofs.Common.{sym, ap, ◌∙◌}
use Rattle.plai_terms.specs.Unification.{skip_if}
use Rattle.plai_terms.proofs.MoveAt.{var_same, var_apart, var_other, int_var, atom_var, compound_var, int_int, atom_atom, int_other, atom_other, compound_other}
use Rattle.plai_terms.proofs.Splits.{alike_is, alike_lengths, alike_split, others_differ}
use Rattle.plai_terms.proofs.moves.next_move.Goals as goal

pub returns-then-v-w : goal.returns-then-v-w
returns-then-v-w c = sym (var_same _ _ _ _ c.in-Var.is c.in-Var-right.is c.if-v-w.true)

pub returns-in-Var-right : goal.returns-in-Var-right
returns-in-Var-right c = sym (var_apart _ _ _ _ c.in-Var.is c.in-Var-right.is c.if-v-w.false)

pub returns-in-Var : goal.returns-in-Var
returns-in-Var c = rw (var_other _ _ _ c.in-Var.is c.in-Int-right.is) c.bind.ensures

pub returns-in-Var-right-2 : goal.returns-in-Var-right-2
returns-in-Var-right-2 c = rw (int_var _ _ _ _ c.in-Int.is c.in-Var-right-2.is) c.bind-in-Var-right-2.ensures

pub returns-in-Int-right-2 : goal.returns-in-Int-right-2
returns-in-Int-right-2 c = c.skip_if.ensures ∙ ap skip_if c.same_integer.ensures ∙ sym (int_int _ _ _ _ c.in-Int.is c.in-Int-right-2.is)

pub returns-in-Int : goal.returns-in-Int
returns-in-Int c = sym (int_other _ _ _ c.in-Int.is c.in-Atom-right.is)

pub returns-in-Var-right-3 : goal.returns-in-Var-right-3
returns-in-Var-right-3 c = rw (atom_var _ _ _ _ c.in-Atom.is c.in-Var-right-3.is) c.bind-in-Var-right-3.ensures

pub returns-in-Atom-right-2 : goal.returns-in-Atom-right-2
returns-in-Atom-right-2 c = c.skip_if-in-Atom-right-2.ensures ∙ ap skip_if c.eq.ensures ∙ sym (atom_atom _ _ _ _ c.in-Atom.is c.in-Atom-right-2.is)

pub returns-in-Atom : goal.returns-in-Atom
returns-in-Atom c = sym (atom_other _ _ _ c.in-Atom.is c.in-Int-right-3.is)

pub returns-in-Var-right-4 : goal.returns-in-Var-right-4
returns-in-Var-right-4 c = rw (compound_var _ _ _ _ _ c.in-Compound.is c.in-Var-right-4.is) c.bind-in-Var-right-4.ensures

pub split-requires : goal.split-requires
split-requires c =
    alike_lengths _ _ _ _ _ _ c.in-Compound.is c.in-Compound-right.is
    (alike_is c.in-Compound.a c.in-Compound-right.b c.in-Compound.xs c.in-Compound-right.ys _ _ _ _ c.as_slice.ensures.items
    c.as_slice-in-Compound-right.ensures.items c.are_alike.ensures c.if-are_alike.true)

pub returns-then-are_alike : goal.returns-then-are_alike
returns-then-are_alike c =
    rw (alike_split _ _ _ _ _ _ c.in-Compound.is c.in-Compound-right.is
    (alike_is c.in-Compound.a c.in-Compound-right.b c.in-Compound.xs c.in-Compound-right.ys _ _ _ _ c.as_slice.ensures.items
    c.as_slice-in-Compound-right.ensures.items c.are_alike.ensures c.if-are_alike.true))
    c.split.ensures

pub returns-in-Compound-right : goal.returns-in-Compound-right
returns-in-Compound-right c =
    sym (others_differ _ _ _ _ _ _ c.in-Compound.is c.in-Compound-right.is
    (alike_is c.in-Compound.a c.in-Compound-right.b c.in-Compound.xs c.in-Compound-right.ys _ _ _ _ c.as_slice.ensures.items
    c.as_slice-in-Compound-right.ensures.items c.are_alike.ensures c.if-are_alike.false))

pub returns : goal.returns
returns c = sym (compound_other _ _ _ _ c.in-Compound.is c.in-Int-right-4.is)
