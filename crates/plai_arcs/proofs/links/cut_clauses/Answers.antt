use Rattle.std.proofs.Common.{nat_eq, ap, refl, arith}
use Rattle.std.specs.List.{count_by}
use Rattle.plai_arcs.specs.Links.{call_count}
use Rattle.plai_arcs.proofs.CutLemmas.{clause_cut, clause_gone, clause_past, none_left, row_gone}
use Rattle.plai_arcs.proofs.links.cut_clauses.Goals as goal

pub clauses-init : goal.clauses-init
clauses-init c = record {
  linked = c.requires;
  calls = λ r k q. refl;
  gone = λ k q h. absurd (omega arith);
  past = λ k q h. ap (λ xs. count_by (nat_eq q) xs) (c.clause_count-count.ensures k h);
}

pub clauses-preserved : goal.clauses-preserved
clauses-preserved c = record {
  linked = c.cut_calls.ensures.linked;
  calls = λ r k q. clause_cut (nat_eq r c.args.row) (nat_eq k c.clauses.clause) (call_count c.cut_calls.new.calls r k q) (call_count c.clauses.calls r k q)
      (call_count c.args.calls.now r k q)
      (c.cut_calls.ensures.calls r k q) (c.clauses.invariant.calls r k q);
  gone = λ k q h. clause_gone c.args.row k c.clauses.clause (call_count c.cut_calls.new.calls c.args.row k q) (call_count c.clauses.calls c.args.row k q)
      (c.cut_calls.ensures.calls c.args.row k q) (c.clauses.invariant.gone k q) h;
  past = λ k q h. clause_past _ (call_count c.cut_calls.new.calls c.args.row k q) (call_count c.clauses.calls c.args.row k q)
      (c.cut_calls.ensures.calls c.args.row k q) (c.clauses.invariant.past k q h);
}

pub returns-clause-calls : goal.returns-clause-calls
returns-clause-calls c r k q =
    none_left (nat_eq r c.args.row) (call_count c.clauses.calls r k q) (call_count c.args.calls.now r k q)
    (row_gone c.clauses.calls c.args.row c.clause_count-count.result (λ k q h. c.clauses.invariant.gone k q (omega arith)) c.clauses.invariant.past r k q)
    (c.clauses.invariant.calls r k q)
