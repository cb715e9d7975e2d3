use Rattle.std.proofs.Common.{◌≡◌, ◌+◌, cond, nat_eq, nat_lt, ap, ◌∙◌, subst, arith}
use Rattle.std.specs.List.{count_by}
use Rattle.plai_arcs.specs.Links.{call_count, caller_count}
use Rattle.plai_arcs.proofs.RenameLemmas.{still_same, not_below_itself, renamed_clause, covered}
use Rattle.plai_arcs.proofs.renames.rename_callers.Goals as goal

pub rename_clause_callers-requires : goal.rename_clause_callers-requires
rename_clause_callers-requires c q =
    still_same (nat_eq c.args.last c.args.last) (nat_eq c.args.last c.args.row) (nat_lt c.clauses.clause c.clauses.clause)
    (caller_count c.clauses.callers q c.args.last c.clauses.clause)
    (caller_count c.args.callers.now q c.args.last c.clauses.clause) (call_count c.args.calls.now c.args.row c.clauses.clause q)
    (not_below_itself c.clauses.clause) (c.clauses.invariant q c.args.last c.clauses.clause)
    ∙ c.requires q c.clauses.clause

pub clauses-preserved : goal.clauses-preserved
clauses-preserved c q r k =
    renamed_clause c.args.calls.now c.args.row c.args.last c.clauses.clause q r k (caller_count c.rename_clause_callers.new.callers q r k)
    (caller_count c.clauses.callers q r k) (caller_count c.args.callers.now q r k)
    (c.rename_clause_callers.ensures q r k) (c.clauses.invariant q r k)

pub returns : goal.returns
returns c q r k =
    let all : cond (nat_lt k c.clauses.clause) (call_count c.args.calls.now c.args.row k q) 0 ≡ call_count c.args.calls.now c.args.row k q =
    covered k c.clauses.clause (call_count c.args.calls.now c.args.row k q)
    (λ h. ap (λ xs. count_by (nat_eq q) xs) (c.clause_count-count.ensures k (omega arith))) in
    subst (λ n. caller_count c.clauses.callers q r k + cond (nat_eq r c.args.last) n 0
    ≡ caller_count c.args.callers.now q r k + cond (nat_eq r c.args.row) n 0) all (c.clauses.invariant q r k)
