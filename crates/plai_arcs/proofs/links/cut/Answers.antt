use Rattle.std.proofs.Common.{ℕ, ◌+◌, ◌<◌, ◌&&◌, nat_eq, sym, ap, ◌∙◌, subst}
use Rattle.std.specs.List.{count_by}
use Rattle.plai_arcs.specs.Links.{is_pair, one_if}
use Rattle.plai_arcs.proofs.PlaceLemmas.{through}
use Rattle.plai_arcs.proofs.CutLemmas.{cut_linked}
use Rattle.plai_arcs.proofs.links.cut.Goals as goal

pub cut_caller-requires : goal.cut_caller-requires
cut_caller-requires c =
    subst (λ (n : ℕ). 0 < n)
    (sym (ap (λ xs. count_by (is_pair c.args.arc.row c.args.arc.clause) xs) (c.cut_call.ensures.callers c.args.arc.called)
    ∙ c.requires.linked.agree c.args.arc.row c.args.arc.clause c.args.arc.called))
    c.requires.there

pub returns-clause-calls : goal.returns-clause-calls
returns-clause-calls c r k t =
    ap (λ xs. count_by t xs + one_if ((nat_eq r c.args.arc.row && nat_eq k c.args.arc.clause) && t c.args.arc.called)) (c.cut_caller.ensures.calls r k)
    ∙ c.cut_call.ensures.calls r k t

pub returns-clause-callers : goal.returns-clause-callers
returns-clause-callers c q t = c.cut_caller.ensures.callers q t ∙ ap (λ xs. count_by t xs) (c.cut_call.ensures.callers q)

pub returns-clause-linked : goal.returns-clause-linked
returns-clause-linked c = cut_linked c.args.calls.now c.cut_caller.new.calls c.args.callers.now c.cut_caller.new.callers c.args.arc.row
    c.args.arc.clause c.args.arc.called
    (λ r k t. ap (λ xs. count_by t xs + one_if ((nat_eq r c.args.arc.row && nat_eq k c.args.arc.clause) && t c.args.arc.called))
    (c.cut_caller.ensures.calls r k) ∙ c.cut_call.ensures.calls r k t)
    (λ q t. c.cut_caller.ensures.callers q t ∙ ap (λ xs. count_by t xs) (c.cut_call.ensures.callers q))
    c.requires.linked

pub returns-clause-call_room : goal.returns-clause-call_room
returns-clause-call_room c r k = through _ _ _ (c.cut_call.ensures.call_room r k) (c.cut_caller.ensures.call_room r k)

pub returns-clause-caller_room : goal.returns-clause-caller_room
returns-clause-caller_room c q = through _ _ _ (c.cut_call.ensures.caller_room q) (c.cut_caller.ensures.caller_room q)
