use Rattle.std.proofs.Common.{nat_eq, [], ◌∷◌, ◌++◌, sym, ap, ◌∙◌}
use Rattle.std.specs.List.{list_any}
use Rattle.plai_sld.specs.Pending.{keys, found}
use Rattle.plai_sld.proofs.Pendings.{found_push, more_again, distinct_more}
use Rattle.plai_sld.proofs.pending.keep.Goals as goal

pub returns-then-is_bound-clause-more : goal.returns-then-is_bound-clause-more
returns-then-is_bound-clause-more c =
    more_again c.args.limit c.args.all.now.items c.args.pair.now
    (ap (λ bs. list_any (nat_eq c.args.pair.now.0) (keys bs)) (sym c.deref.ensures.value) ∙ sym c.is_bound.ensures ∙ c.if-is_bound.true)

pub returns-clause-distinct : goal.returns-clause-distinct
returns-clause-distinct c =
    distinct_more c.args.all.now.items c.push.new.self.items c.args.pair.now
    (c.in_ok-push.ensures.items ∙ ap (λ t. c.args.all.now.items ++ (c.args.pair.now.0, t) ∷ []) c.in_ok-copy.ensures) c.requires
    (ap (λ bs. list_any (nat_eq c.args.pair.now.0) (keys bs)) (sym c.deref.ensures.value) ∙ sym c.is_bound.ensures ∙ c.if-is_bound.false)

pub returns-clause-more : goal.returns-clause-more
returns-clause-more c v below =
    ap (λ bs. found bs v) (c.in_ok-push.ensures.items ∙ ap (λ t. c.args.all.now.items ++ (c.args.pair.now.0, t) ∷ []) c.in_ok-copy.ensures)
    ∙ found_push c.args.all.now.items c.args.pair.now v
