use Rattle.std.proofs.Common.{◌≡◌, true, take, sym, ap, ◌∙◌}
use Rattle.plai_base.specs.Sets.{has}
use Rattle.plai_share_laws.specs.Groups.{normal, star}
use Rattle.plai_share.proofs.InOrder.{normal_twice}
use Rattle.plai_share.proofs.AllUnions.{star_stops, star_grows, base_grows, star_stays}
use Rattle.plai_share.proofs.unions.star.Goals as goal

pub has-requires : goal.has-requires
has-requires c =
    let e = c.deref.ensures.value ∙ c.loop-group.invariant.all in ap normal e ∙ normal_twice (star (take c.loop-group.group-index c.args.groups.now)) ∙ sym e

pub returns-in_default-clause-all : goal.returns-in_default-clause-all
returns-in_default-clause-all c =
    let h = rw c.in_default.is at c.in_ok-more.ensures in
    star_stops c.args.groups.now c.loop-group.group-index c.group-item.result c.loop-group-test.true c.group-item.is
    c.loop-group.all.items c.loop-group.base.items c.loop-group.invariant.all c.loop-group.invariant.base
    (rw (← c.deref-in-loop-group.ensures.value) h)

pub loop-group-preserved-then-has : goal.loop-group-preserved-then-has
loop-group-preserved-then-has c =
    let h : has c.loop-group.all.items c.group-item.result ≡ true =
    sym (c.has.ensures ∙ ap (λ xs. has xs c.group-item.result) c.deref.ensures.value) ∙ c.if-has.true in
    let e = star_stays c.args.groups.now c.loop-group.group-index c.group-item.result c.loop-group-test.true c.group-item.is
    c.loop-group.all.items c.loop-group.base.items c.loop-group.invariant.all c.loop-group.invariant.base h in
    record { all = c.loop-group.invariant.all ∙ e; small = c.loop-group.invariant.small; base = c.loop-group.invariant.base ∙ e }

pub loop-group-preserved : goal.loop-group-preserved
loop-group-preserved c =
    let h = rw c.in-Some.is at c.in_ok-more.ensures in
    let (p, q) = star_grows c.args.groups.now c.loop-group.group-index c.group-item.result c.loop-group-test.true c.group-item.is
    c.loop-group.all.items c.loop-group.base.items c.loop-group.invariant.all c.loop-group.invariant.base c.in-Some.more.items
    (rw (← c.deref-in-loop-group.ensures.value) h) in
    let b = base_grows c.args.groups.now c.loop-group.group-index c.group-item.result c.loop-group-test.true c.group-item.is
    c.loop-group.all.items c.loop-group.base.items c.loop-group.invariant.all c.loop-group.invariant.base in
    record { all = p; small = q; base = ap (λ xs. normal (star xs)) c.in_ok-push.ensures.items ∙ b }
