use Rattle.std.proofs.Common.{◌≡◌, ◌<◌, length, sym, ap, subst, ◌∙◌, arith}
use Rattle.plai_domain.specs.Outcomes.{most_groups}
use Rattle.plai_share_laws.specs.Groups.{normal}
use Rattle.plai_share.specs.Formed.{IsFormed}
use Rattle.std.specs.Prelude.{Some}
use Rattle.plai_share.proofs.AllUnions.{wider, wide_none, wide_stops, wide_grows}
use Rattle.plai_share.proofs.unions.bin_star.Goals as goal

pub loop-group-init : goal.loop-group-init
loop-group-init c = record { all = c.new-all.ensures.items ∙ sym (wide_none c.args.masks.now); small = omega (arith, ap length c.new-all.ensures.items) }

pub returns-in_default : goal.returns-in_default
returns-in_default c =
    let e : c.push_unions-in-loop-group.new.masks.items ≡ wider c.group-item.result c.loop-group.all.items c.args.masks.now =
    cc (c.in_ok-push_unions.ensures, c.in_ok-push_unions-2.ensures, c.in_ok-more.ensures.items, c.as_slice.ensures.value, c.deref.ensures.value) in
    wide_stops c.args.masks.now c.args.groups.now c.loop-group.group-index c.group-item.result c.loop-group-test.true c.group-item.is
    c.loop-group.all.items c.loop-group.invariant.all (subst (λ xs. most_groups < length (normal xs)) e c.in_default.ensures)

pub loop-group-preserved : goal.loop-group-preserved
loop-group-preserved c =
    let e : c.push_unions-in-loop-group.new.masks.items ≡ wider c.group-item.result c.loop-group.all.items c.args.masks.now =
    cc (c.in_ok-push_unions.ensures, c.in_ok-push_unions-2.ensures, c.in_ok-more.ensures.items, c.as_slice.ensures.value, c.deref.ensures.value) in
    let (p, q) = wide_grows c.args.masks.now c.args.groups.now c.loop-group.group-index c.group-item.result c.loop-group-test.true c.group-item.is
    c.loop-group.all.items c.loop-group.invariant.all c.in-Some.set.items (subst (λ xs. IsFormed xs (Some c.in-Some.set.items)) e c.in-Some.ensures) in
    record { all = p; small = q }
