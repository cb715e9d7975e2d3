use Rattle.std.proofs.Common.{◌≡◌, refl, subst, length, arith, ℕ}
use Rattle.plai_repair.proofs.Compared.{AreSame, all_same}
use Rattle.plai_repair.proofs.equal.same_entries.Goals as goal

pub returns : goal.returns
returns c =
    let e : c.loop-place.place ≡ length c.args.one.now = omega (arith, c.loop-place.invariant.within, c.loop-place-test.false) in (
      λ t. all_same c.args.one.now c.args.two.now (omega (arith, c.if-one-two.false))
          (subst (λ (n : ℕ). AreSame n c.args.one.now c.args.two.now) e c.loop-place.invariant.same),
      λ f. refl,
    )
