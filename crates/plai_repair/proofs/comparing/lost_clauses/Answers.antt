use Rattle.std.proofs.Common.{◌≡◌, refl, subst, length, arith, ℕ}
use Rattle.plai_repair.proofs.Compared.{AreSame, prefix_of}
use Rattle.plai_repair.proofs.comparing.lost_clauses.Goals as goal

pub returns : goal.returns
returns c =
    let e : c.loop-place.place ≡ length c.args.old.now = omega (arith, c.loop-place.invariant.within, c.loop-place-test.false) in
    (λ t. prefix_of c.args.old.now c.args.new.now (subst (λ (n : ℕ). AreSame n c.args.old.now c.args.new.now) e c.loop-place.invariant.same), λ f. refl)
