use Rattle.std.proofs.Common.{◌∙◌, ◌+◌, map, get_or, nat_eq, refl, sym, ap, subst}
use Rattle.std.specs.List.{IsDistinct}
use Rattle.std.proofs.lemmas.List.{take_all}
use Rattle.plai_builtins.specs.Copies.{renaming}
use Rattle.plai_builtins.proofs.Variables.{renames_one, renaming_keys}
use Rattle.plai_builtins.proofs.copies.renaming.Goals as goal

pub loop-i-preserved : goal.loop-i-preserved
loop-i-preserved c =
    renames_one c.args.first c.loop-i.i (get_or c.args.variables.now c.loop-i.i 0) (c.args.first + c.loop-i.i) c.args.variables.now c.loop-i.pairs.items
    c.push.new.self.items
    c.loop-i-test.true refl refl c.loop-i.invariant c.in_ok-push.ensures.items

pub new-requires : goal.new-requires
new-requires c =
    subst (λ ks. IsDistinct nat_eq ks)
    (sym (ap (map (λ p. p.0)) (c.loop-i.invariant ∙ ap (renaming c.args.first) (take_all c.loop-i.i c.args.variables.now c.loop-i-test.false))
    ∙ renaming_keys c.args.first c.args.variables.now))
    c.requires.distinct
