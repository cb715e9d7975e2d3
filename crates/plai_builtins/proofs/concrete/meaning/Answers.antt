use Rattle.std.proofs.Common.{◌<◌, length, arith, sym, subst, IfOk, [], ◌∷◌}
use Rattle.plai_builtins.specs.Meaning.{Meets, Means, asked_by}
use Rattle.plai_builtins.proofs.Made.{first_below, as_one, as_two, as_three}
use Rattle.plai_builtins.proofs.concrete.meaning.Goals as goal

pub binary-requires-clause-below : goal.binary-requires-clause-below
binary-requires-clause-below c =
    let some : 0 < length c.args.args.now = omega arith in
    first_below c.args.fresh c.args.args.now c.left-item.result some c.left-item.is c.requires.below

pub returns-in_ok-holds-in-len1 : goal.returns-in_ok-holds-in-len1
returns-in_ok-holds-in-len1 c =
    subst (λ ts. Means c.args.name.now ts c.args.fresh c.tested-in-len1.result)
    (sym (as_one c.args.args.now c.term-item.result c.in-len1.len_at_least c.in-len1.len_below c.term-item.is))
    (subst (λ found. Meets (asked_by found (c.term-item.result ∷ []) c.args.fresh) c.tested-in-len1.result) c.named-in-len1.ensures
    (subst (Meets (asked_by c.named-in-len1.result (c.term-item.result ∷ []) c.args.fresh)) (sym c.tested-in-len1.ensures)
    (c.in_ok-holds-in-len1.ensures c.args.fresh)))

pub returns-in-len2 : goal.returns-in-len2
returns-in-len2 c =
    subst (λ ts. IfOk c.binary.result (λ found. Means c.args.name.now ts c.args.fresh found))
    (sym (as_two c.args.args.now c.left-item.result c.right-item.result c.in-len2.len_at_least c.in-len2.len_below c.left-item.is c.right-item.is))
    (subst (λ b. IfOk c.binary.result (λ found. Meets (asked_by b (c.left-item.result ∷ c.right-item.result ∷ []) c.args.fresh) found))
    c.named-in-len2.ensures c.binary.ensures)

pub returns-in-len3 : goal.returns-in-len3
returns-in-len3 c =
    subst (λ ts. IfOk c.ternary.result (λ found. Means c.args.name.now ts c.args.fresh found))
    (sym (as_three c.args.args.now c.first-item.result c.second-item.result c.third-item.result c.in-len3.len_at_least c.in-len3.len_below
    c.first-item.is c.second-item.is c.third-item.is))
    (subst (λ b. IfOk c.ternary.result
    (λ found. Meets (asked_by b (c.first-item.result ∷ c.second-item.result ∷ c.third-item.result ∷ []) c.args.fresh) found))
    c.named-builtin.ensures c.ternary.ensures)
