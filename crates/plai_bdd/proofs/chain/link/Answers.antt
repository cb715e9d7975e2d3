use Rattle.std.proofs.Common.{◌≡◌, refl, sym, subst, ap, ◌∙◌, ◌-◌, ◌++◌, [], ◌∷◌, length, arith}
use Rattle.plai_bdd.specs.declared.node.Node.TheVariants.{Branch}
use Rattle.plai_bdd.specs.Chain.{IsChain}
use Rattle.plai_bdd.proofs.Chains.{chain_with, chain_without}
use Rattle.plai_bdd.proofs.chain.link.Goals as goal

pub returns-in_ok-push : goal.returns-in_ok-push
returns-in_ok-push c =
    let more = chain_with c.args.all c.args.slot _ c.args.nodes.now.items refl c.requires.chain c.requires.slot_fits
    (sym c.contains.ensures ∙ c.if-contains.true) in
    let pushed : c.push.new.self.items ≡ c.args.nodes.now.items ++ Branch c.args.slot 0 (length c.args.nodes.now.items - 1) ∷ [] =
    let size : c.len-high.result ≡ length c.args.nodes.now.items = omega arith in
    c.in_ok-push.ensures.items ∙ ap (λ n. c.args.nodes.now.items ++ Branch c.args.slot 0 (n - 1) ∷ []) size in
    subst (IsChain c.args.all c.args.slot) (sym pushed) more

pub returns-else-contains : goal.returns-else-contains
returns-else-contains c = chain_without c.args.all c.args.slot _ c.args.nodes.now.items refl c.requires.chain (sym c.contains.ensures ∙ c.if-contains.false)
