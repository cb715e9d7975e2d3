use Rattle.std.proofs.Common.{◌≡◌, ◌∙◌, ◌==◌, ℕ, ◌+◌, ◌<◌, List, [], ◌∷◌, ◌++◌, length, map, take, get_or, nat_eq, sym, ap, subst}
use Rattle.std.proofs.lemmas.List.{take_all}
use Rattle.std.specs.List.{IsDistinct}
use Rattle.std.proofs.lemmas.Map.Made.{IsDistinct-keys_filter}
use Rattle.std.specs.List.{list_any}
use Rattle.std.proofs.lemmas.List.Elements.{filter_more}
use Rattle.plai_terms.specs.Subst.{restricted_to}
use Rattle.plai_terms.specs.declared.term.Term.{Term}
use Rattle.plai_terms.proofs.subst.Subst.restrict.Goals as goal

kept_more : (vs : List ℕ) (xs kept after : List (ℕ × Term)) (i : ℕ) (pair : ℕ × Term) → i < length xs → pair ≡ get_or xs i pair
    → kept ≡ restricted_to vs (take i xs) → after ≡ kept ++ restricted_to vs (pair ∷ []) → after ≡ restricted_to vs (take (i + 1) xs)
kept_more vs xs kept after i pair lt is k a =
    a ∙ ap (λ ps. ps ++ restricted_to vs (pair ∷ [])) k
    ∙ ap (λ q. restricted_to vs (take i xs) ++ restricted_to vs (q ∷ [])) is
    ∙ sym (filter_more (λ p. list_any (λ v. v == p.0) vs) xs i pair lt)

pub loop-pair-preserved : goal.loop-pair-preserved
loop-pair-preserved c =
    let same : c.args.self.now ≡ c.as_slice-pair-items.result.now = cc in
    kept_more c.args.variables.now c.as_slice-pair-items.result.now c.loop-pair.kept.items c.keep.new.kept.items c.loop-pair.pair-index c.pair-item.result
    c.loop-pair-test.true c.pair-item.is (c.loop-pair.invariant ∙ ap (λ s. restricted_to c.args.variables.now (take c.loop-pair.pair-index s)) same)
    c.in_ok-keep.ensures
    ∙ ap (λ s. restricted_to c.args.variables.now (take (c.loop-pair.pair-index + 1) s)) (sym same)

pub new-requires : goal.new-requires
new-requires c =
    let same : c.as_slice-pair-items.result.now ≡ c.self.inside.pairs.items = cc in
    let whole : take c.loop-pair.pair-index c.args.self.now ≡ c.self.inside.pairs.items =
    ap (take c.loop-pair.pair-index) (cc) ∙ take_all c.loop-pair.pair-index c.as_slice-pair-items.result.now c.loop-pair-test.false ∙ same in
    subst (λ ps. IsDistinct nat_eq (map (λ p. p.0) ps)) (sym (c.loop-pair.invariant ∙ ap (restricted_to c.args.variables.now) whole))
    (IsDistinct-keys_filter nat_eq (λ p. list_any (λ v. v == p.0) c.args.variables.now) c.self.inside.pairs.items c.self.invariant)
