-- `==` of values is equality of what contracts see of them.
use Rattle.std.proofs.Common.{◌≡◌, ℕ, ◌^◌, ◌<◌, ◌≤◌, Bool, ◌&&◌, nat_eq, IsTrue, ◌↔◌, refl, sym, ap, ◌∙◌, subst}
use Rattle.std.specs.Cmp.Lexicographic.{pointwise}
use Rattle.std.proofs.lemmas.Bool.{eq-eqb, eqb-true, and_parts, and_from}
use Rattle.plai_base.specs.Sets.{has}
use Rattle.plai_base.proofs.Sets.{has-kept}
use Rattle.plai_bdd.specs.Nodes.{is_model}
use Rattle.plai_bdd.proofs.Models.{same_models}
use Rattle.plai_bdd.proofs.Same.{node_equal, lists_decided}
use Rattle.plai_terms.specs.declared.abs.Abs.TheVariants.{Pos}
use Rattle.plai_pos_laws.specs.Groundness.{masks_of, arity_of}
use Rattle.plai_pos.specs.declared.value.Value.{Value}
use Rattle.plai_pos.specs.Values.{value_of, models_of}

models_tell : (a b : Value) → value_of a ≡ value_of b → (mask : ℕ) → mask < 2 ^ a.arity → is_model a.diagram mask ≡ is_model b.diagram mask
models_tell a b same mask l =
    let n : a.arity ≡ b.arity = ap arity_of same in
    sym (has-kept (2 ^ a.arity) (is_model a.diagram) mask l)
    ∙ ap (λ v. has (masks_of v) mask) same
    ∙ has-kept (2 ^ b.arity) (is_model b.diagram) mask (subst (λ k. mask < 2 ^ k) n l)

diagrams_same : (a b : Value) → value_of a ≡ value_of b → a.diagram ≡ b.diagram
diagrams_same a b same =
    let n : b.arity ≡ a.arity = ap arity_of (sym same) in
    same_models a.diagram b.diagram a.arity a.canonical b.canonical a.over (λ slot l. b.over slot (subst (λ k. k ≤ slot) (sym n) l)) (models_tell a b same)

pub same_value : (a b : Value) (result : Bool) → result ≡ (nat_eq a.arity b.arity && pointwise node_equal a.diagram b.diagram) → IsTrue result ↔ (value_of a ≡ value_of b)
same_value a b result e =
    let d = lists_decided (pointwise node_equal a.diagram b.diagram) a.diagram b.diagram a.diagram b.diagram refl refl refl in (
      λ yes.
          let r = and_parts (nat_eq a.arity b.arity) (pointwise node_equal a.diagram b.diagram) (sym e ∙ yes) in
          let p = eqb-true a.arity b.arity r.0 in
          let q = d.0 r.1 in
          λ i. Pos (p i) (models_of (p i) (q i)),
      λ same. e ∙ and_from _ _ (eq-eqb a.arity b.arity (ap arity_of same)) (d.1 (diagrams_same a b same)),
    )
