-- What properties ask of assignments, and whether all models have it.
use Rattle.std.proofs.Common.{◌≡◌, ℕ, ◌-◌, ◌^◌, ◌<◌, ◌≤◌, Bool, true, false, ◌&&◌, ◌||◌, bit_or, ◌↔◌, IsTrue, List, [], ◌∷◌, length, drop, All, ◌⊎◌, inl, inr}
use Rattle.std.proofs.Common.{refl, sym, ap, subst, ◌∙◌, arith}
use Rattle.std.specs.List.{AllByRecursion}
use Rattle.std.proofs.lemmas.List.Elements.{recursion_from_All}
use Rattle.std.proofs.lemmas.List.{drop_all}
use Rattle.plai_base.specs.Mask.{has_slot, mask_of}
use Rattle.plai_base.specs.Sets.{has_all}
use Rattle.plai_base.proofs.Sets.{same_tests, has_kept, kept_has, kept_same}
use Rattle.plai_terms.specs.declared.prop.Prop.{Prop}
use Rattle.plai_terms.specs.declared.prop.Prop.TheVariants as property
use Rattle.plai_domain.specs.Instances.{speaks_within}
use Rattle.plai_bdd.specs.declared.node.Node.{Node}
use Rattle.plai_bdd.specs.Assignment.{Assignment}
use Rattle.plai_bdd.specs.Slots.{conjunction}
use Rattle.plai_bdd.specs.Nodes.{is_model, IsFunction, IsOver}
use Rattle.plai_pos_laws.specs.Assignments.{argument_in, allows, allows_all, describe_of}
use Rattle.plai_pos_laws.proofs.Parts.{all_of, all_from}
use Rattle.plai_pos_laws.proofs.Properties.{value_describe}
use Rattle.plai_pos.specs.Values.{models_of, IsDiagramOf}
use Rattle.plai_pos.specs.TermSlots.{allowed, allowed_all}
use Rattle.plai_pos.proofs.Alike.{alike_as, diagram_of}
use Rattle.plai_pos.proofs.Masks.{conjunction-insert}

pub slot_added : (slots result n i : ℕ) → (1 ≤ i) × (i ≤ n) → n ≤ 16 → result ≡ bit_or slots (mask_of (i - 1))
    → (at : Assignment) → conjunction result at ≡ (conjunction slots at && at (i - 1))
slot_added slots result n i w small e at = let l : i - 1 < 64 = omega (arith, w.0, w.1) in ap (λ m. conjunction m at) e ∙ conjunction-insert slots (i - 1) at l

allowed_is : (p : Prop) (x : ℕ) → allowed p (has_slot x) ≡ allows p x
allowed_is (property.Ground i) x = refl
allowed_is (property.Var i) x = refl
allowed_is (property.Nonvar i) x = refl
allowed_is (property.Int i) x = refl
allowed_is (property.Indep i j) x = refl

pub allowed_all_is : (ps : List Prop) (x : ℕ) → allowed_all ps (has_slot x) ≡ allows_all ps x
allowed_all_is [] x = refl
allowed_all_is (p ∷ ps) x = λ k. allowed_is p x k && allowed_all_is ps x k

allowed_alike : (n : ℕ) (p : Prop) → speaks_within n p → (at other : Assignment) → ((slot : ℕ) → slot < n → at slot ≡ other slot)
    → allowed p at ≡ allowed p other
allowed_alike n (property.Ground i) w at other same = let l : i - 1 < n = omega (arith, w.0, w.1) in same (i - 1) l
allowed_alike n (property.Var i) w at other same = refl
allowed_alike n (property.Nonvar i) w at other same = refl
allowed_alike n (property.Int i) w at other same = let l : i - 1 < n = omega (arith, w.0, w.1) in same (i - 1) l
allowed_alike n (property.Indep i j) w at other same = refl

all_alike : (n : ℕ) (ps : List Prop) → AllByRecursion (speaks_within n) ps → (at other : Assignment) → ((slot : ℕ) → slot < n → at slot ≡ other slot)
    → allowed_all ps at ≡ allowed_all ps other
all_alike n [] w at other same = refl
all_alike n (p ∷ ps) w at other same = λ k. allowed_alike n p w.0 at other same k && all_alike n ps w.1 at other same k

pub described : (n slots : ℕ) (ps : List Prop) (nodes : List Node) → All (speaks_within n) ps → ((at : Assignment) → conjunction slots at ≡ allowed_all ps at)
    → IsFunction nodes (conjunction slots) → IsDiagramOf n (describe_of n ps) nodes
described n slots ps nodes w all h =
    diagram_of n (describe_of n ps) nodes h.canonical
    (alike_as n nodes (conjunction slots) h
    (λ at other same t. all other ∙ sym (all_alike n ps (recursion_from_All (speaks_within n) ps w) at other same) ∙ sym (all at) ∙ t))
    (kept_same (2 ^ n) (is_model nodes) (allows_all ps) (λ m l. h.answers (has_slot m) ∙ all (has_slot m) ∙ allowed_all_is ps m))
    (value_describe n ps w)

-- ---- what all models have

pub forced : (n i j : ℕ) (nodes : List Node) (result : Bool) → (1 ≤ i) × (i ≤ n) → (1 ≤ j) × (j ≤ n) → IsOver n nodes
    → ((bound : ℕ) → i - 1 < bound → j - 1 < bound → IsOver bound nodes
    → (IsTrue result ↔ ((mask : ℕ) → mask < 2 ^ bound → IsTrue (is_model nodes mask) → IsTrue (has_slot mask (i - 1) || has_slot mask (j - 1)))))
    → result ≡ has_all (models_of n nodes) (λ x. argument_in x i || argument_in x j)
forced n i j nodes result a b over d =
    let e = d n (omega (arith, a.0, a.1)) (omega (arith, b.0, b.1)) over in
    same_tests result (has_all (models_of n nodes) (λ x. argument_in x i || argument_in x j))
    (λ t. all_from (models_of n nodes) _ (λ m h. let p = has_kept (2 ^ n) (is_model nodes) m h in e.0 t m p.0 p.1))
    (λ t. e.1 (λ m l h. all_of (models_of n nodes) (λ x. argument_in x i || argument_in x j) m t (kept_has (2 ^ n) (is_model nodes) m l h)))

pub property_added : (slots result n i : ℕ) (p : Prop) → (p ≡ property.Ground i) ⊎ (p ≡ property.Int i) → speaks_within n p → n ≤ 16
    → result ≡ bit_or slots (mask_of (i - 1)) → (at : Assignment) → conjunction result at ≡ (conjunction slots at && allowed p at)
property_added slots result n i p (inl q) w small e at =
    slot_added slots result n i (subst (speaks_within n) q w) small e at ∙ ap (λ x. conjunction slots at && allowed x at) (sym q)
property_added slots result n i p (inr q) w small e at =
    slot_added slots result n i (subst (speaks_within n) q w) small e at ∙ ap (λ x. conjunction slots at && allowed x at) (sym q)

and_last : (b : Bool) → (b && true) ≡ b
and_last true = refl
and_last false = refl

pub all_allowed : (slots i : ℕ) (ps : List Prop) → length ps ≤ i
    → ((at : Assignment) → (conjunction slots at && allowed_all (drop i ps) at) ≡ allowed_all ps at)
    → (at : Assignment) → conjunction slots at ≡ allowed_all ps at
all_allowed slots i ps l h at =
    sym (and_last (conjunction slots at)) ∙ ap (λ xs. conjunction slots at && allowed_all xs at) (sym (drop_all i ps l)) ∙ h at
