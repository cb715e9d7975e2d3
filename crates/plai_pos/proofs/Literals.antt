-- What is known of terms from what is known of their variables, as diagrams.
use Rattle.std.proofs.Common.{◌≡◌, ℕ, ◌+◌, ◌-◌, ◌^◌, ◌<◌, ◌≤◌, Bool, true, nat_eq, ◌&&◌, ◌↔◌, IsTrue, List, [], ◌∷◌, ◌++◌, length, get_or, ◌⊎◌, inl, inr, sym}
use Rattle.std.proofs.Common.{ap, subst, ◌∙◌, arith}
use Rattle.std.specs.Bool.{beq}
use Rattle.std.proofs.lemmas.Bool.{eq-eqb, eqb-true, and_parts, and_from}
use Rattle.plai_base.specs.Mask.{has_slot, all_true}
use Rattle.plai_base.specs.Sets.{has_some}
use Rattle.plai_base.proofs.Sets.{same_tests, has_kept, kept_has, kept_same, some_from, some_of}
use Rattle.plai_base.proofs.Bits.{top_lt}
use Rattle.plai_bdd.specs.declared.node.Node.{Node}
use Rattle.plai_bdd.specs.Assignment.{Assignment}
use Rattle.plai_bdd.specs.Slots.{Somewhere, conjunction}
use Rattle.plai_bdd.specs.Nodes.{IsFunction, is_model, holds as answer}
use Rattle.plai_factors.specs.Product.{together}
use Rattle.plai_factors.proofs.Products.{together-push}
use Rattle.plai_bdd.proofs.Models.{mask_below, mask_below-lt, mask_below-slot}
use Rattle.plai_pos_laws.proofs.Direct.{same_slots}
use Rattle.plai_pos_laws.proofs.Parts.{value_kept}
use Rattle.plai_pos.specs.Values.{models_in, terms_at, image, IsDiagramOf, IsPositiveBelow}
use Rattle.plai_pos.specs.TermSlots.{AreBelow, AreUnified}
use Rattle.plai_pos.proofs.Alike.{TrueAlike, diagram_of, spliced, spliced_low, spliced_high, below_or_from}
use Rattle.plai_pos.proofs.Masks.{IsRange}
use Rattle.plai_pos.proofs.Determined.{conjunction_below, slot_at, terms_lt, top_terms}
use Rattle.plai_pos.proofs.Terms.{beq_same, same_beq, last_or}

-- at some assignment that differs from this one in the first slots alone
abbrev pub Projected : ℕ → (Assignment → Type 0) → Assignment → Type 0
Projected first P at = (other : Assignment) × (((slot : ℕ) → first ≤ slot → other slot ≡ at slot) × P other)

-- projection of a range of slots
pub range_projects : (mask first : ℕ) (f : Assignment → Bool) → first ≤ 64 → IsRange mask 0 first → (at : Assignment)
    → Somewhere mask f at ↔ Projected first (λ other. IsTrue (f other)) at
range_projects mask first f room range at = (
  λ (there, (d, t)). (there, ((λ slot l. down there slot l (d slot)), t)),
  λ (there, (d, t)). (there, ((λ slot. up there d slot (below_or_from slot first)), t)),
)
  where
    down : (there : Assignment) (slot : ℕ) → first ≤ slot → (there slot ≡ at slot) ⊎ ((slot < 64) × IsTrue (has_slot mask slot)) → there slot ≡ at slot
    down there slot l (inl e) = e
    down there slot l (inr p) = absurd (omega (arith, ((range slot).0 p.1).1, l))

    up : (there : Assignment) → ((slot : ℕ) → first ≤ slot → there slot ≡ at slot) → (slot : ℕ) → (slot < first) ⊎ (first ≤ slot)
        → (there slot ≡ at slot) ⊎ ((slot < 64) × IsTrue (has_slot mask slot))
    up there d slot (inl l) = inr (omega arith, (range slot).1 (omega arith, l))
    up there d slot (inr l) = inl (d slot l)

-- true of the variables, where the terms' slots are unified
abbrev pub JoinedAt : ℕ → List ℕ → (Assignment → Bool) → Assignment → Type 0
JoinedAt v sets given at = IsTrue (given at) × AreUnified v sets at

-- the functions say what is given, and that the first terms' slots are unified
pub record IsJoining (v : ℕ) (sets : List ℕ) (given : Assignment → Bool) (i : ℕ) (all : List (List Node)) : Type 0 where
  pub same : (at : Assignment) → IsTrue (together all at) ↔ (IsTrue (given at) × ((j : ℕ) → j < i → at (v + j) ≡ conjunction (get_or sets j 0) at))

pub joining_none : (v : ℕ) (sets : List ℕ) (given all : List (List Node)) → all ≡ given → IsJoining v sets (together given) 0 all
joining_none v sets given all e = record {
  same = λ at. (λ t. (ap (λ fs. together fs at) (sym e) ∙ t, λ j l. absurd (omega (arith, l))), λ q. ap (λ fs. together fs at) e ∙ q.0);
}

module _ (v : ℕ) (sets : List ℕ) (given : Assignment → Bool) (i slot set : ℕ) (all longer : List (List Node)) (f : List Node) (is : slot ≡ v + i)
    (truths : (at : Assignment) → conjunction set at ≡ conjunction (get_or sets i 0) at) (pushed : longer ≡ all ++ f ∷ [])
    (says : IsFunction f (λ at. beq (at slot) (conjunction set at))) (old : IsJoining v sets given i all) where
  longer_at : (at : Assignment) → together longer at ≡ (together all at && answer f at)
  longer_at at = ap (λ fs. together fs at) pushed ∙ together-push all f at

  joined_out : (at : Assignment) → IsTrue (together longer at) → IsTrue (given at) × ((j : ℕ) → j < i + 1 → at (v + j) ≡ conjunction (get_or sets j 0) at)
  joined_out at t =
      let p = and_parts (together all at) (answer f at) (sym (longer_at at) ∙ t) in
      let q = (old.same at).0 p.0 in
      (q.0, λ j l. by q.1 (ap at (sym is) ∙ beq_same (at slot) (conjunction set at) (sym (says.answers at) ∙ p.1) ∙ truths at) j (last_or j i l))
    where
      by : ((j : ℕ) → j < i → at (v + j) ≡ conjunction (get_or sets j 0) at) → at (v + i) ≡ conjunction (get_or sets i 0) at
          → (j : ℕ) → (j < i) ⊎ (j ≡ i) → at (v + j) ≡ conjunction (get_or sets j 0) at
      by first here j (inl l) = first j l
      by first here j (inr e) = subst (λ k. at (v + k) ≡ conjunction (get_or sets k 0) at) (sym e) here

  joined_in : (at : Assignment) → IsTrue (given at) × ((j : ℕ) → j < i + 1 → at (v + j) ≡ conjunction (get_or sets j 0) at) → IsTrue (together longer at)
  joined_in at q =
      longer_at at
      ∙ and_from _ _ ((old.same at).1 (q.0, λ j l. q.1 j (omega (arith, l))))
      (says.answers at ∙ same_beq (at slot) (conjunction set at) (ap at is ∙ q.1 i (omega arith) ∙ sym (truths at)))

  pub joining_more : IsJoining v sets given (i + 1) longer
  joining_more = record { same = λ at. (joined_out at, joined_in at) }

pub joining_all : (v : ℕ) (sets : List ℕ) (given : Assignment → Bool) (i : ℕ) (all : List (List Node)) → i ≡ length sets → IsJoining v sets given i all
    → (at : Assignment) → IsTrue (together all at) ↔ JoinedAt v sets given at
joining_all v sets given i all e h at = (
  λ t. let q = (h.same at).0 t in (q.0, λ j l. q.1 j (omega (arith, l, e))),
  λ q. (h.same at).1 (q.0, λ j l. q.1 j (omega (arith, l, e))),
)

module _ (v : ℕ) (sets : List ℕ) (below : AreBelow v sets) (room : v + length sets ≤ 64) where
  pub truth_alike : (j : ℕ) (at other : Assignment) → ((slot : ℕ) → slot < v → at slot ≡ other slot)
      → conjunction (get_or sets j 0) at ≡ conjunction (get_or sets j 0) other
  truth_alike j at other same = conjunction_below v (get_or sets j 0) at other (below j) same

  -- ---- from variables to terms

  module _ (given : Assignment → Bool) (d : IsPositiveBelow v given) where
    abbrev Joined : Assignment → Type 0
    Joined = JoinedAt v sets given

    given_alike : TrueAlike v given
    given_alike at other same t = sym (d.over at other same) ∙ t

    joined_alike : (at other : Assignment) → ((slot : ℕ) → slot < v + length sets → at slot ≡ other slot) → Joined at → Joined other
    joined_alike at other same p = (
      given_alike at other (λ slot l. same slot (omega (arith, l))) p.0,
      λ j l. sym (same (v + j) (omega (arith, l))) ∙ p.1 j l ∙ truth_alike j at other (λ slot less. same slot (omega (arith, less))),
    )

    -- the variables' slots as the mask x has them, and the terms' as the mask a has them
    beside : ℕ → ℕ → Assignment
    beside x a = spliced v (has_slot x) (λ slot. has_slot a (slot - v))

    beside_low : (x a slot : ℕ) → slot < v → beside x a slot ≡ has_slot x slot
    unfolding beside
    beside_low x a slot l = spliced_low v (has_slot x) (λ slot. has_slot a (slot - v)) slot l

    beside_high : (x a slot : ℕ) → v ≤ slot → beside x a slot ≡ has_slot a (slot - v)
    unfolding beside
    beside_high x a slot l = spliced_high v (has_slot x) (λ slot. has_slot a (slot - v)) slot l

    beside_at : (x a j : ℕ) → beside x a (v + j) ≡ has_slot a j
    beside_at x a j = let e : v + j - v ≡ j = omega arith in beside_high x a (v + j) (omega arith) ∙ ap (has_slot a) e

    -- what is true of the variables is true beside the truths of the terms
    beside_joined : (x : ℕ) → IsTrue (given (has_slot x)) → Joined (beside x (terms_at sets x))
    beside_joined x t =
        let a = terms_at sets x in (
          given_alike (has_slot x) (beside x a) (λ slot l. sym (beside_low x a slot l)) t,
          λ j l. beside_at x a j ∙ slot_at sets x j l ∙ truth_alike j (has_slot x) (beside x a) (λ slot less. sym (beside_low x a slot less)),
        )

    -- the variables go
    pub projected_is : (mask : ℕ) (f : Assignment → Bool) (projected : List Node) → IsRange mask 0 v
        → ((at : Assignment) → IsTrue (answer projected at) ↔ Somewhere mask f at)
        → ((at : Assignment) → IsTrue (f at) ↔ Joined at) → (at : Assignment) → IsTrue (answer projected at) ↔ Projected v Joined at
    projected_is mask f projected range meaning says at =
        let r = range_projects mask v f (omega (arith, room)) range at in (
          λ t. let (other, (q, h)) = r.0 ((meaning at).0 t) in (other, (q, (says other).0 h)),
          λ (other, (q, h)). (meaning at).1 (r.1 (other, (q, (says other).1 h))),
        )

    module _ (projected made : List Node) (meaning : (at : Assignment) → IsTrue (answer projected at) ↔ Projected v Joined at)
        (lowered : IsFunction made (λ at. answer projected (λ slot. at (slot - v)))) where
      made_alike : TrueAlike (length sets) (answer made)
      made_alike at other same t =
          lowered.answers other ∙ (meaning (λ slot. other (slot - v))).1 (by ((meaning (λ slot. at (slot - v))).0 (sym (lowered.answers at) ∙ t)))
        where
          high : (there : Assignment) → ((slot : ℕ) → v ≤ slot → there slot ≡ at (slot - v)) → (slot : ℕ) → v ≤ slot
              → (slot < v + length sets) ⊎ (v + length sets ≤ slot)
              → spliced (v + length sets) there (λ slot. other (slot - v)) slot ≡ other (slot - v)
          high there q slot le (inl l) = spliced_low (v + length sets) there (λ slot. other (slot - v)) slot l ∙ q slot le
              ∙ same (slot - v) (omega (arith, le, l))
          high there q slot le (inr l) = spliced_high (v + length sets) there (λ slot. other (slot - v)) slot l

          by : Projected v Joined (λ slot. at (slot - v)) → Projected v Joined (λ slot. other (slot - v))
          by (there, (q, p)) = (
            spliced (v + length sets) there (λ slot. other (slot - v)),
            (
              (λ slot le. high there q slot le (below_or_from slot (v + length sets))),
              joined_alike there (spliced (v + length sets) there (λ slot. other (slot - v)))
                  (λ slot l. sym (spliced_low (v + length sets) there (λ slot. other (slot - v)) slot l)) p,
            ),
          )

      image_in : (a : ℕ) → a < 2 ^ length sets → IsTrue (is_model made a) → has_some (models_in v given) (λ y. nat_eq (terms_at sets y) a) ≡ true
      image_in a l t = by ((meaning (λ slot. has_slot a (slot - v))).0 (sym (lowered.answers (has_slot a)) ∙ t))
        where
          by : Projected v Joined (λ slot. has_slot a (slot - v)) → has_some (models_in v given) (λ y. nat_eq (terms_at sets y) a) ≡ true
          by (there, (q, p)) =
              let x = mask_below v there in
              let same : (slot : ℕ) → slot < v → has_slot x slot ≡ there slot = λ slot less. mask_below-slot v there slot less in
              some_from (models_in v given) (λ y. nat_eq (terms_at sets y) a) x
              (kept_has (2 ^ v) (λ y. given (has_slot y)) x (mask_below-lt v there) (given_alike there (has_slot x) (λ slot less. sym (same slot less)) p.0))
              (eq-eqb _ _
              (same_slots (length sets) (terms_at sets x) a (terms_lt sets x) l
              (λ j less.
              let f : v + j - v ≡ j = omega arith in
              slot_at sets x j less ∙ truth_alike j (has_slot x) there same ∙ sym (p.1 j less) ∙ q (v + j) (omega arith) ∙ ap (has_slot a) f)))

      image_out : (a : ℕ) → has_some (models_in v given) (λ y. nat_eq (terms_at sets y) a) ≡ true → IsTrue (is_model made a)
      image_out a t =
          let (x, m, k) = some_of (models_in v given) (λ y. nat_eq (terms_at sets y) a) t in
          let q = has_kept (2 ^ v) (λ y. given (has_slot y)) x m in
          let e : terms_at sets x ≡ a = eqb-true _ _ k in
          lowered.answers (has_slot a)
          ∙ (meaning (λ slot. has_slot a (slot - v))).1
          (beside x a, ((λ slot le. beside_high x a slot le), subst (λ b. Joined (beside x b)) e (beside_joined x q.1)))

      image_top : has_some (models_in v given) (λ y. nat_eq (terms_at sets y) (all_true (length sets))) ≡ true
      image_top =
          some_from (models_in v given) (λ y. nat_eq (terms_at sets y) (all_true (length sets))) (all_true v)
          (kept_has (2 ^ v) (λ y. given (has_slot y)) (all_true v) (top_lt v) d.top)
          (eq-eqb _ _ (top_terms v sets below))

      pub image_is : IsDiagramOf (length sets) (image sets (models_in v given)) made
      image_is =
          diagram_of (length sets) (image sets (models_in v given)) made lowered.canonical made_alike
          (kept_same (2 ^ length sets) (is_model made) (λ a. has_some (models_in v given) (λ y. nat_eq (terms_at sets y) a))
          (λ a l. same_tests _ _ (image_in a l) (image_out a)))
          (value_kept (length sets) (λ a. has_some (models_in v given) (λ y. nat_eq (terms_at sets y) a)) image_top)
