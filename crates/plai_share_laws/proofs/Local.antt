-- Substitutions that are local to some slots: answers and actions describe the instance afterwards.
use Rattle.std.proofs.Common.{◌≡◌, ◌⊎◌, ℕ, true, bit_and, List, [], ◌∷◌, Some, None, refl, sym, ◌∙◌, subst, inl, inr, arith}
use Rattle.plai_base.specs.Mask.{has_slot, mask_of}
use Rattle.plai_share_laws.proofs.Members.{IsIn}
use Rattle.plai_base.specs.Sets.{has}
use Rattle.plai_share_laws.specs.Groups.{Has, meets, misses, without, rel, missing, star, near}
use Rattle.plai_share_laws.specs.Shares.{Shares, Side, Slot, Other, back_free, answered, havocked, grounded, alike, same, freed, any_meets, var_at, nonvar_at}
use Rattle.plai_share_laws.proofs.Meaning.{Instance, IsInstance, group, Describes, Change, IsMoved, Touches, IsLocal, Answers, variable_at}
use Rattle.plai_share_laws.proofs.Masks.{by_test, not_both, same_mask, has_or, has_of, of_has, meets_at, misses_at, without_left, without_right, has_without}
use Rattle.plai_share_laws.proofs.Lists.{by_either, append_left, append_right, filter_in, normal_in, in_contains}
use Rattle.plai_share_laws.proofs.Sets.{near_in}
use Rattle.plai_share_laws.proofs.Gather.{gather}
use Rattle.plai_share_laws.proofs.Unify.{group_has, has_group, touch_meets, meets_touch, by_touch, picked, after_has, has_after, same_group, from_picked}
use Rattle.plai_share_laws.proofs.Unify.{into_picked, picked_star}

module _ (n number : ℕ) (i : Instance) (wf : IsInstance n number i) (c : Change) (j : Instance) (moved : IsMoved i c j)
    (s : List ℕ) (known : (v k : ℕ) → i.occurs v k ≡ true → IsIn (group i n v) s) (a : ℕ) (loc : IsLocal i a number c) where
  -- a variable of the instance that the set doesn't touch is brought by none that the set touches
  not_brought : (v w k : ℕ) → i.occurs w k ≡ true → (Touches i a w → ⊥) → Touches i a v → c.puts v w ≡ true → ⊥
  not_brought v w k e nt t p = by_either (loc.brings v w t p) nt (λ h. let l = wf.below w k e in omega arith)

  -- the group of a variable afterwards either was there and misses the set, or is a union of groups that meet it
  pub group_after : (w k : ℕ) → j.occurs w k ≡ true
      → IsIn (group j n w) (missing a s) ⊎ (IsIn (group j n w) (star (rel a s)) × (l : ℕ) × Has a l × (j.occurs w l ≡ true))
  group_after w k e =
      let (v, f, p) = moved.from w k e in
      by_touch n number i wf a v (λ t. inr (touched v k f p t)) (λ no. inl (missed v k f p no))
    where
      touched : (v k : ℕ) → i.occurs v k ≡ true → c.puts v w ≡ true → Touches i a v
          → IsIn (group j n w) (star (rel a s)) × (l : ℕ) × Has a l × (j.occurs w l ≡ true)
      touched v k f p t =
          let g = gather (picked i n c a w) (group i n) number in
          let all : (x l : ℕ) → i.occurs x l ≡ true → c.puts x w ≡ true → Touches i a x = λ x l o q.
          by_touch n number i wf a x (λ u. u) (λ no.
          let d : w ≡ x = (loc.leaves x no).only w q in
          absurd (not_brought v w l (subst (λ y. i.occurs y l ≡ true) (sym d) o) (λ u. no (subst (λ y. Touches i a y) d u)) t p)) in
          let is : g ≡ group j n w = same_mask _ _
          (λ l d. after_has n number i wf c j moved s known w l (from_picked n number i wf c j moved s known a w l d))
          (λ l d. let (x, o, q) = moved.from w l (has_after n number i wf c j moved s known w l d) in
          into_picked n number i wf c j moved s known a w x l (all x l o q) q o) in
          let (l, h, o) = t in
          (subst (λ x. IsIn x (star (rel a s))) is (picked_star n number i wf c j moved s known a w v t p), l, h, moved.into v w l o p)

      missed : (v k : ℕ) → i.occurs v k ≡ true → c.puts v w ≡ true → (Touches i a v → ⊥) → IsIn (group j n w) (missing a s)
      missed v k f p nt =
          let stay = loc.leaves v nt in
          let d : w ≡ v = stay.only w p in
          let e : i.occurs w k ≡ true = subst (λ y. i.occurs y k ≡ true) (sym d) f in
          let nw : Touches i a w → ⊥ = λ u. nt (subst (λ y. Touches i a y) d u) in
          let only : (x l : ℕ) → i.occurs x l ≡ true → c.puts x w ≡ true → w ≡ x = λ x l o q.
          by_touch n number i wf a x (λ u. absurd (not_brought x w k e nw u q)) (λ nx. (loc.leaves x nx).only w q) in
          let puts : c.puts w w ≡ true = subst (λ y. c.puts y w ≡ true) (sym d) p in
          subst (λ g. IsIn g (missing a s)) (sym (same_group n number i wf c j moved s known w puts only))
          (filter_in (misses a) s (group i n w) (known w k e)
          (misses_at a (group i n w) (λ l h g. nw (l, h, has_group n number i wf w l g))))

  -- a slot that is not near the set stays free
  pub free_after : (f : ℕ) → ((k : ℕ) → Has f k → (v : ℕ) × (i.variable k ≡ Some v))
      → (k : ℕ) → Has (without f (near a s)) k → (w : ℕ) × (j.variable k ≡ Some w)
  free_after f all k h =
      let (v, e) = all k (without_left f (near a s) k h) in
      let o = wf.itself k v e in
      let no : Touches i a v → ⊥ = λ t. without_right f (near a s) k h
      (near_in a s (group i n v) k (known v k o) (touch_meets n number i wf a v t) (group_has n number i wf v k o)) in
      (v, moved.to_variable k v v e (loc.leaves v no).image)

  -- a slot stays free where each slot of the set that shares a group with it is free in the answer
  pub back_free_after : (f fa : ℕ) → ((k : ℕ) → Has f k → (v : ℕ) × (i.variable k ≡ Some v))
      → ((k : ℕ) → Has a k → Has fa k → (u : ℕ) × (j.variable k ≡ Some u))
      → (k : ℕ) → Has (back_free a fa s f) k → (w : ℕ) × (j.variable k ≡ Some w)
  back_free_after f fa all after k h =
      let (v, e) = all k (without_left f (near (without a fa) s) k h) in
      by_touch n number i wf a v (touched v e) (λ no. (v, moved.to_variable k v v e (loc.leaves v no).image))
    where
      touched : (v : ℕ) → i.variable k ≡ Some v → Touches i a v → (w : ℕ) × (j.variable k ≡ Some w)
      touched v e t =
          let (l, p, o) = t in
          let free : Has fa l = by_test (has_slot fa l) (λ y. y) (λ no. absurd (without_right f (near (without a fa) s) k h
          (near_in (without a fa) s (group i n v) k (known v l o)
          (meets_at (without a fa) (group i n v) l (has_without a fa l p (λ y. not_both y no)) (group_has n number i wf v l o))
          (group_has n number i wf v k (wf.itself k v e))))) in
          let (u, q) = after l p free in
          let (x, r, m) = moved.from_variable l u q in
          (u, moved.to_variable k v u e (subst (λ y. c.image y ≡ Some u) (sym (wf.alone l x v r o)) m))

-- behind an answer, before the projection
pub answered_describes : (number : ℕ) (v : Shares) (i j : Instance) (c : Change) (a : ℕ) (answer : List ℕ) (fa : ℕ)
    → IsInstance v.slots number i → Describes v i → IsMoved i c j → IsLocal i a number c → Answers v.slots a answer fa j
    → Describes (answered a answer fa v) j
answered_describes number v i j c a answer fa wf d moved loc ans = record {
  groups = λ w k e. by_either (group_after v.slots number i wf c j moved v.groups d.groups a loc w k e)
      (λ m. normal_in _ _ (append_left (missing a v.groups) _ _ m))
      (λ t. let (m, l, h, o) = t in normal_in _ _ (append_right (missing a v.groups) _ _
      (filter_in (λ g. has answer (bit_and a g)) (star (rel a v.groups)) (group j v.slots w) m
      (in_contains answer _ (ans.groups w l h o)))));
  free = back_free_after v.slots number i wf c j moved v.groups d.groups a loc v.free fa d.free ans.free;
}

pub havocked_describes : (number : ℕ) (v : Shares) (i j : Instance) (c : Change) (a : ℕ)
    → IsInstance v.slots number i → Describes v i → IsMoved i c j → IsLocal i a number c → Describes (havocked a v) j
havocked_describes number v i j c a wf d moved loc = record {
  groups = λ w k e. by_either (group_after v.slots number i wf c j moved v.groups d.groups a loc w k e)
      (λ m. normal_in _ _ (append_left (missing a v.groups) _ _ m))
      (λ t. normal_in _ _ (append_right (missing a v.groups) _ _ t.0));
  free = free_after v.slots number i wf c j moved v.groups d.groups a loc v.free d.free;
}

pub grounded_describes : (number : ℕ) (v : Shares) (i j : Instance) (c : Change) (a : ℕ)
    → IsInstance v.slots number i → Describes v i → IsMoved i c j → IsLocal i a number c
    → ((w k : ℕ) → Has a k → j.occurs w k ≡ true → ⊥) → Describes (grounded a v) j
grounded_describes number v i j c a wf d moved loc closed = record {
  groups = λ w k e. by_either (group_after v.slots number i wf c j moved v.groups d.groups a loc w k e) (λ m. m)
      (λ t. let (m, l, h, o) = t in absurd (closed w l h o));
  free = free_after v.slots number i wf c j moved v.groups d.groups a loc v.free d.free;
}

-- the terms of two slots are identical
pub same_describes : (number : ℕ) (v : Shares) (i : Instance) (x y : ℕ) → IsInstance v.slots number i → Describes v i
    → ((w : ℕ) → i.occurs w x ≡ i.occurs w y) → Describes (same (mask_of x) (mask_of y) v) i
same_describes number v i x y wf d equal = record {
  groups = λ w k e. filter_in (alike (mask_of x) (mask_of y)) v.groups (group i v.slots w) (d.groups w k e)
      (by_test (meets (mask_of x) (group i v.slots w))
      (λ t. rw t (there w x y (equal w) t))
      (λ t. rw t (by_test (meets (mask_of y) (group i v.slots w)) (λ u. absurd (not_both (there w y x (sym (equal w)) u) t)) (λ u. rw u))));
  free = d.free;
}
  where
    there : (w x y : ℕ) → i.occurs w x ≡ i.occurs w y → meets (mask_of x) (group i v.slots w) ≡ true → meets (mask_of y) (group i v.slots w) ≡ true
    there w x y equal t =
        let (k, h, o) = meets_touch v.slots number i wf (mask_of x) w t in
        touch_meets v.slots number i wf (mask_of y) w (y, has_of y, sym equal ∙ subst (λ z. i.occurs w z ≡ true) (of_has x k h) o)

pub any_at : (a : ℕ) (gs : List ℕ) (g : ℕ) → IsIn g gs → meets a g ≡ true → any_meets a gs ≡ true
any_at a [] g m e = absurd m
any_at a (h ∷ gs) g (inl d) e = rw (subst (λ x. meets a x ≡ true) (sym d) e)
any_at a (h ∷ gs) g (inr m) e = by_test (meets a h) (λ t. rw t) (λ t. rw t (any_at a gs g m e))

-- where the argument is a variable, Var gives a state that describes it
pub var_describes : (number : ℕ) (v : Shares) (i : Instance) (t : Side) (y : ℕ) → IsInstance v.slots number i → Describes v i
    → variable_at i t ≡ Some y → (w : Shares) × (var_at t v ≡ Some w) × Describes w i
var_describes number v i (Other set) y wf d e = cc
var_describes number v i (Slot x) y wf d e =
    let o = wf.itself x y e in
    let any : any_meets (mask_of x) v.groups ≡ true = any_at (mask_of x) v.groups (group i v.slots y) (d.groups y x o)
    (touch_meets v.slots number i wf (mask_of x) y (x, has_of x, o)) in (
      freed x v,
      rw any refl,
      record {
        groups = d.groups;
        free = λ k h. by_either (has_or v.free (mask_of x) k h) (d.free k) (λ l. (y, subst (λ z. i.variable z ≡ Some y) (sym (of_has x k l)) e));
      },
    )

-- where it is none, Nonvar does
pub nonvar_describes : (v : Shares) (i : Instance) (t : Side) → Describes v i
    → variable_at i t ≡ None → (w : Shares) × (nonvar_at t v ≡ Some w) × Describes w i
nonvar_describes v i (Other set) d e = (v, refl, d)
nonvar_describes v i (Slot x) d e = by_test (has_slot v.free x)
    (λ t. let (y, f) = d.free x t in cc)
    (λ t. (v, rw t refl, d))
