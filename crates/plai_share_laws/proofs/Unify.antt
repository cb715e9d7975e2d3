-- unify describes the instance after the substitution.
use Rattle.std.proofs.Common.{◌≡◌, ◌⊎◌, ℕ, Bool, true, false, ◌&&◌, ◌||◌, bit_or, List, Some, refl, sym, ◌∙◌, subst, inl, inr}
use Rattle.plai_share_laws.proofs.Members.{IsIn}
use Rattle.plai_share_laws.specs.Groups.{Has, meets, misses, without, rel, missing, star, bin, near}
use Rattle.plai_share_laws.specs.Shares.{Shares, Side, Slot, Other, slots_of, is_free, united, unify_groups, lost, unify}
use Rattle.plai_share_laws.proofs.Meaning.{Instance, IsInstance, group, Describes, Change, IsMoved, Touches, Renames, Unifies, IsOne, variable_at, IsUnifier}
use Rattle.plai_share_laws.proofs.Masks.{by_test, not_both, same_mask, has_or, or_left, or_right, of_has, meets_at, meet_slot, misses_at, from_has, has_from}
use Rattle.plai_share_laws.proofs.Masks.{without_left, without_right}
use Rattle.plai_share_laws.proofs.Lists.{by_either, append_left, append_right, filter_in, normal_in}
use Rattle.plai_share_laws.proofs.Sets.{part_or, bin_in, near_in}
use Rattle.plai_share_laws.proofs.Gather.{gather, in_gather, gather_in, gathered}

and_true : {p q : Bool} → p ≡ true → q ≡ true → (p && q) ≡ true
and_true {p} {q} e f = rw e f

true_left : (p q : Bool) → (p && q) ≡ true → p ≡ true
true_left true q e = refl
true_left false q e = e

true_right : (p q : Bool) → (p && q) ≡ true → q ≡ true
true_right true q e = e
true_right false q e = cc

-- groups of variables
module _ (n number : ℕ) (i : Instance) (wf : IsInstance n number i) where
  pub group_has : (v k : ℕ) → i.occurs v k ≡ true → Has (group i n v) k
  group_has v k e = has_from (i.occurs v) n k (wf.within v k e) e

  pub has_group : (v k : ℕ) → Has (group i n v) k → i.occurs v k ≡ true
  has_group v k h = let (l, e) = from_has (i.occurs v) n k h in e

  pub touch_meets : (a v : ℕ) → Touches i a v → meets a (group i n v) ≡ true
  touch_meets a v t = let (k, h, e) = t in meets_at a (group i n v) k h (group_has v k e)

  pub meets_touch : (a v : ℕ) → meets a (group i n v) ≡ true → Touches i a v
  meets_touch a v e = let (k, h, l) = meet_slot a (group i n v) e in (k, h, has_group v k l)

  -- a variable touches the set or doesn't
  pub by_touch : {C : Type 0} (a v : ℕ) → (Touches i a v → C) → ((Touches i a v → ⊥) → C) → C
  by_touch a v f g = by_test (meets a (group i n v)) (λ t. f (meets_touch a v t)) (λ t. g (λ h. not_both (touch_meets a v h) t))

-- the variables that touch the set and whose image has w
abbrev pub picked : Instance → ℕ → Change → ℕ → ℕ → ℕ → Bool
picked i n c a w v = meets a (group i n v) && c.puts v w

module _ (n number : ℕ) (i : Instance) (wf : IsInstance n number i) (c : Change) (j : Instance) (moved : IsMoved i c j)
    (s : List ℕ) (known : (v k : ℕ) → i.occurs v k ≡ true → IsIn (group i n v) s) where
  pub after_has : (w k : ℕ) → j.occurs w k ≡ true → Has (group j n w) k
  after_has w k e = let (v, f, p) = moved.from w k e in has_from (j.occurs w) n k (wf.within v k f) e

  pub has_after : (w k : ℕ) → Has (group j n w) k → j.occurs w k ≡ true
  has_after w k h = let (l, e) = from_has (j.occurs w) n k h in e

  -- a variable that comes from itself alone keeps its group
  pub same_group : (w : ℕ) → c.puts w w ≡ true → ((v k : ℕ) → i.occurs v k ≡ true → c.puts v w ≡ true → w ≡ v) → group j n w ≡ group i n w
  same_group w p only = same_mask _ _
      (λ k h. let (v, e, q) = moved.from w k (has_after w k h) in group_has n number i wf w k (subst (λ x. i.occurs x k ≡ true) (sym (only v k e q)) e))
      (λ k h. after_has w k (moved.into w w k (has_group n number i wf w k h) p))

  -- a union of groups that meet a
  pub from_picked : (a w k : ℕ) → Has (gather (picked i n c a w) (group i n) number) k → j.occurs w k ≡ true
  from_picked a w k h = let (v, e, l) = in_gather (picked i n c a w) (group i n) number k h in
      moved.into v w k (has_group n number i wf v k l) (true_right (meets a (group i n v)) (c.puts v w) e)

  pub into_picked : (a w v k : ℕ) → Touches i a v → c.puts v w ≡ true → i.occurs v k ≡ true → Has (gather (picked i n c a w) (group i n) number) k
  into_picked a w v k t p e = gather_in (picked i n c a w) (group i n) number v k (wf.below v k e)
      (and_true (touch_meets n number i wf a v t) p) (group_has n number i wf v k e)

  pub rel_group : (a v k : ℕ) → meets a (group i n v) ≡ true → i.occurs v k ≡ true → IsIn (group i n v) (rel a s)
  rel_group a v k m e = filter_in (meets a) s (group i n v) (known v k e) m

  pub picked_star : (a w v : ℕ) → Touches i a v → c.puts v w ≡ true → IsIn (gather (picked i n c a w) (group i n) number) (star (rel a s))
  picked_star a w v t p = let (k, h, e) = t in
      gathered (picked i n c a w) (group i n) (rel a s)
      (λ x q. let m = true_left (meets a (group i n x)) (c.puts x w) q in let (l, g, f) = meets_touch n number i wf a x m in rel_group a x l m f)
      number v k (wf.below v k e) (and_true (touch_meets n number i wf a v t) p) (group_has n number i wf v k e)

  module _ (a b : ℕ) (u : Unifies i a b c) where
    -- a variable of neither side keeps its group
    untouched : (w k : ℕ) → j.occurs w k ≡ true → (Touches i a w → ⊥) → (Touches i b w → ⊥) → IsIn (group j n w) (missing (bit_or a b) s)
    untouched w k e na nb =
        let stay = u.leaves w na nb in
        let only : (v k : ℕ) → i.occurs v k ≡ true → c.puts v w ≡ true → w ≡ v = λ v k f p.
        by_touch n number i wf a v (λ t. absurd (by_either (u.brings v w (inl t) p) na nb))
        (λ ma. by_touch n number i wf b v (λ t. absurd (by_either (u.brings v w (inr t) p) na nb)) (λ mb. (u.leaves v ma mb).only w p)) in
        let same = same_group w stay.itself only in
        let (v, f, p) = moved.from w k e in
        subst (λ g. IsIn g (missing (bit_or a b) s)) (sym same)
        (filter_in (misses (bit_or a b)) s (group i n w) (known w k (subst (λ x. i.occurs x k ≡ true) (sym (only v k f p)) f))
        (misses_at (bit_or a b) (group i n w) (λ l h g. by_either (has_or a b l h)
        (λ q. na (l, q, has_group n number i wf w l g)) (λ q. nb (l, q, has_group n number i wf w l g)))))

    -- what a variable of a side comes from touches a side
    sides : (w v : ℕ) → Touches i a w ⊎ Touches i b w → c.puts v w ≡ true → Touches i a v ⊎ Touches i b v
    sides w v t p = by_touch n number i wf a v inl (λ ma. by_touch n number i wf b v inr
        (λ mb. subst (λ x. Touches i a x ⊎ Touches i b x) ((u.leaves v ma mb).only w p) t))

    -- from one variable of each side
    both : (w k : ℕ) → j.occurs w k ≡ true → Touches i a w ⊎ Touches i b w
        → (v : ℕ) × (x : ℕ) × (Touches i a v) × (c.puts v w ≡ true) × (Touches i b x) × (c.puts x w ≡ true)
    both w k e t = let (v, f, p) = moved.from w k e in by_either (sides w v t p)
        (λ l. let (x, m, q) = u.across v w l p in (v, x, l, p, m, q))
        (λ l. let (x, m, q) = u.back v w l p in (x, v, m, q, l, p))

    by_stars : (w k : ℕ) → j.occurs w k ≡ true → Touches i a w ⊎ Touches i b w → IsIn (group j n w) (bin (star (rel a s)) (star (rel b s)))
    by_stars w k e t =
        let (v, x, l, p, m, q) = both w k e t in
        let g = gather (picked i n c a w) (group i n) number in
        let h = gather (picked i n c b w) (group i n) number in
        let is : bit_or g h ≡ group j n w = same_mask _ _
        (part_or g h _ (λ k d. after_has w k (from_picked a w k d)) (λ k d. after_has w k (from_picked b w k d)))
        (λ k d. let (y, f, r) = moved.from w k (has_after w k d) in by_either (sides w y t r)
        (λ o. or_left g h k (into_picked a w y k o r f)) (λ o. or_right g h k (into_picked b w y k o r f))) in
        subst (λ o. IsIn o (bin (star (rel a s)) (star (rel b s)))) is
        (bin_in (star (rel a s)) (star (rel b s)) g h (picked_star a w v l p) (picked_star b w x m q))

    -- where only one variable of each side comes in
    by_ones : (w k : ℕ) → j.occurs w k ≡ true → Touches i a w ⊎ Touches i b w
        → ((v x : ℕ) → Touches i a v → Touches i a x → c.puts v w ≡ true → c.puts x w ≡ true → v ≡ x)
        → ((v x : ℕ) → Touches i b v → Touches i b x → c.puts v w ≡ true → c.puts x w ≡ true → v ≡ x)
        → IsIn (group j n w) (bin (rel a s) (rel b s))
    by_ones w k e t one other =
        let (v, x, l, p, m, q) = both w k e t in
        let g = group i n v in
        let h = group i n x in
        let is : bit_or g h ≡ group j n w = same_mask _ _
        (part_or g h _ (λ k d. after_has w k (moved.into v w k (has_group n number i wf v k d) p))
        (λ k d. after_has w k (moved.into x w k (has_group n number i wf x k d) q)))
        (λ k d. let (y, f, r) = moved.from w k (has_after w k d) in by_either (sides w y t r)
        (λ o. or_left g h k (group_has n number i wf v k (subst (λ z. i.occurs z k ≡ true) (one y v o l r p) f)))
        (λ o. or_right g h k (group_has n number i wf x k (subst (λ z. i.occurs z k ≡ true) (other y x o m r q) f)))) in
        let (k1, h1, e1) = l in
        let (k2, h2, e2) = m in
        subst (λ o. IsIn o (bin (rel a s) (rel b s))) is (bin_in (rel a s) (rel b s) g h
        (rel_group a v k1 (touch_meets n number i wf a v l) e1) (rel_group b x k2 (touch_meets n number i wf b x m) e2))

    -- one says that a side is a free variable
    pub unify_group : (fa fb : Bool) → (fa ≡ true → IsOne i a × Renames i b c) → (fb ≡ true → IsOne i b × Renames i a c)
        → (w k : ℕ) → j.occurs w k ≡ true → IsIn (group j n w) (unify_groups (fa || fb) a b s)
    unify_group fa fb left right w k e =
        by_touch n number i wf a w (λ t. touched (inl t)) (λ na. by_touch n number i wf b w (λ t. touched (inr t))
        (λ nb. normal_in _ _ (append_left (missing (bit_or a b) s) _ _ (untouched w k e na nb))))
      where
        new : (one : Bool) → IsIn (group j n w) (united one (rel a s) (rel b s)) → IsIn (group j n w) (unify_groups one a b s)
        new one h = normal_in _ _ (append_right (missing (bit_or a b) s) _ _ h)

        cases : (fa fb : Bool) → (fa ≡ true → IsOne i a × Renames i b c) → (fb ≡ true → IsOne i b × Renames i a c)
            → Touches i a w ⊎ Touches i b w → IsIn (group j n w) (united (fa || fb) (rel a s) (rel b s))
        cases true fb left right t =
            let (y, alone) = (left refl).0 in
            let ren = (left refl).1 in
            by_ones w k e t (λ v x o m p q. alone v o ∙ sym (alone x m)) (λ v x o m p q. ren.apart v x w o m p q)
        cases false true left right t =
            let (y, alone) = (right refl).0 in
            let ren = (right refl).1 in
            by_ones w k e t (λ v x o m p q. ren.apart v x w o m p q) (λ v x o m p q. alone v o ∙ sym (alone x m))
        cases false false left right t = by_stars w k e t

        touched : Touches i a w ⊎ Touches i b w → IsIn (group j n w) (unify_groups (fa || fb) a b s)
        touched t = new (fa || fb) (cases fa fb left right t)

    -- a slot whose variable touches the set is near it
    pub near_touched : (set k v : ℕ) → i.variable k ≡ Some v → Touches i set v → Has (near set s) k
    near_touched set k v e t =
        let o = wf.itself k v e in
        near_in set s (group i n v) k (known v k o) (touch_meets n number i wf set v t) (group_has n number i wf v k o)

    -- the image of a variable at a slot that is not lost is a variable
    stays_variable : (fa fb : Bool) → (fa ≡ true → Renames i b c) → (fb ≡ true → Renames i a c)
        → (k v : ℕ) → i.variable k ≡ Some v → (Has (lost fa fb a b s) k → ⊥) → (y : ℕ) × (c.image v ≡ Some y)
    stays_variable fa fb left right k v e keep =
        by_touch n number i wf a v (at_a fa fb left right keep)
        (λ na. by_touch n number i wf b v (at_b fa fb left right keep) (λ nb. (v, (u.leaves v na nb).image)))
      where
        at_a : (fa fb : Bool) → (fa ≡ true → Renames i b c) → (fb ≡ true → Renames i a c) → (Has (lost fa fb a b s) k → ⊥)
            → Touches i a v → (y : ℕ) × (c.image v ≡ Some y)
        at_a fa true left right keep t = (right refl).to_variable v t
        at_a true false left right keep t = absurd (keep (near_touched a k v e t))
        at_a false false left right keep t = let (l, h, o) = t in absurd (keep (near_touched (bit_or a b) k v e (l, or_left a b l h, o)))

        at_b : (fa fb : Bool) → (fa ≡ true → Renames i b c) → (fb ≡ true → Renames i a c) → (Has (lost fa fb a b s) k → ⊥)
            → Touches i b v → (y : ℕ) × (c.image v ≡ Some y)
        at_b true fb left right keep t = (left refl).to_variable v t
        at_b false true left right keep t = absurd (keep (near_touched b k v e t))
        at_b false false left right keep t = let (l, h, o) = t in absurd (keep (near_touched (bit_or a b) k v e (l, or_right a b l h, o)))

    pub unify_free : (fa fb : Bool) → (fa ≡ true → Renames i b c) → (fb ≡ true → Renames i a c)
        → (f : ℕ) → ((k : ℕ) → Has f k → (v : ℕ) × (i.variable k ≡ Some v))
        → (k : ℕ) → Has (without f (lost fa fb a b s)) k → (w : ℕ) × (j.variable k ≡ Some w)
    unify_free fa fb left right f all k h =
        let (v, e) = all k (without_left f (lost fa fb a b s) k h) in
        let (y, q) = stays_variable fa fb left right k v e (without_right f (lost fa fb a b s) k h) in
        (y, moved.to_variable k v y e q)

-- a free side is one variable
free_variable : (i : Instance) (f : ℕ) → ((k : ℕ) → Has f k → (v : ℕ) × (i.variable k ≡ Some v))
    → (x : Side) → is_free f x ≡ true → (y : ℕ) × (variable_at i x ≡ Some y)
free_variable i f all (Slot k) h = all k h
free_variable i f all (Other set) h = cc

pub only_variable : (n number : ℕ) (i : Instance) → IsInstance n number i → (x : Side) (y : ℕ) → variable_at i x ≡ Some y
    → (v : ℕ) → Touches i (slots_of x) v → v ≡ y
only_variable n number i wf (Slot k) y e v t = let (l, h, o) = t in wf.alone k y v e (subst (λ z. i.occurs v z ≡ true) (of_has k l h) o)
only_variable n number i wf (Other set) y e v t = cc

one_variable : (n number : ℕ) (i : Instance) → IsInstance n number i → (x : Side) (y : ℕ) → variable_at i x ≡ Some y → IsOne i (slots_of x)
one_variable n number i wf x y e = (y, only_variable n number i wf x y e)

-- what unify gives describes the instance behind the unifier
pub unify_describes : (number : ℕ) (v : Shares) (i j : Instance) (c : Change) (x t : Side)
    → IsInstance v.slots number i → Describes v i → IsMoved i c j → IsUnifier i x t c → Describes (unify x t v) j
unify_describes number v i j c x t wf d moved u =
    let n = v.slots in
    let known = d.groups in
    let left : is_free v.free x ≡ true → IsOne i (slots_of x) × Renames i (slots_of t) c =
    λ h. let (y, e) = free_variable i v.free d.free x h in (one_variable n number i wf x y e, u.left y e) in
    let right : is_free v.free t ≡ true → IsOne i (slots_of t) × Renames i (slots_of x) c =
    λ h. let (y, e) = free_variable i v.free d.free t h in (one_variable n number i wf t y e, u.right y e) in
    record {
      groups = λ w k e. unify_group n number i wf c j moved v.groups known (slots_of x) (slots_of t) u.unifies
          (is_free v.free x) (is_free v.free t) left right w k e;
      free = unify_free n number i wf c j moved v.groups known (slots_of x) (slots_of t) u.unifies
          (is_free v.free x) (is_free v.free t) (λ h. (left h).1) (λ h. (right h).1) v.free d.free;
    }
