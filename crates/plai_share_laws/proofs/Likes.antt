-- What holds of an instance holds of one with the same variables at each slot.
use Rattle.std.proofs.Common.{◌≡◌, ℕ, ◌-◌, ◌<◌, nat_lt, Option, Some, None, refl, sym, ap, ◌∙◌, inl, inr}
use Rattle.plai_base.specs.Mask.{mask_of}
use Rattle.plai_terms.specs.Term.{occurs}
use Rattle.plai_terms.specs.declared.term.Term.{Term}
use Rattle.plai_domain.specs.declared.action.Action.{Action}
use Rattle.plai_domain.specs.declared.action.Action.TheVariants as action
use Rattle.plai_share_laws.specs.Shares.{Slot}
use Rattle.plai_share_laws.specs.Sides.{variable_of}
use Rattle.plai_share_laws.proofs.Masks.{by_test}
use Rattle.plai_share_laws.proofs.Lists.{by_either}
use Rattle.plai_share_laws.proofs.Meaning.{Instance, Change, Touches, IsLocal, Renames, IsUnifier, Allows}
use Rattle.plai_share_laws.proofs.NewSlots.{IsLike}
use Rattle.plai_share_laws.proofs.Placed.{placed}
use Rattle.plai_share_laws.proofs.Tuples.{lower}

pub like_sym : (i j : Instance) → IsLike i j → IsLike j i
like_sym i j s = record { occurs = λ w l. sym (s.occurs w l); variable = s.variable_back; variable_back = s.variable }

pub like_trans : (i j k : Instance) → IsLike i j → IsLike j k → IsLike i k
like_trans i j k s t = record {
  occurs = λ w l. s.occurs w l ∙ t.occurs w l;
  variable = λ l y e. t.variable l y (s.variable l y e);
  variable_back = λ l y e. s.variable_back l y (t.variable_back l y e);
}

-- the same terms at the slots
module _ (n : ℕ) (p q : ℕ → Term) (same : (k : ℕ) → k < n → p k ≡ q k) where
  variable_same : (k y : ℕ) → (placed n p).variable k ≡ Some y → (placed n q).variable k ≡ Some y
  variable_same k y e = by_test (nat_lt k n)
      (λ t. let f : variable_of (p k) ≡ Some y = rw t at e in
      let g : variable_of (q k) ≡ Some y = ap variable_of (sym (same k (lower k n t))) ∙ f in rw t g)
      (λ t. let f = rw t at e in cc)

pub placed_like : (n : ℕ) (p q : ℕ → Term) → ((k : ℕ) → k < n → p k ≡ q k) → IsLike (placed n p) (placed n q)
placed_like n p q same = record {
  occurs = λ w l. by_test (nat_lt l n) (λ t. rw t (ap (occurs w) (same l (lower l n t)))) (λ t. rw t refl);
  variable = variable_same n p q same;
  variable_back = variable_same n q p (λ k l. sym (same k l));
}

module _ (i j : Instance) (s : IsLike i j) where
  pub touch_over : (set v : ℕ) → Touches i set v → Touches j set v
  touch_over set v t = let (k, h, o) = t in (k, h, sym (s.occurs v k) ∙ o)

  pub touch_back : (set v : ℕ) → Touches j set v → Touches i set v
  touch_back set v t = let (k, h, o) = t in (k, h, s.occurs v k ∙ o)

  pub like_local : (set number : ℕ) (c : Change) → IsLocal i set number c → IsLocal j set number c
  like_local set number c loc = record {
    leaves = λ v nt. loc.leaves v (λ t. nt (touch_over set v t));
    brings = λ v w t p. by_either (loc.brings v w (touch_back set v t) p) (λ h. inl (touch_over set w h)) inr;
  }

  like_renames : (set : ℕ) (c : Change) → Renames i set c → Renames j set c
  like_renames set c r = record {
    to_variable = λ v t. r.to_variable v (touch_back set v t);
    apart = λ v w u t h. r.apart v w u (touch_back set v t) (touch_back set w h);
  }

  like_unifier : (k l : ℕ) (c : Change) → IsUnifier i (Slot k) (Slot l) c → IsUnifier j (Slot k) (Slot l) c
  like_unifier k l c u =
      let a = mask_of k in
      let b = mask_of l in
      record {
        unifies = record {
          leaves = λ v na nb. u.unifies.leaves v (λ t. na (touch_over a v t)) (λ t. nb (touch_over b v t));
          brings = λ v w t p. by_either (u.unifies.brings v w (by_either t (λ h. inl (touch_back a v h)) (λ h. inr (touch_back b v h))) p)
              (λ h. inl (touch_over a w h)) (λ h. inr (touch_over b w h));
          across = λ v w t p. let (z, h, q) = u.unifies.across v w (touch_back a v t) p in (z, touch_over b z h, q);
          back = λ v w t p. let (z, h, q) = u.unifies.back v w (touch_back b v t) p in (z, touch_over a z h, q);
        };
        left = λ y e. like_renames b c (u.left y (s.variable_back k y e));
        right = λ y e. like_renames a c (u.right y (s.variable_back l y e));
      }

  like_none : (k : ℕ) → i.variable k ≡ None → j.variable k ≡ None
  like_none k e = split (j.variable k) refl
    where
      split : (o : Option ℕ) → j.variable k ≡ o → j.variable k ≡ None
      split None f = f
      split (Some y) f = let g = s.variable_back k y f in cc

  module _ (i' j' : Instance) (s' : IsLike i' j') where
    pub like_allows : (a : Action) (number : ℕ) (c : Change) → Allows a number i c i' → Allows a number j c j'
    like_allows action.Fail number c h = absurd h
    like_allows (action.Unify k l) number c h = like_unifier (k - 1) (l - 1) c h
    like_allows (action.Same k l) number c h = (h.0, λ w. sym (s.occurs w (k - 1)) ∙ h.1 w ∙ s.occurs w (l - 1))
    like_allows (action.Ground k) number c h = (like_local (mask_of (k - 1)) number c h.0, λ w e. h.1 w (s'.occurs w (k - 1) ∙ e))
    like_allows (action.BindInt k) number c h = (like_local (mask_of (k - 1)) number c h.0, λ w e. h.1 w (s'.occurs w (k - 1) ∙ e))
    like_allows (action.Var k) number c h = let (empty, y, e) = h in (empty, y, s.variable (k - 1) y e)
    like_allows (action.Nonvar k) number c h = (h.0, like_none (k - 1) h.1)
    like_allows (action.Havoc set) number c h = like_local set number c h
