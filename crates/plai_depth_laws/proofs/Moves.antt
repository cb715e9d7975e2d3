-- What is pulled out of skeletons keeps the order, and a push gives the greatest skeletons under which the term lies below what is pushed.
use Rattle.std.proofs.Common.{◌≡◌, inl, inr, ℕ, zero, suc, ◌<◌, ℤ, true, false, cond, nat_lt, List, [], ◌∷◌, map, length, set, Option, Some, None, refl, sym}
use Rattle.std.proofs.Common.{ap, ◌∙◌, subst, rules}
use Rattle.std.specs.Option.{option_map, option_and_then}
use Rattle.std.specs.List.{list_all, AllByRecursion}
use Rattle.std.proofs.lemmas.List.{length-map, get_or-set_same}
use Rattle.std.proofs.lemmas.Bool.{ltb-true, and_parts}
use Rattle.plai_terms.specs.declared.term.Term.{Term, Var, Int as number, Atom as constant, Compound as structure, the_lemmas}
use Rattle.plai_terms.specs.Term.{has_variables_below}
use Rattle.plai_terms.proofs.Terms.{induction}
use Rattle.plai_terms.specs.declared.skeleton.Skeleton.{Skeleton, out-Skeleton, Any, Int, Atom, Compound}
use Rattle.plai_terms.specs.declared.skeleton.Skeleton.TheOpen.{Skeleton-F}
use Rattle.plai_terms.specs.declared.skeleton.Skeleton.TheVariants.{outs-Int, outs-Atom, outs-Compound}
use Rattle.plai_domain.specs.Instances.{all_below}
use Rattle.plai_depth_laws.specs.Skeletons.{same_functor, meet}
use Rattle.plai_depth_laws.specs.Moves.{skeleton_at, pull, push_args, push_compound, push, push_all}
use Rattle.plai_depth_laws.specs.Order.{IsUnder, same, any, compound, AreUnder, none, more}
use Rattle.plai_depth_laws.proofs.Equations.{functors_equal, functor_itself}
use Rattle.plai_depth_laws.proofs.Order.{refl_all, length-AreUnder, IsUnder-trans, AreUnder-trans, under_number, under_atom, over_compound}
use Rattle.plai_depth_laws.proofs.Meets.{AllAbove, meet_greatest, meet_below}
use Rattle.plai_depth_laws.proofs.MeetLayers.{meet_under}

-- ---- equations

pub pull-Var : (ss : List Skeleton) (v : ℕ) → pull ss (Var v) ≡ skeleton_at ss v
pull-Var ss v = search (rules, the_lemmas)

pub pull-Int : (ss : List Skeleton) (n : ℤ) → pull ss (number n) ≡ Int n
pull-Int ss n = search (rules, the_lemmas)

pub pull-Atom : (ss : List Skeleton) (a : List ℕ) → pull ss (constant a) ≡ Atom a
pull-Atom ss a = search (rules, the_lemmas)

pub pull-Compound : (ss : List Skeleton) (name : List ℕ) (args : List Term) → pull ss (structure name args) ≡ Compound name (map (pull ss) args)
pull-Compound ss name args = search (rules, the_lemmas)

pub push-Var : (v : ℕ) (ss : List Skeleton) (a : Skeleton) → push (Var v) ss a ≡ option_map (set ss v) (meet (skeleton_at ss v) a)
push-Var v ss a = search (rules, the_lemmas)

pub push-Int : (n : ℤ) (ss : List Skeleton) (a : Skeleton) → push (number n) ss a ≡ option_map (λ m. ss) (meet (Int n) a)
push-Int n ss a = search (rules, the_lemmas)

pub push-Atom : (name : List ℕ) (ss : List Skeleton) (a : Skeleton) → push (constant name) ss a ≡ option_map (λ m. ss) (meet (Atom name) a)
push-Atom name ss a = search (rules, the_lemmas)

pub push-Compound : (name : List ℕ) (args : List Term) (ss : List Skeleton) (a : Skeleton)
    → push (structure name args) ss a ≡ push_compound name (map push args) ss (out-Skeleton a)
push-Compound name args ss a = search (rules, the_lemmas)

pub below-Var : (limit v : ℕ) → has_variables_below limit (Var v) ≡ nat_lt v limit
below-Var limit v = search (rules, the_lemmas)

pub below-Compound : (limit : ℕ) (name : List ℕ) (args : List Term)
    → has_variables_below limit (structure name args) ≡ list_all (λ b. b) (map (has_variables_below limit) args)
below-Compound limit name args = search (rules, the_lemmas)

-- ---- a pull keeps the order

pub at_keeps : {ss ts : List Skeleton} → AreUnder ss ts → (v : ℕ) → IsUnder (skeleton_at ss v) (skeleton_at ts v)
at_keeps none v = same refl
at_keeps (more p ps) zero = p
at_keeps (more p ps) (suc v) = at_keeps ps v

module _ (ss ts : List Skeleton) (ps : AreUnder ss ts) where
  abbrev Keeps : Term → Type 0
  Keeps t = IsUnder (pull ss t) (pull ts t)

  all_keep : (args : List Term) → AllByRecursion Keeps args → AreUnder (map (pull ss) args) (map (pull ts) args)
  all_keep [] h = none
  all_keep (a ∷ args) h = more h.0 (all_keep args h.1)

  pub pull_keeps : (t : Term) → IsUnder (pull ss t) (pull ts t)
  pull_keeps = induction Keeps
      (λ v. subst (λ s. IsUnder s (pull ts (Var v))) (sym (pull-Var ss v)) (subst (λ s. IsUnder (skeleton_at ss v) s) (sym (pull-Var ts v)) (at_keeps ps v)))
      (λ n. same (pull-Int ss n ∙ sym (pull-Int ts n)))
      (λ a. same (pull-Atom ss a ∙ sym (pull-Atom ts a)))
      (λ name args h. compound name (map (pull ss) args) (map (pull ts) args)
      (ap out-Skeleton (pull-Compound ss name args) ∙ outs-Compound name (map (pull ss) args))
      (ap out-Skeleton (pull-Compound ts name args) ∙ outs-Compound name (map (pull ts) args))
      (all_keep args h))

  pub pulls_keep : (args : List Term) → AreUnder (map (pull ss) args) (map (pull ts) args)
  pulls_keep [] = none
  pulls_keep (a ∷ args) = more (pull_keeps a) (pulls_keep args)

-- ---- what a push gives lies below, and the term lies below what is pushed

pub record Lowered (t : Term) (a : Skeleton) (ss ss' : List Skeleton) : Type 0 where
  pub under : AreUnder ss' ss
  pub fits : IsUnder (pull ss' t) a

set_under : (ss : List Skeleton) (v : ℕ) (m : Skeleton) → IsUnder m (skeleton_at ss v) → AreUnder (set ss v m) ss
set_under [] v m p = none
set_under (s ∷ ss) zero m p = more p (refl_all ss)
set_under (s ∷ ss) (suc v) m p = more (same refl) (set_under ss v m p)

pub mapped_some : {A B : Type 0} (f : A → B) (o : Option A) (b : B) → option_map f o ≡ Some b → (x : A) × (o ≡ Some x) × (b ≡ f x)
mapped_some f None b e = absurd cc
mapped_some f (Some x) b e = (x, refl, cc)

pub then_some : {A B : Type 0} (f : A → Option B) (o : Option A) (b : B) → option_and_then f o ≡ Some b → (x : A) × (o ≡ Some x) × (f x ≡ Some b)
then_some f None b e = absurd cc
then_some f (Some x) b e = (x, refl, e)

some_of : {A : Type 0} (x y : A) → Some x ≡ Some y → x ≡ y
some_of x y e = cc

-- arguments stay below what was pushed into them while the later ones go on
module _ (limit : ℕ) where
  abbrev Lowers : Term → Type 0
  Lowers t = has_variables_below limit t ≡ true → (ss ss' : List Skeleton) (a : Skeleton) → length ss ≡ limit → push t ss a ≡ Some ss' → Lowered t a ss ss'

  args_lower : (args : List Term) → AllByRecursion Lowers args → list_all (λ b. b) (map (has_variables_below limit) args) ≡ true
      → (ss ss' : List Skeleton) (as' : List Skeleton) → length ss ≡ limit → length args ≡ length as' → push_args (map push args) as' ss ≡ Some ss'
      → AreUnder ss' ss × AreUnder (map (pull ss') args) as'
  args_lower [] h w ss ss' [] len l e = let is : ss ≡ ss' = cc in (subst (λ x. AreUnder x ss) is (refl_all ss), none)
  args_lower [] h w ss ss' (a ∷ as') len l e = absurd cc
  args_lower (t ∷ args) h w ss ss' [] len l e = absurd cc
  args_lower (t ∷ args) h w ss ss' (a ∷ as') len l e =
      let k : length args ≡ length as' = cc in
      let b = and_parts (has_variables_below limit t) (list_all (λ b. b) (map (has_variables_below limit) args)) w in
      let (mid, f, g) = then_some (push_args (map push args) as') (push t ss a) ss' e in
      let first = h.0 b.0 ss mid a len f in
      let (under, rest) = args_lower args h.1 b.1 mid ss' as' (length-AreUnder first.under ∙ len) k g in
      (AreUnder-trans under first.under, more (IsUnder-trans (pull_keeps ss' mid under t) first.fits) rest)

  compound_lowers : (name : List ℕ) (args : List Term) → AllByRecursion Lowers args → list_all (λ b. b) (map (has_variables_below limit) args) ≡ true
      → (ss ss' : List Skeleton) (a : Skeleton) → length ss ≡ limit → (x : Skeleton-F Skeleton) → out-Skeleton a ≡ x
      → push_compound name (map push args) ss x ≡ Some ss'
      → Lowered (structure name args) a ss ss'
  compound_lowers name args h w ss ss' a len Skeleton-F.Any i e = let is : ss ≡ ss' = cc in
      record { under = subst (λ x. AreUnder x ss) is (refl_all ss); fits = any i }
  compound_lowers name args h w ss ss' a len (Skeleton-F.Compound other as') i e =
      elim (same_functor name (length (map push args)) other (length as')) as (λ b. same_functor name (length (map push args)) other (length as') ≡ b
      → cond b (push_args (map push args) as' ss) None ≡ Some ss' → Lowered (structure name args) a ss ss') [
        | true ↦ λ q r.
            let c = functors_equal name (length (map push args)) other (length as') q in
            let (under, fit) = args_lower args h w ss ss' as' len (sym (length-map args push) ∙ c.1) r in
            record {
              under = under;
              fits = compound name (map (pull ss') args) as' (ap out-Skeleton (pull-Compound ss' name args) ∙ outs-Compound name (map (pull ss') args))
                  (i ∙ ap (λ n. Skeleton-F.Compound n as') (sym c.0)) fit;
            }
        | false ↦ λ q r. absurd cc
      ] refl e
  compound_lowers name args h w ss ss' a len _ i e = absurd cc

  pub push_lowers : (t : Term) → has_variables_below limit t ≡ true → (ss ss' : List Skeleton) (a : Skeleton) → length ss ≡ limit → push t ss a ≡ Some ss'
      → Lowered t a ss ss'
  push_lowers = induction Lowers
      (λ v w ss ss' a len e.
      let l : v < limit = ltb-true v limit (sym (below-Var limit v) ∙ w) in
      let there : v < length ss = subst (λ n. v < n) (sym len) l in
      let (m, f, is) = mapped_some (set ss v) (meet (skeleton_at ss v) a) ss' (sym (push-Var v ss a) ∙ e) in
      let p = meet_below (skeleton_at ss v) a m f in
      let got : pull ss' (Var v) ≡ m = pull-Var ss' v ∙ ap (λ x. skeleton_at x v) is ∙ get_or-set_same ss v m Any there in
      record {
        under = subst (λ x. AreUnder x ss) (sym is) (set_under ss v m p.0);
        fits = subst (λ s. IsUnder s a) (sym got) p.1;
      })
      (λ n w ss ss' a len e.
      let (m, f, is) = mapped_some (λ m. ss) (meet (Int n) a) ss' (sym (push-Int n ss a) ∙ e) in
      let p = meet_below (Int n) a m f in
      record {
        under = subst (λ x. AreUnder x ss) (sym is) (refl_all ss);
        fits = IsUnder-trans (same (pull-Int ss' n ∙ sym (under_number n p.0 (outs-Int n)))) p.1;
      })
      (λ name w ss ss' a len e.
      let (m, f, is) = mapped_some (λ m. ss) (meet (Atom name) a) ss' (sym (push-Atom name ss a) ∙ e) in
      let p = meet_below (Atom name) a m f in
      record {
        under = subst (λ x. AreUnder x ss) (sym is) (refl_all ss);
        fits = IsUnder-trans (same (pull-Atom ss' name ∙ sym (under_atom name p.0 (outs-Atom name)))) p.1;
      })
      (λ name args h w ss ss' a len e.
      compound_lowers name args h (sym (below-Compound limit name args) ∙ w) ss ss' a len (out-Skeleton a) refl (sym (push-Compound name args ss a) ∙ e))

-- terms in turn
pub pushes_lower : (limit : ℕ) (ts : List Term) → all_below limit ts ≡ true → (as' : List Skeleton) → length ts ≡ length as' → (ss ss' : List Skeleton)
    → length ss ≡ limit
    → push_all ts as' ss ≡ Some ss' → AreUnder ss' ss × AreUnder (map (pull ss') ts) as'
pushes_lower limit [] w [] l ss ss' len e = let is : ss ≡ ss' = cc in (subst (λ x. AreUnder x ss) is (refl_all ss), none)
pushes_lower limit [] w (a ∷ as') l ss ss' len e = absurd cc
pushes_lower limit (t ∷ ts) w [] l ss ss' len e = absurd cc
pushes_lower limit (t ∷ ts) w (a ∷ as') l ss ss' len e =
    let k : length ts ≡ length as' = cc in
    let b = and_parts (has_variables_below limit t) (all_below limit ts) w in
    let (mid, f, g) = then_some (push_all ts as') (push t ss a) ss' e in
    let first = push_lowers limit t b.0 ss mid a len f in
    let (under, rest) = pushes_lower limit ts b.1 as' k mid ss' (length-AreUnder first.under ∙ len) g in
    (AreUnder-trans under first.under, more (IsUnder-trans (pull_keeps ss' mid under t) first.fits) rest)

-- ---- what a push gives is the greatest

pub under_set : {rs ss : List Skeleton} → AreUnder rs ss → (v : ℕ) (m : Skeleton) → IsUnder (skeleton_at rs v) m → AreUnder rs (set ss v m)
under_set none v m q = none
under_set (more p ps) zero m q = more q ps
under_set (more p ps) (suc v) m q = more p (under_set ps v m q)

chained : {rs : List Skeleton} {o : Option (List Skeleton)} (f : List Skeleton → Option (List Skeleton)) → (mid : List Skeleton) → o ≡ Some mid
    → AllAbove rs (f mid) → AllAbove rs (option_and_then f o)
chained {rs} f mid e r = subst (λ o. AllAbove rs (option_and_then f o)) (sym e) r

module _ (rs : List Skeleton) where
  abbrev Greatest : Term → Type 0
  Greatest t = (ss : List Skeleton) (a : Skeleton) → AreUnder rs ss → IsUnder (pull rs t) a → AllAbove rs (push t ss a)

  args_greatest : (args : List Term) → AllByRecursion Greatest args → (as' ss : List Skeleton) → AreUnder rs ss → AreUnder (map (pull rs) args) as'
      → AllAbove rs (push_args (map push args) as' ss)
  args_greatest [] h as' ss p q = (ss, refl, p)
  args_greatest (t ∷ args) h [] ss p q = (ss, refl, p)
  args_greatest (t ∷ args) h (a ∷ as') ss p (more q qs) =
      let (mid, e, r) = h.0 ss a p q in
      chained (push_args (map push args) as') mid e (args_greatest args h.1 as' mid r qs)

  number_fits : (s a : Skeleton) (ss : List Skeleton) → AreUnder rs ss → IsUnder s a → AllAbove rs (option_map (λ m. ss) (meet s a))
  number_fits s a ss p q = (ss, ap (option_map (λ m. ss)) (meet_under q), p)

  pub push_greatest : (t : Term) (ss : List Skeleton) (a : Skeleton) → AreUnder rs ss → IsUnder (pull rs t) a → AllAbove rs (push t ss a)
  push_greatest = induction Greatest
      (λ v ss a p q.
      let (m, e, r) = meet_greatest (at_keeps p v) (subst (λ s. IsUnder s a) (pull-Var rs v) q) in
      (set ss v m, push-Var v ss a ∙ ap (option_map (set ss v)) e, under_set p v m r))
      (λ n ss a p q. subst (AllAbove rs) (sym (push-Int n ss a)) (number_fits (Int n) a ss p (subst (λ s. IsUnder s a) (pull-Int rs n) q)))
      (λ name ss a p q. subst (AllAbove rs) (sym (push-Atom name ss a)) (number_fits (Atom name) a ss p (subst (λ s. IsUnder s a) (pull-Atom rs name) q)))
      (λ name args h ss a p q.
      subst (AllAbove rs) (sym (push-Compound name args ss a))
      (elim (over_compound name (map (pull rs) args) q (ap out-Skeleton (pull-Compound rs name args) ∙ outs-Compound name (map (pull rs) args))) [
        | inl i ↦ (ss, ap (push_compound name (map push args) ss) i, p)
        | inr r ↦
            let (ss', e, b) = args_greatest args h r.args ss p r.under in
            let len : length (map push args) ≡ length r.args = length-map args push ∙ sym (length-map args (pull rs)) ∙ length-AreUnder r.under in (
              ss',
              ap (push_compound name (map push args) ss) r.is
                  ∙ ap (λ b. cond b (push_args (map push args) r.args ss) None) (functor_itself name (length (map push args)) (length r.args) len)
                  ∙ e,
              b,
            )
      ]))

  pub pushes_greatest : (ts : List Term) (as' ss : List Skeleton) → AreUnder rs ss → AreUnder (map (pull rs) ts) as' → AllAbove rs (push_all ts as' ss)
  pushes_greatest [] as' ss p q = (ss, refl, p)
  pushes_greatest (t ∷ ts) [] ss p q = (ss, refl, p)
  pushes_greatest (t ∷ ts) (a ∷ as') ss p (more q qs) =
      let (mid, e, r) = push_greatest t ss a p q in
      chained (push_all ts as') mid e (pushes_greatest ts as' mid r qs)
