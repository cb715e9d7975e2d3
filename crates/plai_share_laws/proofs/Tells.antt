-- Properties of described tuples.
use Rattle.std.proofs.Common.{◌≡◌, ℕ, ◌-◌, ◌<◌, ◌≤◌, Bool, true, false, ◌||◌, nat_lt, All, List, [], ◌∷◌, map, length, Some, refl, sym, ap, subst, ◌∙◌, inl}
use Rattle.std.proofs.Common.{inr, arith, rules}
use Rattle.std.specs.List.{list_all, list_any, AllByRecursion}
use Rattle.std.proofs.lemmas.Bool.{eq-eqb}
use Rattle.std.proofs.lemmas.List.Elements.{recursion_from_All}
use Rattle.plai_terms.specs.declared.term.Term.{Term, Var, Int, the_lemmas}
use Rattle.plai_terms.specs.declared.prop.Prop.{Prop}
use Rattle.plai_terms.specs.declared.prop.Prop.TheVariants as property
use Rattle.plai_terms.specs.declared.abs.Abs.{Abs}
use Rattle.plai_terms.specs.Term.{is_ground, occurs}
use Rattle.plai_terms.proofs.Terms.{induction, occurs-Compound}
use Rattle.plai_terms.proofs.Substs.{is_ground-Compound}
use Rattle.plai_terms.proofs.Under.{occurs-Var}
use Rattle.plai_domain.specs.Instances.{argument, IsInt, has_property, has_properties, speaks_within}
use Rattle.plai_domain.specs.Soundness.{TellsTruly}
use Rattle.plai_share_laws.specs.Sides.{variable_of}
use Rattle.plai_share_laws.specs.Properties.{describe}
use Rattle.plai_share_laws.specs.Sharing.{shares_of, Leq, Describes, sharing}
use Rattle.plai_share_laws.proofs.Members.{IsIn}
use Rattle.plai_share_laws.proofs.Parts.{and_parts, and_both}
use Rattle.plai_share_laws.proofs.Meaning.{Holds, AreIntegers, IsInstance}
use Rattle.plai_share_laws.proofs.Properties.{describe_describes, entailed_holds, excluded_fails}
use Rattle.plai_share_laws.proofs.Rank.{describe_value}
use Rattle.plai_share_laws.proofs.Placed.{term_at, tuple_of}
use Rattle.plai_share_laws.proofs.TermVariables.{is_that, variable_of-Int}
use Rattle.plai_share_laws.proofs.TermMoves.{terms_wf}
use Rattle.plai_share_laws.proofs.Tuples.{lower_test}
use Rattle.plai_share_laws.proofs.Entered.{terms_bounded}
use Rattle.plai_share_laws.proofs.Allowed.{closed, argument_is, variable_there, no_variable}
use Rattle.plai_share_laws.proofs.Acts.{pattern_describes, of_pattern}

pub every : {A : Type 0} (P : A → Type 0) (xs : List A) → AllByRecursion P xs → (x : A) → IsIn x xs → P x
every P [] h x i = absurd i
every P (y ∷ ys) h x (inl e) = subst P e h.0
every P (y ∷ ys) h x (inr i) = every P ys h.1 x i

-- where no variable occurs, the term is ground
abbrev IsGroundThen : Term → Type 0
IsGroundThen t = ((w : ℕ) → occurs w t ≡ true → ⊥) → is_ground t ≡ true

all_ground : (args : List Term) → AllByRecursion IsGroundThen args → ((w : ℕ) → list_any (λ b. b) (map (occurs w) args) ≡ true → ⊥)
    → list_all (λ b. b) (map is_ground args) ≡ true
all_ground [] h n = refl
all_ground (a ∷ args) h n = and_both _ _ (h.0 (λ w o. n w (first (occurs w a) _ o))) (all_ground args h.1 (λ w o. n w (second (occurs w a) _ o)))
  where
    first : (p q : Bool) → p ≡ true → (p || q) ≡ true
    first true q e = refl
    first false q e = cc

    second : (p q : Bool) → q ≡ true → (p || q) ≡ true
    second true q e = refl
    second false q e = e

ground_then : (t : Term) → IsGroundThen t
ground_then = induction IsGroundThen
    (λ v n. absurd (n v (occurs-Var v v ∙ eq-eqb v v refl)))
    (λ z n. search (rules, the_lemmas))
    (λ a n. search (rules, the_lemmas))
    (λ name args h n. is_ground-Compound name args ∙ all_ground args h (λ w o. n w (occurs-Compound w name args ∙ o)))

module _ (ts : List Term) where
  -- the integers among the terms
  abbrev integer : ℕ → Type 0
  integer k = (k < length ts) × IsInt (term_at ts k)

  there : (w k : ℕ) → k < length ts → occurs w (term_at ts k) ≡ true → (tuple_of ts).occurs w k ≡ true
  there w k l o = and_both _ _ (lower_test k (length ts) l) o

  at : (w k : ℕ) → (tuple_of ts).occurs w k ≡ true → occurs w (term_at ts k) ≡ true
  at w k e = (and_parts (nat_lt k (length ts)) (occurs w (term_at ts k)) e).1

  in_argument : (i : ℕ) → 1 ≤ i → i ≤ length ts → (w : ℕ) → (tuple_of ts).occurs w (i - 1) ≡ true → occurs w (argument ts i) ≡ true
  in_argument i a b w e = ap (occurs w) (argument_is ts i a b) ∙ at w (i - 1) e

  of_argument : (i : ℕ) → 1 ≤ i → i ≤ length ts → (w : ℕ) → occurs w (argument ts i) ≡ true → (tuple_of ts).occurs w (i - 1) ≡ true
  of_argument i a b w e = there w (i - 1) (omega (arith, a, b)) (ap (occurs w) (sym (argument_is ts i a b)) ∙ e)

  whole : AreIntegers integer (tuple_of ts)
  whole = record {
    closed = λ k w h o.
        let (z, e) = h.1 in
        let no : occurs w (Int z) ≡ false = search (rules, the_lemmas) in
        let yes : occurs w (Int z) ≡ true = ap (occurs w) (sym e) ∙ at w k o in cc;
    no_variable = λ k x h e.
        let (z, d) = h.1 in
        let f : variable_of (term_at ts k) ≡ Some x = rw (lower_test k (length ts) h.0) at e in
        let g = sym (ap variable_of d ∙ variable_of-Int z) ∙ f in cc;
  }

  variable_here : (k x : ℕ) → k < length ts → (tuple_of ts).variable k ≡ Some x → term_at ts k ≡ Var x
  variable_here k x l e = let f : variable_of (term_at ts k) ≡ Some x = rw (lower_test k (length ts) l) at e in is_that (term_at ts k) x f

  holds : (p : Prop) → speaks_within (length ts) p → has_property ts p → Holds integer (tuple_of ts) p
  holds (property.Ground i) s h = λ w o. closed (argument ts i) h w (in_argument i s.0 s.1 w o)
  holds (property.Var i) s h = let (x, e) = h in (x, variable_there ts i s.0 s.1 x e)
  holds (property.Nonvar i) s h = no_variable ts i s.0 s.1 h
  holds (property.Int i) s h = (omega (arith, s.0, s.1), subst IsInt (argument_is ts i s.0 s.1) h)
  holds (property.Indep i j) s h = λ w o q. h w (in_argument i s.0 s.1 w o) (in_argument j s.2 s.3 w q)

  has : (p : Prop) → speaks_within (length ts) p → Holds integer (tuple_of ts) p → has_property ts p
  has (property.Ground i) s h = ground_then (argument ts i) (λ w o. h w (of_argument i s.0 s.1 w o))
  has (property.Var i) s h = let (x, e) = h in (x, argument_is ts i s.0 s.1 ∙ variable_here (i - 1) x (omega (arith, s.0, s.1)) e)
  has (property.Nonvar i) s h = λ v. let (x, e) = v in let g = variable_there ts i s.0 s.1 x e in let k = sym h ∙ g in cc
  has (property.Int i) s h = subst IsInt (sym (argument_is ts i s.0 s.1)) h.1
  has (property.Indep i j) s h = λ w o q. h w (of_argument i s.0 s.1 w o) (of_argument j s.2 s.3 w q)

  number : ℕ
  number = (terms_bounded (length ts) (term_at ts)).0

  wf : IsInstance (length ts) number (tuple_of ts)
  unfolding number
  wf = terms_wf (length ts) (term_at ts) number (terms_bounded (length ts) (term_at ts)).1

  pub tells_describe : (pre : List Prop) → All (speaks_within (length ts)) pre → has_properties ts pre → Describes (sharing.describe (length ts) pre) ts
  tells_describe pre w h =
      let s = every (speaks_within (length ts)) pre (recursion_from_All (speaks_within (length ts)) pre w) in
      let p = every (has_property ts) pre (recursion_from_All (has_property ts) pre h) in
      pattern_describes (describe (length ts) pre) ts (describe_value (length ts) pre s)
      (describe_describes (length ts) number (tuple_of ts) wf integer whole pre (λ q i. holds q (s q i) (p q i)))

  pub tells_entails : (a : Abs) (p : Prop) → speaks_within (length ts) p → Describes a ts → sharing.entails a p ≡ true → has_property ts p
  tells_entails a p s d e =
      has p s (entailed_holds (length ts) number (tuple_of ts) wf (shares_of a) d.is_value.order.first.slots (of_pattern a ts d) integer p e)

  pub tells_excludes : (a : Abs) (p : Prop) → speaks_within (length ts) p → Describes a ts → sharing.excludes a p ≡ true → has_property ts p → ⊥
  tells_excludes a p s d e h =
      excluded_fails (length ts) number (tuple_of ts) wf (shares_of a) d.is_value.order.first.slots (of_pattern a ts d) integer whole p e (holds p s h)

pub tells_larger : (n : ℕ) (a b : Abs) (ts : List Term) → Leq n a b → Describes a ts → Describes b ts
tells_larger n a b ts h d =
    let same : n ≡ length ts = sym h.order.first.slots ∙ d.is_value.order.first.slots in
    record {
      is_value = subst (λ k. Leq k b b) same (record {
        first_is = h.second_is;
        second_is = h.second_is;
        order = record { first = h.order.second; second = h.order.second; groups = λ m t. t; free = λ k t. t };
      });
      described = record {
        groups = λ x o. h.order.groups _ (d.described.groups x o);
        free = λ k e. d.described.free k (h.order.free k e);
      };
    }

pub sharing_tells : TellsTruly sharing
sharing_tells = record {
  larger = tells_larger;
  describe = λ pre ts w h. tells_describe ts pre w h;
  entails = λ a p ts s d e. tells_entails ts a p s d e;
  excludes = λ a p ts s d e h. tells_excludes ts a p s d e h;
}
