-- What the actions make of diagrams.
use Rattle.std.proofs.Common.{◌≡◌, ℕ, ◌+◌, ◌-◌, ◌⊎◌, inl, inr, ◌/◌, ◌%◌, ◌^◌, ◌<◌, ◌≤◌, Bool, true, false, true≢false, not, nat_eq, cond, ◌&&◌, ◌↔◌, IsTrue}
use Rattle.std.proofs.Common.{List, [], ◌∷◌, ◌++◌, filter, length, get_or, Option, Some, None, is_some, refl, sym, ap, ◌∙◌, arith}
use Rattle.std.specs.Bool.{beq}
use Rattle.std.proofs.lemmas.Bool.{and_parts, and_from}
use Rattle.std.proofs.lemmas.Nat.Bits.{bit_at_above, bit_at-zero}
use Rattle.plai_base.specs.Mask.{all_true, has_slot}
use Rattle.plai_base.specs.Sets.{has, has_all, IsSet}
use Rattle.plai_base.proofs.Bits.{slot_high}
use Rattle.plai_base.proofs.Sets.{has_kept, kept_has, IsSet-kept}
use Rattle.plai_terms.specs.declared.term.Term.{Term, Var, fold-Term}
use Rattle.plai_terms.specs.Term.{has_variables_below}
use Rattle.plai_domain.specs.Instances.{all_below}
use Rattle.plai_domain.specs.Plain.{StateView}
use Rattle.plai_domain.specs.declared.action.Action.{Action}
use Rattle.plai_domain.specs.declared.action.Action.TheVariants as action
use Rattle.plai_bdd.specs.declared.node.Node.{Node}
use Rattle.plai_bdd.specs.Assignment.{Assignment}
use Rattle.plai_bdd.specs.Nodes.{IsFunction, is_model, holds as answer}
use Rattle.plai_factors.specs.Product.{together}
use Rattle.plai_bdd.specs.Slots.{Somewhere}
use Rattle.plai_bdd.proofs.Functions.{IsFunction-as}
use Rattle.plai_bdd.proofs.Models.{mask_below, mask_below-lt, mask_below-slot}
use Rattle.plai_factors.proofs.Products.{together-push}
use Rattle.plai_pos_laws.specs.Assignments.{agree, holds, variable_in, variable_step, variable_at, if_variable, acted, refine_of}
use Rattle.plai_pos_laws.specs.Groundness.{state_with, state_from}
use Rattle.plai_pos_laws.proofs.Actions.{variable_of-Var, variable_at_is}
use Rattle.plai_pos_laws.proofs.Call.{both_is, truth_kept}
use Rattle.plai_pos_laws.proofs.Holds.{holds_same}
use Rattle.plai_pos_laws.proofs.Parts.{agree_true, all_of, all_from, top_holds}
use Rattle.plai_pos.specs.Values.{models_in, terms_at, determined, IsPositiveBelow}
use Rattle.plai_pos.proofs.Determined.{all_whole, filter_whole}
use Rattle.plai_pos.proofs.Literals.{range_projects}
use Rattle.plai_pos.proofs.Masks.{IsRange}
use Rattle.plai_pos.proofs.Terms.{get_or_same, beq_agree}

-- ---- the functions of the tests

from_zero : (u : ℕ) → u ≡ 0 + u
from_zero u = omega arith

top_is : (v : ℕ) (t : Term) → has_variables_below v t ≡ true → holds (has_slot (all_true v)) t ≡ true
top_is v t h = (λ i. holds (λ u. has_slot (all_true v) (from_zero u i)) t) ∙ top_holds v 0 v t (omega arith) h

pub truth_positive : (v : ℕ) (all : List Node) (t : Term) → has_variables_below v t ≡ true → IsFunction all (λ at. holds at t) → IsPositiveBelow v (answer all)
truth_positive v all t below f = record {
  over = λ at other same. f.answers at ∙ holds_same v at other same t below ∙ sym (f.answers other);
  top = f.answers (has_slot (all_true v)) ∙ top_is v t below;
}

pub agreeing_positive : (v : ℕ) (both : List Node) (s t : Term) → has_variables_below v s ≡ true → has_variables_below v t ≡ true
    → IsFunction both (λ at. agree (holds at s) (holds at t)) → IsPositiveBelow v (answer both)
agreeing_positive v both s t below_s below_t f = record {
  over = λ at other same. f.answers at ∙ (λ i. agree (holds_same v at other same s below_s i) (holds_same v at other same t below_t i)) ∙ sym (f.answers other);
  top = f.answers (has_slot (all_true v)) ∙ agree_true _ _ (top_is v s below_s) (top_is v t below_t);
}

pub agreeing_is : (first second both : List Node) (s t : Term) → IsFunction first (λ at. holds at s) → IsFunction second (λ at. holds at t)
    → IsFunction both (λ at. beq (answer first at) (answer second at)) → IsFunction both (λ at. agree (holds at s) (holds at t))
agreeing_is first second both s t f g b =
    IsFunction-as (λ at. beq_agree (answer first at) (answer second at) ∙ (λ i. agree (f.answers at i) (g.answers at i))) b

-- ---- variables

some_unless : (b : Bool) (xs : List ℕ) → is_some (cond b None (Some xs)) ≡ not b
some_unless true xs = refl
some_unless false xs = refl

pub maybe_variable : (n v : ℕ) (xs : List ℕ) (t : Term) (r : Bool) → t ≡ Var v → r ≡ has_all xs (λ x. variable_in n x v)
    → not r ≡ is_some (if_variable n xs (fold-Term (Option ℕ) variable_step t))
maybe_variable n v xs t r e h =
    ap not h
    ∙ sym (some_unless (has_all xs (λ x. variable_in n x v)) xs)
    ∙ ap (λ o. is_some (if_variable n xs o)) (sym (ap (fold-Term (Option ℕ) variable_step) e ∙ variable_of-Var v))

pub not_is : (slot never made : List Node) (u : ℕ) → IsFunction never (λ _. false) → IsFunction slot (λ at. at u)
    → IsFunction made (λ at. beq (answer slot at) (answer never at))
    → IsFunction made (λ at. not (at u))
not_is slot never made u f g h = IsFunction-as (λ at. (λ i. beq (g.answers at i) (f.answers at i)) ∙ beq_false (at u)) h
  where
    beq_false : (b : Bool) → beq b false ≡ not b
    beq_false true = refl
    beq_false false = refl

-- some assignment makes the variable false
module _ (v u mask : ℕ) (given longer : List (List Node)) (f some : List Node) (r : Bool) (room : v ≤ 64) (d : IsPositiveBelow v (together given))
    (pushed : longer ≡ given ++ f ∷ [])
    (says : IsFunction f (λ at. not (at u))) (range : IsRange mask 0 v)
    (meaning : (at : Assignment) → IsTrue (answer some at) ↔ Somewhere mask (together longer) at)
    (asked : r ≡ is_model some 0) (less : u < v) where
  longer_is : (at : Assignment) → together longer at ≡ (together given at && not (at u))
  longer_is at = ap (λ fs. together fs at) pushed ∙ together-push given f at ∙ ap (λ b. together given at && b) (says.answers at)

  all_true_of : (at : Assignment) → has_all (models_in v (together given)) (λ y. has_slot y u) ≡ true → IsTrue (together given at) → at u ≡ true
  all_true_of at all t =
      let y = mask_below v at in
      let same : (slot : ℕ) → slot < v → has_slot y slot ≡ at slot = λ slot l. mask_below-slot v at slot l in
      sym (same u less)
      ∙ all_of (models_in v (together given)) (λ y. has_slot y u) y all
      (kept_has (2 ^ v) (λ y. together given (has_slot y)) y (mask_below-lt v at) (d.over (has_slot y) at same ∙ t))

  never : r ≡ true → has_all (models_in v (together given)) (λ y. has_slot y u) ≡ true → ⊥
  never found all =
      let (other, (q, t)) = (range_projects mask v (together longer) room range (has_slot 0)).0 ((meaning (has_slot 0)).0 (sym asked ∙ found)) in
      let p = and_parts (together given other) (not (other u)) (sym (longer_is other) ∙ t) in
      true≢false (sym p.1 ∙ ap not (all_true_of other all p.0))

  always : r ≡ false → has_all (models_in v (together given)) (λ y. has_slot y u) ≡ true
  always none =
      all_from (models_in v (together given)) (λ y. has_slot y u)
      (λ y h. by y h (has_kept (2 ^ v) (λ y. together given (has_slot y)) y h).1 (has_slot y u) refl)
    where
      high : (y slot : ℕ) → y < 2 ^ v → v ≤ slot → has_slot y slot ≡ has_slot 0 slot
      high y slot less le = ap (λ n. nat_eq n 1) (bit_at_above y v slot less le ∙ sym (bit_at-zero slot))

      by : (y : ℕ) → has (models_in v (together given)) y ≡ true → IsTrue (together given (has_slot y)) → (b : Bool) → has_slot y u ≡ b → has_slot y u ≡ true
      by y h t true e = e
      by y h t false e =
          let found : IsTrue (together longer (has_slot y)) = longer_is (has_slot y) ∙ and_from _ _ t (ap not e) in
          let y_below = (has_kept (2 ^ v) (λ y. together given (has_slot y)) y h).0 in
          absurd (true≢false (sym (asked ∙ (meaning (has_slot 0)).1
          ((range_projects mask v (together longer) room range (has_slot 0)).1 (has_slot y, ((λ slot le. high y slot y_below le), found)))) ∙ none))

  pub may_be : r ≡ not (has_all (models_in v (together given)) (λ y. has_slot y u))
  may_be = by r refl (has_all (models_in v (together given)) (λ y. has_slot y u)) refl
    where
      by : (b : Bool) → r ≡ b → (c : Bool) → has_all (models_in v (together given)) (λ y. has_slot y u) ≡ c
          → r ≡ not (has_all (models_in v (together given)) (λ y. has_slot y u))
      by true e true f = absurd (never e f)
      by true e false f = e ∙ sym (ap not f)
      by false e c f = e ∙ sym (ap not (always e))

-- a variable's slot is true in all assignments of the state where it is in all of the variables'
pub always_true : (n v u : ℕ) (sets ys : List ℕ) → length sets ≡ n → IsSet (2 ^ v) ys
    → has_all ys (λ y. has_slot y u) ≡ has_all (determined n v sets ys) (λ x. variable_in n x u)
always_true n v u sets ys size is = sym (all_whole n v sets ys size is (λ y. has_slot y u)) ∙ (λ i. has_all (determined n v sets ys) (λ x. slot_high x n u i))

unless_some : (b : Bool) (xs : List ℕ) → true ≡ is_some (cond b None (Some xs)) → cond b None (Some xs) ≡ Some xs
unless_some true xs e = cc
unless_some false xs e = refl

unless_none : (b : Bool) (xs : List ℕ) → false ≡ is_some (cond b None (Some xs)) → ◌≡◌ {A = Option (List ℕ)} (cond b None (Some xs)) None
unless_none true xs e = refl
unless_none false xs e = cc

given_some : (n : ℕ) (xs : List ℕ) (o : Option ℕ) → true ≡ is_some (if_variable n xs o) → if_variable n xs o ≡ Some xs
given_some n xs None e = cc
given_some n xs (Some v) e = unless_some (has_all xs (λ x. variable_in n x v)) xs e

given_none : (n : ℕ) (xs : List ℕ) (o : Option ℕ) → false ≡ is_some (if_variable n xs o) → if_variable n xs o ≡ None
given_none n xs None e = refl
given_none n xs (Some v) e = unless_none (has_all xs (λ x. variable_in n x v)) xs e

module _ (n v : ℕ) (args : List Term) (j : ℕ) (within : j < length args) (xs : List ℕ) (t : Term) (at : t ≡ get_or args j t) where
  default : t ≡ get_or args j (Var 0)
  default = at ∙ get_or_same args j t (Var 0) within

  option_is : fold-Term (Option ℕ) variable_step t ≡ variable_at args j
  option_is = ap (fold-Term (Option ℕ) variable_step) default ∙ sym (variable_at_is args j within)

  told : (b : Bool) → b ≡ is_some (if_variable n xs (fold-Term (Option ℕ) variable_step t)) → b ≡ is_some (if_variable n xs (variable_at args j))
  told b e = e ∙ ap (λ o. is_some (if_variable n xs o)) option_is

  pub is_variable : (result : List ℕ) → result ≡ xs → true ≡ is_some (if_variable n xs (fold-Term (Option ℕ) variable_step t))
      → Some (state_with n v result) ≡ state_from n v (if_variable n xs (variable_at args j))
  is_variable result g e = ap (λ l. Some (state_with n v l)) g ∙ ap (state_from n v) (sym (given_some n xs (variable_at args j) (told true e)))

  pub no_variable : false ≡ is_some (if_variable n xs (fold-Term (Option ℕ) variable_step t)) → None ≡ state_from n v (if_variable n xs (variable_at args j))
  no_variable e = ap (state_from n v) (sym (given_none n xs (variable_at args j) (told false e)))

module _ (n v : ℕ) (sets ys : List ℕ) (size : length sets ≡ n) (is : IsSet (2 ^ v) ys) (args : List Term) (below : all_below v args ≡ true) (items : List ℕ)
    (i : ℕ) (within : i < length args) (a : Term) (at : a ≡ get_or args i a) where
  first_term : a ≡ get_or args i (Var 0)
  first_term = at ∙ get_or_same args i a (Var 0) within

  set : IsSet (2 ^ (n + v)) (determined n v sets ys)
  set = IsSet-kept (2 ^ (n + v)) (λ x. has ys (x / 2 ^ n) && nat_eq (terms_at sets (x / 2 ^ n)) (x % 2 ^ n))

  module _ (made : items ≡ filter (λ y. holds (has_slot y) a) ys) where
    pub satisfied_is : determined n v sets items ≡ acted n v args (λ y. has_slot y (n + v + i)) (determined n v sets ys)
    satisfied_is =
        ap (determined n v sets) (made ∙ ap (λ t. filter (λ y. holds (has_slot y) t) ys) first_term)
        ∙ sym (filter_whole n v sets ys size is (λ y. holds (has_slot y) (get_or args i (Var 0))))
        ∙ sym (truth_kept n v args below (determined n v sets ys) set i within)

  module _ (j : ℕ) (less : j < length args) (b : Term) (there : b ≡ get_or args j b)
      (made : items ≡ filter (λ y. agree (holds (has_slot y) a) (holds (has_slot y) b)) ys) where
    pub agreed_is : determined n v sets items ≡ acted n v args (λ y. agree (has_slot y (n + v + i)) (has_slot y (n + v + j))) (determined n v sets ys)
    agreed_is =
        ap (determined n v sets)
        (made ∙ ap (λ t. filter (λ y. agree (holds (has_slot y) t) (holds (has_slot y) b)) ys) first_term
        ∙ ap (λ t. filter (λ y. agree (holds (has_slot y) (get_or args i (Var 0))) (holds (has_slot y) t)) ys) (there ∙ get_or_same args j b (Var 0) less))
        ∙ sym (filter_whole n v sets ys size is (λ y. agree (holds (has_slot y) (get_or args i (Var 0))) (holds (has_slot y) (get_or args j (Var 0)))))
        ∙ sym (both_is n v args below (determined n v sets ys) set i j within less)

-- ---- the actions, by name

module _ (n v : ℕ) (args : List Term) (xs : List ℕ) (a : Action) (next : StateView) where
  pub unified : (i j : ℕ) → (a ≡ action.Unify i j) ⊎ (a ≡ action.Same i j)
      → next ≡ state_with n v (acted n v args (λ y. agree (has_slot y (n + v + (i - 1))) (has_slot y (n + v + (j - 1)))) xs)
      → Some next ≡ state_from n v (refine_of n v args a xs)
  unified i j (inl is) e = ap Some e ∙ sym (ap (λ x. state_from n v (refine_of n v args x xs)) is)
  unified i j (inr is) e = ap Some e ∙ sym (ap (λ x. state_from n v (refine_of n v args x xs)) is)

  pub grounded : (i : ℕ) → (a ≡ action.Ground i) ⊎ (a ≡ action.BindInt i)
      → next ≡ state_with n v (acted n v args (λ y. has_slot y (n + v + (i - 1))) xs) → Some next ≡ state_from n v (refine_of n v args a xs)
  grounded i (inl is) e = ap Some e ∙ sym (ap (λ x. state_from n v (refine_of n v args x xs)) is)
  grounded i (inr is) e = ap Some e ∙ sym (ap (λ x. state_from n v (refine_of n v args x xs)) is)
