-- What an action allows at a list of terms, it allows at their instance.
use Rattle.std.proofs.Common.{◌≡◌, ◌⊎◌, ℕ, zero, suc, ◌+◌, ◌-◌, ◌<◌, ◌≤◌, Bool, true, false, cond, nat_lt, List, [], ◌∷◌, map, length, Option, Some, None}
use Rattle.std.proofs.Common.{refl, sym, ap, subst, ◌∙◌, inl, inr, arith, rules}
use Rattle.std.specs.List.{list_all, list_any, AllByRecursion}
use Rattle.std.proofs.lemmas.Bool.{eq-eqb}
use Rattle.std.proofs.lemmas.Bool.Decides.{nat_tests}
use Rattle.plai_base.specs.Mask.{has_slot, mask_of}
use Rattle.plai_terms.specs.declared.term.Term.{Term, Var, Int, Atom, the_lemmas}
use Rattle.plai_terms.specs.Term.{is_ground, occurs}
use Rattle.plai_terms.specs.Subst.{bound_to}
use Rattle.plai_terms.specs.declared.outcome.Outcome.TheVariants.{Unified}
use Rattle.plai_terms.specs.Unification.{Bindings, UnifiesTo}
use Rattle.plai_terms.specs.Substitution.{under, occurs_in}
use Rattle.plai_terms.specs.Substitution as terms
use Rattle.plai_terms.proofs.Terms.{induction, occurs-Compound}
use Rattle.plai_terms.proofs.Substs.{is_ground-Compound}
use Rattle.plai_terms.proofs.Under.{under-Var, occurs-Var, occurs-Var_same, or_cases, or_first, or_second, under_same}
use Rattle.plai_domain.specs.declared.action.Action.{Action}
use Rattle.plai_domain.specs.declared.action.Action.TheVariants as action
use Rattle.plai_domain.specs.Instances.{argument, IsVar, acts_within}
use Rattle.plai_domain.specs.Allowed as domain
use Rattle.plai_share_laws.specs.Groups.{Has}
use Rattle.plai_share_laws.specs.Shares.{Side, Slot}
use Rattle.plai_share_laws.specs.Sides.{variable_of, side_by, side_of, term_slots}
use Rattle.plai_share_laws.proofs.Masks.{by_test, has_of, of_has}
use Rattle.plai_share_laws.proofs.Lists.{by_either}
use Rattle.plai_share_laws.proofs.Parts.{and_parts, and_both}
use Rattle.plai_share_laws.proofs.Meaning.{Instance, Touches, Stays, IsLocal, IsUnifier, IsEmpty, Allows}
use Rattle.plai_share_laws.proofs.Placed.{IsSolution, change_of, term_at, tuple_of}
use Rattle.plai_share_laws.proofs.TermVariables.{variable_of-Var, is_that}
use Rattle.plai_share_laws.proofs.TermMoves.{unifier_of_terms}
use Rattle.plai_share_laws.proofs.Tuples.{lower, lower_test}
use Rattle.plai_share_laws.proofs.OneEquation.{solution}
use Rattle.plai_share_laws.proofs.Described.{in_place, argument_at}

pub stays : (f : ℕ → Term) (v : ℕ) → f v ≡ Var v → Stays (change_of f) v
stays f v e = record {
  image = ap variable_of e ∙ variable_of-Var v;
  itself = ap (occurs v) e ∙ occurs-Var v v ∙ eq-eqb v v refl;
  only = λ w p. occurs-Var_same w v (sym (ap (occurs w) e) ∙ p);
}

-- the function on variables below the number alone
abbrev pub cut : ℕ → (ℕ → Term) → ℕ → Term
cut n f v = cond (nat_lt v n) (f v) (Var v)

pub cut_below : (n : ℕ) (f : ℕ → Term) (v : ℕ) → v < n → cut n f v ≡ f v
cut_below n f v l = ap (λ b. cond b (f v) (Var v)) (lower_test v n l)

not_true : (b : Bool) → (b ≡ true → ⊥) → b ≡ false
not_true true h = absurd (h refl)
not_true false h = refl

pub higher : (v n : ℕ) → nat_lt v n ≡ false → n ≤ v
higher v n t = grind (arith, nat_tests)

-- what is local to the terms is local to their slots
module _ (n : ℕ) (f : ℕ → Term) (us : List Term) (loc : terms.IsLocal f n us) (i : Instance) (set : ℕ)
    (there : (v : ℕ) → Touches i set v → occurs_in v us ≡ true) (back : (v : ℕ) → occurs_in v us ≡ true → Touches i set v) where
  leaves : (v : ℕ) → (Touches i set v → ⊥) → cut n f v ≡ Var v
  leaves v nt = by_test (nat_lt v n)
      (λ t. rw t (loc.moves v (lower v n t) (not_true (occurs_in v us) (λ o. nt (back v o)))))
      (λ t. rw t refl)

  pub local_cut : IsLocal i set n (change_of (cut n f))
  local_cut = record {
    leaves = λ v nt. stays (cut n f) v (leaves v nt);
    brings = λ v w t p. by_test (nat_lt v n)
        (λ l. let q : occurs w (f v) ≡ true = rw l at p in
        by_either (loc.brings v w (lower v n l) (there v t) q) (λ o. inl (back w o)) inr)
        (λ l. let q : occurs w (Var v) ≡ true = rw l at p in
        let e = occurs-Var_same w v q in
        inr (subst (λ z. n ≤ z) (sym e) (higher v n l)));
  }

-- a term without variables
abbrev IsClosed : Term → Type 0
IsClosed t = is_ground t ≡ true → (w : ℕ) → occurs w t ≡ true → ⊥

all_closed : (args : List Term) → AllByRecursion IsClosed args → list_all (λ b. b) (map is_ground args) ≡ true → (w : ℕ)
    → list_any (λ b. b) (map (occurs w) args) ≡ true → ⊥
all_closed [] h e w o = cc
all_closed (a ∷ args) h e w o =
    let (p, q) = and_parts (is_ground a) (list_all (λ b. b) (map is_ground args)) e in
    by_either (or_cases (occurs w a) (list_any (λ b. b) (map (occurs w) args)) o) (h.0 p w) (all_closed args h.1 q w)

pub closed : (t : Term) → IsClosed t
closed = induction IsClosed
    (λ v e. let no : is_ground (Var v) ≡ false = search (rules, the_lemmas) in cc)
    (λ n e w o. let no : occurs w (Int n) ≡ false = search (rules, the_lemmas) in cc)
    (λ a e w o. let no : occurs w (Atom a) ≡ false = search (rules, the_lemmas) in cc)
    (λ name args h e w o. all_closed args h (sym (is_ground-Compound name args) ∙ e) w (sym (occurs-Compound w name args) ∙ o))

int_closed : (t : Term) (z : _) → t ≡ Int z → (w : ℕ) → occurs w t ≡ true → ⊥
int_closed t z e w o = let no : occurs w (Int z) ≡ false = search (rules, the_lemmas) in let h = sym (ap (occurs w) e) ∙ o in cc

-- the terms of a set of slots
choose : (b : Bool) (t : Term) (us : List Term) (v : ℕ) → occurs_in v (cond b (t ∷ us) us) ≡ true → ((b ≡ true) × (occurs v t ≡ true)) ⊎ (occurs_in v us ≡ true)
choose true t us v o = by_either (or_cases (occurs v t) (occurs_in v us) o) (λ p. inl (refl, p)) inr
choose false t us v o = inr o

chosen_first : (b : Bool) (t : Term) (us : List Term) (v : ℕ) → b ≡ true → occurs v t ≡ true → occurs_in v (cond b (t ∷ us) us) ≡ true
chosen_first true t us v e o = or_first (occurs v t) (occurs_in v us) o
chosen_first false t us v e o = cc

chosen_later : (b : Bool) (t : Term) (us : List Term) (v : ℕ) → occurs_in v us ≡ true → occurs_in v (cond b (t ∷ us) us) ≡ true
chosen_later true t us v o = or_second (occurs v t) (occurs_in v us) o
chosen_later false t us v o = o

chosen_place : (s set : ℕ) (ts : List Term) (v : ℕ) → occurs_in v (domain.chosen_from s set ts) ≡ true
    → (k : ℕ) × (k < length ts) × Has set (s + k) × (occurs v (term_at ts k) ≡ true)
chosen_place s set [] v o = cc
chosen_place s set (t ∷ ts) v o =
    by_either (choose (has_slot set s) t (domain.chosen_from (suc s) set ts) v o)
    (λ p. let e : s ≡ s + 0 = omega arith in (0, omega arith, subst (λ z. Has set z) e p.0, p.1))
    (λ p. let (k, l, h, q) = chosen_place (suc s) set ts v p in
    let e : suc s + k ≡ s + suc k = omega arith in (suc k, omega arith, subst (λ z. Has set z) e h, q))

place_chosen : (s set : ℕ) (ts : List Term) (v k : ℕ) → k < length ts → Has set (s + k) → occurs v (term_at ts k) ≡ true
    → occurs_in v (domain.chosen_from s set ts) ≡ true
place_chosen s set [] v k l h o = absurd (omega (arith, l))
place_chosen s set (t ∷ ts) v zero l h o =
    let e : s + 0 ≡ s = omega arith in chosen_first (has_slot set s) t (domain.chosen_from (suc s) set ts) v (subst (λ z. Has set z) e h) o
place_chosen s set (t ∷ ts) v (suc k) l h o =
    let e : s + suc k ≡ suc s + k = omega arith in
    chosen_later (has_slot set s) t (domain.chosen_from (suc s) set ts) v
    (place_chosen (suc s) set ts v k (omega arith) (subst (λ z. Has set z) e h) o)

pub term_at-map : (g : Term → Term) (ts : List Term) (k : ℕ) → k < length ts → term_at (map g ts) k ≡ g (term_at ts k)
term_at-map g [] k l = absurd (omega (arith, l))
term_at-map g (t ∷ ts) zero l = refl
term_at-map g (t ∷ ts) (suc k) l = term_at-map g ts k (omega arith)

module _ (ts : List Term) where
  pub touched : (set v : ℕ) → Touches (tuple_of ts) set v → (k : ℕ) × (k < length ts) × Has set k × (occurs v (term_at ts k) ≡ true)
  touched set v t =
      let (k, h, o) = t in
      let (a, b) = and_parts (nat_lt k (length ts)) (occurs v (term_at ts k)) o in (k, lower k (length ts) a, h, b)

  pub touch : (set v k : ℕ) → k < length ts → Has set k → occurs v (term_at ts k) ≡ true → Touches (tuple_of ts) set v
  touch set v k l h o = (k, h, and_both (nat_lt k (length ts)) (occurs v (term_at ts k)) (lower_test k (length ts) l) o)

  -- arguments are numbered from 1
  pub argument_is : (i : ℕ) → 1 ≤ i → i ≤ length ts → argument ts i ≡ term_at ts (i - 1)
  argument_is i a b = let e : (i - 1) + 1 ≡ i = omega (arith, a) in ap (argument ts) (sym e) ∙ argument_at ts (i - 1) (omega (arith, a, b))

  module _ (n : ℕ) (f : ℕ → Term) where
    -- at one argument
    local_argument : (i : ℕ) → 1 ≤ i → i ≤ length ts → terms.IsLocal f n (argument ts i ∷ []) → IsLocal (tuple_of ts) (mask_of (i - 1)) n (change_of (cut n f))
    local_argument i a b loc = local_cut n f (argument ts i ∷ []) loc (tuple_of ts) (mask_of (i - 1))
        (λ v t. let (k, l, h, o) = touched (mask_of (i - 1)) v t in
        let e = of_has (i - 1) k h in
        or_first (occurs v (argument ts i)) false (ap (occurs v) (argument_is i a b ∙ ap (term_at ts) (sym e)) ∙ o))
        (λ v o. by_either (or_cases (occurs v (argument ts i)) false o)
        (λ p. touch (mask_of (i - 1)) v (i - 1) (omega (arith, a, b)) (has_of (i - 1)) (ap (occurs v) (sym (argument_is i a b)) ∙ p))
        (λ p. cc))

    -- at the arguments of a set
    local_chosen : (set : ℕ) → terms.IsLocal f n (domain.chosen set ts) → IsLocal (tuple_of ts) set n (change_of (cut n f))
    local_chosen set loc = local_cut n f (domain.chosen set ts) loc (tuple_of ts) set
        (λ v t. let (k, l, h, o) = touched set v t in place_chosen 0 set ts v k l (let e : k ≡ 0 + k = omega arith in subst (λ z. Has set z) e h) o)
        (λ v o. let (k, l, h, p) = chosen_place 0 set ts v o in touch set v k l (let e : 0 + k ≡ k = omega arith in subst (λ z. Has set z) e h) p)

  still : (f : ℕ → Term) → domain.IsEmpty f → IsEmpty (change_of f)
  still f e v = stays f v (e v)

  pub variable_there : (i : ℕ) → 1 ≤ i → i ≤ length ts → (y : ℕ) → argument ts i ≡ Var y → (tuple_of ts).variable (i - 1) ≡ Some y
  variable_there i a b y e =
      let l : i - 1 < length ts = omega (arith, a, b) in
      let h : variable_of (term_at ts (i - 1)) ≡ Some y = ap variable_of (sym (argument_is i a b) ∙ e) ∙ variable_of-Var y in
      rw (lower_test (i - 1) (length ts) l) h

  pub no_variable : (i : ℕ) → 1 ≤ i → i ≤ length ts → (IsVar (argument ts i) → ⊥) → (tuple_of ts).variable (i - 1) ≡ None
  no_variable i a b none = split (variable_of (term_at ts (i - 1))) refl
    where
      split : (o : Option ℕ) → variable_of (term_at ts (i - 1)) ≡ o → (tuple_of ts).variable (i - 1) ≡ None
      split None e = rw (lower_test (i - 1) (length ts) (omega (arith, a, b))) e
      split (Some y) e = absurd (none (y, argument_is i a b ∙ is_that (term_at ts (i - 1)) y e))

  side_slot : (b : ℕ) → side_of 0 (Var b) ≡ Slot b
  side_slot b = let e : 0 + b ≡ b = omega arith in ap (λ o. side_by 0 o (term_slots 0 (Var b))) (variable_of-Var b) ∙ ap Slot e

  -- two arguments that are unified
  unified : (i j : ℕ) → 1 ≤ i → i ≤ length ts → 1 ≤ j → j ≤ length ts → (s : Bindings) → UnifiesTo (argument ts i ∷ []) (argument ts j ∷ []) (Unified s)
      → IsUnifier (tuple_of ts) (Slot (i - 1)) (Slot (j - 1)) (change_of (bound_to s))
  unified i j a b c d s u =
      let at : ℕ → Term = λ v. term_at ts (0 + v) in
      let e : 0 + (j - 1) ≡ j - 1 = omega arith in
      let second : argument ts j ≡ under at (Var (j - 1)) = argument_is j c d ∙ ap (term_at ts) (sym e) ∙ sym (under-Var at (j - 1)) in
      let k : IsSolution (bound_to s) (term_at ts (i - 1)) (under at (Var (j - 1))) =
      subst (λ x. IsSolution (bound_to s) (term_at ts (i - 1)) x) second
      (subst (λ x. IsSolution (bound_to s) x (argument ts j)) (argument_is i a b) (solution (argument ts i) (argument ts j) s u)) in
      subst (λ (x : Side). IsUnifier (tuple_of ts) (Slot (i - 1)) x (change_of (bound_to s))) (side_slot (j - 1))
      (unifier_of_terms 0 (length ts) (i - 1) (term_at ts) (Var (j - 1)) (omega (arith, a, b))
      (λ v o. let same = occurs-Var_same v (j - 1) o in omega (arith, same, c, d)) (bound_to s) k)

  module _ (n : ℕ) (below : terms.AreBelow n ts) where
    under_cut : (f : ℕ → Term) (k : ℕ) → k < length ts → under (cut n f) (term_at ts k) ≡ under f (term_at ts k)
    under_cut f k l = under_same (cut n f) f (term_at ts k) (λ v o. cut_below n f v (below v (in_place v ts k l o)))

    -- no variable is left at an argument
    none_left : (f : ℕ → Term) (i : ℕ) → 1 ≤ i → i ≤ length ts → ((w : ℕ) → occurs w (under f (argument ts i)) ≡ true → ⊥)
        → (w : ℕ) → (tuple_of (map (under (cut n f)) ts)).occurs w (i - 1) ≡ true → ⊥
    none_left f i a b none w o =
        let l : i - 1 < length ts = omega (arith, a, b) in
        let (p, q) = and_parts (nat_lt (i - 1) (length (map (under (cut n f)) ts))) (occurs w (term_at (map (under (cut n f)) ts) (i - 1))) o in
        none w (ap (occurs w) (ap (under f) (argument_is i a b) ∙ sym (under_cut f (i - 1) l) ∙ sym (term_at-map (under (cut n f)) ts (i - 1) l)) ∙ q)

    -- a function that does the same below the number, and whose change the action allows
    pub record IsAllowed (action : Action) (f : ℕ → Term) : Type 0 where
      pub does : ℕ → Term
      pub same : (v : ℕ) → v < n → does v ≡ f v
      pub allowed : Allows action n (tuple_of ts) (change_of does) (tuple_of (map (under does) ts))

    pub allowed_tuple : (a : Action) (f : ℕ → Term) → acts_within (length ts) a → domain.Allows a n ts f → IsAllowed a f
    allowed_tuple action.Fail f w h = absurd h
    allowed_tuple (action.Unify i j) f w h =
        let (s, u, e) = h in
        record { does = bound_to s; same = λ v l. sym (e v); allowed = unified i j w.0 w.1 w.2 w.3 s u }
    allowed_tuple (action.Same i j) f w h = record {
      does = f;
      same = λ v l. refl;
      allowed = (
        still f h.1,
        λ x.
            let e : term_at ts (i - 1) ≡ term_at ts (j - 1) = sym (argument_is i w.0 w.1) ∙ h.0 ∙ argument_is j w.2 w.3 in
            let a : i - 1 < length ts = omega (arith, w.0, w.1) in
            let b : j - 1 < length ts = omega (arith, w.2, w.3) in
            rw (lower_test (i - 1) (length ts) a, lower_test (j - 1) (length ts) b) (ap (occurs x) e),
      );
    }
    allowed_tuple (action.Ground i) f w h = record {
      does = cut n f;
      same = cut_below n f;
      allowed = (local_argument n f i w.0 w.1 h.0, none_left f i w.0 w.1 (closed (under f (argument ts i)) h.1));
    }
    allowed_tuple (action.BindInt i) f w h =
        let (loc, q) = h in
        let (z, e) = q in
        record {
          does = cut n f;
          same = cut_below n f;
          allowed = (local_argument n f i w.0 w.1 loc, none_left f i w.0 w.1 (int_closed (under f (argument ts i)) z e));
        }
    allowed_tuple (action.Var i) f w h =
        let ((y, e), empty) = h in
        record { does = f; same = λ v l. refl; allowed = (still f empty, y, variable_there i w.0 w.1 y e) }
    allowed_tuple (action.Nonvar i) f w h =
        record { does = f; same = λ v l. refl; allowed = (still f h.1, no_variable i w.0 w.1 h.0) }
    allowed_tuple (action.Havoc set) f w h = record { does = cut n f; same = cut_below n f; allowed = local_chosen n f set h }
