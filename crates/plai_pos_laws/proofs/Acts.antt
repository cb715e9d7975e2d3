-- The operations of groundness describe the instances that functions from variables to terms make.
use Rattle.std.proofs.Common.{◌≡◌, inl, inr, ℕ, zero, suc, ◌+◌, ◌-◌, ◌<◌, ◌≤◌, true, false, List, [], ◌∷◌, length, map, get_or, Some, refl, sym, ap, ◌∙◌}
use Rattle.std.proofs.Common.{arith, rules, subst}
use Rattle.std.specs.List.{list_all, AllByRecursion}
use Rattle.std.proofs.lemmas.Bool.{ltb-true, and_parts}
use Rattle.std.proofs.lemmas.List.{length-map}
use Rattle.plai_terms.specs.declared.term.Term.{Term, Var, Int, Atom, the_lemmas}
use Rattle.plai_terms.specs.declared.abs.Abs.{Abs}
use Rattle.plai_terms.specs.declared.outcome.Outcome.TheVariants.{Unified}
use Rattle.plai_terms.specs.Term.{is_ground, occurs, has_variables_below}
use Rattle.plai_terms.specs.Subst.{bound_to, apply_of}
use Rattle.plai_terms.specs.Substitution.{under, then_also, raised, occurs_in, IsBelow, AreBelow}
use Rattle.plai_terms.specs.Unification.{Bindings, UnifiesTo}
use Rattle.plai_terms.proofs.Terms.{induction}
use Rattle.plai_terms.proofs.Under.{or_cases, or_first, or_second, occurs-Var_same, occurs-args, under_same_all, under_under_all, source_in}
use Rattle.plai_terms.proofs.Outcomes.{unifier}
use Rattle.plai_domain.specs.declared.action.Action.{Action}
use Rattle.plai_domain.specs.declared.action.Action.TheVariants as action
use Rattle.plai_domain.specs.Plain.{StateView}
use Rattle.plai_domain.specs.Instances.{argument, IsInt, all_below, numbered, instance_of, acts_within, allows_at}
use Rattle.plai_domain.specs.Conditions.{IsHead, AreArguments}
use Rattle.plai_domain.specs.Allowed.{Allows, IsEmpty}
use Rattle.plai_domain.specs.Soundness.{numbers, Speaks, IsFrom, TellsTruly, ActsTruly, IsSound}
use Rattle.plai_pos_laws.specs.Groundness.{Describes, DescribesInstance, groundness}
use Rattle.plai_pos_laws.proofs.Holds.{below-Var, below-Compound}
use Rattle.plai_pos_laws.proofs.Sound.{bound_numbered}
use Rattle.plai_pos_laws.proofs.Soundness.{larger_describes, describe_describes, entailed_holds, excluded_fails, enter_describes, call_describes}
use Rattle.plai_pos_laws.proofs.Soundness.{back_describes, refine_describes, exit_describes}

-- ---- variables below a number

module _ (limit : ℕ) where
  abbrev IsTold : Term → Type 0
  IsTold t = has_variables_below limit t ≡ true → IsBelow limit t

  all_told : (args : List Term) → AllByRecursion IsTold args → list_all (λ b. b) (map (has_variables_below limit) args) ≡ true → AreBelow limit args
  all_told [] h e v o = cc
  all_told (a ∷ args) h e v o =
      let t = and_parts (has_variables_below limit a) (list_all (λ b. b) (map (has_variables_below limit) args)) e in
      elim (or_cases (occurs v a) (occurs_in v args) o) [
        | inl p ↦ h.0 t.0 v p
        | inr p ↦ all_told args h.1 t.1 v p
      ]

  pub below_told : (t : Term) → has_variables_below limit t ≡ true → IsBelow limit t
  below_told = induction IsTold
      (λ w e v o. let same = occurs-Var_same v w o in subst (λ k. k < limit) (sym same) (ltb-true w limit (sym (below-Var limit w) ∙ e)))
      (λ n e v o. let no : occurs v (Int n) ≡ false = search (rules, the_lemmas) in cc)
      (λ a e v o. let no : occurs v (Atom a) ≡ false = search (rules, the_lemmas) in cc)
      (λ name args h e v o. all_told args h (sym (below-Compound limit name args) ∙ e) v (sym (occurs-args v name args) ∙ o))

  pub are_below : (ts : List Term) → all_below limit ts ≡ true → AreBelow limit ts
  are_below [] e v o = cc
  are_below (t ∷ ts) e v o =
      let p = and_parts (has_variables_below limit t) (all_below limit ts) e in
      elim (or_cases (occurs v t) (occurs_in v ts) o) [
        | inl q ↦ below_told t p.0 v q
        | inr q ↦ are_below ts p.1 v q
      ]

-- ---- a function as bindings of the variables below a number

length_numbers : (first n : ℕ) → length (numbers first n) ≡ n
length_numbers first zero = refl
length_numbers first (suc n) = ap suc (length_numbers (suc first) n)

numbers_at : (f : ℕ → Term) (first n j : ℕ) → j < n → get_or (map f (numbers first n)) j (Var 0) ≡ f (first + j)
numbers_at f first zero j l = absurd (omega (arith, l))
numbers_at f first (suc n) zero l = ap f (omega arith)
numbers_at f first (suc n) (suc j) l = let e : suc first + j ≡ first + suc j = omega arith in numbers_at f (suc first) n j (omega (arith, l)) ∙ ap f e

module _ (f : ℕ → Term) (n : ℕ) where
  -- what the function puts for the first n variables
  abbrev pub firsts : List Term
  firsts = map f (numbers 0 n)

  pub length_firsts : length firsts ≡ n
  length_firsts = length-map (numbers 0 n) f ∙ length_numbers 0 n

  bound_first : (v : ℕ) → v < n → bound_to (numbered 0 firsts) v ≡ f v
  bound_first v l =
      let within : v < length firsts = subst (λ k. v < k) (sym length_firsts) l in
      let e : 0 + v ≡ v = omega arith in
      ap (bound_to (numbered 0 firsts)) (sym e) ∙ bound_numbered 0 v firsts within ∙ numbers_at f 0 n v l ∙ ap f e

  -- on terms of these variables, the bindings do what the function does
  pub firsts_do : (ts : List Term) → AreBelow n ts → map (instance_of firsts) ts ≡ map (under f) ts
  firsts_do ts below = under_same_all (bound_to (numbered 0 firsts)) f ts (λ v o. bound_first v (below v o))

occurs_first : (w : ℕ) (i : ℕ → Term) (first n : ℕ) → occurs_in w (map i (numbers first n)) ≡ true
    → (v : ℕ) × (first ≤ v) × (v < first + n) × (occurs w (i v) ≡ true)
occurs_first w i first zero o = cc
occurs_first w i first (suc n) o =
    elim (or_cases (occurs w (i first)) (occurs_in w (map i (numbers (suc first) n))) o) [
      | inl p ↦ (first, omega arith, omega arith, p)
      | inr p ↦ let (v, l, m, q) = occurs_first w i (suc first) n p in (v, omega (arith, l), omega (arith, m), q)
    ]

then_firsts : (i f : ℕ → Term) (vs : List ℕ) → map (under f) (map i vs) ≡ map (then_also i f) vs
then_firsts i f [] = refl
then_firsts i f (v ∷ vs) = ap (λ l. under f (i v) ∷ l) (then_firsts i f vs)

occurs_at : (w : ℕ) (ts : List Term) (j : ℕ) → j < length ts → occurs w (get_or ts j (Var 0)) ≡ true → occurs_in w ts ≡ true
occurs_at w [] j l o = absurd (omega (arith, l))
occurs_at w (t ∷ ts) zero l o = or_first (occurs w t) (occurs_in w ts) o
occurs_at w (t ∷ ts) (suc j) l o = or_second (occurs w t) (occurs_in w ts) (occurs_at w ts j (omega (arith, l)) o)

-- ---- bindings that do what a function does to terms with variables below a number, and that the action allows

pub record Doing (n : ℕ) (passed : List Term) (action : Action) (f : ℕ → Term) : Type 0 where
  pub bindings : Bindings
  pub allowed : allows_at passed bindings action
  pub does : (ts : List Term) → AreBelow n ts → map (apply_of bindings) ts ≡ map (under f) ts

first_of : (s t : Term) (ss tt : List Term) → ◌≡◌ {A = List Term} (s ∷ ss) (t ∷ tt) → s ≡ t
first_of s t ss tt e = cc

does_nothing : (f : ℕ → Term) → IsEmpty f → (ts : List Term) → map (apply_of []) ts ≡ map (under f) ts
does_nothing f e ts = under_same_all (bound_to []) f ts (λ v o. sym (e v))

module _ (n : ℕ) (passed : List Term) (f : ℕ → Term) (below : AreBelow n passed) where
  -- at an argument, the bindings of the first n variables
  at_argument : (i : ℕ) → 1 ≤ i → i ≤ length passed → apply_of (numbered 0 (firsts f n)) (argument passed i) ≡ under f (argument passed i)
  at_argument i k l =
      first_of _ _ [] [] (firsts_do f n (argument passed i ∷ [])
      (λ w o. elim (or_cases (occurs w (argument passed i)) (occurs_in w []) o) [
        | inl p ↦ below w (occurs_at w passed (i - 1) (omega (arith, k, l)) p)
        | inr p ↦ cc
      ]))

  pub doing : (action : Action) → acts_within (length passed) action → Allows action n passed f → Doing n passed action f
  doing action.Fail w h = absurd h
  doing (action.Unify i j) w (s, u, same) = record {
    bindings = s;
    allowed = first_of _ _ [] [] (unifier (argument passed i ∷ []) (argument passed j ∷ []) s refl u).unifies;
    does = λ ts b. under_same_all (bound_to s) f ts (λ v o. sym (same v));
  }
  doing (action.Same i j) w (e, empty) = record { bindings = []; allowed = (refl, e); does = λ ts b. does_nothing f empty ts }
  doing (action.Ground i) w (l, e) = record {
    bindings = numbered 0 (firsts f n);
    allowed = ap is_ground (at_argument i w.0 w.1) ∙ e;
    does = firsts_do f n;
  }
  doing (action.BindInt i) w (l, e) = record {
    bindings = numbered 0 (firsts f n);
    allowed = subst IsInt (sym (at_argument i w.0 w.1)) e;
    does = firsts_do f n;
  }
  doing (action.Var i) w (e, empty) = record { bindings = []; allowed = (refl, e); does = λ ts b. does_nothing f empty ts }
  doing (action.Nonvar i) w (e, empty) = record { bindings = []; allowed = (refl, e); does = λ ts b. does_nothing f empty ts }
  doing (action.Havoc slots) w l = record { bindings = numbered 0 (firsts f n); allowed = _; does = firsts_do f n }

-- ---- the instance that a function makes of a clause

-- the same state for an equal instance
pub instance_is : (st : StateView) (hs hs' ts ts' : List Term) → hs ≡ hs' → ts ≡ ts' → DescribesInstance st hs ts → DescribesInstance st hs' ts'
instance_is st hs hs' ts ts' e f d = subst (λ l. DescribesInstance st l ts') e (subst (DescribesInstance st hs) f d)

pub acts_enter : (head : List Term) (variables : ℕ) → IsHead (length head) variables head
    → (call : Abs) (ts : List Term) (n : ℕ) (s : Bindings) → length head ≡ length ts → Describes call ts
    → UnifiesTo (map (under (raised n)) head) ts (Unified s)
    → (st : StateView) × ((groundness.enter call head variables).value ≡ Some st) × Speaks groundness head variables st (then_also (raised n) (bound_to s))
acts_enter head variables h call goal n s len d u =
    let i : ℕ → Term = then_also (raised n) (bound_to s) in
    let size : length (firsts i variables) ≡ variables = length_firsts i variables in
    let made : map (under i) head ≡ map (apply_of s) goal = sym (under_under_all (raised n) (bound_to s) head)
    ∙ (unifier (map (under (raised n)) head) goal s (length-map head (under (raised n)) ∙ len) u).unifies in
    let below : all_below (length (firsts i variables)) head ≡ true = ap (λ k. all_below k head) size ∙ h.below in
    let same : map (instance_of (firsts i variables)) head ≡ map (apply_of s) goal = firsts_do i variables head (are_below variables head h.below) ∙ made in
    let (st, e, k) = enter_describes call head goal (firsts i variables) s len below same d in
    (st, subst (λ k. (groundness.enter call head k).value ≡ Some st) size e, instance_is st _ _ _ _ (sym made) refl k)

module _ (head : List Term) (variables : ℕ) (st : StateView) (i : ℕ → Term) (args : List Term)
    (h : IsHead (length head) variables head) (a : AreArguments (length head) variables args) (d : Speaks groundness head variables st i) where
  abbrev hs : List Term
  hs = map (under i) head

  abbrev ts : List Term
  ts = firsts i variables

  abbrev passed : List Term
  passed = map (under i) args

  within : all_below (length ts) args ≡ true
  within = ap (λ k. all_below k args) (length_firsts i variables) ∙ a.below

  passed_is : map (instance_of ts) args ≡ passed
  passed_is = firsts_do i variables args (are_below variables args a.below)

  pub acts_call : Describes (groundness.call st args).value passed
  acts_call = subst (Describes (groundness.call st args).value) passed_is (call_describes st hs ts d args within)

  module _ (n : ℕ) (f : ℕ → Term) (from : IsFrom variables n i) where
    instance_below : (l : List Term) → AreBelow variables l → AreBelow n (map (under i) l)
    instance_below l b w o = let (v, p, q) = source_in i w l o in from v (b v p) w q

    firsts_below : AreBelow n ts
    firsts_below w o = let (v, p, q, r) = occurs_first w i 0 variables o in from v (omega (arith, q)) w r

    -- behind bindings that do what f does
    behind : (r : Bindings) → ((l : List Term) → AreBelow n l → map (apply_of r) l ≡ map (under f) l) → (next : StateView)
        → DescribesInstance next (map (apply_of r) hs) (map (apply_of r) ts) → Speaks groundness head variables next (then_also i f)
    behind r does next k =
        instance_is next _ _ _ _
        (does hs (instance_below head (are_below variables head h.below)) ∙ under_under_all i f head)
        (does ts firsts_below ∙ then_firsts i f (numbers 0 variables))
        k

    pub acts_back : (answer : Abs) → Describes answer (map (under f) passed)
        → (after : StateView) × ((groundness.back st args answer).value ≡ Some after) × Speaks groundness head variables after (then_also i f)
    acts_back answer k =
        let r : Bindings = numbered 0 (firsts f n) in
        let told : map (apply_of r) (map (instance_of ts) args) ≡ map (under f) passed =
        ap (map (apply_of r)) passed_is ∙ firsts_do f n passed (instance_below args (are_below variables args a.below)) in
        let (after, e, m) = back_describes st hs ts d args within r answer (subst (Describes answer) (sym told) k) in
        (after, e, behind r (firsts_do f n) after m)

    pub acts_refine : (action : Action) → acts_within (length args) action → Allows action n passed f
        → (after : StateView) × ((groundness.refine st args action).value ≡ Some after) × Speaks groundness head variables after (then_also i f)
    acts_refine action w k =
        let there : acts_within (length passed) action = subst (λ m. acts_within m action) (sym (length-map args (under i))) w in
        let c = doing n passed f (instance_below args (are_below variables args a.below)) action there k in
        let (after, e, m) = refine_describes st hs ts d args within c.bindings action w
        (subst (λ l. allows_at l c.bindings action) (sym passed_is) c.allowed) in
        (after, e, behind c.bindings c.does after m)

groundness_acts : ActsTruly groundness
groundness_acts = record {
  enter = λ head variables h call ts n s len d b u. acts_enter head variables h call ts n s len d u;
  call = λ head variables st i args h a d. acts_call head variables st i args h a d;
  back = λ head variables st i args h a n f answer d from l k. acts_back head variables st i args h a d n f from answer k;
  refine = λ head variables st i args h a n f action w d from k. acts_refine head variables st i args h a d n f from action w k;
  exit = λ head variables st i h d. exit_describes st (map (under i) head) (map i (numbers 0 variables)) d head;
}

groundness_tells : TellsTruly groundness
groundness_tells = record {
  larger = λ n a b. larger_describes;
  describe = describe_describes;
  entails = entailed_holds;
  excludes = excluded_fails;
}

-- groundness has the laws of soundness
pub groundness_sound : IsSound groundness
groundness_sound = record { tells_truly = groundness_tells; acts_truly = groundness_acts }
