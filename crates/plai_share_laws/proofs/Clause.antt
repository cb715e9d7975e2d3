-- The operations describe the instances that functions from variables to terms make.
use Rattle.std.proofs.Common.{◌≡◌, ℕ, zero, suc, ◌+◌, ◌-◌, ◌<◌, ◌≤◌, Bool, true, false, nat_lt, List, [], ◌∷◌, ◌++◌, map, length, refl, sym, ap, subst, ◌∙◌}
use Rattle.std.proofs.Common.{inl, inr, arith}
use Rattle.std.proofs.lemmas.Bool.{and_parts}
use Rattle.std.proofs.lemmas.List.{length-map, length-append, map-append}
use Rattle.plai_terms.specs.declared.term.Term.{Term}
use Rattle.plai_terms.specs.declared.abs.Abs.{Abs}
use Rattle.plai_terms.specs.Term.{occurs, has_variables_below}
use Rattle.plai_terms.specs.Substitution.{under, then_also, occurs_in, AreBelow}
use Rattle.plai_terms.proofs.Under.{or_cases, or_first, or_second, source, under_same, under_under_all}
use Rattle.plai_terms.proofs.Within.{below_is}
use Rattle.plai_domain.specs.Plain.{StateView}
use Rattle.plai_domain.specs.Instances.{all_below}
use Rattle.plai_domain.specs.Soundness.{numbers, Speaks, IsFrom}
use Rattle.plai_share_laws.specs.Shares.{Shares}
use Rattle.plai_share_laws.specs.Sharing.{IsShares, abs_of, shares_of, Leq, state_with, sharing}
use Rattle.plai_share_laws.proofs.Members.{IsIn}
use Rattle.plai_share_laws.proofs.Ordered.{IsBelow}
use Rattle.plai_share_laws.proofs.Meaning.{Instance, IsInstance, arguments, IsMoved}
use Rattle.plai_share_laws.proofs.Meaning as meaning
use Rattle.plai_share_laws.proofs.NewSlots.{like_describes}
use Rattle.plai_share_laws.proofs.Placed.{placed, term_at, HaveBelow}
use Rattle.plai_share_laws.proofs.Likes.{placed_like}
use Rattle.plai_share_laws.proofs.Described.{described, shared}
use Rattle.plai_share_laws.proofs.Allowed.{term_at-map, higher}
use Rattle.plai_share_laws.proofs.Tuples.{lower}
use Rattle.plai_share_laws.proofs.Canonical.{is_value, shares_refl}

-- ---- variables below a number

pub argument_low : (limit : ℕ) (ts : List Term) → all_below limit ts ≡ true → (t : Term) → IsIn t ts → (x : ℕ) → occurs x t ≡ true → x < limit
argument_low limit [] e t i x o = absurd i
argument_low limit (u ∷ us) e t (inl d) x o =
    below_is limit u (and_parts (has_variables_below limit u) (all_below limit us) e).0 x (ap (occurs x) d ∙ o)
argument_low limit (u ∷ us) e t (inr i) x o = argument_low limit us (and_parts (has_variables_below limit u) (all_below limit us) e).1 t i x o

pub are_low : (limit : ℕ) (ts : List Term) → all_below limit ts ≡ true → AreBelow limit ts
are_low limit [] e x o = cc
are_low limit (u ∷ us) e x o =
    let (p, q) = and_parts (has_variables_below limit u) (all_below limit us) e in
    elim (or_cases (occurs x u) (occurs_in x us) o) [ inl k ↦ below_is limit u p x k | inr k ↦ are_low limit us q x k ]

-- ---- lists of terms

length_numbers : (first n : ℕ) → length (numbers first n) ≡ n
length_numbers first zero = refl
length_numbers first (suc n) = ap suc (length_numbers (suc first) n)

number_at : (f : ℕ → Term) (first n j : ℕ) → j < n → term_at (map f (numbers first n)) j ≡ f (first + j)
number_at f first zero j l = absurd (omega (arith, l))
number_at f first (suc n) zero l = ap f (omega arith)
number_at f first (suc n) (suc j) l = let e : suc first + j ≡ first + suc j = omega arith in number_at f (suc first) n j (omega (arith, l)) ∙ ap f e

pub behind_at : (xs ys : List Term) (j : ℕ) → term_at (xs ++ ys) (length xs + j) ≡ term_at ys j
behind_at [] ys j = ap (term_at ys) (omega arith)
behind_at (x ∷ xs) ys j = let e : length (x ∷ xs) + j ≡ suc (length xs + j) = omega arith in ap (term_at (x ∷ xs ++ ys)) e ∙ behind_at xs ys j

pub before_at : (xs ys : List Term) (j : ℕ) → j < length xs → term_at (xs ++ ys) j ≡ term_at xs j
before_at [] ys j l = absurd (omega (arith, l))
before_at (x ∷ xs) ys zero l = refl
before_at (x ∷ xs) ys (suc j) l = before_at xs ys j (omega arith)

then_numbers : (i f : ℕ → Term) (vs : List ℕ) → map (under f) (map i vs) ≡ map (then_also i f) vs
then_numbers i f [] = refl
then_numbers i f (v ∷ vs) = ap (λ l. under f (i v) ∷ l) (then_numbers i f vs)

pub same_maps : (f g : Term → Term) (ts : List Term) → ((t : Term) → IsIn t ts → f t ≡ g t) → map f ts ≡ map g ts
same_maps f g [] h = refl
same_maps f g (t ∷ ts) h = let p = h t (inl refl) in let q = same_maps f g ts (λ x i. h x (inr i)) in cc

abbrev made : ℕ → ℕ → Abs → StateView
made n v a = record { arity = n; variables = v; abs = a }

same_parts : (n n' v v' : ℕ) (a a' : Abs) → n ≡ n' → v ≡ v' → a ≡ a' → made n v a ≡ made n' v' a'
same_parts n n' v v' a a' e f g = cc

-- a state of the clause is one of its sets
pub state_is : (n v : ℕ) (s : StateView) → s.arity ≡ n → s.variables ≡ v → s.abs ≡ abs_of (shares_of s.abs) → s ≡ state_with n v (shares_of s.abs)
state_is n v s e f g = same_parts s.arity n s.variables v s.abs (abs_of (shares_of s.abs)) e f g

pub leq_self : (n : ℕ) (v : Shares) → IsShares n v → Leq n (abs_of v) (abs_of v)
leq_self n v h = record { first_is = refl; second_is = refl; order = shares_refl n v h }

-- ---- the instance that i makes of a clause with this head and so many variables

module _ (head : List Term) (variables : ℕ) where
  abbrev pub arity : ℕ
  arity = length head

  -- the terms at the slots of the clause
  abbrev pub all_terms : (ℕ → Term) → List Term
  all_terms i = map (under i) head ++ map i (numbers 0 variables)

  abbrev pub at_slots : (ℕ → Term) → ℕ → Term
  at_slots i = term_at (all_terms i)

  pub how_many : (i : ℕ → Term) → length (all_terms i) ≡ length head + variables
  how_many i =
      length-append (map (under i) head) (map i (numbers 0 variables))
      ∙ (λ k. length-map head (under i) k + length-map (numbers 0 variables) i k) ∙ ap (λ z. length head + z) (length_numbers 0 variables)

  -- a variable's term
  pub variable_slot : (i : ℕ → Term) (x : ℕ) → x < variables → at_slots i (length head + x) ≡ i x
  variable_slot i x l =
      ap (λ z. at_slots i (z + x)) (sym (length-map head (under i))) ∙ behind_at (map (under i) head) (map i (numbers 0 variables)) x
      ∙ number_at i 0 variables x l ∙ ap i (omega arith)

  -- a term of the clause
  pub filled : (i : ℕ → Term) (t : Term) → ((x : ℕ) → occurs x t ≡ true → x < variables) → under (λ x. at_slots i (length head + x)) t ≡ under i t
  filled i t low = under_same (λ x. at_slots i (length head + x)) i t (λ x o. variable_slot i x (low x o))

  pub moved_at : (i f : ℕ → Term) (k : ℕ) → k < length head + variables → under f (at_slots i k) ≡ at_slots (then_also i f) k
  moved_at i f k l =
      let l' : k < length (all_terms i) = subst (λ z. k < z) (sym (how_many i)) l in
      let e : map (under f) (all_terms i) ≡ all_terms (then_also i f) =
      map-append (under f) (map (under i) head) (map i (numbers 0 variables))
      ∙ (λ j. under_under_all i f head j ++ then_numbers i f (numbers 0 variables) j) in
      sym (term_at-map (under f) (all_terms i) k l') ∙ ap (λ ts. term_at ts k) e

  -- what a state that describes the instance says
  pub record IsKnown (st : StateView) (i : ℕ → Term) (v : Shares) : Type 0 where
    pub state : st ≡ state_with (length head) variables v
    pub value : IsShares (length head + variables) v
    pub describes : meaning.Describes v (placed (length head + variables) (at_slots i))

  pub known : (st : StateView) (i : ℕ → Term) → Speaks sharing head variables st i → IsKnown st i (shares_of st.abs)
  known st i d =
      let v = shares_of st.abs in
      let a : length (map (under i) head) ≡ length head = length-map head (under i) in
      let b : length (map i (numbers 0 variables)) ≡ variables = length-map (numbers 0 variables) i ∙ length_numbers 0 variables in
      let value : IsShares (length head + variables) v = subst (λ z. IsShares z v) (λ k. a k + b k) d.is_state.order.order.first in
      let size : v.slots ≡ length (all_terms i) = value.slots ∙ sym (how_many i) in
      let low : IsBelow (length (all_terms i)) v.free = subst (λ z. IsBelow z v.free) (sym (how_many i)) (is_value (length head + variables) v value).free in
      record {
        state = state_is (length head) variables st (d.is_state.first_arity ∙ a) (d.is_state.first_variables ∙ b) d.is_state.order.first_is;
        value = value;
        describes = subst (λ n. meaning.Describes v (placed n (at_slots i))) (how_many i) (described v (all_terms i) size low d.described);
      }

  -- and the other way
  pub speaks : (i : ℕ → Term) (v : Shares) (terms : ℕ → Term) → IsShares (length head + variables) v
      → ((k : ℕ) → k < length head + variables → terms k ≡ at_slots i k) → meaning.Describes v (placed (length head + variables) terms)
      → Speaks sharing head variables (state_with (length head) variables v) i
  speaks i v terms value same d =
      let a : length (map (under i) head) ≡ length head = length-map head (under i) in
      let b : length (map i (numbers 0 variables)) ≡ variables = length-map (numbers 0 variables) i ∙ length_numbers 0 variables in
      let size : v.slots ≡ length (all_terms i) = value.slots ∙ sym (how_many i) in
      let e = like_describes v (placed (length head + variables) terms) (placed (length head + variables) (at_slots i))
      (placed_like (length head + variables) terms (at_slots i) same) d in
      record {
        is_state = record {
          first_arity = sym a;
          second_arity = sym a;
          first_variables = sym b;
          second_variables = sym b;
          order = subst (λ z. Leq z (abs_of v) (abs_of v)) (λ k. sym a k + sym b k) (leq_self (length head + variables) v value);
        };
        described = shared v (all_terms i) size (subst (λ n. meaning.Describes v (placed n (at_slots i))) (sym (how_many i)) e);
      }

  -- the terms' variables are below a number
  pub low_terms : (i : ℕ → Term) (n : ℕ) → all_below variables head ≡ true → IsFrom variables n i → HaveBelow (length head + variables) n (at_slots i)
  low_terms i n below from w k l o = by_cases (nat_lt k (length head)) refl
    where
      at_head : k < length head → w < n
      at_head m =
          let m' : k < length (map (under i) head) = subst (λ z. k < z) (sym (length-map head (under i))) m in
          let e : at_slots i k ≡ under i (term_at head k) =
          before_at (map (under i) head) (map i (numbers 0 variables)) k m' ∙ term_at-map (under i) head k m in
          let (x, p, q) = source i w (term_at head k) (sym (ap (occurs w) e) ∙ o) in
          from x (are_low variables head below x (in_head head k m x p)) w q
        where
          in_head : (ts : List Term) (k : ℕ) → k < length ts → (x : ℕ) → occurs x (term_at ts k) ≡ true → occurs_in x ts ≡ true
          in_head [] k l x p = absurd (omega (arith, l))
          in_head (t ∷ ts) zero l x p = or_first (occurs x t) (occurs_in x ts) p
          in_head (t ∷ ts) (suc k) l x p = or_second (occurs x t) (occurs_in x ts) (in_head ts k (omega arith) x p)

      behind : length head ≤ k → w < n
      behind m =
          let e : length head + (k - length head) ≡ k = omega (arith, m) in
          let b : k - length head < variables = omega (arith, l, m) in
          from (k - length head) b w (ap (occurs w) (sym (variable_slot i (k - length head) b) ∙ ap (at_slots i) e) ∙ o)

      by_cases : (b : Bool) → nat_lt k (length head) ≡ b → w < n
      by_cases true t = at_head (lower k (length head) t)
      by_cases false t = behind (higher k (length head) t)
