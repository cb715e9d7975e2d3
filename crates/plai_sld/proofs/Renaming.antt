-- The bindings that rename a clause.
use Rattle.std.proofs.Common.{◌≡◌, inl, inr, ℕ, zero, suc, ◌+◌, ◌<◌, ◌≤◌, false, nat_eq, cond, eqb, List, [], ◌∷◌, ◌++◌, map, refl, sym, ap, subst, ◌∙◌, arith}
use Rattle.std.specs.List.{IsDistinct, AllByRecursion}
use Rattle.std.proofs.lemmas.Bool.{eqb-true, eqb-false, ne_eqb}
use Rattle.plai_terms.specs.Subst.{bound_to}
use Rattle.plai_terms.specs.declared.term.Term.{Term, Var}
use Rattle.plai_terms.specs.Substitution.{under, raised, AreBelow}
use Rattle.plai_terms.specs.Unification.{Bindings}
use Rattle.plai_terms.proofs.Under.{decided, under_same_all}
use Rattle.plai_domain.specs.Soundness.{numbers}
use Rattle.plai_sld.specs.Renaming.{raising}

-- the bindings of the variables from a on, k of them
abbrev bindings_from : (ℕ → Term) → ℕ → ℕ → Bindings
bindings_from f a k = map (λ v. (v, f v)) (numbers a k)

bound_from : (f : ℕ → Term) (a k v : ℕ) → a ≤ v → v < a + k → bound_to (bindings_from f a k) v ≡ f v
bound_from f a zero v le lt = absurd (omega arith)
bound_from f a (suc k) v le lt =
    elim (decided (eqb a v)) [
      | inl e ↦ ap (λ b. cond b (f a) (bound_to (bindings_from f (suc a) k) v)) e ∙ ap f (eqb-true a v e)
      | inr e ↦
          let apart : a ≡ v → ⊥ = eqb-false a v e in
          ap (λ b. cond b (f a) (bound_to (bindings_from f (suc a) k) v)) e ∙ bound_from f (suc a) k v (omega arith) (omega arith)
    ]

-- terms whose variables are below the limit are renamed
pub raising_is : (n limit : ℕ) (ts : List Term) → AreBelow limit ts → map (under (bound_to (raising n limit))) ts ≡ map (under (raised n)) ts
raising_is n limit ts below = under_same_all (bound_to (raising n limit)) (raised n) ts
    (λ v o. let l : v < limit = below v o in bound_from (raised n) 0 limit v (omega arith) (omega arith))

numbers_push : (a k : ℕ) → numbers a (suc k) ≡ numbers a k ++ (a + k) ∷ []
numbers_push a zero = ap (λ v. v ∷ []) (omega arith)
numbers_push a (suc k) = let e : suc a + k ≡ a + suc k = omega arith in ap (λ vs. a ∷ vs) (numbers_push (suc a) k ∙ ap (λ v. numbers (suc a) k ++ v ∷ []) e)

pairs_push : (f : ℕ → Term) (vs : List ℕ) (v : ℕ) → map {B = ℕ × Term} (λ w. (w, f w)) (vs ++ v ∷ []) ≡ map {B = ℕ × Term} (λ w. (w, f w)) vs ++ (v, f v) ∷ []
pairs_push f [] v = refl
pairs_push f (w ∷ ws) v = let first : ℕ × Term = (w, f w) in ap (λ ps. first ∷ ps) (pairs_push f ws v)

-- a step of the loop that makes them
pub raising_push : (n k w : ℕ) (pairs after : Bindings) → w ≡ k + n → pairs ≡ raising n k → after ≡ pairs ++ (k, Var w) ∷ [] → after ≡ raising n (k + 1)
raising_push n k w pairs after is before e =
    let more : k + 1 ≡ suc k = omega arith in
    let more_numbers : numbers 0 (suc k) ≡ numbers 0 k ++ k ∷ [] = numbers_push 0 k ∙ ap (λ v. numbers 0 k ++ v ∷ []) (omega arith) in
    let all : raising n (suc k) ≡ raising n k ++ (k, raised n k) ∷ [] =
    ap (map {B = ℕ × Term} (λ v. (v, raised n v))) more_numbers ∙ pairs_push (raised n) (numbers 0 k) k in
    e ∙ ap (λ ps. ps ++ (k, Var w) ∷ []) before ∙ ap (λ v. raising n k ++ (k, Var v) ∷ []) is ∙ sym all ∙ ap (raising n) (sym more)

keys : (f : ℕ → Term) (vs : List ℕ) → map (λ (p : ℕ × Term). p.0) (map (λ v. (v, f v)) vs) ≡ vs
keys f [] = refl
keys f (v ∷ vs) = ap (λ ws. v ∷ ws) (keys f vs)

apart_from : (v a k : ℕ) → v < a → AllByRecursion (λ w. nat_eq v w ≡ false) (numbers a k)
apart_from v a zero lt = tt
apart_from v a (suc k) lt = (ne_eqb v a (λ (e : v ≡ a). omega arith), apart_from v (suc a) k (omega arith))

distinct_numbers : (a k : ℕ) → IsDistinct nat_eq (numbers a k)
unfolding IsDistinct
distinct_numbers a zero = tt
distinct_numbers a (suc k) = (apart_from a (suc a) k (omega arith), distinct_numbers (suc a) k)

pub raising_distinct : (n limit : ℕ) (pairs : Bindings) → pairs ≡ raising n limit → IsDistinct nat_eq (map (λ p. p.0) pairs)
raising_distinct n limit pairs e = subst (λ vs. IsDistinct nat_eq vs) (sym (ap (map (λ (p : ℕ × Term). p.0)) e ∙ keys (raised n) (numbers 0 limit)))
    (distinct_numbers 0 limit)
