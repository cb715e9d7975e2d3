-- What describes lists of terms is what describes them as an instance.
use Rattle.std.proofs.Common.{◌≡◌, ℕ, zero, suc, ◌+◌, ◌-◌, ◌<◌, Bool, true, false, nat_lt, List, [], ◌∷◌, map, length, get_or, slice_index_or, Some, refl}
use Rattle.std.proofs.Common.{sym, ap, subst, ◌∙◌, inl, inr, arith}
use Rattle.plai_base.proofs.Bits.{pattern_slot}
use Rattle.plai_terms.specs.declared.term.Term.{Term, Var}
use Rattle.plai_terms.specs.Term.{occurs}
use Rattle.plai_terms.specs.Substitution.{occurs_in}
use Rattle.plai_terms.proofs.Under.{or_cases, or_first, or_second}
use Rattle.plai_domain.specs.Instances.{argument}
use Rattle.plai_share_laws.specs.Shares.{Shares}
use Rattle.plai_share_laws.specs.Sides.{variable_of}
use Rattle.plai_share_laws.specs.Described.{group_of, IsSharedBy}
use Rattle.plai_share_laws.proofs.Masks.{by_test, same_mask, from_has, has_from}
use Rattle.plai_share_laws.proofs.Lists.{contains_in, in_contains}
use Rattle.plai_share_laws.proofs.Parts.{and_parts, and_both}
use Rattle.plai_share_laws.proofs.Members.{IsIn}
use Rattle.plai_share_laws.proofs.Ordered.{IsBelow}
use Rattle.plai_share_laws.proofs.Meaning.{group, Describes}
use Rattle.plai_share_laws.proofs.Placed.{term_at, tuple_of, InSome}
use Rattle.plai_share_laws.proofs.TermVariables.{variable_of-Var, is_that}
use Rattle.plai_share_laws.proofs.Tuples.{lower, lower_test}

-- the tests of a list of terms, at a place
test_at : (f : Term → Bool) (ts : List Term) (k : ℕ) → get_or (map f ts) k false ≡ true → (k < length ts) × (f (term_at ts k) ≡ true)
test_at f [] k e = cc
test_at f (t ∷ ts) zero e = (omega arith, e)
test_at f (t ∷ ts) (suc k) e = let (l, h) = test_at f ts k e in (omega arith, h)

at_test : (f : Term → Bool) (ts : List Term) (k : ℕ) → k < length ts → f (term_at ts k) ≡ true → get_or (map f ts) k false ≡ true
at_test f [] k l e = absurd (omega (arith, l))
at_test f (t ∷ ts) zero l e = e
at_test f (t ∷ ts) (suc k) l e = at_test f ts k (omega arith) e

-- the slots with the variable
pub group_same : (ts : List Term) (n x : ℕ) → n ≡ length ts → group (tuple_of ts) n x ≡ group_of x ts
group_same ts n x e = same_mask _ _
    (λ k h.
    let (l, o) = from_has ((tuple_of ts).occurs x) n k h in
    let (a, b) = and_parts (nat_lt k (length ts)) (occurs x (term_at ts k)) o in
    pattern_slot (map (occurs x) ts) k ∙ at_test (occurs x) ts k (lower k (length ts) a) b)
    (λ k h.
    let (l, o) = test_at (occurs x) ts k (sym (pattern_slot (map (occurs x) ts) k) ∙ h) in
    has_from ((tuple_of ts).occurs x) n k (omega (arith, l, e)) (and_both _ _ (lower_test k (length ts) l) o))

-- where a variable occurs
pub place_of : (x : ℕ) (ts : List Term) → occurs_in x ts ≡ true → InSome ts x
place_of x [] o = cc
place_of x (t ∷ ts) o =
    elim (or_cases (occurs x t) (occurs_in x ts) o) [
      | inl p ↦ (0, omega arith, p)
      | inr p ↦ let (k, l, q) = place_of x ts p in (suc k, omega arith, q)
    ]

pub in_place : (x : ℕ) (ts : List Term) (k : ℕ) → k < length ts → occurs x (term_at ts k) ≡ true → occurs_in x ts ≡ true
in_place x [] k l o = absurd (omega (arith, l))
in_place x (t ∷ ts) zero l o = or_first (occurs x t) (occurs_in x ts) o
in_place x (t ∷ ts) (suc k) l o = or_second (occurs x t) (occurs_in x ts) (in_place x ts k (omega arith) o)

-- arguments are numbered from 1
pub argument_at : (ts : List Term) (k : ℕ) → k < length ts → argument ts (k + 1) ≡ term_at ts k
argument_at ts k l = let e : (k + 1) - 1 ≡ k = omega arith in ap (λ z. slice_index_or ts z (Var 0)) e ∙ at ts k l
  where
    at : (ts : List Term) (k : ℕ) → k < length ts → slice_index_or ts k (Var 0) ≡ term_at ts k
    at [] k l = absurd (omega (arith, l))
    at (t ∷ ts) zero l = refl
    at (t ∷ ts) (suc k) l = at ts k (omega arith)

module _ (v : Shares) (ts : List Term) (size : v.slots ≡ length ts) where
  -- as an instance
  pub described : IsBelow (length ts) v.free → IsSharedBy v ts → Describes v (tuple_of ts)
  described low d = record {
    groups = λ x k o.
        let (a, b) = and_parts (nat_lt k (length ts)) (occurs x (term_at ts k)) o in
        subst (λ g. IsIn g v.groups) (sym (group_same ts v.slots x size))
        (contains_in v.groups (group_of x ts) (d.groups x (in_place x ts k (lower k (length ts) a) b)));
    free = λ k h.
        let l : k < length ts = low k h in
        let (x, e) = d.free k h in
        let f : variable_of (term_at ts k) ≡ Some x = ap variable_of (sym (argument_at ts k l) ∙ e) ∙ variable_of-Var x in
        (x, rw (lower_test k (length ts) l) f);
  }

  -- and back
  pub shared : Describes v (tuple_of ts) → IsSharedBy v ts
  shared d = record {
    groups = λ x o.
        let (k, l, p) = place_of x ts o in
        in_contains v.groups (group_of x ts)
        (subst (λ g. IsIn g v.groups) (group_same ts v.slots x size)
        (d.groups x k (and_both (nat_lt k (length ts)) (occurs x (term_at ts k)) (lower_test k (length ts) l) p)));
    free = λ k h.
        let (x, e) = d.free k h in
        by_test (nat_lt k (length ts))
        (λ t. let f : variable_of (term_at ts k) ≡ Some x = rw t at e in
        (x, argument_at ts k (lower k (length ts) t) ∙ is_that (term_at ts k) x f))
        (λ t. let f = rw t at e in cc);
  }
