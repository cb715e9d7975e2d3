-- The equations of a goal with a head are solved one argument after the other.
use Rattle.std.proofs.Common.{◌≡◌, ℕ, zero, suc, ◌+◌, ◌<◌, List, [], ◌∷◌, map, length, Some, sym, ap, subst, ◌∙◌, arith}
use Rattle.std.proofs.lemmas.List.{length-map}
use Rattle.plai_terms.specs.declared.term.Term.{Term}
use Rattle.plai_terms.specs.declared.outcome.Outcome.TheVariants.{Unified}
use Rattle.plai_terms.specs.Subst.{bound_to, apply_of, composed}
use Rattle.plai_terms.specs.Substitution.{under}
use Rattle.plai_terms.specs.Unification.{Bindings, equations, solve}
use Rattle.plai_terms.proofs.Substs.{apply_of-composed}
use Rattle.plai_terms.proofs.Under.{under_under_all}
use Rattle.plai_share_laws.proofs.Placed.{IsSolution, term_at, AreSolved, solved}
use Rattle.plai_share_laws.proofs.Solving.{put_all, put_equations, splits, apply_none}
use Rattle.plai_share_laws.proofs.OneEquation.{solution, turned}
use Rattle.plai_share_laws.proofs.Allowed.{term_at-map}

-- one after the other
in_turn : (first second s : Bindings) → s ≡ composed first second → (t : Term) → under (bound_to second) (under (bound_to first) t) ≡ under (bound_to s) t
in_turn first second s e t = sym (apply_of-composed first second t) ∙ ap (λ b. apply_of b t) (sym e)

-- what is done at each argument, and what comes of it
pub record Chain (base k : ℕ) (hs : List Term) (terms : ℕ → Term) (s : Bindings) : Type 0 where
  pub each : List (ℕ → Term)
  pub are_solved : AreSolved base k hs each terms
  pub whole : (l : ℕ) → solved each terms l ≡ under (bound_to s) (terms l)

-- one argument more
longer : (base k : ℕ) (h : Term) (hs : List Term) (terms : ℕ → Term) (first second s : Bindings)
    → IsSolution (bound_to first) (terms k) (under (λ x. terms (base + x)) h) → Chain base (suc k) hs (λ l. under (bound_to first) (terms l)) second
    → s ≡ composed first second → Chain base k (h ∷ hs) terms s
longer base k h hs terms first second s one rest e = record {
  each = bound_to first ∷ rest.each;
  are_solved = (one, rest.are_solved);
  whole = λ l. rest.whole l ∙ in_turn first second s e (terms l);
}

nothing_left : (n : ℕ) (s : Bindings) → solve n [] [] ≡ Some (Unified s) → [] ≡ s
unfolding solve
nothing_left zero s e = cc
nothing_left (suc n) s e = cc

pub chain : (base : ℕ) (hs gs : List Term) (k : ℕ) (terms : ℕ → Term) (n : ℕ) (s : Bindings) → length hs ≡ length gs
    → ((j : ℕ) → j < length gs → term_at gs j ≡ terms (k + j))
    → solve n (equations (map (under (λ x. terms (base + x))) hs) gs) [] ≡ Some (Unified s) → Chain base k hs terms s
chain base [] [] k terms n s l at e = record {
  each = [];
  are_solved = tt;
  whole = λ l. sym (ap (λ b. apply_of b (terms l)) (sym (nothing_left n s e)) ∙ apply_none (terms l));
}
chain base [] (g ∷ gs) k terms n s l at e = absurd (omega (arith, l))
chain base (h ∷ hs) [] k terms n s l at e = absurd (omega (arith, l))
chain base (h ∷ hs) (g ∷ gs) k terms n s l at e =
    let fill : ℕ → Term = λ x. terms (base + x) in
    let r = splits n ((under fill h, g) ∷ []) (equations (map (under fill) hs) gs) s e in
    let f = bound_to r.first in
    let here : g ≡ terms k = at 0 (omega arith) ∙ ap terms (omega arith) in
    let one : IsSolution f (terms k) (under fill h) = subst (λ x. IsSolution f x (under fill h)) here
    (turned f (under fill h) g (solution (under fill h) g r.first (r.steps, r.first_solved))) in
    let again : put_all r.first (equations (map (under fill) hs) gs) ≡ equations (map (under (λ x. under f (terms (base + x)))) hs) (map (under f) gs) =
    put_equations r.first (map (under fill) hs) gs ∙ ap (λ ts. equations ts (map (under f) gs)) (under_under_all fill f hs) in
    let rest = chain base hs (map (under f) gs) (suc k) (λ l. under f (terms l)) r.more r.second
    (let m = length-map gs (under f) in omega (arith, l, m))
    (λ j m. let b : j < length gs = subst (λ z. j < z) (length-map gs (under f)) m in
    let d : k + suc j ≡ suc k + j = omega arith in
    term_at-map (under f) gs j b ∙ ap (under f) (at (suc j) (omega arith) ∙ ap terms d))
    (subst (λ es. solve r.more es [] ≡ Some (Unified r.second)) again r.second_solved) in
    longer base k h hs terms r.first r.second s one rest r.whole
