-- Locality: of a unifier with a renamed head, of compositions, and what it does to instances.
use Rattle.std.proofs.Common.{◌≡◌, ◌⊎◌, inl, inr, ℕ, ◌+◌, ◌<◌, ◌≤◌, true, false, List, map, length, sym, ap, ◌∙◌, arith}
use Rattle.std.proofs.lemmas.List.{length-map}
use Rattle.plai_terms.specs.Term.{occurs}
use Rattle.plai_terms.specs.Subst.{bound_to}
use Rattle.plai_terms.specs.declared.term.Term.{Term, Var}
use Rattle.plai_terms.specs.Substitution.{under, then_also, raised, occurs_in, IsBelow, AreBelow, IsLocal}
use Rattle.plai_terms.specs.Unification.{Bindings, UnifiesTo}
use Rattle.plai_terms.specs.declared.outcome.Outcome.TheVariants.{Unified}
use Rattle.plai_terms.proofs.Under.{under-Var, occurs-Var_same, decided, under_under, source, source_in, reaches_in}
use Rattle.plai_terms.specs.Unifiers.{IsMostGeneral}
use Rattle.plai_terms.proofs.Outcomes.{unifier}

-- two in a row, put together in either way
pub after_after : (m f g : ℕ → Term) → then_also (then_also m f) g ≡ then_also m (then_also f g)
after_after m f g = λ i v. under_under f g (m v) i

-- the variables of a renamed term
pub raised_at : (n : ℕ) (ts : List Term) (w : ℕ) → occurs_in w (map (under (raised n)) ts) ≡ true → (v : ℕ) × (occurs_in v ts ≡ true) × (w ≡ v + n)
raised_at n ts w o =
    let (v, i, j) = source_in (raised n) w ts o in
    (v, i, occurs-Var_same w (v + n) j)

pub raised_from : (n : ℕ) (ts : List Term) (w : ℕ) → occurs_in w (map (under (raised n)) ts) ≡ true → n ≤ w
raised_from n ts w o = let (v, i, e) = raised_at n ts w o in omega arith

pub raised_below : (n m : ℕ) (ts : List Term) → AreBelow m ts → (w : ℕ) → occurs_in w (map (under (raised n)) ts) ≡ true → w < n + m
raised_below n m ts h w o = let (v, i, e) = raised_at n ts w o in let k : v < m = h v i in omega arith

-- below the number, a unifier with a renamed head is local to the goal's arguments
pub head_local : (n : ℕ) (hs ts : List Term) (s : Bindings) → length hs ≡ length ts → AreBelow n ts → UnifiesTo (map (under (raised n)) hs) ts (Unified s)
    → IsLocal (bound_to s) n ts
head_local n hs ts s lengths below h =
    let u : IsMostGeneral (map (under (raised n)) hs) ts s = unifier (map (under (raised n)) hs) ts s (length-map hs (under (raised n)) ∙ lengths) h in
    record {
      moves = λ v lt out.
          u.moves v
          (elim (decided (occurs_in v (map (under (raised n)) hs))) [
            | inl e ↦ let no : n ≤ v = raised_from n hs v e in absurd (omega arith)
            | inr e ↦ e
          ])
          out;
      brings = λ v w lt i o.
          elim (u.brings v w o) [
            | inl e ↦ inl (ap (λ x. occurs_in x ts) e ∙ i)
            | inr (inl e) ↦ inr (raised_from n hs w e)
            | inr (inr e) ↦ inl e
          ];
    }

pub local_same : (f g : ℕ → Term) (n : ℕ) (ts : List Term) → ((v : ℕ) → v < n → g v ≡ f v) → IsLocal f n ts → IsLocal g n ts
local_same f g n ts h k = record {
  moves = λ v lt out. h v lt ∙ k.moves v lt out;
  brings = λ v w lt i o. k.brings v w lt i (ap (occurs w) (sym (h v lt)) ∙ o);
}

pub rests_local : (f : ℕ → Term) (n : ℕ) (ts : List Term) → ((v : ℕ) → v < n → f v ≡ Var v) → IsLocal f n ts
rests_local f n ts h = record {
  moves = λ v lt out. h v lt;
  brings = λ v w lt i o. inl (ap (λ x. occurs_in x ts) (occurs-Var_same w v (ap (occurs w) (sym (h v lt)) ∙ o)) ∙ i);
}

-- two substitutions, the second local to the terms as they are then
module _ (f g : ℕ → Term) (n m : ℕ) (ts : List Term) (below : AreBelow n ts) (le : n ≤ m) (later : (v : ℕ) → v < n → IsBelow m (f v))
    (first : IsLocal f n ts) (second : IsLocal g m (map (under f) ts)) where
  moved_not : (v : ℕ) → v < n → occurs_in v ts ≡ false → occurs_in v (map (under f) ts) ≡ false
  moved_not v lt out =
      elim (decided (occurs_in v (map (under f) ts))) [
        | inl e ↦
            let (u, i, j) = source_in f v ts e in
            elim (first.brings u v (below u i) i j) [ inl p ↦ cc | inr p ↦ absurd (omega arith) ]
        | inr e ↦ e
      ]

  pub local_then : IsLocal (then_also f g) n ts
  local_then = record {
    moves = λ v lt out.
        let lt' : v < m = omega arith in
        ap (under g) (first.moves v lt out) ∙ under-Var g v ∙ second.moves v lt' (moved_not v lt out);
    brings = λ v w lt i o.
        let (u, j, p) = source g w (f v) o in
        let there : occurs_in u (map (under f) ts) ≡ true = reaches_in f v u j ts i in
        let u_lt : u < m = later v lt u j in
        elim (second.brings u w u_lt there p) [
          | inl q ↦ let (x, a, b) = source_in f w ts q in first.brings x w (below x a) a b
          | inr q ↦ inr (omega arith)
        ];
  }

-- What was substituted since a moment stays local to the arguments of that moment, behind a substitution that is local to terms whose variables are these
-- arguments' or later ones.
module _ (f g : ℕ → Term) (at n : ℕ) (was ts : List Term) (le : at ≤ n) (now_below : AreBelow n (map (under f) was))
    (since : IsLocal f at was) (step : IsLocal g n ts) (confined : (w : ℕ) → occurs_in w ts ≡ true → (occurs_in w was ≡ true) ⊎ (at ≤ w)) where
  pub local_later : IsLocal (then_also f g) at was
  local_later = record {
    moves = λ v lt out.
        let lt' : v < n = omega arith in
        ap (under g) (since.moves v lt out) ∙ under-Var g v
        ∙ step.moves v lt'
        (elim (decided (occurs_in v ts)) [
          | inl e ↦ elim (confined v e) [ inl p ↦ cc | inr p ↦ absurd (omega arith) ]
          | inr e ↦ e
        ]);
    brings = λ v w lt i o.
        let (u, j, p) = source g w (f v) o in
        let u_lt : u < n = now_below u (reaches_in f v u j was i) in
        elim (decided (occurs_in u ts)) [
          | inl e ↦
              elim (step.brings u w u_lt e p) [
                | inl q ↦ confined w q
                | inr q ↦ inr (omega arith)
              ]
          | inr e ↦
              let same : w ≡ u = occurs-Var_same w u (ap (occurs w) (sym (step.moves u u_lt e)) ∙ p) in
              since.brings v w lt i (ap (λ x. occurs x (f v)) same ∙ j)
        ];
  }
