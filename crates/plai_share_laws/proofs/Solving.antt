-- Equations are solved from the first: what solves a list solves its parts in turn.
use Rattle.std.proofs.Common.{◌≡◌, ℕ, zero, suc, List, [], ◌∷◌, ◌++◌, map, Option, Some, None, refl, sym, ap, subst, ◌∙◌, inl, inr, append_assoc}
use Rattle.std.proofs.lemmas.List.{map-append}
use Rattle.plai_terms.specs.Subst.{bound_to, apply_of, composed}
use Rattle.plai_terms.specs.Substitution.{under}
use Rattle.plai_terms.specs.Unification.{Equations, Bindings, equations, move_of, Next, put, moved, going_on, solve}
use Rattle.plai_terms.specs.declared.term.Term.{Term, Var}
use Rattle.plai_terms.specs.declared.outcome.Outcome.{Outcome}
use Rattle.plai_terms.specs.declared.outcome.Outcome.TheVariants.{Unified, Clash, Occurs}
use Rattle.plai_share_laws.proofs.Effects.{Step, Effect, effect}
use Rattle.plai_terms.proofs.Under.{under_same, under_Var}
use Rattle.plai_terms.proofs.Substs.{apply_of-composed}

-- no bindings
pub apply_none : (t : Term) → apply_of [] t ≡ t
apply_none t = under_same (bound_to []) Var t (λ v o. refl) ∙ under_Var t

composed_none : (bs : Bindings) → composed bs [] ≡ bs
composed_none [] = refl
composed_none (p ∷ bs) = let h = apply_none p.1 in let r = composed_none bs in λ i. (p.0, h i) ∷ r i

pub composed_assoc : (a b c : Bindings) → composed (composed a b) c ≡ composed a (composed b c)
composed_assoc [] b c = refl
composed_assoc (p ∷ a) b c =
    let h : apply_of c (apply_of b p.1) ≡ apply_of (composed b c) p.1 = sym (apply_of-composed b c p.1) in
    let r = composed_assoc a b c in cc

-- an outcome, with bindings that were made before
abbrev behind : Bindings → Outcome → Outcome
behind bs (Unified cs) = Unified (composed bs cs)
behind bs Clash = Clash
behind bs Occurs = Occurs

abbrev behind_some : Bindings → Option Outcome → Option Outcome
behind_some bs None = None
behind_some bs (Some o) = Some (behind bs o)

behind_assoc : (a b : Bindings) (o : Option Outcome) → behind_some (composed a b) o ≡ behind_some a (behind_some b o)
behind_assoc a b None = refl
behind_assoc a b (Some (Unified cs)) = ap (λ l. Some (Unified l)) (composed_assoc a b cs)
behind_assoc a b (Some Clash) = refl
behind_assoc a b (Some Occurs) = refl

-- where the outcome is bindings
behind_is : (bs : Bindings) (o : Option Outcome) (s : Bindings) → behind_some bs o ≡ Some (Unified s)
    → (cs : Bindings) × (o ≡ Some (Unified cs)) × (s ≡ composed bs cs)
behind_is bs None s e = cc
behind_is bs (Some (Unified cs)) s e = let d : composed bs cs ≡ s = cc in (cs, refl, sym d)
behind_is bs (Some Clash) s e = cc
behind_is bs (Some Occurs) s e = cc

module _ (n : ℕ) (same : (es : Equations) (bs : Bindings) → solve n es bs ≡ behind_some bs (solve n es [])) where
  goes : (f : Step) (es : Equations) (bs : Bindings) (x y : Next) → f es bs ≡ x → f es [] ≡ y → going_on (solve n) x ≡ behind_some bs (going_on (solve n) y)
      → going_on (solve n) (f es bs) ≡ behind_some bs (going_on (solve n) (f es []))
  goes f es bs x y a b h = ap (going_on (solve n)) a ∙ h ∙ ap (λ z. behind_some bs (going_on (solve n) z)) (sym b)

  failing : (bs : Bindings) (o : Outcome) → ((s : Bindings) → o ≡ Unified s → ⊥) → Some o ≡ behind_some bs (Some o)
  failing bs (Unified s) h = absurd (h s refl)
  failing bs Clash h = refl
  failing bs Occurs h = refl

  accumulates_by : (es : Equations) (bs : Bindings) (l r : Term) (f : Step) → Effect l r f
      → going_on (solve n) (f es bs) ≡ behind_some bs (going_on (solve n) (f es []))
  accumulates_by es bs l r f (inl k) = goes f es bs _ _ (k.goes es bs) (k.goes es []) (same es bs)
  accumulates_by es bs l r f (inr (inl k)) = goes f es bs _ _ (k.goes es bs) (k.goes es [])
      (same (put k.variable k.term es) (composed bs ((k.variable, k.term) ∷ []))
      ∙ behind_assoc bs ((k.variable, k.term) ∷ []) (solve n (put k.variable k.term es) [])
      ∙ ap (behind_some bs) (sym (same (put k.variable k.term es) ((k.variable, k.term) ∷ []))))
  accumulates_by es bs l r f (inr (inr (inl k))) = goes f es bs _ _ (k.goes es bs) (k.goes es []) (same (k.parts ++ es) bs)
  accumulates_by es bs l r f (inr (inr (inr k))) = goes f es bs _ _ (k.goes es bs) (k.goes es []) (failing bs k.outcome k.fails)

-- the bindings so far play no part
pub accumulates : (n : ℕ) (es : Equations) (bs : Bindings) → solve n es bs ≡ behind_some bs (solve n es [])
unfolding solve
accumulates zero es bs = refl
accumulates (suc n) [] bs = ap (λ l. Some (Unified l)) (sym (composed_none bs))
accumulates (suc n) (x ∷ es) bs = accumulates_by n (λ es bs. accumulates n es bs) es bs x.0 x.1 (moved (move_of x.0 x.1)) (effect x.0 x.1)

-- bindings put into equations
abbrev pub put_all : Bindings → Equations → Equations
put_all c es = map (λ e. (apply_of c e.0, apply_of c e.1)) es

put_none : (es : Equations) → put_all [] es ≡ es
put_none [] = refl
put_none (e ∷ es) = let a = apply_none e.0 in let b = apply_none e.1 in let r = put_none es in λ i. (a i, b i) ∷ r i

put_composed : (b c : Bindings) (es : Equations) → put_all (composed b c) es ≡ put_all c (put_all b es)
put_composed b c [] = refl
put_composed b c (e ∷ es) = let p = apply_of-composed b c e.0 in let q = apply_of-composed b c e.1 in let r = put_composed b c es in cc

pub put_equations : (c : Bindings) (xs ys : List Term) → put_all c (equations xs ys) ≡ equations (map (under (bound_to c)) xs) (map (under (bound_to c)) ys)
put_equations c [] ys = refl
put_equations c (x ∷ xs) [] = refl
put_equations c (x ∷ xs) (y ∷ ys) = ap (λ (l : Equations). (apply_of c x, apply_of c y) ∷ l) (put_equations c xs ys)

-- the first part is solved, and then the second, into which the bindings of the first are put
pub record AreSplit (ds es : Equations) (s : Bindings) : Type 0 where
  pub first : Bindings
  pub second : Bindings
  pub steps : ℕ
  pub more : ℕ
  pub first_solved : solve steps ds [] ≡ Some (Unified first)
  pub second_solved : solve more (put_all first es) [] ≡ Some (Unified second)
  pub whole : s ≡ composed first second

-- the same, one step on
record AreSplitBy (f : Step) (ds es : Equations) (s : Bindings) : Type 0 where
  pub first : Bindings
  pub second : Bindings
  pub steps : ℕ
  pub more : ℕ
  pub first_solved : going_on (solve steps) (f ds []) ≡ Some (Unified first)
  pub second_solved : solve more (put_all first es) [] ≡ Some (Unified second)
  pub whole : s ≡ composed first second

module _ (n : ℕ) (below : (ds es : Equations) (s : Bindings) → solve n (ds ++ es) [] ≡ Some (Unified s) → AreSplit ds es s) where
  splits_by : (ds es : Equations) (s : Bindings) (l r : Term) (f : Step) → Effect l r f → going_on (solve n) (f (ds ++ es) []) ≡ Some (Unified s)
      → AreSplitBy f ds es s
  splits_by ds es s l r f (inl k) e =
      let m = below ds es s (ap (going_on (solve n)) (sym (k.goes (ds ++ es) [])) ∙ e) in
      record {
        first = m.first;
        second = m.second;
        steps = m.steps;
        more = m.more;
        first_solved = ap (going_on (solve m.steps)) (k.goes ds []) ∙ m.first_solved;
        second_solved = m.second_solved;
        whole = m.whole;
      }
  splits_by ds es s l r f (inr (inl k)) e =
      let v = k.variable in
      let t = k.term in
      let b : Bindings = (v, t) ∷ [] in
      let d : solve n (put v t (ds ++ es)) b ≡ Some (Unified s) = ap (going_on (solve n)) (sym (k.goes (ds ++ es) [])) ∙ e in
      let (cs, g, h) = behind_is b (solve n (put v t (ds ++ es)) []) s (sym (accumulates n (put v t (ds ++ es)) b) ∙ d) in
      let parts : put v t (ds ++ es) ≡ put v t ds ++ put v t es = map-append (λ e. (apply_of b e.0, apply_of b e.1)) ds es in
      let m = below (put v t ds) (put v t es) cs (subst (λ l. solve n l [] ≡ Some (Unified cs)) parts g) in
      record {
        first = composed b m.first;
        second = m.second;
        steps = m.steps;
        more = m.more;
        first_solved = ap (going_on (solve m.steps)) (k.goes ds []) ∙ accumulates m.steps (put v t ds) b ∙ ap (behind_some b) m.first_solved;
        second_solved = subst (λ l. solve m.more l [] ≡ Some (Unified m.second)) (sym (put_composed b m.first es)) m.second_solved;
        whole = h ∙ ap (composed b) m.whole ∙ sym (composed_assoc b m.first m.second);
      }
  splits_by ds es s l r f (inr (inr (inl k))) e =
      let d : solve n (k.parts ++ (ds ++ es)) [] ≡ Some (Unified s) = ap (going_on (solve n)) (sym (k.goes (ds ++ es) [])) ∙ e in
      let m = below (k.parts ++ ds) es s (subst (λ l. solve n l [] ≡ Some (Unified s)) (sym (append_assoc k.parts ds es)) d) in
      record {
        first = m.first;
        second = m.second;
        steps = m.steps;
        more = m.more;
        first_solved = ap (going_on (solve m.steps)) (k.goes ds []) ∙ m.first_solved;
        second_solved = m.second_solved;
        whole = m.whole;
      }
  splits_by ds es s l r f (inr (inr (inr k))) e =
      let d : Some k.outcome ≡ Some (Unified s) = ap (going_on (solve n)) (sym (k.goes (ds ++ es) [])) ∙ e in
      let c : k.outcome ≡ Unified s = cc in absurd (k.fails s c)

-- what solves two lists, one behind the other, solves them in turn
pub splits : (n : ℕ) (ds es : Equations) (s : Bindings) → solve n (ds ++ es) [] ≡ Some (Unified s) → AreSplit ds es s
unfolding solve
splits zero ds es s e = cc
splits (suc n) [] es s e = record {
  first = [];
  second = s;
  steps = 1;
  more = suc n;
  first_solved = refl;
  second_solved = subst (λ l. solve (suc n) l [] ≡ Some (Unified s)) (sym (put_none es)) e;
  whole = refl;
}
splits (suc n) (x ∷ ds) es s e =
    let r = splits_by n (λ ds es s. splits n ds es s) ds es s x.0 x.1 (moved (move_of x.0 x.1)) (effect x.0 x.1) e in
    record {
      first = r.first;
      second = r.second;
      steps = suc r.steps;
      more = r.more;
      first_solved = r.first_solved;
      second_solved = r.second_solved;
      whole = r.whole;
    }
