-- The own skeletons of a clause's instance, and what is pulled out of them.
use Rattle.std.proofs.Common.{◌≡◌, ℕ, zero, suc, ◌+◌, ◌-◌, ◌<◌, ◌≤◌, true, List, [], ◌∷◌, map, length, refl, sym, ap, ◌∙◌, arith, rules}
use Rattle.std.specs.List.{list_all, AllByRecursion}
use Rattle.std.proofs.lemmas.List.{length-map, get_or-map}
use Rattle.std.proofs.lemmas.Bool.{ltb-true, and_parts}
use Rattle.plai_terms.specs.declared.term.Term.{Term, out-Term, roll-Term, roll-out-Term, Var, Int, Atom, Compound, the_lemmas}
use Rattle.plai_terms.specs.declared.term.Term.TheOpen.{Term-F}
use Rattle.plai_terms.specs.declared.term.Term.TheVariants.{rolls-Int, rolls-Atom, rolls-Compound, outs-Var, outs-Int, outs-Atom, outs-Compound}
use Rattle.plai_terms.specs.Term.{has_variables_below}
use Rattle.plai_terms.specs.Substitution.{under, then_also}
use Rattle.plai_terms.proofs.Terms.{induction}
use Rattle.plai_terms.proofs.Under.{under-Var, under-Compound}
use Rattle.plai_terms.specs.declared.skeleton.Skeleton.{Skeleton}
use Rattle.plai_terms.specs.declared.skeleton.Skeleton as skeleton
use Rattle.plai_domain.specs.Instances.{all_below, argument}
use Rattle.plai_domain.specs.Soundness.{numbers}
use Rattle.plai_depth_laws.specs.Moves.{skeleton_at, pull}
use Rattle.plai_depth_laws.specs.Order.{AreUnder}
use Rattle.plai_depth_laws.specs.Operations.{is_variable_layer}
use Rattle.plai_depth_laws.proofs.Moves.{below-Var, below-Compound, pull-Var, pull-Int, pull-Atom, pull-Compound}
use Rattle.plai_depth_laws.proofs.Described.{shape, instance_under}

pub length_numbers : (first n : ℕ) → length (numbers first n) ≡ n
length_numbers first zero = refl
length_numbers first (suc n) = ap suc (length_numbers (suc first) n)

-- the own skeletons of the first n variables' terms
abbrev pub shapes : (ℕ → Term) → ℕ → List Skeleton
shapes i n = map shape (map i (numbers 0 n))

pub length_shapes : (i : ℕ → Term) (n : ℕ) → length (shapes i n) ≡ n
length_shapes i n = length-map (map i (numbers 0 n)) shape ∙ length-map (numbers 0 n) i ∙ length_numbers 0 n

shape_at : (i : ℕ → Term) (first n j : ℕ) → j < n → skeleton_at (map shape (map i (numbers first n))) j ≡ shape (i (first + j))
shape_at i first zero j l = absurd (omega (arith, l))
shape_at i first (suc n) zero l = let e : first ≡ first + 0 = omega arith in ap (λ v. shape (i v)) e
shape_at i first (suc n) (suc j) l = let e : suc first + j ≡ first + suc j = omega arith in
    shape_at i (suc first) n j (omega (arith, l)) ∙ ap (λ v. shape (i v)) e

module _ (i : ℕ → Term) (n : ℕ) where
  abbrev Pulls : Term → Type 0
  Pulls t = has_variables_below n t ≡ true → shape (under i t) ≡ pull (shapes i n) t

  all_pull : (args : List Term) → AllByRecursion Pulls args → list_all (λ b. b) (map (has_variables_below n) args) ≡ true
      → map shape (map (under i) args) ≡ map (pull (shapes i n)) args
  all_pull [] h e = refl
  all_pull (a ∷ args) h e =
      let b = and_parts (has_variables_below n a) (list_all (λ b. b) (map (has_variables_below n) args)) e in
      let p = h.0 b.0 in
      let q = all_pull args h.1 b.1 in
      λ j. p j ∷ q j

  -- an instance's own skeleton is pulled out of the variables' own
  pub shape_pulled : (t : Term) → has_variables_below n t ≡ true → shape (under i t) ≡ pull (shapes i n) t
  shape_pulled = induction Pulls
      (λ v e.
      let l : v < n = ltb-true v n (sym (below-Var n v) ∙ e) in
      let z : 0 + v ≡ v = omega arith in
      ap shape (under-Var i v) ∙ ap (λ v. shape (i v)) (sym z) ∙ sym (shape_at i 0 n v l) ∙ sym (pull-Var (shapes i n) v))
      (λ m e. let f : under i (Int m) ≡ Int m = search (rules, the_lemmas) in ap shape f ∙ pull-Int [] m ∙ sym (pull-Int (shapes i n) m))
      (λ a e. let f : under i (Atom a) ≡ Atom a = search (rules, the_lemmas) in ap shape f ∙ pull-Atom [] a ∙ sym (pull-Atom (shapes i n) a))
      (λ name args h e.
      ap shape (under-Compound i name args) ∙ pull-Compound [] name (map (under i) args)
      ∙ ap (skeleton.Compound name) (all_pull args h (sym (below-Compound n name args) ∙ e))
      ∙ sym (pull-Compound (shapes i n) name args))

  pub shapes_pulled : (ts : List Term) → all_below n ts ≡ true → map shape (map (under i) ts) ≡ map (pull (shapes i n)) ts
  shapes_pulled [] e = refl
  shapes_pulled (t ∷ ts) e =
      let b = and_parts (has_variables_below n t) (all_below n ts) e in
      let p = shape_pulled t b.0 in
      let q = shapes_pulled ts b.1 in
      λ j. p j ∷ q j

-- a further substitution lowers own skeletons
pub lowered : (f : ℕ → Term) (ts : List Term) → AreUnder (map shape (map (under f) ts)) (map shape ts)
lowered f [] = AreUnder.none
lowered f (t ∷ ts) = AreUnder.more (instance_under f t) (lowered f ts)

pub shapes_lowered : (i f : ℕ → Term) (vs : List ℕ) → AreUnder (map shape (map (then_also i f) vs)) (map shape (map i vs))
shapes_lowered i f [] = AreUnder.none
shapes_lowered i f (v ∷ vs) = AreUnder.more (instance_under f (i v)) (shapes_lowered i f vs)

-- an argument of an instance
pub argument_is : (i : ℕ → Term) (args : List Term) (j : ℕ) → 1 ≤ j → j ≤ length args → argument (map (under i) args) j ≡ under i (argument args j)
argument_is i args j l m = let w : j - 1 < length args = omega arith in get_or-map (under i) args (j - 1) (Var 0) (Var 0) w

-- what becomes a variable is one
pub variable_is : (i : ℕ → Term) (w : ℕ) (t : Term) → under i t ≡ Var w → is_variable_layer (out-Term t) ≡ true
variable_is i w t e = by (out-Term t) refl
  where
    by : (x : Term-F Term) → out-Term t ≡ x → is_variable_layer x ≡ true
    by (Term-F.Var v) is = refl
    by (Term-F.Int n) is =
        let s : t ≡ Int n = sym (roll-out-Term t) ∙ ap roll-Term is ∙ rolls-Int n in
        let f : under i (Int n) ≡ Int n = search (rules, the_lemmas) in
        let g : Term-F.Int n ≡ Term-F.Var w = sym (outs-Int n) ∙ ap out-Term (sym f ∙ ap (under i) (sym s) ∙ e) ∙ outs-Var w in
        absurd cc
    by (Term-F.Atom a) is =
        let s : t ≡ Atom a = sym (roll-out-Term t) ∙ ap roll-Term is ∙ rolls-Atom a in
        let f : under i (Atom a) ≡ Atom a = search (rules, the_lemmas) in
        let g : Term-F.Atom a ≡ Term-F.Var w = sym (outs-Atom a) ∙ ap out-Term (sym f ∙ ap (under i) (sym s) ∙ e) ∙ outs-Var w in
        absurd cc
    by (Term-F.Compound name args) is =
        let s : t ≡ Compound name args = sym (roll-out-Term t) ∙ ap roll-Term is ∙ rolls-Compound name args in
        let g : Term-F.Compound name (map (under i) args) ≡ Term-F.Var w =
        sym (outs-Compound name (map (under i) args)) ∙ ap out-Term (sym (under-Compound i name args) ∙ ap (under i) (sym s) ∙ e) ∙ outs-Var w in
        absurd cc
