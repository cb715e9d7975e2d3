-- A join is the least skeleton above both.
use Rattle.std.proofs.Common.{◌≡◌, ℕ, ℤ, Bool, true, false, cond, nat_eq, List, [], ◌∷◌, map, length, refl, sym, ap, ◌∙◌, subst}
use Rattle.std.specs.Cmp.Lexicographic.{pointwise}
use Rattle.std.specs.Ordering.{int_eq}
use Rattle.std.specs.List.{AllByRecursion}
use Rattle.std.proofs.lemmas.List.{length-map}
use Rattle.plai_terms.specs.declared.skeleton.Skeleton.{Skeleton, out-Skeleton, roll-Skeleton, out-roll-Skeleton, map-Skeleton, Any, Integer, Int, Atom}
use Rattle.plai_terms.specs.declared.skeleton.Skeleton.{Compound}
use Rattle.plai_terms.specs.declared.skeleton.Skeleton.TheOpen.{Skeleton-F}
use Rattle.plai_terms.specs.declared.skeleton.Skeleton.TheVariants.{outs-Any, outs-Integer, outs-Int, outs-Compound}
use Rattle.plai_terms.proofs.Skeletons.{arguments, induction}
use Rattle.plai_depth_laws.specs.Skeletons.{same_functor, join_args, join_layer, join}
use Rattle.plai_depth_laws.specs.Order.{IsUnder, same, any, integer, compound, AreUnder, none, more}
use Rattle.plai_depth_laws.proofs.Equations.{is-Any, is-Integer, is-Int, is-Atom, is-Compound, join_at, integers_equal, integer_itself, name_itself}
use Rattle.plai_depth_laws.proofs.Equations.{functors_equal, functor_itself}
use Rattle.plai_terms.proofs.Same.{names_equal}
use Rattle.plai_depth_laws.proofs.Order.{length-AreUnder}

-- ---- it lies above both

abbrev AreBelow : Skeleton → Skeleton → Skeleton → Type 0
AreBelow s t m = IsUnder s m × IsUnder t m

abbrev Goes : Skeleton → Type 0
Goes s = (t : Skeleton) → AreBelow s t (join s t)

all_go : (ss ts : List Skeleton) → AllByRecursion Goes ss → length ss ≡ length ts
    → AreUnder ss (join_args (map join ss) ts) × AreUnder ts (join_args (map join ss) ts)
all_go [] [] h e = (none, none)
all_go [] (t ∷ ts) h e = absurd cc
all_go (s ∷ ss) [] h e = absurd cc
all_go (s ∷ ss) (t ∷ ts) h e =
    let len : length ss ≡ length ts = cc in
    let p = h.0 t in
    let ps = all_go ss ts h.1 len in
    (more p.0 ps.0, more p.1 ps.1)

integers_below : (s t : Skeleton) (m n : ℤ) → out-Skeleton s ≡ Skeleton-F.Int m → out-Skeleton t ≡ Skeleton-F.Int n → (b : Bool) → int_eq m n ≡ b
    → AreBelow s t (cond b (Int m) Integer)
integers_below s t m n e f true q = (same (is-Int s m e), same (is-Int t n f ∙ ap Int (sym (integers_equal m n q))))
integers_below s t m n e f false q = (integer m e outs-Integer, integer n f outs-Integer)

atoms_below : (s t : Skeleton) (a b : List ℕ) → out-Skeleton s ≡ Skeleton-F.Atom a → out-Skeleton t ≡ Skeleton-F.Atom b → (c : Bool)
    → pointwise nat_eq a b ≡ c → AreBelow s t (cond c (Atom a) Any)
atoms_below s t a b e f true q = (same (is-Atom s a e), same (is-Atom t b f ∙ ap Atom (sym (names_equal a b q))))
atoms_below s t a b e f false q = (any outs-Any, any outs-Any)

compounds_below : (s t : Skeleton) (a b : List ℕ) (ss ts : List Skeleton) → out-Skeleton s ≡ Skeleton-F.Compound a ss
    → out-Skeleton t ≡ Skeleton-F.Compound b ts → AllByRecursion Goes ss
    → (c : Bool) → same_functor a (length (map join ss)) b (length ts) ≡ c → AreBelow s t (cond c (Compound a (join_args (map join ss) ts)) Any)
compounds_below s t a b ss ts e f h true q =
    let r = functors_equal a (length (map join ss)) b (length ts) q in
    let ps = all_go ss ts h (sym (length-map ss join) ∙ r.1) in
    let there = outs-Compound a (join_args (map join ss) ts) in (
      compound a ss (join_args (map join ss) ts) e there ps.0,
      compound a ts (join_args (map join ss) ts) (f ∙ ap (λ n. Skeleton-F.Compound n ts) (sym r.0)) there ps.1,
    )
compounds_below s t a b ss ts e f h false q = (any outs-Any, any outs-Any)

layers_below : (s t : Skeleton) (x y : Skeleton-F Skeleton) → out-Skeleton s ≡ x → out-Skeleton t ≡ y → AllByRecursion Goes (arguments x)
    → AreBelow s t (join_layer (map-Skeleton Skeleton (Skeleton → Skeleton) join x) y)
layers_below s t Skeleton-F.Integer Skeleton-F.Integer e f h = (same (is-Integer s e), same (is-Integer t f))
layers_below s t Skeleton-F.Integer (Skeleton-F.Int n) e f h = (same (is-Integer s e), integer n f outs-Integer)
layers_below s t (Skeleton-F.Int m) Skeleton-F.Integer e f h = (integer m e outs-Integer, same (is-Integer t f))
layers_below s t (Skeleton-F.Int m) (Skeleton-F.Int n) e f h = integers_below s t m n e f (int_eq m n) refl
layers_below s t (Skeleton-F.Atom a) (Skeleton-F.Atom b) e f h = atoms_below s t a b e f (pointwise nat_eq a b) refl
layers_below s t (Skeleton-F.Compound a ss) (Skeleton-F.Compound b ts) e f h =
    compounds_below s t a b ss ts e f h (same_functor a (length (map join ss)) b (length ts)) refl
layers_below s t _ _ e f h = (any outs-Any, any outs-Any)

pub join_above : (s t : Skeleton) → IsUnder s (join s t) × IsUnder t (join s t)
join_above = induction Goes (λ x h t.
    let s : Skeleton = roll-Skeleton x in
    subst (AreBelow s t) (sym (join_at s x (out-roll-Skeleton x) t (out-Skeleton t) refl))
    (layers_below s t x (out-Skeleton t) (out-roll-Skeleton x) refl h))

pub join_above_first : (s t : Skeleton) → IsUnder s (join s t)
join_above_first s t = (join_above s t).0

pub join_above_second : (s t : Skeleton) → IsUnder t (join s t)
join_above_second s t = (join_above s t).1

-- ---- with one that lies above, or below

abbrev Rests : Skeleton → Type 0
Rests s = join s s ≡ s

all_rest : (ss : List Skeleton) → AllByRecursion Rests ss → join_args (map join ss) ss ≡ ss
all_rest [] h = refl
all_rest (s ∷ ss) h = let a = h.0 in let b = all_rest ss h.1 in λ i. a i ∷ b i

rest_layer : (s : Skeleton) (x : Skeleton-F Skeleton) → out-Skeleton s ≡ x → AllByRecursion Rests (arguments x)
    → join_layer (map-Skeleton Skeleton (Skeleton → Skeleton) join x) x ≡ s
rest_layer s Skeleton-F.Any e h = sym (is-Any s e)
rest_layer s Skeleton-F.Integer e h = sym (is-Integer s e)
rest_layer s (Skeleton-F.Int n) e h = ap (λ b. cond b (Int n) Integer) (integer_itself n) ∙ sym (is-Int s n e)
rest_layer s (Skeleton-F.Atom a) e h = ap (λ b. cond b (Atom a) Any) (name_itself a) ∙ sym (is-Atom s a e)
rest_layer s (Skeleton-F.Compound name ss) e h =
    ap (λ b. cond b (Compound name (join_args (map join ss) ss)) Any) (functor_itself name (length (map join ss)) (length ss) (length-map ss join))
    ∙ ap (Compound name) (all_rest ss h) ∙ sym (is-Compound s name ss e)

pub join_itself : (s : Skeleton) → join s s ≡ s
join_itself = induction Rests (λ x h.
    let s : Skeleton = roll-Skeleton x in
    join_at s x (out-roll-Skeleton x) s x (out-roll-Skeleton x) ∙ rest_layer s x (out-roll-Skeleton x) h)

any_first : (y : Skeleton-F Skeleton) → join_layer Skeleton-F.Any y ≡ Any
any_first Skeleton-F.Any = refl
any_first _ = refl

any_second : (x : Skeleton-F (Skeleton → Skeleton)) → join_layer x Skeleton-F.Any ≡ Any
any_second Skeleton-F.Any = refl
any_second _ = refl

mutual
  pub join_over : {s t : Skeleton} → IsUnder t s → join s t ≡ s
  join_over {s} {t} (same e) = ap (join s) e ∙ join_itself s
  join_over {s} {t} (any e) = join_at s Skeleton-F.Any e t (out-Skeleton t) refl ∙ any_first (out-Skeleton t) ∙ sym (is-Any s e)
  join_over {s} {t} (integer n e f) = join_at s Skeleton-F.Integer f t (Skeleton-F.Int n) e ∙ sym (is-Integer s f)
  join_over {s} {t} (compound name ts ss e f ps) =
      join_at s (Skeleton-F.Compound name ss) f t (Skeleton-F.Compound name ts) e
      ∙ ap (λ b. cond b (Compound name (join_args (map join ss) ts)) Any)
      (functor_itself name (length (map join ss)) (length ts) (length-map ss join ∙ sym (length-AreUnder ps)))
      ∙ ap (Compound name) (joins_over ps) ∙ sym (is-Compound s name ss f)

  joins_over : {ss ts : List Skeleton} → AreUnder ts ss → join_args (map join ss) ts ≡ ss
  joins_over none = refl
  joins_over (more p ps) = let a = join_over p in let b = joins_over ps in λ i. a i ∷ b i

mutual
  pub join_under : {s t : Skeleton} → IsUnder s t → join s t ≡ t
  join_under {s} {t} (same e) = ap (λ s. join s t) e ∙ join_itself t
  join_under {s} {t} (any e) = join_at s (out-Skeleton s) refl t Skeleton-F.Any e
      ∙ any_second (map-Skeleton Skeleton (Skeleton → Skeleton) join (out-Skeleton s)) ∙ sym (is-Any t e)
  join_under {s} {t} (integer n e f) = join_at s (Skeleton-F.Int n) e t Skeleton-F.Integer f ∙ sym (is-Integer t f)
  join_under {s} {t} (compound name ss ts e f ps) =
      join_at s (Skeleton-F.Compound name ss) e t (Skeleton-F.Compound name ts) f
      ∙ ap (λ b. cond b (Compound name (join_args (map join ss) ts)) Any)
      (functor_itself name (length (map join ss)) (length ts) (length-map ss join ∙ length-AreUnder ps))
      ∙ ap (Compound name) (joins_under ps) ∙ sym (is-Compound t name ts f)

  joins_under : {ss ts : List Skeleton} → AreUnder ss ts → join_args (map join ss) ts ≡ ts
  joins_under none = refl
  joins_under (more p ps) = let a = join_under p in let b = joins_under ps in λ i. a i ∷ b i

-- ---- it is the least

integers_least : (m : ℤ) (b : Bool) {u : Skeleton} → out-Skeleton u ≡ Skeleton-F.Integer → IsUnder (cond b (Int m) Integer) u
integers_least m true e = integer m (outs-Int m) e
integers_least m false {u} e = same (sym (is-Integer u e))

mutual
  pub join_least : {s t u : Skeleton} → IsUnder s u → IsUnder t u → IsUnder (join s t) u
  join_least {s} {t} {u} (same e) q = same (join_over (subst (IsUnder t) (sym e) q) ∙ e)
  join_least {s} {t} {u} p (same e) = same (join_under (subst (IsUnder s) (sym e) p) ∙ e)
  join_least (any e) q = any e
  join_least p (any e) = any e
  join_least {s} {t} {u} (integer m e f) (integer n g h) =
      subst (λ z. IsUnder z u) (sym (join_at s (Skeleton-F.Int m) e t (Skeleton-F.Int n) g)) (integers_least m (int_eq m n) f)
  join_least (integer m e f) (compound name ss us g h qs) = absurd cc
  join_least (compound name ss us e f ps) (integer n g h) = absurd cc
  join_least {s} {t} {u} (compound name ss us e f ps) (compound name' ts us' g h qs) =
      let a : name' ≡ name = cc in
      let b : us' ≡ us = cc in
      let rs = subst (AreUnder ts) b qs in
      let len : length (map join ss) ≡ length ts = length-map ss join ∙ length-AreUnder ps ∙ sym (length-AreUnder rs) in
      subst (λ z. IsUnder z u)
      (sym (join_at s (Skeleton-F.Compound name ss) e t (Skeleton-F.Compound name ts) (g ∙ ap (λ n. Skeleton-F.Compound n ts) a)
      ∙ ap (λ b. cond b (Compound name (join_args (map join ss) ts)) Any) (functor_itself name (length (map join ss)) (length ts) len)))
      (compound name (join_args (map join ss) ts) us (outs-Compound name (join_args (map join ss) ts)) f (joins_least ps rs))

  pub joins_least : {ss ts us : List Skeleton} → AreUnder ss us → AreUnder ts us → AreUnder (join_args (map join ss) ts) us
  joins_least none none = none
  joins_least (more p ps) (more q qs) = more (join_least p q) (joins_least ps qs)
