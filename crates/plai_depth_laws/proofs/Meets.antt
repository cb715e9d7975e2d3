-- A meet is the greatest skeleton below both, and there is one where anything lies below both.
use Rattle.std.proofs.Common.{◌≡◌, ℕ, ℤ, Bool, true, false, cond, nat_eq, List, [], ◌∷◌, map, length, Option, Some, None, refl, sym, ap, ◌∙◌, subst}
use Rattle.std.specs.Cmp.Lexicographic.{pointwise}
use Rattle.std.specs.Ordering.{int_eq}
use Rattle.std.specs.Option.{option_map, option_and_then}
use Rattle.std.specs.List.{AllByRecursion}
use Rattle.std.proofs.lemmas.List.{length-map}
use Rattle.plai_terms.specs.declared.skeleton.Skeleton.{Skeleton, out-Skeleton, roll-Skeleton, out-roll-Skeleton, map-Skeleton, Any, Integer, Int, Atom}
use Rattle.plai_terms.specs.declared.skeleton.Skeleton.{Compound}
use Rattle.plai_terms.specs.declared.skeleton.Skeleton.TheOpen.{Skeleton-F}
use Rattle.plai_terms.specs.declared.skeleton.Skeleton.TheVariants.{outs-Any, outs-Integer, outs-Int, outs-Atom, outs-Compound}
use Rattle.plai_terms.proofs.Same.{names_equal}
use Rattle.plai_terms.proofs.Skeletons.{arguments, induction}
use Rattle.plai_depth_laws.specs.Skeletons.{same_functor, consed, meet_args, meet_layer, meet_step, meet}
use Rattle.plai_depth_laws.specs.Order.{IsUnder, same, any, integer, compound, AreUnder, none, more}
use Rattle.plai_depth_laws.proofs.Equations.{is-Integer, is-Int, is-Atom, meet_at, integers_equal, functors_equal}
use Rattle.plai_depth_laws.proofs.Order.{length-AreUnder}
use Rattle.plai_depth_laws.proofs.MeetLayers.{meet-any, meet-integer, meet-number, meet-atom, meet-compound, consed_somes, compound_meets, any_second}
use Rattle.plai_depth_laws.proofs.MeetLayers.{meet_under, meet_over}

-- ---- it is the greatest

-- there is a meet, and x lies below it
abbrev pub Above : Skeleton → Option Skeleton → Type 0
Above x o = (m : Skeleton) × (o ≡ Some m) × IsUnder x m

abbrev pub AllAbove : List Skeleton → Option (List Skeleton) → Type 0
AllAbove xs o = (ms : List Skeleton) × (o ≡ Some ms) × AreUnder xs ms

mutual
  pub meet_greatest : {x s t : Skeleton} → IsUnder x s → IsUnder x t → Above x (meet s t)
  meet_greatest {x} {s} {t} (same e) q = (s, meet_under (subst (λ x. IsUnder x t) e q), same e)
  meet_greatest {x} {s} {t} p (same e) = (t, meet_over (subst (λ x. IsUnder x s) e p), same e)
  meet_greatest {x} {s} {t} (any e) q = (t, meet-any s t e, q)
  meet_greatest {x} {s} {t} p (any e) = (s, any_second s t e, p)
  meet_greatest {x} {s} {t} (integer n e f) (integer m g h) = (Integer, meet-integer s t f Skeleton-F.Integer h, integer n e outs-Integer)
  meet_greatest (integer n e f) (compound a xs ts g h qs) = absurd cc
  meet_greatest (compound a xs ss e f ps) (integer n g h) = absurd cc
  meet_greatest {x} {s} {t} (compound a xs ss e f ps) (compound b xs' ts g h qs) =
      let c : b ≡ a = cc in
      let d : xs' ≡ xs = cc in
      let rs = subst (λ l. AreUnder l ts) d qs in
      let (us, is, below) = meets_greatest ps rs in
      let len : length (map meet ss) ≡ length ts = length-map ss meet ∙ sym (length-AreUnder ps) ∙ length-AreUnder rs in (
        Compound a us,
        meet-compound s t a ss f (Skeleton-F.Compound a ts) (h ∙ ap (λ n. Skeleton-F.Compound n ts) c) ∙ compound_meets a (map meet ss) ts us len is,
        compound a xs us e (outs-Compound a us) below,
      )

  meets_greatest : {xs ss ts : List Skeleton} → AreUnder xs ss → AreUnder xs ts → AllAbove xs (meet_args (map meet ss) ts)
  meets_greatest none none = ([], refl, none)
  meets_greatest (more p ps) (more q qs) =
      let (m, e, r) = meet_greatest p q in
      let (ms, f, rs) = meets_greatest ps qs in
      (m ∷ ms, consed_somes e f, more r rs)

-- ---- it lies below both

abbrev pub Lower : Skeleton → Skeleton → Option Skeleton → Type 0
Lower s t o = (m : Skeleton) → o ≡ Some m → IsUnder m s × IsUnder m t

abbrev Lowers : Skeleton → Type 0
Lowers s = (t : Skeleton) → Lower s t (meet s t)

lower_some : (s t m : Skeleton) → IsUnder m s → IsUnder m t → Lower s t (Some m)
lower_some s t m p q n e = let same_one : m ≡ n = cc in (subst (λ m. IsUnder m s) same_one p, subst (λ m. IsUnder m t) same_one q)

lower_none : (s t : Skeleton) → Lower s t None
lower_none s t n e = absurd cc

consed_parts : (m : Option Skeleton) (ms : Option (List Skeleton)) (us : List Skeleton) → option_and_then (λ s. consed s ms) m ≡ Some us
    → (u : Skeleton) × (rest : List Skeleton) × (m ≡ Some u) × (ms ≡ Some rest) × (us ≡ u ∷ rest)
consed_parts None ms us e = absurd cc
consed_parts (Some u) None us e = absurd cc
consed_parts (Some u) (Some rest) us e = (u, rest, refl, refl, cc)

all_lower : (ss ts us : List Skeleton) → AllByRecursion Lowers ss → length ss ≡ length ts → meet_args (map meet ss) ts ≡ Some us
    → AreUnder us ss × AreUnder us ts
all_lower [] [] us h len e = let is : [] ≡ us = cc in (subst (λ l. AreUnder l []) is none, subst (λ l. AreUnder l []) is none)
all_lower [] (t ∷ ts) us h len e = absurd cc
all_lower (s ∷ ss) [] us h len e = absurd cc
all_lower (s ∷ ss) (t ∷ ts) us h len e =
    let l : length ss ≡ length ts = cc in
    let (u, rest, f, g, is) = consed_parts (meet s t) (meet_args (map meet ss) ts) us e in
    let p = h.0 t u f in
    let ps = all_lower ss ts rest h.1 l g in
    (subst (λ l. AreUnder l (s ∷ ss)) (sym is) (more p.0 ps.0), subst (λ l. AreUnder l (t ∷ ts)) (sym is) (more p.1 ps.1))

numbers_lower : (s t : Skeleton) (m n : ℤ) → out-Skeleton s ≡ Skeleton-F.Int m → out-Skeleton t ≡ Skeleton-F.Int n → (b : Bool) → int_eq m n ≡ b
    → Lower s t (cond b (Some (Int m)) None)
numbers_lower s t m n e f true q = lower_some s t (Int m) (same (sym (is-Int s m e))) (same (ap Int (integers_equal m n q) ∙ sym (is-Int t n f)))
numbers_lower s t m n e f false q = lower_none s t

atoms_lower : (s t : Skeleton) (a b : List ℕ) → out-Skeleton s ≡ Skeleton-F.Atom a → out-Skeleton t ≡ Skeleton-F.Atom b → (c : Bool)
    → pointwise nat_eq a b ≡ c → Lower s t (cond c (Some (Atom a)) None)
atoms_lower s t a b e f true q = lower_some s t (Atom a) (same (sym (is-Atom s a e))) (same (ap Atom (names_equal a b q) ∙ sym (is-Atom t b f)))
atoms_lower s t a b e f false q = lower_none s t

compound_some : (a : List ℕ) (o : Option (List Skeleton)) (m : Skeleton) → option_map (Compound a) o ≡ Some m
    → (us : List Skeleton) × (o ≡ Some us) × (m ≡ Compound a us)
compound_some a None m e = absurd cc
compound_some a (Some us) m e = (us, refl, cc)

compounds_lower : (s t : Skeleton) (a b : List ℕ) (ss ts : List Skeleton) → out-Skeleton s ≡ Skeleton-F.Compound a ss
    → out-Skeleton t ≡ Skeleton-F.Compound b ts → AllByRecursion Lowers ss
    → (c : Bool) → same_functor a (length (map meet ss)) b (length ts) ≡ c → Lower s t (cond c (option_map (Compound a) (meet_args (map meet ss) ts)) None)
compounds_lower s t a b ss ts e f h false q m k = absurd cc
compounds_lower s t a b ss ts e f h true q m k =
    let r = functors_equal a (length (map meet ss)) b (length ts) q in
    let (us, g, is) = compound_some a (meet_args (map meet ss) ts) m k in
    let ps = all_lower ss ts us h (sym (length-map ss meet) ∙ r.1) g in
    let there : out-Skeleton m ≡ Skeleton-F.Compound a us = ap out-Skeleton is ∙ outs-Compound a us in
    (compound a us ss there e ps.0, compound a us ts there (f ∙ ap (λ n. Skeleton-F.Compound n ts) (sym r.0)) ps.1)

layers_lower : (s t : Skeleton) (x y : Skeleton-F Skeleton) → out-Skeleton s ≡ x → out-Skeleton t ≡ y → AllByRecursion Lowers (arguments x)
    → Lower s t (meet_step (map-Skeleton Skeleton (Skeleton → Option Skeleton) meet x) t)
layers_lower s t Skeleton-F.Any y e f h = lower_some s t t (any e) (same refl)
layers_lower s t Skeleton-F.Integer y e f h = subst (λ y. Lower s t (meet_layer Skeleton-F.Integer y)) (sym f) (by y f)
  where
    by : (y : Skeleton-F Skeleton) → out-Skeleton t ≡ y → Lower s t (meet_layer Skeleton-F.Integer y)
    by Skeleton-F.Any f = lower_some s t Integer (same (sym (is-Integer s e))) (any f)
    by Skeleton-F.Integer f = lower_some s t Integer (same (sym (is-Integer s e))) (same (sym (is-Integer t f)))
    by (Skeleton-F.Int n) f = lower_some s t (Int n) (integer n (outs-Int n) e) (same (sym (is-Int t n f)))
    by _ f = lower_none s t
layers_lower s t (Skeleton-F.Int m) y e f h = subst (λ y. Lower s t (meet_layer (Skeleton-F.Int m) y)) (sym f) (by y f)
  where
    by : (y : Skeleton-F Skeleton) → out-Skeleton t ≡ y → Lower s t (meet_layer (Skeleton-F.Int m) y)
    by Skeleton-F.Any f = lower_some s t (Int m) (same (sym (is-Int s m e))) (any f)
    by Skeleton-F.Integer f = lower_some s t (Int m) (same (sym (is-Int s m e))) (integer m (outs-Int m) f)
    by (Skeleton-F.Int n) f = numbers_lower s t m n e f (int_eq m n) refl
    by _ f = lower_none s t
layers_lower s t (Skeleton-F.Atom a) y e f h = subst (λ y. Lower s t (meet_layer (Skeleton-F.Atom a) y)) (sym f) (by y f)
  where
    by : (y : Skeleton-F Skeleton) → out-Skeleton t ≡ y → Lower s t (meet_layer (Skeleton-F.Atom a) y)
    by Skeleton-F.Any f = lower_some s t (Atom a) (same (sym (is-Atom s a e))) (any f)
    by (Skeleton-F.Atom b) f = atoms_lower s t a b e f (pointwise nat_eq a b) refl
    by _ f = lower_none s t
layers_lower s t (Skeleton-F.Compound a ss) y e f h = subst (λ y. Lower s t (meet_layer (Skeleton-F.Compound a (map meet ss)) y)) (sym f) (by y f)
  where
    by : (y : Skeleton-F Skeleton) → out-Skeleton t ≡ y → Lower s t (meet_layer (Skeleton-F.Compound a (map meet ss)) y)
    by Skeleton-F.Any f = subst (Lower s t) (sym (any_second s t f) ∙ meet-compound s t a ss e Skeleton-F.Any f) (lower_some s t s (same refl) (any f))
    by (Skeleton-F.Compound b ts) f = compounds_lower s t a b ss ts e f h (same_functor a (length (map meet ss)) b (length ts)) refl
    by _ f = lower_none s t

pub meet_below : (s t m : Skeleton) → meet s t ≡ Some m → IsUnder m s × IsUnder m t
meet_below = induction Lowers (λ x h t.
    let s : Skeleton = roll-Skeleton x in
    subst (Lower s t) (sym (meet_at s x (out-roll-Skeleton x) t)) (layers_lower s t x (out-Skeleton t) (out-roll-Skeleton x) refl h))

-- ---- by the variants of the first

pub meet-first_Any : (t : Skeleton) → meet Any t ≡ Some t
meet-first_Any t = meet-any Any t outs-Any

pub meet-first_Integer : (t : Skeleton) → meet Integer t ≡ meet_layer Skeleton-F.Integer (out-Skeleton t)
meet-first_Integer t = meet-integer Integer t outs-Integer (out-Skeleton t) refl

pub meet-first_Int : (n : ℤ) (t : Skeleton) → meet (Int n) t ≡ meet_layer (Skeleton-F.Int n) (out-Skeleton t)
meet-first_Int n t = meet-number (Int n) t n (outs-Int n) (out-Skeleton t) refl

pub meet-first_Atom : (a : List ℕ) (t : Skeleton) → meet (Atom a) t ≡ meet_layer (Skeleton-F.Atom a) (out-Skeleton t)
meet-first_Atom a t = meet-atom (Atom a) t a (outs-Atom a) (out-Skeleton t) refl

pub meet-first_Compound : (a : List ℕ) (ss : List Skeleton) (t : Skeleton)
    → meet (Compound a ss) t ≡ meet_layer (Skeleton-F.Compound a (map meet ss)) (out-Skeleton t)
meet-first_Compound a ss t = meet-compound (Compound a ss) t a ss (outs-Compound a ss) (out-Skeleton t) refl

pub meet-second_Any : (s : Skeleton) → meet s Any ≡ Some s
meet-second_Any s = any_second s Any outs-Any
