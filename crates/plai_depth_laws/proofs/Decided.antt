-- The test of the order of skeletons decides it.
use Rattle.std.proofs.Common.{◌≡◌, ℕ, Bool, true, List, [], ◌∷◌, map, length, refl, sym, ap, ◌∙◌}
use Rattle.std.specs.Bool.{Decides}
use Rattle.std.specs.List.{AllByRecursion}
use Rattle.std.proofs.lemmas.Bool.{false≢true, and_parts}
use Rattle.std.proofs.lemmas.List.{length-map}
use Rattle.plai_terms.specs.declared.skeleton.Skeleton.{Skeleton, out-Skeleton, roll-Skeleton, out-roll-Skeleton, roll-out-Skeleton, map-Skeleton}
use Rattle.plai_terms.specs.declared.skeleton.Skeleton.{fold-roll-Skeleton}
use Rattle.plai_terms.specs.declared.skeleton.Skeleton.TheOpen.{Skeleton-F}
use Rattle.plai_terms.proofs.Same.{names_equal}
use Rattle.plai_terms.proofs.Skeletons.{arguments, induction}
use Rattle.plai_depth_laws.specs.Skeletons.{same_functor}
use Rattle.plai_depth_laws.specs.Order.{IsUnder, AreUnder}
use Rattle.plai_terms.specs.declared.abs.Abs.{Abs}
use Rattle.plai_depth_laws.specs.DepthK.{skeletons_of, Leq}
use Rattle.plai_depth_laws.specs.OrderTest.{are_under, under_layer, is_under}
use Rattle.plai_depth_laws.proofs.Equations.{same_layer, both_true, integers_equal, integer_itself, name_itself, functors_equal, functor_itself}
use Rattle.plai_depth_laws.proofs.Order.{length-AreUnder}

at_skeleton : {f g : Skeleton → Bool} (t : Skeleton) → f ≡ g → f t ≡ g t
at_skeleton t e = λ i. e i t

test_at : (s : Skeleton) (x : Skeleton-F Skeleton) → out-Skeleton s ≡ x → (t : Skeleton) (y : Skeleton-F Skeleton) → out-Skeleton t ≡ y
    → is_under s t ≡ under_layer (map-Skeleton Skeleton (Skeleton → Bool) is_under x) y
test_at s x e t y f =
    ap (λ s. is_under s t) (sym (roll-out-Skeleton s) ∙ ap roll-Skeleton e)
    ∙ at_skeleton t (fold-roll-Skeleton (Skeleton → Bool) (λ x t. under_layer x (out-Skeleton t)) x)
    ∙ ap (under_layer (map-Skeleton Skeleton (Skeleton → Bool) is_under x)) f

-- ---- where the test passes

abbrev Passes : Skeleton → Type 0
Passes s = (t : Skeleton) → is_under s t ≡ true → IsUnder s t

all_pass : (ss ts : List Skeleton) → AllByRecursion Passes ss → length ss ≡ length ts → are_under (map is_under ss) ts ≡ true → AreUnder ss ts
all_pass [] [] h l e = AreUnder.none
all_pass [] (t ∷ ts) h l e = absurd cc
all_pass (s ∷ ss) [] h l e = absurd cc
all_pass (s ∷ ss) (t ∷ ts) h l e =
    let k : length ss ≡ length ts = cc in
    let b = and_parts (is_under s t) (are_under (map is_under ss) ts) e in
    AreUnder.more (h.0 t b.0) (all_pass ss ts h.1 k b.1)

layers_pass : (s t : Skeleton) (x y : Skeleton-F Skeleton) → out-Skeleton s ≡ x → out-Skeleton t ≡ y → AllByRecursion Passes (arguments x)
    → under_layer (map-Skeleton Skeleton (Skeleton → Bool) is_under x) y ≡ true → IsUnder s t
layers_pass s t x Skeleton-F.Any e f h p = IsUnder.any f
layers_pass s t Skeleton-F.Integer Skeleton-F.Integer e f h p = IsUnder.same (same_layer s t (e ∙ sym f))
layers_pass s t (Skeleton-F.Int m) Skeleton-F.Integer e f h p = IsUnder.integer m e f
layers_pass s t (Skeleton-F.Int m) (Skeleton-F.Int n) e f h p = IsUnder.same (same_layer s t (e ∙ ap Skeleton-F.Int (integers_equal m n p) ∙ sym f))
layers_pass s t (Skeleton-F.Atom a) (Skeleton-F.Atom b) e f h p = IsUnder.same (same_layer s t (e ∙ ap Skeleton-F.Atom (names_equal a b p) ∙ sym f))
layers_pass s t (Skeleton-F.Compound a ss) (Skeleton-F.Compound b ts) e f h p =
    let q = and_parts (same_functor a (length (map is_under ss)) b (length ts)) (are_under (map is_under ss) ts) p in
    let r = functors_equal a (length (map is_under ss)) b (length ts) q.0 in
    IsUnder.compound a ss ts e (f ∙ ap (λ n. Skeleton-F.Compound n ts) (sym r.0)) (all_pass ss ts h (sym (length-map ss is_under) ∙ r.1) q.1)
layers_pass s t _ _ e f h p = absurd (false≢true p)

passes : (s : Skeleton) → Passes s
passes = induction Passes (λ x h t p.
    let s : Skeleton = roll-Skeleton x in
    layers_pass s t x (out-Skeleton t) (out-roll-Skeleton x) refl h (sym (test_at s x (out-roll-Skeleton x) t (out-Skeleton t) refl) ∙ p))

-- ---- it passes

abbrev Rests : Skeleton → Type 0
Rests s = is_under s s ≡ true

all_rest : (ss : List Skeleton) → AllByRecursion Rests ss → are_under (map is_under ss) ss ≡ true
all_rest [] h = refl
all_rest (s ∷ ss) h = both_true h.0 (all_rest ss h.1)

rest_layer : (x : Skeleton-F Skeleton) → AllByRecursion Rests (arguments x) → under_layer (map-Skeleton Skeleton (Skeleton → Bool) is_under x) x ≡ true
rest_layer Skeleton-F.Any h = refl
rest_layer Skeleton-F.Integer h = refl
rest_layer (Skeleton-F.Int n) h = integer_itself n
rest_layer (Skeleton-F.Atom a) h = name_itself a
rest_layer (Skeleton-F.Compound name ss) h = both_true (functor_itself name (length (map is_under ss)) (length ss) (length-map ss is_under)) (all_rest ss h)

itself : (s : Skeleton) → is_under s s ≡ true
itself = induction Rests (λ x h. let s : Skeleton = roll-Skeleton x in test_at s x (out-roll-Skeleton x) s x (out-roll-Skeleton x) ∙ rest_layer x h)

under_any : (x : Skeleton-F (Skeleton → Bool)) → under_layer x Skeleton-F.Any ≡ true
under_any Skeleton-F.Any = refl
under_any _ = refl

mutual
  tested : {s t : Skeleton} → IsUnder s t → is_under s t ≡ true
  tested {s} {t} (IsUnder.same e) = ap (is_under s) (sym e) ∙ itself s
  tested {s} {t} (IsUnder.any e) = test_at s (out-Skeleton s) refl t Skeleton-F.Any e
      ∙ under_any (map-Skeleton Skeleton (Skeleton → Bool) is_under (out-Skeleton s))
  tested {s} {t} (IsUnder.integer n e f) = test_at s (Skeleton-F.Int n) e t Skeleton-F.Integer f
  tested {s} {t} (IsUnder.compound name ss ts e f ps) =
      test_at s (Skeleton-F.Compound name ss) e t (Skeleton-F.Compound name ts) f
      ∙ both_true (functor_itself name (length (map is_under ss)) (length ts) (length-map ss is_under ∙ length-AreUnder ps)) (all_tested ps)

  all_tested : {ss ts : List Skeleton} → AreUnder ss ts → are_under (map is_under ss) ts ≡ true
  all_tested AreUnder.none = refl
  all_tested (AreUnder.more p ps) = both_true (tested p) (all_tested ps)

pub under_decided : (s t : Skeleton) → Decides (is_under s t) (IsUnder s t)
under_decided s t = (passes s t, tested)

-- ---- lists of skeletons, and values

pub all_under_decided : (ss ts : List Skeleton) → length ss ≡ length ts → Decides (are_under (map is_under ss) ts) (AreUnder ss ts)
all_under_decided ss ts l = (all_pass ss ts (each ss) l, all_tested)
  where
    each : (ss : List Skeleton) → AllByRecursion Passes ss
    each [] = tt
    each (s ∷ ss) = (passes s, each ss)

pub leq_decided : (k n : ℕ) (a b : Abs) → Leq k n a a → Leq k n b b → Decides (are_under (map is_under (skeletons_of a)) (skeletons_of b)) (Leq k n a b)
leq_decided k n a b h g =
    let d = all_under_decided (skeletons_of a) (skeletons_of b) (h.order.first.count ∙ sym g.order.first.count) in (
      (λ e. record { first_is = h.first_is; second_is = g.first_is; order = record { first = h.order.first; second = g.order.first; under = d.0 e } }),
      (λ l. d.1 l.order.under),
    )
