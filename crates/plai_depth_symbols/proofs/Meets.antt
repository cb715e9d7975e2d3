-- A meet has only symbols of the two skeletons.
use Rattle.std.proofs.Common.{◌≡◌, Bool, true, false, cond, nat_eq, List, [], ◌∷◌, map, length, Option, Some, None, refl, sym, ap, ◌∙◌, subst}
use Rattle.std.specs.Cmp.Lexicographic.{pointwise}
use Rattle.std.specs.Ordering.{int_eq}
use Rattle.std.specs.Option.{option_map}
use Rattle.std.specs.List.{AllByRecursion}
use Rattle.std.proofs.lemmas.List.{length-map}
use Rattle.plai_theory.specs.Words.{IsIn}
use Rattle.plai_terms.specs.declared.skeleton.Skeleton.{Skeleton, out-Skeleton, roll-Skeleton, out-roll-Skeleton, map-Skeleton, Integer, Int, Atom, Compound}
use Rattle.plai_terms.specs.declared.skeleton.Skeleton.TheOpen.{Skeleton-F}
use Rattle.plai_terms.proofs.Skeletons.{arguments, induction}
use Rattle.plai_depth_laws.specs.Skeletons.{same_functor, consed, meet_args, meet_layer, meet_step, meet}
use Rattle.plai_depth_laws.proofs.Equations.{is-Any, meet_at, functors_equal}
use Rattle.plai_depth_laws.proofs.Meets.{meet-second_Any}
use Rattle.plai_depth_laws.proofs.MeetLayers.{meet-compound}
use Rattle.plai_depth_laws.proofs.Moves.{mapped_some, then_some}
use Rattle.plai_depth_symbols.specs.Symbols.{Symbol, Functor}
use Rattle.plai_depth_symbols.proofs.Symbols.{Over, AllOver, LayerOver, layer_over, over-Integer, over-Int, over-Atom, over-Compound}

module _ (signature : List Symbol) where
  -- what is there is over the signature
  abbrev SomeOver : Option Skeleton → Type 0
  SomeOver o = (m : Skeleton) → o ≡ Some m → Over signature m

  some_over : (s : Skeleton) → Over signature s → SomeOver (Some s)
  some_over s h m e = let is : s ≡ m = cc in subst (Over signature) is h

  none_over : SomeOver None
  none_over m e = absurd cc

  cond_over : (b : Bool) (o : Option Skeleton) → (b ≡ true → SomeOver o) → SomeOver (cond b o None)
  cond_over true o h = h refl
  cond_over false o h = none_over

  abbrev MeetsOver : Skeleton → Type 0
  MeetsOver s = (t : Skeleton) → Over signature s → Over signature t → SomeOver (meet s t)

  one_more : (rest ss : List Skeleton) (u s : Skeleton) → length rest ≡ length ss → length (u ∷ rest) ≡ length (s ∷ ss)
  one_more rest ss u s e = cc

  args_over : (ss ts us : List Skeleton) → AllByRecursion MeetsOver ss → AllOver signature ss → AllOver signature ts → length ss ≡ length ts
      → meet_args (map meet ss) ts ≡ Some us → AllOver signature us × (length us ≡ length ss)
  args_over [] ts us h p q l e = let is : [] ≡ us = cc in (subst (AllOver signature) is tt, ap length (sym is))
  args_over (s ∷ ss) [] us h p q l e = absurd cc
  args_over (s ∷ ss) (t ∷ ts) us h p q l e =
      let k : length ss ≡ length ts = cc in
      let (u, f, g) = then_some (λ s. consed s (meet_args (map meet ss) ts)) (meet s t) us e in
      let (rest, i, is) = mapped_some (λ rest. u ∷ rest) (meet_args (map meet ss) ts) us g in
      let r = args_over ss ts rest h.1 p.1 q.1 k i in (
        subst (AllOver signature) (sym is) (h.0 t p.0 q.0 u f, r.0),
        ap length is ∙ one_more rest ss u s r.1,
      )

  layers_over : (s t : Skeleton) (x y : Skeleton-F Skeleton) → out-Skeleton s ≡ x → out-Skeleton t ≡ y → AllByRecursion MeetsOver (arguments x)
      → LayerOver signature x → LayerOver signature y → Over signature s → Over signature t
      → SomeOver (meet_step (map-Skeleton Skeleton (Skeleton → Option Skeleton) meet x) t)
  layers_over s t Skeleton-F.Any y e f h p q a b = some_over t b
  layers_over s t Skeleton-F.Integer y e f h p q a b = subst (λ y. SomeOver (meet_layer Skeleton-F.Integer y)) (sym f) (by y q)
    where
      by : (y : Skeleton-F Skeleton) → LayerOver signature y → SomeOver (meet_layer Skeleton-F.Integer y)
      by Skeleton-F.Any q = some_over Integer (over-Integer signature)
      by Skeleton-F.Integer q = some_over Integer (over-Integer signature)
      by (Skeleton-F.Int n) q = some_over (Int n) (over-Int signature n q)
      by _ q = none_over
  layers_over s t (Skeleton-F.Int m) y e f h p q a b = subst (λ y. SomeOver (meet_layer (Skeleton-F.Int m) y)) (sym f) (by y)
    where
      by : (y : Skeleton-F Skeleton) → SomeOver (meet_layer (Skeleton-F.Int m) y)
      by Skeleton-F.Any = some_over (Int m) (over-Int signature m p)
      by Skeleton-F.Integer = some_over (Int m) (over-Int signature m p)
      by (Skeleton-F.Int n) = cond_over (int_eq m n) (Some (Int m)) (λ i. some_over (Int m) (over-Int signature m p))
      by _ = none_over
  layers_over s t (Skeleton-F.Atom name) y e f h p q a b = subst (λ y. SomeOver (meet_layer (Skeleton-F.Atom name) y)) (sym f) (by y)
    where
      by : (y : Skeleton-F Skeleton) → SomeOver (meet_layer (Skeleton-F.Atom name) y)
      by Skeleton-F.Any = some_over (Atom name) (over-Atom signature name p)
      by (Skeleton-F.Atom other) = cond_over (pointwise nat_eq name other) (Some (Atom name)) (λ i. some_over (Atom name) (over-Atom signature name p))
      by _ = none_over
  layers_over s t (Skeleton-F.Compound name ss) y e f h p q a b =
      subst (λ y. SomeOver (meet_layer (Skeleton-F.Compound name (map meet ss)) y)) (sym f) (by y f q)
    where
      by : (y : Skeleton-F Skeleton) → out-Skeleton t ≡ y → LayerOver signature y → SomeOver (meet_layer (Skeleton-F.Compound name (map meet ss)) y)
      by Skeleton-F.Any f q =
          let itself : meet s t ≡ Some s = ap (meet s) (is-Any t f) ∙ meet-second_Any s in
          subst SomeOver (sym itself ∙ meet-compound s t name ss e Skeleton-F.Any f) (some_over s a)
      by (Skeleton-F.Compound other ts) f q =
          cond_over (same_functor name (length (map meet ss)) other (length ts)) (option_map (Compound name) (meet_args (map meet ss) ts))
          (λ i m k.
          let (us, g, is) = mapped_some (Compound name) (meet_args (map meet ss) ts) m k in
          let (named, long) = functors_equal name (length (map meet ss)) other (length ts) i in
          let (over, count) = args_over ss ts us h p.1 q.1 (sym (length-map ss meet) ∙ long) g in
          subst (Over signature) (sym is) (over-Compound signature name us (subst (λ n. IsIn (Functor name n) signature) (sym count) p.0) over))
      by _ f q = none_over

  -- Theorem: a meet of skeletons over the signature is over it.
  pub meet_over : (s t m : Skeleton) → Over signature s → Over signature t → meet s t ≡ Some m → Over signature m
  meet_over s t m a b = induction MeetsOver (λ x h t a b.
      let s : Skeleton = roll-Skeleton x in
      subst SomeOver (sym (meet_at s x (out-roll-Skeleton x) t))
      (layers_over s t x (out-Skeleton t) (out-roll-Skeleton x) refl h (layer_over signature s x (out-roll-Skeleton x) a)
      (layer_over signature t (out-Skeleton t) refl b) a b)) s t a b m
