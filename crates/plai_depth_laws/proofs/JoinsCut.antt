-- Joins of cut skeletons are cut.
use Rattle.std.proofs.Common.{◌≡◌, ℕ, zero, suc, ℤ, Bool, true, false, cond, nat_eq, List, [], ◌∷◌, map, length, refl, sym, ap, ◌∙◌}
use Rattle.std.specs.Cmp.Lexicographic.{pointwise}
use Rattle.std.specs.Ordering.{int_eq}
use Rattle.plai_terms.specs.declared.skeleton.Skeleton.{Skeleton, out-Skeleton, map-Skeleton, Any, Integer, Int, Atom, Compound}
use Rattle.plai_terms.specs.declared.skeleton.Skeleton.TheOpen.{Skeleton-F}
use Rattle.plai_terms.specs.declared.skeleton.Skeleton.TheVariants.{outs-Any, outs-Integer, outs-Atom, outs-Compound}
use Rattle.plai_depth_laws.specs.Skeletons.{cut_layer, cut, same_functor, join_args, join_layer, join}
use Rattle.plai_depth_laws.proofs.Equations.{is-Int, join_at}

pub cut-Any : (k : ℕ) → cut k Any ≡ Any
cut-Any zero = refl
cut-Any (suc k) = ap (cut_layer (cut k)) outs-Any

pub cut-Integer : (k : ℕ) → cut (suc k) Integer ≡ Integer
cut-Integer k = ap (cut_layer (cut k)) outs-Integer

cut-Atom : (k : ℕ) (a : List ℕ) → cut (suc k) (Atom a) ≡ Atom a
cut-Atom k a = ap (cut_layer (cut k)) (outs-Atom a)

module _ (k : ℕ) (closed : (s t : Skeleton) → cut k s ≡ s → cut k t ≡ t → cut k (join s t) ≡ join s t) where
  args_cut : (ss ts : List Skeleton) → map (cut k) ss ≡ ss → map (cut k) ts ≡ ts → map (cut k) (join_args (map join ss) ts) ≡ join_args (map join ss) ts
  args_cut [] ts p q = refl
  args_cut (s ∷ ss) [] p q = refl
  args_cut (s ∷ ss) (t ∷ ts) p q =
      let a : cut k s ≡ s = cc in
      let b : cut k t ≡ t = cc in
      let c : map (cut k) ss ≡ ss = cc in
      let d : map (cut k) ts ≡ ts = cc in
      let e = closed s t a b in
      let f = args_cut ss ts c d in
      λ i. e i ∷ f i

  args_of : (s : Skeleton) (name : List ℕ) (ss : List Skeleton) → out-Skeleton s ≡ Skeleton-F.Compound name ss → cut (suc k) s ≡ s → map (cut k) ss ≡ ss
  args_of s name ss e p =
      let q : Skeleton-F.Compound name (map (cut k) ss) ≡ Skeleton-F.Compound name ss =
      sym (outs-Compound name (map (cut k) ss)) ∙ ap (λ y. out-Skeleton (cut_layer (cut k) y)) (sym e) ∙ ap out-Skeleton p ∙ e in
      cc

  integers_cut : (s : Skeleton) (m : ℤ) → out-Skeleton s ≡ Skeleton-F.Int m → cut (suc k) s ≡ s → (b : Bool)
      → cut (suc k) (cond b (Int m) Integer) ≡ cond b (Int m) Integer
  integers_cut s m e p true = ap (cut (suc k)) (sym (is-Int s m e)) ∙ p ∙ is-Int s m e
  integers_cut s m e p false = cut-Integer k

  atoms_cut : (a : List ℕ) (b : Bool) → cut (suc k) (cond b (Atom a) Any) ≡ cond b (Atom a) Any
  atoms_cut a true = cut-Atom k a
  atoms_cut a false = cut-Any (suc k)

  compounds_cut : (a : List ℕ) (us : List Skeleton) → map (cut k) us ≡ us → (b : Bool) → cut (suc k) (cond b (Compound a us) Any) ≡ cond b (Compound a us) Any
  compounds_cut a us e true = ap (cut_layer (cut k)) (outs-Compound a us) ∙ ap (Compound a) e
  compounds_cut a us e false = cut-Any (suc k)

  layers_cut : (s t : Skeleton) (x y : Skeleton-F Skeleton) → out-Skeleton s ≡ x → out-Skeleton t ≡ y → cut (suc k) s ≡ s → cut (suc k) t ≡ t
      → cut (suc k) (join_layer (map-Skeleton Skeleton (Skeleton → Skeleton) join x) y) ≡ join_layer (map-Skeleton Skeleton (Skeleton → Skeleton) join x) y
  layers_cut s t Skeleton-F.Integer Skeleton-F.Integer e f p q = cut-Integer k
  layers_cut s t Skeleton-F.Integer (Skeleton-F.Int n) e f p q = cut-Integer k
  layers_cut s t (Skeleton-F.Int m) Skeleton-F.Integer e f p q = cut-Integer k
  layers_cut s t (Skeleton-F.Int m) (Skeleton-F.Int n) e f p q = integers_cut s m e p (int_eq m n)
  layers_cut s t (Skeleton-F.Atom a) (Skeleton-F.Atom b) e f p q = atoms_cut a (pointwise nat_eq a b)
  layers_cut s t (Skeleton-F.Compound a ss) (Skeleton-F.Compound b ts) e f p q =
      compounds_cut a (join_args (map join ss) ts) (args_cut ss ts (args_of s a ss e p) (args_of t b ts f q))
      (same_functor a (length (map join ss)) b (length ts))
  layers_cut s t _ _ e f p q = cut-Any (suc k)

pub join_cut : (k : ℕ) (s t : Skeleton) → cut k s ≡ s → cut k t ≡ t → cut k (join s t) ≡ join s t
join_cut zero s t p q =
    let is : out-Skeleton s ≡ Skeleton-F.Any = ap out-Skeleton (sym p) ∙ outs-Any in
    sym (join_at s Skeleton-F.Any is t (out-Skeleton t) refl ∙ any_first (out-Skeleton t))
  where
    any_first : (y : Skeleton-F Skeleton) → join_layer Skeleton-F.Any y ≡ Any
    any_first Skeleton-F.Any = refl
    any_first _ = refl
join_cut (suc k) s t p q =
    let e = join_at s (out-Skeleton s) refl t (out-Skeleton t) refl in
    ap (cut (suc k)) e ∙ layers_cut k (join_cut k) s t (out-Skeleton s) (out-Skeleton t) refl refl p q ∙ sym e

pub joins_cut : (k : ℕ) (ss ts : List Skeleton) → map (cut k) ss ≡ ss → map (cut k) ts ≡ ts
    → map (cut k) (join_args (map join ss) ts) ≡ join_args (map join ss) ts
joins_cut k = args_cut k (join_cut k)
