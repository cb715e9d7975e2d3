-- Stages: monotony, and tables that lie above or below them.
use Rattle.std.proofs.Common.{◌≡◌, ℕ, zero, suc, ◌≤◌, Option, Some, None, List, [], ◌∷◌, sym, refl, subst, inl, inr, arith}
use Rattle.plai_theory.specs.Words.{IsIn, UpTo}
use Rattle.plai_theory.specs.Domain.{Domain, Program, IsLawful}
use Rattle.plai_theory.specs.Evaluation.{Source, NameOf, name_of, answer_of, calls_of, join_of, best_of}
use Rattle.plai_theory.specs.Stages.{stage, Reaches, AtEntry, ByCall}
use Rattle.plai_theory.proofs.Options.{UpTo-trans, UpTo-antisym, UpTo-left}
use Rattle.plai_theory.proofs.Eval.{answer_le, called_le, same_called}

module _ (d : Domain) (g : Program d) (laws : IsLawful d g) (p : d.Pred) where
  pub trans_at : (a b c : Option d.Value) → UpTo (d.leq p) a b → UpTo (d.leq p) b c → UpTo (d.leq p) a c
  trans_at = UpTo-trans (d.leq p) (λ x y z h k. laws.trans h k)

  pub antisym_at : (a b : Option d.Value) → UpTo (d.leq p) a b → UpTo (d.leq p) b a → a ≡ b
  antisym_at = UpTo-antisym (d.leq p) (λ x y h k. laws.antisym h k)

  pub left_at : (a b : Option d.Value) → UpTo (d.leq p) a b → UpTo (d.leq p) a a
  left_at = UpTo-left (d.leq p) (λ x y h. laws.left h)

  -- the join of options
  pub joined_first : (a b : Option d.Value) → UpTo (d.leq p) a a → UpTo (d.leq p) b b → UpTo (d.leq p) a (join_of d a b)
  unfolding join_of
  joined_first None b h k = tt
  joined_first (Some a) None h k = h
  joined_first (Some a) (Some b) h k = laws.join_first h k

  pub joined_second : (a b : Option d.Value) → UpTo (d.leq p) a a → UpTo (d.leq p) b b → UpTo (d.leq p) b (join_of d a b)
  unfolding join_of
  joined_second None b h k = k
  joined_second (Some a) None h k = tt
  joined_second (Some a) (Some b) h k = laws.join_second h k

  pub joined_least : (a b c : Option d.Value) → UpTo (d.leq p) a c → UpTo (d.leq p) b c → UpTo (d.leq p) (join_of d a b) c
  unfolding join_of
  joined_least None b c h k = k
  joined_least (Some a) None c h k = h
  joined_least (Some a) (Some b) None h k = absurd h
  joined_least (Some a) (Some b) (Some c) h k = laws.join_least h k

  -- the join of the answers of clauses is their least upper bound
  pub best_least : (s : Source d) (cs : List d.Clause) (v : d.Value) (top : Option d.Value)
      → ((c : d.Clause) → IsIn c cs → UpTo (d.leq p) (answer_of d s c v) top) → UpTo (d.leq p) (best_of d s cs v) top
  unfolding best_of
  best_least s [] v top h = tt
  best_least s (c ∷ cs) v top h =
      joined_least (answer_of d s c v) (best_of d s cs v) top (h c (inl refl)) (best_least s cs v top (λ x i. h x (inr i)))

  best_is : (s : Source d) (cs : List d.Clause) (v : d.Value) → ((c : d.Clause) → IsIn c cs → UpTo (d.leq p) (answer_of d s c v) (answer_of d s c v))
      → UpTo (d.leq p) (best_of d s cs v) (best_of d s cs v)
  unfolding best_of
  best_is s [] v h = tt
  best_is s (c ∷ cs) v h =
      let rest : UpTo (d.leq p) (best_of d s cs v) (best_of d s cs v) = best_is s cs v (λ x i. h x (inr i)) in
      left_at (best_of d s (c ∷ cs) v) (best_of d s (c ∷ cs) v)
      (joined_least (answer_of d s c v) (best_of d s cs v) _ (joined_first (answer_of d s c v) (best_of d s cs v) (h c (inl refl)) rest)
      (joined_second (answer_of d s c v) (best_of d s cs v) (h c (inl refl)) rest))

  pub best_above : (s : Source d) (cs : List d.Clause) (v : d.Value) → ((c : d.Clause) → IsIn c cs → UpTo (d.leq p) (answer_of d s c v) (answer_of d s c v))
      → (c : d.Clause) → IsIn c cs → UpTo (d.leq p) (answer_of d s c v) (best_of d s cs v)
  unfolding best_of
  best_above s [] v h c i = absurd i
  best_above s (b ∷ cs) v h c (inl e) =
      subst (λ (x : d.Clause). UpTo (d.leq p) (answer_of d s x v) (best_of d s (b ∷ cs) v)) e
      (joined_first (answer_of d s b v) (best_of d s cs v) (h b (inl refl)) (best_is s cs v (λ x i. h x (inr i))))
  best_above s (b ∷ cs) v h c (inr i) =
      trans_at (answer_of d s c v) (best_of d s cs v) (best_of d s (b ∷ cs) v) (best_above s cs v (λ x i. h x (inr i)) c i)
      (joined_second (answer_of d s b v) (best_of d s cs v) (h b (inl refl)) (best_is s cs v (λ x i. h x (inr i))))

module _ (d : Domain) (g : Program d) (laws : IsLawful d g) where
  -- each later stage lies above each earlier one, and each larger call above each smaller one
  pub stage_le : (n m : ℕ) → n ≤ m → (p : d.Pred) (v w : d.Value) → d.leq p v w → UpTo (d.leq p) (stage d g n p v) (stage d g m p w)
  unfolding stage
  stage_le zero m h p v w le = tt
  stage_le (suc n) zero h p v w le = absurd (omega arith)
  stage_le (suc n) (suc m) h p v w le =
      best_least d g laws p (stage d g n) (g.clauses p) v _ (λ c i.
      trans_at d g laws p (answer_of d (stage d g n) c v) (answer_of d (stage d g m) c w) (stage d g (suc m) p w)
      (answer_le d g laws (stage d g n) (stage d g m) p c i v w le (λ q x y i j k. stage_le n m (omega arith) q x y k))
      (best_above d g laws p (stage d g m) (g.clauses p) w (λ c' i'.
      answer_le d g laws (stage d g m) (stage d g m) p c' i' w w (laws.right le) (λ q x y i j k. stage_le m m (omega arith) q x y k)) c i))

  -- One evaluation more, from a source that lies at or below a stage.
  -- What the theory asks of a source: it lies at or below the stage n.
  pub below_next : (s : Source d) (n : ℕ) (low : (p : d.Pred) (v : d.Value) → d.leq p v v → UpTo (d.leq p) (s p v) (stage d g n p v))
      → (p : d.Pred) (v : d.Value) → d.leq p v v → (c : d.Clause) → IsIn c (g.clauses p) → UpTo (d.leq p) (answer_of d s c v) (stage d g (suc n) p v)
  unfolding stage
  below_next s n low p v is c i =
      trans_at d g laws p (answer_of d s c v) (answer_of d (stage d g n) c v) (stage d g (suc n) p v)
      (answer_le d g laws s (stage d g n) p c i v v is (λ q x y i j k.
      trans_at d g laws q (s q x) (stage d g n q x) (stage d g n q y) (low q x (laws.left k)) (stage_le n n (omega arith) q x y k)))
      (best_above d g laws p (stage d g n) (g.clauses p) v (λ c' i'.
      answer_le d g laws (stage d g n) (stage d g n) p c' i' v v is (λ q x y i j k. stage_le n n (omega arith) q x y k)) c i)

-- Names that a source is closed at: what is called from them is among them, and what is answered lies at or below the source.
pub record IsClosedAt (d : Domain) (g : Program d) (s : Source d) (In : d.Pred → d.Value → Type 0) : Type 0 where
  pub calls_in : (p : d.Pred) (v : d.Value) → In p v → (c : d.Clause) → IsIn c (g.clauses p) → (q : d.Pred) (x : d.Value)
      → IsIn (name_of d q x) (calls_of d s c v) → In q x
  pub answers : (p : d.Pred) (v : d.Value) → In p v → (c : d.Clause) → IsIn c (g.clauses p) → UpTo (d.leq p) (answer_of d s c v) (s p v)

module _ (d : Domain) (g : Program d) (laws : IsLawful d g) (s : Source d) (In : d.Pred → d.Value → Type 0) (closed : IsClosedAt d g s In) where
  -- Each stage lies at or below a source at the names that it is closed at, and at the calls below these.
  pub stage_below : (n : ℕ) (p : d.Pred) (v w : d.Value) → In p w → d.leq p v w → UpTo (d.leq p) (stage d g n p v) (s p w)
  unfolding stage
  stage_below zero p v w i le = tt
  stage_below (suc n) p v w i le =
      best_least d g laws p (stage d g n) (g.clauses p) v (s p w) (λ c j.
      trans_at d g laws p (answer_of d (stage d g n) c v) (answer_of d s c w) (s p w)
      (answer_le d g laws (stage d g n) s p c j v w le (λ q x y l k le'. stage_below n q x y (closed.calls_in p w i c j q y k) le'))
      (closed.answers p w i c j))

-- What a lower source reaches lies below what the upper one is closed at.
module _ (d : Domain) (g : Program d) (laws : IsLawful d g) (s t : Source d) (In : d.Pred → d.Value → Type 0) where
  pub reach_below : (calls_in : (p : d.Pred) (v : d.Value) → In p v → (c : d.Clause) → IsIn c (g.clauses p) → (q : d.Pred) (x : d.Value)
      → IsIn (name_of d q x) (calls_of d t c v) → In q x) → (from : (p : d.Pred) (v : d.Value) → IsIn (name_of d p v) g.entries → In p v)
      → (under : (p : d.Pred) (v w : d.Value) → In p w → d.leq p v w → UpTo (d.leq p) (s p v) (t p w)) → {k : ℕ} {x : NameOf d} → Reaches d g s k x
      → (w : d.Value) × In x.pred w × d.leq x.pred x.call w
  reach_below calls_in from under (AtEntry {x = x} i) = (x.call, from x.pred x.call i, laws.entries x.pred x.call i)
  reach_below calls_in from under (ByCall {x = x} m c r i j) =
      let (w, in_w, le) = reach_below calls_in from under r in
      let (y, k, le') = called_le d g laws s t m.pred c i m.call w le (λ q u z l k le'. under q u z (calls_in m.pred w in_w c i q z k) le') x.pred x.call j in
      (y, calls_in m.pred w in_w c i x.pred y k, le')

-- Sources that agree at what the second reaches reach the same.
module _ (d : Domain) (g : Program d) (s t : Source d) (same : (k : ℕ) (x : NameOf d) → Reaches d g t k x → s x.pred x.call ≡ t x.pred x.call) where
  pub reach_to : {k : ℕ} {x : NameOf d} → Reaches d g t k x → Reaches d g s k x
  reach_to (AtEntry i) = AtEntry i
  reach_to (ByCall {x = x} m c r i j) =
      ByCall m c (reach_to r) i (subst (λ (ns : List (NameOf d)). IsIn x ns)
      (sym (same_called d s t c m.call (λ q u k. same _ (name_of d q u) (ByCall m c r i k)))) j)

  pub reach_from : {k : ℕ} {x : NameOf d} → Reaches d g s k x → Reaches d g t k x
  reach_from (AtEntry i) = AtEntry i
  reach_from (ByCall {x = x} m c r i j) =
      let back : Reaches d g t _ m = reach_from r in
      ByCall m c back i (subst (λ (ns : List (NameOf d)). IsIn x ns) (same_called d s t c m.call (λ q u k. same _ (name_of d q u) (ByCall m c back i k))) j)

pub reach_more : (d : Domain) (g : Program d) (s : Source d) {x : NameOf d} {k : ℕ} (m : ℕ) → k ≤ m → Reaches d g s k x → Reaches d g s m x
reach_more d g s m h (AtEntry i) = AtEntry i
reach_more d g s zero h (ByCall y c r i j) = absurd (omega arith)
reach_more d g s (suc m) h (ByCall y c r i j) = ByCall y c (reach_more d g s m (omega arith) r) i j
