-- Evaluation of one clause: monotony, and that it depends on the answers at the names that it calls alone.
use Rattle.std.proofs.Common.{◌≡◌, Some, None, List, [], ◌∷◌, refl, ap, subst, inl, inr}
use Rattle.plai_theory.specs.Words.{IsIn, given, UpTo}
use Rattle.plai_theory.specs.Domain.{Step, Goal, Do, Domain, Program, IsLawful}
use Rattle.plai_theory.specs.Evaluation.{Source, NameOf, name_of, state_behind, calls_along, answer_of, calls_of}
use Rattle.plai_theory.proofs.Options.{given_up_to, given_same, given_in, in_given, upper_of}

-- at a name of the first list, s answers at most what t does at each name of the second list above it
abbrev pub Meets : (d : Domain) → Source d → Source d → List (NameOf d) → List (NameOf d) → Type 0
Meets d s t low high = (p : d.Pred) (v w : d.Value) → IsIn (name_of d p v) low → IsIn (name_of d p w) high → d.leq p v w → UpTo (d.leq p) (s p v) (t p w)

abbrev pub IsPart : (d : Domain) → List (Step d.Literal d.Action) → d.Clause → Type 0
IsPart d steps c = (x : Step d.Literal d.Action) → IsIn x steps → IsIn x (d.body c)

module _ (d : Domain) (g : Program d) (laws : IsLawful d g) (s t : Source d) (o : d.Pred) (c : d.Clause) (inside : IsIn c (g.clauses o)) where
  final_le : (steps : List (Step d.Literal d.Action)) → IsPart d steps c → (a b : d.State) → d.below c a b
      → Meets d s t (calls_along d s steps a) (calls_along d t steps b) → UpTo (d.below c) (state_behind d s steps a) (state_behind d t steps b)
  unfolding state_behind calls_along
  final_le [] part a b h m = h
  final_le (Do x ∷ rest) part a b h m =
      given_up_to (d.below c) (d.below c) (d.refine x a) (d.refine x b) _ _ (laws.refine o c x a b inside (part _ (inl refl)) h)
      (λ a' b' ea eb k. final_le rest (λ y i. part y (inr i)) a' b' k
      (λ p v w i j le. m p v w (in_given _ (d.refine x a) _ a' ea i) (in_given _ (d.refine x b) _ b' eb j) le))
  final_le (Goal l ∷ rest) part a b h m =
      given_up_to (d.leq (d.callee l)) (d.below c) (s (d.callee l) (d.call l a)) (t (d.callee l) (d.call l b)) _ _
      (m (d.callee l) (d.call l a) (d.call l b) (inl refl) (inl refl) (laws.call o c l a b inside (part _ (inl refl)) h))
      (λ x y ex ey xy. given_up_to (d.below c) (d.below c) (d.back l a x) (d.back l b y) _ _ (laws.back o c l a b x y inside (part _ (inl refl)) h xy)
      (λ a' b' ea eb k. final_le rest (λ z i. part z (inr i)) a' b' k
      (λ p v w i j le. m p v w (inr (in_given _ (s (d.callee l) (d.call l a)) _ x ex (in_given _ (d.back l a x) _ a' ea i)))
      (inr (in_given _ (t (d.callee l) (d.call l b)) _ y ey (in_given _ (d.back l b y) _ b' eb j))) le)))

  -- each name called below lies below one called above
  calls_le : (steps : List (Step d.Literal d.Action)) → IsPart d steps c → (a b : d.State) → d.below c a b
      → Meets d s t (calls_along d s steps a) (calls_along d t steps b) → (p : d.Pred) (v : d.Value) → IsIn (name_of d p v) (calls_along d s steps a)
      → (w : d.Value) × IsIn (name_of d p w) (calls_along d t steps b) × d.leq p v w
  unfolding calls_along
  calls_le [] part a b h m p v i = absurd i
  calls_le (Do x ∷ rest) part a b h m p v i =
      given_in _ (name_of d p v) (d.refine x a) _ i (λ a' ea i'.
      let (b', eb, k) = upper_of (d.below c) (d.refine x a) (d.refine x b) a' (laws.refine o c x a b inside (part _ (inl refl)) h) ea in
      let (w, j, le) = calls_le rest (λ y i. part y (inr i)) a' b' k
      (λ p v w i j le. m p v w (in_given _ (d.refine x a) _ a' ea i) (in_given _ (d.refine x b) _ b' eb j) le) p v i' in
      (w, in_given _ (d.refine x b) _ b' eb j, le))
  calls_le (Goal l ∷ rest) part a b h m p v (inl e) =
      subst (λ (x : NameOf d). (w : d.Value) × IsIn (name_of d x.pred w) (calls_along d t (Goal l ∷ rest) b) × d.leq x.pred x.call w) e
      (d.call l b, inl refl, laws.call o c l a b inside (part _ (inl refl)) h)
  calls_le (Goal l ∷ rest) part a b h m p v (inr i) =
      given_in _ (name_of d p v) (s (d.callee l) (d.call l a)) _ i (λ x ex i1.
      given_in _ (name_of d p v) (d.back l a x) _ i1 (λ a' ea i2.
      let le : d.leq (d.callee l) (d.call l a) (d.call l b) = laws.call o c l a b inside (part _ (inl refl)) h in
      let (y, ey, xy) = upper_of (d.leq (d.callee l)) (s (d.callee l) (d.call l a)) (t (d.callee l) (d.call l b)) x (m _ _ _ (inl refl) (inl refl) le) ex in
      let (b', eb, k) = upper_of (d.below c) (d.back l a x) (d.back l b y) a' (laws.back o c l a b x y inside (part _ (inl refl)) h xy) ea in
      let (w, j, wle) = calls_le rest (λ z i. part z (inr i)) a' b' k
      (λ p v w i j le. m p v w (inr (in_given _ (s (d.callee l) (d.call l a)) _ x ex (in_given _ (d.back l a x) _ a' ea i)))
      (inr (in_given _ (t (d.callee l) (d.call l b)) _ y ey (in_given _ (d.back l b y) _ b' eb j))) le) p v i2 in
      (w, inr (in_given _ (t (d.callee l) (d.call l b)) _ y ey (in_given _ (d.back l b y) _ b' eb j)), wle)))

-- two sources that agree at the names that are called
abbrev pub Agree : (d : Domain) → Source d → Source d → List (NameOf d) → Type 0
Agree d s t names = (p : d.Pred) (v : d.Value) → IsIn (name_of d p v) names → s p v ≡ t p v

module _ (d : Domain) (s t : Source d) where
  pub same_final : (steps : List (Step d.Literal d.Action)) (a : d.State) → Agree d s t (calls_along d t steps a)
      → state_behind d s steps a ≡ state_behind d t steps a
  unfolding state_behind calls_along
  same_final [] a m = refl
  same_final (Do x ∷ rest) a m =
      given_same None (d.refine x a) _ _ (λ b e. same_final rest b (λ p v i. m p v (in_given _ (d.refine x a) _ b e i)))
  same_final (Goal l ∷ rest) a m =
      rw (m (d.callee l) (d.call l a) (inl refl))
      (given_same None (t (d.callee l) (d.call l a)) _ _ (λ y ey. given_same None (d.back l a y) _ _ (λ b e.
      same_final rest b (λ p v i. m p v (inr (in_given _ (t (d.callee l) (d.call l a)) _ y ey (in_given _ (d.back l a y) _ b e i)))))))

  pub same_calls : (steps : List (Step d.Literal d.Action)) (a : d.State) → Agree d s t (calls_along d t steps a)
      → calls_along d s steps a ≡ calls_along d t steps a
  unfolding calls_along
  same_calls [] a m = refl
  same_calls (Do x ∷ rest) a m =
      given_same [] (d.refine x a) _ _ (λ b e. same_calls rest b (λ p v i. m p v (in_given _ (d.refine x a) _ b e i)))
  same_calls (Goal l ∷ rest) a m =
      rw (m (d.callee l) (d.call l a) (inl refl))
      (ap (λ ns. name_of d (d.callee l) (d.call l a) ∷ ns)
      (given_same [] (t (d.callee l) (d.call l a)) _ _ (λ y ey. given_same [] (d.back l a y) _ _ (λ b e.
      same_calls rest b (λ p v i. m p v (inr (in_given _ (t (d.callee l) (d.call l a)) _ y ey (in_given _ (d.back l a y) _ b e i))))))))

-- the same of a clause's evaluation
module _ (d : Domain) (g : Program d) (laws : IsLawful d g) (s t : Source d) (p : d.Pred) (c : d.Clause) (inside : IsIn c (g.clauses p)) where
  pub answer_le : (v w : d.Value) → d.leq p v w → Meets d s t (calls_of d s c v) (calls_of d t c w) → UpTo (d.leq p) (answer_of d s c v) (answer_of d t c w)
  unfolding answer_of calls_of
  answer_le v w h m =
      given_up_to (d.below c) (d.leq p) (d.enter c v) (d.enter c w) _ _ (laws.enter p c v w inside h) (λ a b ea eb k.
      given_up_to (d.below c) (d.leq p) (state_behind d s (d.body c) a) (state_behind d t (d.body c) b) _ _
      (final_le d g laws s t p c inside (d.body c) (λ x i. i) a b k
      (λ q x y i j le. m q x y (in_given _ (d.enter c v) _ a ea i) (in_given _ (d.enter c w) _ b eb j) le))
      (λ a' b' ea' eb' k'. laws.exit p c a' b' inside k'))

  pub called_le : (v w : d.Value) → d.leq p v w → Meets d s t (calls_of d s c v) (calls_of d t c w) → (q : d.Pred) (x : d.Value)
      → IsIn (name_of d q x) (calls_of d s c v) → (y : d.Value) × IsIn (name_of d q y) (calls_of d t c w) × d.leq q x y
  unfolding calls_of
  called_le v w h m q x i =
      given_in _ (name_of d q x) (d.enter c v) _ i (λ a ea i'.
      let (b, eb, k) = upper_of (d.below c) (d.enter c v) (d.enter c w) a (laws.enter p c v w inside h) ea in
      let (y, j, le) = calls_le d g laws s t p c inside (d.body c) (λ x i. i) a b k
      (λ p x z i j le. m p x z (in_given _ (d.enter c v) _ a ea i) (in_given _ (d.enter c w) _ b eb j) le) q x i' in
      (y, in_given _ (d.enter c w) _ b eb j, le))

module _ (d : Domain) (s t : Source d) (c : d.Clause) (v : d.Value) (m : Agree d s t (calls_of d t c v)) where
  pub same_answer : answer_of d s c v ≡ answer_of d t c v
  unfolding answer_of calls_of
  same_answer =
      given_same None (d.enter c v) _ _ (λ a e.
      ap (given None (λ end. Some (d.exit c end))) (same_final d s t (d.body c) a (λ q x i. m q x (in_given _ (d.enter c v) _ a e i))))

  pub same_called : calls_of d s c v ≡ calls_of d t c v
  unfolding calls_of
  same_called = given_same [] (d.enter c v) _ _ (λ a e. same_calls d s t (d.body c) a (λ q x i. m q x (in_given _ (d.enter c v) _ a e i)))
