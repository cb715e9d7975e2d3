-- Functions over two lists side by side, an item at a time.
use Rattle.std.proofs.Common.{ℕ, ◌+◌, replicate, ◌≡◌, ◌⊎◌, inl, inr, true, ◌&&◌, List, [], ◌∷◌, ◌++◌, map, append_assoc, append-nil, Option, Some, None}
use Rattle.std.proofs.Common.{Result, Ok, Err, IfOk, refl, sym, ap, ◌∙◌}
use Rattle.std.specs.Option.{option_map, option_and_then}
use Rattle.std.proofs.lemmas.List.{replicate_more}
use Rattle.plai_terms.specs.declared.term.Term.{Term}
use Rattle.plai_terms.specs.declared.skeleton.Skeleton.{Skeleton, Any}
use Rattle.plai_depth_laws.specs.Skeletons.{join, join_args, consed, meet, meet_args}
use Rattle.plai_depth_laws.specs.OrderTest.{is_under, are_under}
use Rattle.plai_depth_laws.specs.Moves.{push, push_all}

-- ---- where one of two lists has ended

pub under_end : (ss ts : List Skeleton) → (ss ≡ []) ⊎ (ts ≡ []) → are_under (map is_under ss) ts ≡ true
under_end [] ts e = refl
under_end (s ∷ ss) [] e = refl
under_end (s ∷ ss) (t ∷ ts) e = elim e [ inl f ↦ absurd cc | inr f ↦ absurd cc ]

pub join_end : (ss ts : List Skeleton) → (ss ≡ []) ⊎ (ts ≡ []) → join_args (map join ss) ts ≡ []
join_end [] ts e = refl
join_end (s ∷ ss) [] e = refl
join_end (s ∷ ss) (t ∷ ts) e = elim e [ inl f ↦ absurd cc | inr f ↦ absurd cc ]

pub meet_end : (ss ts : List Skeleton) → (ss ≡ []) ⊎ (ts ≡ []) → meet_args (map meet ss) ts ≡ Some []
meet_end [] ts e = refl
meet_end (s ∷ ss) [] e = refl
meet_end (s ∷ ss) (t ∷ ts) e = elim e [ inl f ↦ absurd cc | inr f ↦ absurd cc ]

pub push_end : (ts : List Term) (as' ss : List Skeleton) → (ts ≡ []) ⊎ (as' ≡ []) → push_all ts as' ss ≡ Some ss
push_end [] as' ss e = refl
push_end (t ∷ ts) [] ss e = refl
push_end (t ∷ ts) (a ∷ as') ss e = elim e [ inl f ↦ absurd cc | inr f ↦ absurd cc ]

-- ---- where both have one more

module _ (ls rs : List Skeleton) (s t : Skeleton) (ss ts : List Skeleton) (e : ls ≡ s ∷ ss) (f : rs ≡ t ∷ ts) where
  pub under_next : are_under (map is_under ls) rs ≡ (is_under s t && are_under (map is_under ss) ts)
  under_next = λ i. are_under (map is_under (e i)) (f i)

  pub join_next : join_args (map join ls) rs ≡ join s t ∷ join_args (map join ss) ts
  join_next = λ i. join_args (map join (e i)) (f i)

  pub meet_next : meet_args (map meet ls) rs ≡ option_and_then (λ m. consed m (meet_args (map meet ss) ts)) (meet s t)
  meet_next = λ i. meet_args (map meet (e i)) (f i)

  -- the joins so far and those to come are all
  pub join_more : (done new whole : List Skeleton) (j : Skeleton) → j ≡ join s t → new ≡ done ++ j ∷ [] → done ++ join_args (map join ls) rs ≡ whole
      → new ++ join_args (map join ss) ts ≡ whole
  join_more done new whole j g n h =
      ap (λ new. new ++ join_args (map join ss) ts) n ∙ append_assoc done (j ∷ []) (join_args (map join ss) ts)
      ∙ ap (λ j. done ++ j ∷ join_args (map join ss) ts) g ∙ ap (λ js. done ++ js) (sym join_next) ∙ h

  pub meet_more : (done new : List Skeleton) (whole : Option (List Skeleton)) (m : Skeleton) → meet s t ≡ Some m → new ≡ done ++ m ∷ []
      → option_map (λ rest. done ++ rest) (meet_args (map meet ls) rs) ≡ whole → option_map (λ rest. new ++ rest) (meet_args (map meet ss) ts) ≡ whole
  meet_more done new whole m g n h =
      ap (λ new. option_map (λ rest. new ++ rest) (meet_args (map meet ss) ts)) n ∙ added (meet_args (map meet ss) ts)
      ∙ sym (ap (option_map (λ rest. done ++ rest)) (meet_next ∙ ap (option_and_then (λ m. consed m (meet_args (map meet ss) ts))) g)) ∙ h
    where
      added : (o : Option (List Skeleton)) → option_map (λ rest. (done ++ m ∷ []) ++ rest) o ≡ option_map (λ rest. done ++ rest) (consed m o)
      added None = refl
      added (Some rest) = ap Some (append_assoc done (m ∷ []) rest)

module _ (ls : List Term) (rs : List Skeleton) (t : Term) (a : Skeleton) (ts : List Term) (as' : List Skeleton) (e : ls ≡ t ∷ ts) (f : rs ≡ a ∷ as') where
  pub push_next : (ss : List Skeleton) → push_all ls rs ss ≡ option_and_then (push_all ts as') (push t ss a)
  push_next ss = λ i. push_all (e i) (f i) ss

-- ---- at the start

pub meet_start : (done ls rs ss ts : List Skeleton) → done ≡ [] → ls ≡ ss → rs ≡ ts
    → option_map (λ rest. done ++ rest) (meet_args (map meet ls) rs) ≡ meet_args (map meet ss) ts
meet_start done ls rs ss ts d e f =
    ap (λ done. option_map (λ rest. done ++ rest) (meet_args (map meet ls) rs)) d ∙ same (meet_args (map meet ls) rs) ∙ (λ i. meet_args (map meet (e i)) (f i))
  where
    same : (o : Option (List Skeleton)) → option_map (λ rest. [] ++ rest) o ≡ o
    same None = refl
    same (Some rest) = refl

-- at the end all are done
pub meet_all_done : (done ls rs : List Skeleton) (whole : Option (List Skeleton)) → (ls ≡ []) ⊎ (rs ≡ [])
    → option_map (λ rest. done ++ rest) (meet_args (map meet ls) rs) ≡ whole → Some done ≡ whole
meet_all_done done ls rs whole e h = ap Some (sym (append-nil done)) ∙ sym (ap (option_map (λ rest. done ++ rest)) (meet_end ls rs e)) ∙ h

pub join_all_done : (done ls rs whole : List Skeleton) → (ls ≡ []) ⊎ (rs ≡ []) → done ++ join_args (map join ls) rs ≡ whole → done ≡ whole
join_all_done done ls rs whole e h = sym (append-nil done) ∙ ap (λ js. done ++ js) (sym (join_end ls rs e)) ∙ h

-- ---- a fact for another, where a call was `Ok`

pub ok_then : {A E : Type 0} (P Q : A → Type 0) → ((a : A) → P a → Q a) → (r : Result A E) → IfOk r P → IfOk r Q
ok_then P Q f (Ok a) h = f a h
ok_then P Q f (Err e) h = h

-- ---- so many times `any`

pub any_more : (n : ℕ) (s : Skeleton) (ss new : List Skeleton) → s ≡ Any → ss ≡ replicate n Any → new ≡ ss ++ s ∷ [] → new ≡ replicate (n + 1) Any
any_more n s ss new e f g = g ∙ ap (λ s. ss ++ s ∷ []) e ∙ ap (λ ss. ss ++ Any ∷ []) f ∙ replicate_more n Any
