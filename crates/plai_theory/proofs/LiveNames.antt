-- The names of live rows: distinct names that all have a live row are no more than the live rows.
use Rattle.std.proofs.Common.{◌≡◌, suc, ◌≤◌, true, false, cond, List, [], ◌∷◌, length, Some, None, sym, refl, ap, ◌∙◌, subst, inl, inr, arith, le_refl}
use Rattle.plai_theory.specs.Words.{IsIn, AreDistinct}
use Rattle.plai_theory.specs.Domain.{Domain, Program, IsLawful}
use Rattle.plai_theory.specs.Evaluation.{NameOf}
use Rattle.plai_theory.specs.LegalWork.{WorkRow, find, live_count}
use Rattle.plai_theory.specs.Count.{HaveOwnNames}
use Rattle.plai_theory.proofs.Options.{by_test}

-- the names of live rows
abbrev pub live_names : (d : Domain) → List (WorkRow d) → List (NameOf d)
live_names d [] = []
live_names d (r ∷ rows) = cond r.live (r.name ∷ live_names d rows) (live_names d rows)

module _ (d : Domain) (g : Program d) (laws : IsLawful d g) where
  -- names without x
  abbrev without : NameOf d → List (NameOf d) → List (NameOf d)
  without x [] = []
  without x (y ∷ ys) = cond (d.same_name y x) (without x ys) (y ∷ without x ys)

  without_in : (x : NameOf d) (ys : List (NameOf d)) (z : NameOf d) → IsIn z (without x ys) → IsIn z ys × (d.same_name z x ≡ false)
  without_in x [] z i = absurd i
  without_in x (y ∷ ys) z i =
      by_test (d.same_name y x)
      (λ t. let (j, e) = without_in x ys z (rw t at i) in (inr j, e))
      (λ t. kept t (rw t at i) (without_in x ys z))
    where
      kept : d.same_name y x ≡ false → IsIn z (y ∷ without x ys) → (IsIn z (without x ys) → IsIn z ys × (d.same_name z x ≡ false))
          → IsIn z (y ∷ ys) × (d.same_name z x ≡ false)
      kept t (inl e) k = (inl e, subst (λ (a : NameOf d). d.same_name a x ≡ false) e t)
      kept t (inr j) k = let (l, f) = k j in (inr l, f)

  without_distinct : (x : NameOf d) (ys : List (NameOf d)) → AreDistinct ys → AreDistinct (without x ys)
  without_distinct x [] h = tt
  without_distinct x (y ∷ ys) h =
      by_test (d.same_name y x) (λ t. rw t (without_distinct x ys h.1))
      (λ t. rw t (λ i. h.0 (without_in x ys y i).0, without_distinct x ys h.1))

  without_none : (x : NameOf d) (ys : List (NameOf d)) → ((z : NameOf d) → IsIn z ys → d.same_name z x ≡ false) → length ys ≤ length (without x ys)
  without_none x [] h = le_refl _
  without_none x (y ∷ ys) h =
      let k : length ys ≤ length (without x ys) = without_none x ys (λ z i. h z (inr i)) in
      rw (h y (inl refl)) (omega arith)

  without_one : (x : NameOf d) (ys : List (NameOf d)) → AreDistinct ys → length ys ≤ suc (length (without x ys))
  without_one x [] h = omega arith
  without_one x (y ∷ ys) h =
      by_test (d.same_name y x)
      (λ t. let k : length ys ≤ length (without x ys) = without_none x ys (λ z i. by_test (d.same_name z x)
      (λ u. absurd (h.0 (subst (λ (a : NameOf d). IsIn a ys) (laws.same_true z x u ∙ sym (laws.same_true y x t)) i))) (λ u. u)) in
      rw t (omega arith))
      (λ t. let k : length ys ≤ suc (length (without x ys)) = without_one x ys h.1 in rw t (omega arith))

  -- distinct names of live rows are no more than the live rows
  pub count_live : (rows : List (WorkRow d)) (names : List (NameOf d)) → AreDistinct names
      → ((x : NameOf d) → IsIn x names → (r : WorkRow d) × (find d rows x ≡ Some r) × (r.live ≡ true)) → length names ≤ live_count d rows
  count_live [] [] h k = le_refl _
  count_live [] (x ∷ names) h k = let (r, e, l) = k x (inl refl) in cc
  count_live (q ∷ rows) names h k =
      let rest : length (without q.name names) ≤ live_count d rows = count_live rows (without q.name names) (without_distinct q.name names h) (λ x i.
      let (j, e) = without_in q.name names x i in
      let (r, f, l) = k x j in
      let n : d.same_name q.name x ≡ false = by_test (d.same_name q.name x)
      (λ t. let b : d.same_name x q.name ≡ true = subst (λ (a : NameOf d). d.same_name a q.name ≡ true) (laws.same_true q.name x t) (laws.same_refl q.name) in
      absurd (let c : true ≡ false = sym b ∙ e in cc))
      (λ t. t) in
      (r, rw n at f, l)) in
      by_test q.live
      (λ t. let one : length names ≤ suc (length (without q.name names)) = without_one q.name names h in rw t (omega arith))
      (λ t. let none : length names ≤ length (without q.name names) = without_none q.name names (λ z i. by_test (d.same_name z q.name)
      (λ u. let (r, f, l) = k z i in
      let n : d.same_name q.name z ≡ true = subst (λ (a : NameOf d). d.same_name q.name a ≡ true) (sym (laws.same_true z q.name u)) (laws.same_refl q.name) in
      let m : Some q ≡ Some r = rw n at f in
      absurd (let s : q ≡ r = cc in let c : false ≡ true = sym t ∙ (ap (λ (a : WorkRow d). a.live) s ∙ l) in cc))
      (λ u. u)) in rw t (omega arith))

  -- a live name has its row
  pub live_found : (rows : List (WorkRow d)) → HaveOwnNames d rows → (x : NameOf d) → IsIn x (live_names d rows)
      → (r : WorkRow d) × (find d rows x ≡ Some r) × (r.live ≡ true)
  live_found [] own x i = absurd i
  live_found (q ∷ rows) own x i =
      by_test q.live (λ t. at_live t (rw t at i) (live_found rows own.1 x)) (λ t. behind (live_found rows own.1 x (rw t at i)))
    where
      behind : (r : WorkRow d) × (find d rows x ≡ Some r) × (r.live ≡ true) → (r : WorkRow d) × (find d (q ∷ rows) x ≡ Some r) × (r.live ≡ true)
      behind (r, f, l) =
          by_test (d.same_name q.name x)
          (λ t. let n : find d rows x ≡ None = subst (λ (a : NameOf d). find d rows a ≡ None) (laws.same_true q.name x t) own.0 in
          absurd (let c : Some r ≡ None = sym f ∙ n in cc))
          (λ t. (r, rw t f, l))

      at_live : q.live ≡ true → IsIn x (q.name ∷ live_names d rows)
          → (IsIn x (live_names d rows) → (r : WorkRow d) × (find d rows x ≡ Some r) × (r.live ≡ true))
          → (r : WorkRow d) × (find d (q ∷ rows) x ≡ Some r) × (r.live ≡ true)
      at_live t (inl e) k =
          let n : d.same_name q.name x ≡ true = subst (λ (a : NameOf d). d.same_name q.name a ≡ true) e (laws.same_refl q.name) in
          (q, rw n refl, t)
      at_live t (inr j) k = behind (k j)

  pub live_distinct : (rows : List (WorkRow d)) → HaveOwnNames d rows → AreDistinct (live_names d rows)
  live_distinct [] own = tt
  live_distinct (q ∷ rows) own =
      by_test q.live
      (λ t. rw t (λ i. (let (r, f, l) = live_found rows own.1 q.name i in let c : Some r ≡ None = sym f ∙ own.0 in cc), live_distinct rows own.1))
      (λ t. rw t (live_distinct rows own.1))

  pub live_length : (rows : List (WorkRow d)) → length (live_names d rows) ≡ live_count d rows
  live_length [] = refl
  live_length (q ∷ rows) =
      let k : length (live_names d rows) ≡ live_count d rows = live_length rows in
      by_test q.live (λ t. rw t (omega arith)) (λ t. rw t (omega arith))

  -- distinct names that are all in a list are no more than it has
  pub distinct_within : (others names : List (NameOf d)) → AreDistinct names → ((x : NameOf d) → IsIn x names → IsIn x others) → length names ≤ length others
  distinct_within [] [] h k = le_refl _
  distinct_within [] (x ∷ names) h k = absurd (k x (inl refl))
  distinct_within (q ∷ others) names h k =
      let rest : length (without q names) ≤ length others =
      distinct_within others (without q names) (without_distinct q names h) (λ x i.
      let (j, e) = without_in q names x i in behind x e (k x j)) in
      let one : length names ≤ suc (length (without q names)) = without_one q names h in
      omega arith
    where
      behind : (x : NameOf d) → d.same_name x q ≡ false → IsIn x (q ∷ others) → IsIn x others
      behind x e (inl f) = let b : d.same_name x q ≡ true = subst (λ (a : NameOf d). d.same_name a q ≡ true) f (laws.same_refl q) in let c : true ≡ false =
          sym b ∙ e in cc
      behind x e (inr i) = i

-- work whose rows are all dormant has no live row
pub dormant_count : (d : Domain) (g : Program d) (laws : IsLawful d g) (rows : List (WorkRow d)) → HaveOwnNames d rows
    → ((x : NameOf d) (r : WorkRow d) → find d rows x ≡ Some r → r.live ≡ false) → live_count d rows ≡ 0
dormant_count d g laws rows own asleep = none (live_names d rows) refl
  where
    none : (names : List (NameOf d)) → live_names d rows ≡ names → live_count d rows ≡ 0
    none [] e = sym (live_length d g laws rows) ∙ ap length e
    none (x ∷ names) e =
        let (r, f, l) = live_found d g laws rows own x (subst (λ (ns : List (NameOf d)). IsIn x ns) (sym e) (inl refl)) in
        let c : true ≡ false = sym l ∙ asleep x r f in cc
