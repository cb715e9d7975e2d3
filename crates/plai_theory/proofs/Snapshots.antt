-- The computed list is the one that `IsSnapshot` speaks of.
use Rattle.std.proofs.Common.{◌≡◌, ◌⊎◌, ◌↔◌, ℕ, zero, suc, ◌≤◌, Bool, true, false, List, [], ◌∷◌, ◌++◌, map, sym, refl, ap, ◌∙◌, subst, inl, inr}
use Rattle.plai_theory.specs.Words.{IsIn}
use Rattle.plai_theory.specs.Domain.{Domain, Program}
use Rattle.plai_theory.specs.Evaluation.{Source, NameOf, calls_of}
use Rattle.plai_theory.specs.Stages.{stage, Reaches, AtEntry, ByCall}
use Rattle.plai_theory.specs.LeastTable.{Row, Order, IsOrdered, IsSnapshot, IsLeastTable, IsStrictOrder}
use Rattle.plai_theory.specs.Snapshots.{calls_of_clauses, calls_of_names, reach_list, placed, in_order, row_at, snapshot, IsTotalTest}
use Rattle.plai_theory.proofs.Options.{by_test}
use Rattle.plai_theory.proofs.Rounds.{map_in}
use Rattle.plai_theory.proofs.Same.{snap_unique}

in_left : {A : Type 0} (xs ys : List A) (x : A) → IsIn x xs → IsIn x (xs ++ ys)
in_left [] ys x i = absurd i
in_left (y ∷ xs) ys x (inl e) = inl e
in_left (y ∷ xs) ys x (inr i) = inr (in_left xs ys x i)

in_right : {A : Type 0} (xs ys : List A) (x : A) → IsIn x ys → IsIn x (xs ++ ys)
in_right [] ys x i = i
in_right (y ∷ xs) ys x i = inr (in_right xs ys x i)

in_either : {A : Type 0} (xs ys : List A) (x : A) → IsIn x (xs ++ ys) → IsIn x xs ⊎ IsIn x ys
in_either [] ys x i = inr i
in_either (y ∷ xs) ys x (inl e) = inl (inl e)
in_either (y ∷ xs) ys x (inr i) = later (in_either xs ys x i)
  where
    later : IsIn x xs ⊎ IsIn x ys → IsIn x (y ∷ xs) ⊎ IsIn x ys
    later (inl j) = inl (inr j)
    later (inr j) = inr j

pub in_map : {A B : Type 0} (f : A → B) (xs : List A) (x : A) → IsIn x xs → IsIn (f x) (map f xs)
in_map f [] x i = absurd i
in_map f (y ∷ xs) x (inl e) = inl (ap f e)
in_map f (y ∷ xs) x (inr i) = inr (in_map f xs x i)

module _ (d : Domain) (g : Program d) (s : Source d) where
  in_calls_by : (cs : List d.Clause) (v : d.Value) (x : NameOf d) (c : d.Clause) → IsIn c cs → IsIn x (calls_of d s c v) → IsIn x (calls_of_clauses d s cs v)
  in_calls_by [] v x c i j = absurd i
  in_calls_by (b ∷ cs) v x c (inl e) j = in_left (calls_of d s b v) (calls_of_clauses d s cs v) x
      (subst (λ (a : d.Clause). IsIn x (calls_of d s a v)) (sym e) j)
  in_calls_by (b ∷ cs) v x c (inr i) j = in_right (calls_of d s b v) (calls_of_clauses d s cs v) x (in_calls_by cs v x c i j)

  of_calls_by : (cs : List d.Clause) (v : d.Value) (x : NameOf d) → IsIn x (calls_of_clauses d s cs v) → (c : d.Clause) × IsIn c cs × IsIn x (calls_of d s c v)
  of_calls_by [] v x i = absurd i
  of_calls_by (b ∷ cs) v x i = at (in_either (calls_of d s b v) (calls_of_clauses d s cs v) x i) (of_calls_by cs v x)
    where
      at : IsIn x (calls_of d s b v) ⊎ IsIn x (calls_of_clauses d s cs v)
          → (IsIn x (calls_of_clauses d s cs v) → (c : d.Clause) × IsIn c cs × IsIn x (calls_of d s c v))
          → (c : d.Clause) × IsIn c (b ∷ cs) × IsIn x (calls_of d s c v)
      at (inl j) k = (b, inl refl, j)
      at (inr j) k = let (c, l, m) = k j in (c, inr l, m)

  in_calls_of : (names : List (NameOf d)) (m x : NameOf d) → IsIn m names → IsIn x (calls_of_clauses d s (g.clauses m.pred) m.call)
      → IsIn x (calls_of_names d g s names)
  in_calls_of [] m x i j = absurd i
  in_calls_of (y ∷ names) m x (inl e) j =
      in_left (calls_of_clauses d s (g.clauses y.pred) y.call) (calls_of_names d g s names) x
      (subst (λ (a : NameOf d). IsIn x (calls_of_clauses d s (g.clauses a.pred) a.call)) (sym e) j)
  in_calls_of (y ∷ names) m x (inr i) j = in_right (calls_of_clauses d s (g.clauses y.pred) y.call) (calls_of_names d g s names) x (in_calls_of names m x i j)

  of_calls_of : (names : List (NameOf d)) (x : NameOf d) → IsIn x (calls_of_names d g s names)
      → (m : NameOf d) × IsIn m names × IsIn x (calls_of_clauses d s (g.clauses m.pred) m.call)
  of_calls_of [] x i = absurd i
  of_calls_of (y ∷ names) x i = at (in_either (calls_of_clauses d s (g.clauses y.pred) y.call) (calls_of_names d g s names) x i) (of_calls_of names x)
    where
      at : IsIn x (calls_of_clauses d s (g.clauses y.pred) y.call) ⊎ IsIn x (calls_of_names d g s names)
          → (IsIn x (calls_of_names d g s names) → (m : NameOf d) × IsIn m names × IsIn x (calls_of_clauses d s (g.clauses m.pred) m.call))
          → (m : NameOf d) × IsIn m (y ∷ names) × IsIn x (calls_of_clauses d s (g.clauses m.pred) m.call)
      at (inl j) k = (y, inl refl, j)
      at (inr j) k = let (m, l, n) = k j in (m, inr l, n)

  -- the list has the names that the relation reaches
  pub reach_in : {k : ℕ} {x : NameOf d} → Reaches d g s k x → IsIn x (reach_list d g s k)
  reach_in (AtEntry {n = zero} i) = i
  reach_in (AtEntry {n = suc n} {x = x} i) = in_left g.entries (calls_of_names d g s (reach_list d g s n)) x i
  reach_in (ByCall {n = n} {x = x} m c r i j) =
      in_right g.entries (calls_of_names d g s (reach_list d g s n)) x
      (in_calls_of (reach_list d g s n) m x (reach_in r) (in_calls_by (g.clauses m.pred) m.call x c i j))

  pub in_reach : (k : ℕ) (x : NameOf d) → IsIn x (reach_list d g s k) → Reaches d g s k x
  in_reach zero x i = AtEntry i
  in_reach (suc n) x i = at (in_either g.entries (calls_of_names d g s (reach_list d g s n)) x i) (in_reach n)
    where
      at : IsIn x g.entries ⊎ IsIn x (calls_of_names d g s (reach_list d g s n)) → ((y : NameOf d) → IsIn y (reach_list d g s n) → Reaches d g s n y)
          → Reaches d g s (suc n) x
      at (inl j) k = AtEntry j
      at (inr j) k =
          let (m, l, h) = of_calls_of (reach_list d g s n) x j in
          let (c, e, f) = of_calls_by (g.clauses m.pred) m.call x h in
          ByCall m c (k m l) e f

module _ (d : Domain) (is_before : NameOf d → NameOf d → Bool) (test : IsTotalTest d is_before) where
  abbrev pub before : Order d
  before x y = is_before x y ≡ true

  pub strict : IsStrictOrder d before
  strict = record { irrefl = λ x e. (let c : true ≡ false = sym e ∙ test.irrefl x in cc); trans = test.trans }

  placed_in : (x : NameOf d) (ys : List (NameOf d)) (z : NameOf d) → IsIn z (placed d is_before x ys) → (x ≡ z) ⊎ IsIn z ys
  placed_in x [] z i = i
  placed_in x (y ∷ ys) z i =
      by_test (is_before x y) (λ t. rw t at i)
      (λ t. by_test (is_before y x)
      (λ u. behind (rw (t, u) at i) (placed_in x ys z))
      (λ u. inr (rw (t, u) at i)))
    where
      behind : IsIn z (y ∷ placed d is_before x ys) → (IsIn z (placed d is_before x ys) → (x ≡ z) ⊎ IsIn z ys) → (x ≡ z) ⊎ IsIn z (y ∷ ys)
      behind (inl e) k = inr (inl e)
      behind (inr j) k = further (k j)
        where
          further : (x ≡ z) ⊎ IsIn z ys → (x ≡ z) ⊎ IsIn z (y ∷ ys)
          further (inl e) = inl e
          further (inr l) = inr (inr l)

  in_placed : (x : NameOf d) (ys : List (NameOf d)) (z : NameOf d) → (x ≡ z) ⊎ IsIn z ys → IsIn z (placed d is_before x ys)
  in_placed x [] z i = i
  in_placed x (y ∷ ys) z i =
      by_test (is_before x y) (λ t. rw t i)
      (λ t. by_test (is_before y x) (λ u. rw (t, u) (behind i (in_placed x ys z))) (λ u. rw (t, u) (equal (test.total x y t u) i)))
    where
      behind : (x ≡ z) ⊎ IsIn z (y ∷ ys) → ((x ≡ z) ⊎ IsIn z ys → IsIn z (placed d is_before x ys)) → IsIn z (y ∷ placed d is_before x ys)
      behind (inl e) k = inr (k (inl e))
      behind (inr (inl e)) k = inl e
      behind (inr (inr j)) k = inr (k (inr j))

      equal : x ≡ y → (x ≡ z) ⊎ IsIn z (y ∷ ys) → IsIn z (y ∷ ys)
      equal e (inl f) = inl (sym e ∙ f)
      equal e (inr j) = j

  -- names in order
  abbrev AreOrdered : List (NameOf d) → Type 0
  AreOrdered [] = Unit {0}
  AreOrdered (x ∷ xs) = ((y : NameOf d) → IsIn y xs → is_before x y ≡ true) × AreOrdered xs

  placed_ordered : (x : NameOf d) (ys : List (NameOf d)) → AreOrdered ys → AreOrdered (placed d is_before x ys)
  placed_ordered x [] o = ((λ y i. absurd i), tt)
  placed_ordered x (y ∷ ys) o =
      by_test (is_before x y)
      (λ t. rw t ((λ z i. first t z i), o))
      (λ t. by_test (is_before y x)
      (λ u. rw (t, u) ((λ z i. next u z (placed_in x ys z i)), placed_ordered x ys o.1))
      (λ u. rw (t, u) o))
    where
      first : is_before x y ≡ true → (z : NameOf d) → IsIn z (y ∷ ys) → is_before x z ≡ true
      first t z (inl e) = subst (λ (a : NameOf d). is_before x a ≡ true) e t
      first t z (inr i) = test.trans x y z t (o.0 z i)

      next : is_before y x ≡ true → (z : NameOf d) → (x ≡ z) ⊎ IsIn z ys → is_before y z ≡ true
      next u z (inl e) = subst (λ (a : NameOf d). is_before y a ≡ true) e u
      next u z (inr i) = o.0 z i

  order_ordered : (xs : List (NameOf d)) → AreOrdered (in_order d is_before xs)
  order_ordered [] = tt
  order_ordered (x ∷ xs) = placed_ordered x (in_order d is_before xs) (order_ordered xs)

  order_in : (xs : List (NameOf d)) (z : NameOf d) → IsIn z (in_order d is_before xs) → IsIn z xs
  order_in [] z i = i
  order_in (x ∷ xs) z i = at (placed_in x (in_order d is_before xs) z i) (order_in xs z)
    where
      at : (x ≡ z) ⊎ IsIn z (in_order d is_before xs) → (IsIn z (in_order d is_before xs) → IsIn z xs) → IsIn z (x ∷ xs)
      at (inl e) k = inl e
      at (inr j) k = inr (k j)

  in_ordered : (xs : List (NameOf d)) (z : NameOf d) → IsIn z xs → IsIn z (in_order d is_before xs)
  in_ordered [] z i = i
  in_ordered (x ∷ xs) z (inl e) = in_placed x (in_order d is_before xs) z (inl e)
  in_ordered (x ∷ xs) z (inr i) = in_placed x (in_order d is_before xs) z (inr (in_ordered xs z i))

  rows_ordered : (s : Source d) (xs : List (NameOf d)) → AreOrdered xs → IsOrdered d before (map (row_at d s) xs)
  rows_ordered s [] o = tt
  rows_ordered s (x ∷ xs) o =
      ((λ r i. map_in (λ (r : Row d). is_before x r.name ≡ true) (row_at d s) xs r i o.0), rows_ordered s xs o.1)

  -- Theorem: the computed list is the snapshot.
  pub snap_is : (g : Program d) (n : ℕ) → IsSnapshot d g before n (snapshot d g is_before n)
  snap_is g n =
      let s : Source d = stage d g n in
      let names : List (NameOf d) = in_order d is_before (reach_list d g (stage d g n) n) in
      record {
        ordered = rows_ordered (stage d g n) (in_order d is_before (reach_list d g (stage d g n) n)) (order_ordered (reach_list d g (stage d g n) n));
        sound = λ r i. map_in (λ (r : Row d). Reaches d g (stage d g n) n r.name × (r.answer ≡ stage d g n r.name.pred r.name.call)) (row_at d (stage d g n))
            (in_order d is_before (reach_list d g (stage d g n) n)) r i
            (λ x j. (in_reach d g (stage d g n) n x (order_in (reach_list d g (stage d g n) n) x j), refl));
        whole = λ x r. (
          row_at d (stage d g n) x,
          in_map (row_at d (stage d g n)) (in_order d is_before (reach_list d g (stage d g n) n)) x
              (in_ordered (reach_list d g (stage d g n) n) x (reach_in d g (stage d g n) r)),
          refl,
        );
      }

  -- Theorem: the least table is the list that the computed snapshots settle to.
  pub least_is_limit : (g : Program d) (rows : List (Row d)) → IsLeastTable d g before rows ↔ ((N : ℕ) × ((n : ℕ) → N ≤ n → snapshot d g is_before n ≡ rows))
  least_is_limit g rows = (
    (λ least. (least.0, λ n h. snap_unique d g before strict n (snapshot d g is_before n) rows (snap_is g n) (least.1 n h))),
    (λ limit. (limit.0, λ n h. subst (λ (t : List (Row d)). IsSnapshot d g before n t) (limit.1 n h) (snap_is g n))),
  )
