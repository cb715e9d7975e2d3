-- Rows that go on: each name keeps its row.
use Rattle.std.proofs.Common.{
  ◌≡◌,
  ℕ,
  zero,
  suc,
  ◌+◌,
  ◌<◌,
  length,
  Bool,
  true,
  false,
  cond,
  nat_eq,
  List,
  [],
  ◌∷◌,
  ◌++◌,
  Option,
  Some,
  None,
  IsSome,
  sym,
  refl,
  ap,
  ap₂,
  ◌∙◌,
  subst,
  arith,
}
use Rattle.plai_theory.specs.Words.{given, item, HasSome}
use Rattle.plai_theory.specs.Domain.{Domain}
use Rattle.plai_theory.specs.Evaluation.{NameOf}
use Rattle.plai_fix_laws.specs.WorkStates.{KeptRow, Keeping, IsNamed, is_live, kept_live, Extends}
use Rattle.plai_fix_laws.specs.Changes.{Answers}
use Rattle.plai_fix_laws.specs.Queues.{IsQueued}
use Rattle.plai_fix_laws.proofs.Lists.{count_cons, count_push, item_within}
use Rattle.plai_fix_laws.proofs.Places.{push_before, has_some}
use Rattle.plai_fix_laws.proofs.Linked.{named_push}

module _ (d : Domain) where
  pub extends_same : (kept new : List (KeptRow d)) → new ≡ kept → Extends d kept new
  extends_same kept new e = record {
    live = let f = ap (kept_live d) e in omega arith;
    names = λ j y n. subst (λ ks. IsNamed d ks j y) (sym e) n;
    lives =
        λ j l. subst (λ ks. is_live d ks j ≡ true) (sym e) l;
  }

  pub extends_then : (kept mid new : List (KeptRow d)) → Extends d kept mid → Extends d mid new → Extends d kept new
  extends_then kept mid new a b = record {
    live = let l = a.live in let m = b.live in omega arith;
    names = λ j y n. b.names j y (a.names j y n);
    lives =
        λ j l. b.lives j (a.lives j l);
  }

  pub extends_push : (kept new : List (KeptRow d)) (r : KeptRow d) → new ≡ kept ++ r ∷ [] → Extends d kept new
  extends_push kept new r e =
      record {
        live = let f = ap (kept_live d) e in let c = count_push (λ (z : KeptRow d). z.live) kept r in omega arith;
        names = λ j y n. subst (λ ks. IsNamed d ks j y) (sym e) (named_push d kept r j y n);
        lives = λ j l. subst (λ ks. is_live d ks j ≡ true) (sym e) (live_push j (item kept j) refl l);
      }
    where
      live_push : (j : ℕ) (o : Option (KeptRow d)) → item kept j ≡ o → given false (λ (z : KeptRow d). z.live) o ≡ true → is_live d (kept ++ r ∷ []) j ≡ true
      live_push j None f l = cc
      live_push j (Some z) f l = ap (given false (λ (w : KeptRow d). w.live)) (push_before kept r z j f) ∙ l

  -- dirty pairs are of rows still
  pub extends_of_rows : (kept new : List (KeptRow d)) (dirty : ℕ → ℕ → Bool) → Extends d kept new → ((n m : ℕ) → dirty n m ≡ true → n < length kept)
      → (n m : ℕ) → dirty n m ≡ true → n < length new
  extends_of_rows kept new dirty extends of_rows n m e =
      let (z, f) = item_there kept n (of_rows n m e) in
      item_within new n (is_named z.name (item new n) (extends.names n z.name (has_some (λ (w : KeptRow d). w.name ≡ z.name) (item kept n) z f refl)))
    where
      item_there : (xs : List (KeptRow d)) (i : ℕ) → i < length xs → (x : KeptRow d) × (item xs i ≡ Some x)
      item_there [] i l = absurd (omega arith)
      item_there (x ∷ xs) zero l = (x, refl)
      item_there (x ∷ xs) (suc i) l = item_there xs i (omega arith)

      is_named : (y : NameOf d) (o : Option (KeptRow d)) → HasSome (λ (w : KeptRow d). w.name ≡ y) o → IsSome o
      is_named y None h = absurd h
      is_named y (Some w) h = refl

  -- rows before the last one are live where they were
  pub live_before : (kept : List (KeptRow d)) (r : KeptRow d) (n : ℕ) → n < length kept → is_live d (kept ++ r ∷ []) n ≡ is_live d kept n
  live_before [] r n h = absurd (omega arith)
  live_before (q ∷ kept) r zero h = refl
  live_before (q ∷ kept) r (suc n) h = live_before kept r n (omega arith)

  -- a new row without dirty pairs leaves what is queued
  pub queued_push : (k new : Keeping d) (r : KeptRow d) (queue : List ℕ) → IsQueued k queue → ((n m : ℕ) → k.dirty n m ≡ true → n < length k.rows)
      → new.rows ≡ k.rows ++ r ∷ [] → ((n m : ℕ) → new.dirty n m ≡ k.dirty n m) → IsQueued new queue
  queued_push k new r queue queued of_rows more same n m live e =
      let was : k.dirty n m ≡ true = sym (same n m) ∙ e in
      queued n m (sym (live_before k.rows r n (of_rows n m was)) ∙ subst (λ ks. is_live d ks n ≡ true) more live) was

  -- an answer leaves what is live
  pub answers_live : (k new : Keeping d) (n : ℕ) (a : Option d.Value) → Answers d k new n a → (j : ℕ) → is_live d new.rows j ≡ is_live d k.rows j
  answers_live k new n a answers j = ap (given false (λ (z : KeptRow d). z.live)) (answers.rows j) ∙ at (item k.rows j)
    where
      at : (o : Option (KeptRow d)) → given false (λ (z : KeptRow d). z.live)
          (given None (λ (r : KeptRow d). Some (record { name = r.name; answer = cond (nat_eq j n) a r.answer; live = r.live })) o)
          ≡ given false (λ (z : KeptRow d). z.live) o
      at None = refl
      at (Some r) = refl

  -- an answer of a row
  pub extends_answers : (k new : Keeping d) (n : ℕ) (a : Option d.Value) → Answers d k new n a → Extends d k.rows new.rows
  extends_answers k new n a answers =
      record {
        live = let e = same_live k.rows new.rows (λ j r. cond (nat_eq j n) a r.answer) answers.rows in omega arith;
        names = λ j y named. at (item k.rows j) (item new.rows j) j y (answers.rows j) named;
        lives = λ j l. live_at (item k.rows j) (item new.rows j) j (answers.rows j) l;
      }
    where
      live_at : (o u : Option (KeptRow d)) (j : ℕ)
          → u ≡ given None (λ (r : KeptRow d). Some (record { name = r.name; answer = cond (nat_eq j n) a r.answer; live = r.live })) o
          → given false (λ (r : KeptRow d). r.live) o ≡ true → given false (λ (r : KeptRow d). r.live) u ≡ true
      live_at None u j e h = cc
      live_at (Some r) u j e h = ap (given false (λ (z : KeptRow d). z.live)) e ∙ h

      at : (o u : Option (KeptRow d)) (j : ℕ) (y : NameOf d)
          → u ≡ given None (λ (r : KeptRow d). Some (record { name = r.name; answer = cond (nat_eq j n) a r.answer; live = r.live })) o
          → HasSome (λ (z : KeptRow d). z.name ≡ y) o → HasSome (λ (z : KeptRow d). z.name ≡ y) u
      at None u j y e h = absurd h
      at (Some r) u j y e h = subst (HasSome (λ (z : KeptRow d). z.name ≡ y)) (sym e) h

      same_live : (xs ys : List (KeptRow d)) (f : ℕ → KeptRow d → Option d.Value)
          → ((j : ℕ) → item ys j ≡ given None (λ (r : KeptRow d). Some (record { name = r.name; answer = f j r; live = r.live })) (item xs j))
          → kept_live d ys ≡ kept_live d xs
      same_live [] [] f h = refl
      same_live [] (y ∷ ys) f h = let e : Some y ≡ None = h zero in cc
      same_live (x ∷ xs) [] f h = let e = h zero in cc
      same_live (x ∷ xs) (y ∷ ys) f h =
          let e : ◌≡◌ {A = Option (KeptRow d)} (Some y) (Some (record { name = x.name; answer = f zero x; live = x.live })) = h zero in
          count_cons (λ (z : KeptRow d). z.live) y ys
          ∙ ap₂ (λ (p : Bool) (m : ℕ). cond p 1 0 + m) (live_of e) (same_live xs ys (λ j. f (suc j)) (λ j. h (suc j)))
          ∙ sym (count_cons (λ (z : KeptRow d). z.live) x xs)
        where
          live_of : {a b : KeptRow d} → ◌≡◌ {A = Option (KeptRow d)} (Some a) (Some b) → a.live ≡ b.live
          live_of {a} {b} e = let s : a ≡ b = cc in ap (λ (z : KeptRow d). z.live) s
