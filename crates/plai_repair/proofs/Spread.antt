-- The callers of gathered rows are gathered, until all that is lost is.
use Rattle.std.proofs.Common.{◌≡◌, ◌⊎◌, ℕ, ◌+◌, ◌<◌, ◌≤◌, Bool, true, List, length, Some, sym, refl, ◌∙◌, subst, inl, inr, arith}
use Rattle.std.proofs.lemmas.List.Sums.{count_by-le-length}
use Rattle.plai_theory.specs.Words.{IsIn, item}
use Rattle.plai_repair.specs.Lost.{IsLost, AreLost, Itself, ByCall}
use Rattle.plai_repair.specs.Gathering.{AreMarked, Gathers, Spreads}
use Rattle.plai_repair.proofs.Members.{place_in, in_place, within_place, place_within, of_two}

module _ (calls : ℕ → ℕ → ℕ → Bool) where
  -- the rows that are there at first
  pub spreads_first : (marks : List Bool) (rows : List ℕ) → AreMarked marks rows → Spreads (λ j. IsIn j rows) calls (length marks) 0 marks rows
  spreads_first marks rows marked = record {
    long = refl;
    marked = marked;
    sound = λ j i. Itself i;
    first = λ j i. i;
    closed = λ k j c n h e f. absurd (omega (arith, h));
  }

  -- the callers of one more row
  pub spreads_more : {loses : ℕ → Type 0} {size : ℕ} {marks new_marks : List Bool} {rows new : List ℕ} (index row : ℕ) (comes : ℕ → Type 0)
      → Spreads loses calls size index marks rows
      → item rows index ≡ Some row
      → Gathers comes marks rows new_marks new → ((j : ℕ) → comes j → (c : ℕ) × (calls j c row ≡ true)) → ((j c : ℕ) → calls j c row ≡ true → comes j)
      → Spreads loses calls size (index + 1) new_marks new
  spreads_more {loses} {size} {marks} {new_marks} {rows} {new} index row comes s at_row a sound whole = record {
    long = a.long ∙ s.long;
    marked = a.marked;
    sound = λ j i. from j (a.sound j i);
    first = λ j e. stays j (s.first j e);
    closed = λ k j c n h e f. close k j c n h e f;
  }
    where
      stays : (j : ℕ) → IsIn j rows → IsIn j new
      stays j i = let (k, h, e) = place_in rows j i in in_place new k j (a.keeps k j e)

      from : (j : ℕ) → IsIn j rows ⊎ comes j → IsLost loses calls j
      from j (inl i) = s.sound j i
      from j (inr e) = let (c, f) = sound j e in ByCall row c (s.sound row (in_place rows index row at_row)) f

      close : (k j c n : ℕ) → k < index + 1 → item new k ≡ Some j → calls n c j ≡ true → IsIn n new
      close k j c n h e f =
          let inside : index < length rows = place_within rows index row at_row in
          let (i, g) = within_place rows k (omega arith) in
          let u : item new k ≡ Some i = a.keeps k i g in
          let same : i ≡ j = cc in
          of_two k index h (λ b. stays n (s.closed k j c n b (subst (λ (m : ℕ). item rows k ≡ Some m) same g) f))
          (λ b.
          let v : item rows index ≡ Some i = subst (λ (m : ℕ). item rows m ≡ Some i) b g in
          let is : row ≡ j = cc in
          let w : calls n c row ≡ true = subst (λ (m : ℕ). calls n c m ≡ true) (sym is) f in a.whole n (whole n c w))

  -- all that is lost is gathered at the end
  spreads_in : {loses : ℕ → Type 0} {size : ℕ} {marks : List Bool} {rows : List ℕ} → Spreads loses calls size (length rows) marks rows → (n : ℕ)
      → IsLost loses calls n → IsIn n rows
  spreads_in s n (Itself e) = s.first n e
  spreads_in {loses} {size} {marks} {rows} s n (ByCall m i r e) = let (k, h, f) = place_in rows m (spreads_in s m r) in s.closed k m i n h f e

  pub lost_as : {one two : ℕ → Type 0} → ((j : ℕ) → one j → two j) → (n : ℕ) → IsLost one calls n → IsLost two calls n
  lost_as to n (Itself e) = Itself (to n e)
  lost_as to n (ByCall m i r e) = ByCall m i (lost_as to m r) e

  pub spreads_all : {loses : ℕ → Type 0} (start : List ℕ) {size : ℕ} {marks : List Bool} {rows : List ℕ}
      → Spreads (λ j. IsIn j start) calls size (length rows) marks rows
      → ((j : ℕ) → IsIn j start → loses j) → ((j : ℕ) → loses j → IsIn j start)
      → AreLost loses calls size marks
  spreads_all {loses} start {size} {marks} {rows} s to back = record {
    long = s.long;
    agree = λ n. (λ t. lost_as to n (s.sound n ((s.marked.agree n).0 t)), λ l. (s.marked.agree n).1 (spreads_in s n (lost_as back n l)));
  }

-- there are no more rows than marks
pub few : (marks : List Bool) (rows : List ℕ) → AreMarked marks rows → length rows ≤ length marks
few marks rows marked = let c = count_by-le-length (λ (b : Bool). b) marks in let e = marked.count in omega arith
