-- Work on a new program opens with what an edit leaves of a whole table.
use Rattle.std.proofs.Common.{◌≡◌, ◌↔◌, ℕ, zero, suc, Bool, true, false, List, [], ◌∷◌, map, Option, Some, None, IsSome, sym, refl, ap, ◌∙◌, subst}
use Rattle.plai_theory.specs.Words.{IsIn, HasSome, given, item}
use Rattle.plai_theory.specs.Domain.{Domain, Program, IsLawful}
use Rattle.plai_theory.specs.Evaluation.{NameOf, calls_of}
use Rattle.plai_theory.specs.LeastTable.{Row, Order}
use Rattle.plai_theory.specs.Tables.{source_of, IsClosed}
use Rattle.plai_theory.specs.LegalWork.{WorkRow, find}
use Rattle.plai_theory.specs.Count.{HaveOwnNames}
use Rattle.plai_theory.specs.Edits.{Stay, IsKept, IsOpening}
use Rattle.plai_theory.specs.Edits as edits
use Rattle.plai_theory.proofs.Options.{by_test}
use Rattle.plai_theory.proofs.Rows.{find_name}
use Rattle.plai_theory.proofs.Edits.{item_append}
use Rattle.plai_arcs.specs.Moves.{of_row}
use Rattle.plai_fix_laws.specs.WorkStates.{KeptRow, Keeping, Keeps, KeepsRow, AtBoth, clause_at, IsNamed}
use Rattle.plai_fix_laws.proofs.Places.{have, there, has_some, item_map, place_of, found_at}
use Rattle.plai_repair.specs.Lost.{IsLost}
use Rattle.plai_repair.specs.Whole.{IsWhole}
use Rattle.plai_repair.proofs.Members.{at_some}
use Rattle.plai_repair.proofs.Leads.{row_of_name, name_of_row, Loses, not_lost_kept, kept_not_lost}

-- the row, dormant
abbrev pub asleep : (d : Domain) → KeptRow d → KeptRow d
asleep d r = record { name = r.name; answer = r.answer; live = false }

-- the predicate gained the clause of this number, from 1
abbrev pub Gains : (d : Domain) → Program d → Program d → d.Pred → ℕ → Type 0
Gains d old new p m = (clause_at d old p m ≡ None) × IsSome (clause_at d new p m)

-- The rows that aren't lost are there, each once, dormant, under the number that it had; their clauses that were gained are
-- dirty, and their calls are those that they had.
pub record IsCut (d : Domain) (old new : Program d) (k cut : Keeping d) : Type 0 where
  pub had : ℕ → Option ℕ
  pub items : (n : ℕ) → item cut.rows n ≡ given None (λ b. given None (λ r. Some (asleep d r)) (item k.rows b)) (had n)
  pub calls : (n m j : ℕ) → cut.calls n m j ≡ of_row (had n) (λ a. of_row (had j) (λ b. k.calls a m b))
  pub dirty : (n m : ℕ) → (cut.dirty n m ≡ true) ↔ HasSome (λ (r : KeptRow d). Gains d old new r.name.pred m) (item cut.rows n)
  pub safe : (n b : ℕ) → had n ≡ Some b → IsLost (Loses d old new k.rows) k.calls b → ⊥
  pub whole : (b : ℕ) → IsSome (item k.rows b) → (IsLost (Loses d old new k.rows) k.calls b → ⊥) → (n : ℕ) × (had n ≡ Some b)
  pub once : (m n b : ℕ) → had m ≡ Some b → had n ≡ Some b → m ≡ n

-- rows whose names stand at one place each
own_of : (d : Domain) (g : Program d) → IsLawful d g → (xs : List (WorkRow d))
    → ((m n : ℕ) (q r : WorkRow d) → item xs m ≡ Some q → item xs n ≡ Some r → q.name ≡ r.name → m ≡ n) → HaveOwnNames d xs
own_of d g laws [] h = tt
own_of d g laws (x ∷ xs) h = (absent (find d xs x.name) refl, own_of d g laws xs (λ m n q r e f s. let t = h (suc m) (suc n) q r e f s in cc))
  where
    absent : (o : Option (WorkRow d)) → find d xs x.name ≡ o → o ≡ None
    absent None e = refl
    absent (Some r) e =
        let (n, at) = place_of d g laws xs x.name r e in
        let t : zero ≡ suc n = h zero (suc n) x r refl at (sym (find_name d g laws xs x.name r e)) in cc

both_of : {A B : Type 0} (R : A → B → Type 0) (f : A → B) (o : Option A) → ((x : A) → o ≡ Some x → R x (f x)) → AtBoth R o (given None (λ x. Some (f x)) o)
both_of R f None h = tt
both_of R f (Some x) h = h x refl

-- both tests of rows are true
pub rows_of : (o p : Option ℕ) (t : ℕ → ℕ → Bool) → of_row o (λ a. of_row p (λ b. t a b)) ≡ true
    → (a : ℕ) × (b : ℕ) × (o ≡ Some a) × (p ≡ Some b) × (t a b ≡ true)
rows_of None p t e = cc
rows_of (Some a) None t e = cc
rows_of (Some a) (Some b) t e = (a, b, refl, refl, e)

pub some_has : {A : Type 0} (P : A → Type 0) (o : Option A) → HasSome P o → IsSome o
some_has P None h = absurd h
some_has P (Some x) h = refl

-- a clause of the old program stands in the new one
clause_stays : (d : Domain) (old new : Program d) (p : d.Pred) → edits.Keeps d old new p → (m : ℕ) → IsSome (clause_at d old p m)
    → IsSome (clause_at d new p m)
clause_stays d old new p keeps zero h = h
clause_stays d old new p (more, is) (suc i) h =
    let (c, e) = have (item (old.clauses p) i) h in
    there (item (new.clauses p) i) c (ap (λ (cs : List d.Clause). item cs i) is ∙ item_append (old.clauses p) more i c e)

module _ (d : Domain) (old new : Program d) (laws : IsLawful d old) (order : Order d) (rows : List (Row d)) (k cut : Keeping d)
    (w : IsWhole d old order rows k) (closed : IsClosed d old rows)
    (stable : (p : d.Pred) → ((edits.Keeps d old new p → ⊥) → ⊥) → edits.Keeps d old new p) (c : IsCut d old new k cut) where
  -- a row under work of a row of the table
  abbrev work_row : KeptRow d → WorkRow d
  work_row r = record {
    name = r.name;
    answer = r.answer;
    live = r.live;
    dirty = λ i. given true (λ b. false) (item (old.clauses r.name.pred) i);
    calls = λ i. given [] (λ b. calls_of d (source_of d rows) b r.name.call) (item (old.clauses r.name.pred) i);
  }

  abbrev pub opened : List (WorkRow d)
  opened = map work_row cut.rows

  -- the row that it was
  record IsFrom (n : ℕ) (r : KeptRow d) : Type 0 where
    number : ℕ
    had : c.had n ≡ Some number
    row : KeptRow d
    at : item k.rows number ≡ Some row
    is : asleep d row ≡ r

  from : (n : ℕ) (r : KeptRow d) → item cut.rows n ≡ Some r → IsFrom n r
  from n r e = with_number (c.had n) refl (sym (c.items n) ∙ e)
    where
      with_row : (b : ℕ) → c.had n ≡ Some b → (o : Option (KeptRow d)) → item k.rows b ≡ o → given None (λ r. Some (asleep d r)) o ≡ Some r → IsFrom n r
      with_row b h None f t = cc
      with_row b h (Some q) f t = record { number = b; had = h; row = q; at = f; is = cc }

      with_number : (o : Option ℕ) → c.had n ≡ o → given None (λ b. given None (λ r. Some (asleep d r)) (item k.rows b)) o ≡ Some r → IsFrom n r
      with_number None h t = cc
      with_number (Some b) h t = with_row b h (item k.rows b) refl t

  from_named : (n : ℕ) (r : KeptRow d) (f : IsFrom n r) → IsNamed d k.rows f.number r.name
  from_named n r f =
      subst (λ (z : KeptRow d). IsNamed d k.rows f.number z.name) f.is (name_of_row d k.rows f.number f.row f.at)

  -- a row that isn't gone
  stays : (n b : ℕ) (r : KeptRow d) → c.had n ≡ Some b → item k.rows b ≡ Some r → item cut.rows n ≡ Some (asleep d r)
  stays n b r h e =
      c.items n ∙ ap (given None (λ b. given None (λ r. Some (asleep d r)) (item k.rows b))) h ∙ ap (given None (λ r. Some (asleep d r))) e

  kept_row : (n : ℕ) (r : KeptRow d) → item cut.rows n ≡ Some r → IsKept d old new rows r.name
  kept_row n r e =
      let f = from n r e in not_lost_kept d old order rows k w closed new stable f.number r.name (from_named n r f) (c.safe n f.number f.had)

  named_one : (m n : ℕ) (q r : KeptRow d) → item cut.rows m ≡ Some q → item cut.rows n ≡ Some r → q.name ≡ r.name → m ≡ n
  named_one m n q r e f same =
      let a = from m q e in
      let b = from n r f in
      let one : a.number ≡ b.number = w.once a.number b.number r.name
      (subst (λ (x : NameOf d). IsNamed d k.rows a.number x) same (from_named m q a)) (from_named n r b) in
      c.once m n b.number (a.had ∙ ap Some one) b.had

  work_at : (n : ℕ) (r : WorkRow d) → item opened n ≡ Some r → (q : KeptRow d) × (item cut.rows n ≡ Some q) × (work_row q ≡ r)
  work_at n r e = of (item cut.rows n) (sym (item_map work_row cut.rows n) ∙ e)
    where
      of : (o : Option (KeptRow d)) → given None (λ x. Some (work_row x)) o ≡ Some r → (q : KeptRow d) × (o ≡ Some q) × (work_row q ≡ r)
      of None t = cc
      of (Some q) t = (q, refl, cc)

  own : HaveOwnNames d opened
  own = own_of d old laws opened (λ m n q r e f same.
      let (a, g, s) = work_at m q e in
      let (b, h, t) = work_at n r f in
      named_one m n a b g h (ap (λ (z : WorkRow d). z.name) s ∙ same ∙ sym (ap (λ (z : WorkRow d). z.name) t)))

  -- the row that a name finds
  record IsFound (x : NameOf d) (r : WorkRow d) : Type 0 where
    number : ℕ
    row : KeptRow d
    at : item cut.rows number ≡ Some row
    is : work_row row ≡ r
    name : row.name ≡ x

  found : (x : NameOf d) (r : WorkRow d) → find d opened x ≡ Some r → IsFound x r
  found x r f =
      let (n, at) = place_of d old laws opened x r f in
      let (q, e, is) = work_at n r at in
      record { number = n; row = q; at = e; is = is; name = ap (λ (z : WorkRow d). z.name) is ∙ find_name d old laws opened x r f }

  found_answer : (x : NameOf d) (r : WorkRow d) → find d opened x ≡ Some r → r.answer ≡ source_of d rows x.pred x.call
  found_answer x r f =
      let a = found x r f in
      let b = from a.number a.row a.at in
      let same : b.row.name ≡ x = ap (λ (z : KeptRow d). z.name) b.is ∙ a.name in
      let answer : b.row.answer ≡ r.answer = ap (λ (z : KeptRow d). z.answer) b.is ∙ ap (λ (z : WorkRow d). z.answer) a.is in
      subst (λ (y : NameOf d). r.answer ≡ source_of d rows y.pred y.call) same (sym answer ∙ (w.sound b.number b.row b.at).1)

  found_dormant : (x : NameOf d) (r : WorkRow d) → find d opened x ≡ Some r → r.live ≡ false
  found_dormant x r f =
      let a = found x r f in
      let b = from a.number a.row a.at in
      let live : (asleep d b.row).live ≡ r.live = ap (λ (z : KeptRow d). z.live) b.is ∙ ap (λ (z : WorkRow d). z.live) a.is in sym live

  kept_found : (x : NameOf d) → IsKept d old new rows x → (r : WorkRow d) × (find d opened x ≡ Some r)
  kept_found x kept =
      let (b, named) = w.whole x kept.0 in
      let (r, e, same) = row_of_name d k.rows b x named in
      let (n, h) = c.whole b (there (item k.rows b) r e) (kept_not_lost d old order rows k w closed new b x named kept) in
      let at : item opened n ≡ Some (work_row (asleep d r)) = item_map work_row cut.rows n ∙ ap (given None (λ x. Some (work_row x))) (stays n b r h e) in (
        work_row (asleep d r),
        subst (λ (y : NameOf d). find d opened y ≡ Some (work_row (asleep d r))) same (found_at d old laws opened own n (work_row (asleep d r)) at),
      )

  work_old : (q : KeptRow d) (i : ℕ) (b : d.Clause) → item (old.clauses q.name.pred) i ≡ Some b
      → ((work_row q).dirty i ≡ false) × ((work_row q).calls i ≡ calls_of d (source_of d rows) b q.name.call)
  work_old q i b e = (
    ap (given true (λ (b : d.Clause). false)) e,
    ap (given [] (λ (b : d.Clause). calls_of d (source_of d rows) b q.name.call)) e,
  )

  work_new : (q : KeptRow d) (i : ℕ) → item (old.clauses q.name.pred) i ≡ None → ((work_row q).dirty i ≡ true) × ((work_row q).calls i ≡ [])
  work_new q i e = (
    ap (given true (λ (b : d.Clause). false)) e,
    ap (given [] (λ (b : d.Clause). calls_of d (source_of d rows) b q.name.call)) e,
  )

  -- Theorem: work opens with these rows.
  pub opening : IsOpening d old new rows opened
  opening = record {
    own = own;
    kept = λ x r f. let a = found x r f in subst (IsKept d old new rows) a.name (kept_row a.number a.row a.at);
    answers = found_answer;
    dormant = found_dormant;
    whole = kept_found;
    old_clauses = λ x r f i b e.
        let a = found x r f in
        let at : item (old.clauses a.row.name.pred) i ≡ Some b = subst (λ (y : NameOf d). item (old.clauses y.pred) i ≡ Some b) (sym a.name) e in
        subst (λ (z : WorkRow d). (z.dirty i ≡ false) × (z.calls i ≡ calls_of d (source_of d rows) b x.call)) a.is
        (subst (λ (y : NameOf d). ((work_row a.row).dirty i ≡ false) × ((work_row a.row).calls i ≡ calls_of d (source_of d rows) b y.call)) a.name
        (work_old a.row i b at));
    new_clauses = λ x r f i e.
        let a = found x r f in
        let at : item (old.clauses a.row.name.pred) i ≡ None = subst (λ (y : NameOf d). item (old.clauses y.pred) i ≡ None) (sym a.name) e in
        subst (λ (z : WorkRow d). (z.dirty i ≡ true) × (z.calls i ≡ [])) a.is (work_new a.row i at);
  }

  -- the pairs of a row that are dirty
  same_dirty : (n : ℕ) (r : KeptRow d) → item cut.rows n ≡ Some r → (i : ℕ) (b : d.Clause) → item (new.clauses r.name.pred) i ≡ Some b
      → cut.dirty n (suc i) ≡ (work_row r).dirty i
  same_dirty n r e i b f = of (item (old.clauses r.name.pred) i) refl
    where
      of : (o : Option d.Clause) → item (old.clauses r.name.pred) i ≡ o → cut.dirty n (suc i) ≡ given true (λ b. false) o
      of None g = (c.dirty n (suc i)).1 (has_some (λ (r : KeptRow d). Gains d old new r.name.pred (suc i)) (item cut.rows n) r e
          (g, there (item (new.clauses r.name.pred) i) b f))
      of (Some a) g =
          by_test (cut.dirty n (suc i))
          (λ t.
          let h = at_some (λ (r : KeptRow d). Gains d old new r.name.pred (suc i)) (item cut.rows n) r e ((c.dirty n (suc i)).0 t) in
          let u : item (old.clauses r.name.pred) i ≡ None = h.0 in
          let v : ◌≡◌ {A = Option d.Clause} (Some a) None = sym g ∙ u in cc)
          (λ t. t)

  -- the calls of a row
  same_calls : (n : ℕ) (r : KeptRow d) → item cut.rows n ≡ Some r → (i : ℕ) → (work_row r).dirty i ≡ false → (j : ℕ) (y : NameOf d)
      → IsNamed d cut.rows j y → (cut.calls n (suc i) j ≡ true) ↔ IsIn y ((work_row r).calls i)
  same_calls n r e i clean j y named = of (item (old.clauses r.name.pred) i) refl clean
    where
      of : (o : Option d.Clause) → item (old.clauses r.name.pred) i ≡ o → given true (λ b. false) o ≡ false
          → (cut.calls n (suc i) j ≡ true) ↔ IsIn y (given [] (λ b. calls_of d (source_of d rows) b r.name.call) o)
      of None g t = cc
      of (Some b) g t =
          let (q, f, same) = row_of_name d cut.rows j y named in
          let a = from n r e in
          let z = from j q f in
          let here : IsNamed d k.rows z.number y = subst (λ (x : NameOf d). IsNamed d k.rows z.number x) same (from_named j q z) in
          let is : cut.calls n (suc i) j ≡ k.calls a.number (suc i) z.number =
          c.calls n (suc i) j ∙ ap (λ o. of_row o (λ a. of_row (c.had j) (λ b. k.calls a (suc i) b))) a.had
          ∙ ap (λ o. of_row o (λ b. k.calls a.number (suc i) b)) z.had in
          let both = w.calls a.number (suc i) z.number r.name y b (from_named n r a) g here in
          (λ u. both.0 (sym is ∙ u), λ i. is ∙ both.1 i)

  calls_clause : (n : ℕ) (r : KeptRow d) → item cut.rows n ≡ Some r → (m j : ℕ) → cut.calls n m j ≡ true → IsSome (clause_at d new r.name.pred m)
  calls_clause n r e m j t =
      let (a, b, f, g, u) = rows_of (c.had n) (c.had j) (λ a b. k.calls a m b) (sym (c.calls n m j) ∙ t) in
      let z = from n r e in
      let one : a ≡ z.number = (let s : ◌≡◌ {A = Option ℕ} (Some a) (Some z.number) = sym f ∙ z.had in cc) in
      let some = at_some (λ (q : KeptRow d). IsSome (clause_at d old q.name.pred m)) (item k.rows z.number) z.row z.at
      (w.callers z.number m b (subst (λ (l : ℕ). k.calls l m b ≡ true) one u)) in
      clause_stays d old new r.name.pred ((kept_row n r e).1 r.name Stay) m (subst (λ (q : KeptRow d). IsSome (clause_at d old q.name.pred m)) z.is some)

  keeps_row : (n : ℕ) (r : KeptRow d) → item cut.rows n ≡ Some r → KeepsRow d new cut None n r (work_row r)
  keeps_row n r e = record {
    name = refl;
    answer = refl;
    live = refl;
    dirty = λ i b f. same_dirty n r e i b f;
    calls = λ i b f clean open' j y named. same_calls n r e i clean j y named;
    dirty_clauses = λ m t. (at_some (λ (r : KeptRow d). Gains d old new r.name.pred m) (item cut.rows n) r e ((c.dirty n m).0 t)).1;
    calls_clauses = λ m j t. calls_clause n r e m j t;
  }

  row_stays : (n b : ℕ) → c.had n ≡ Some b → IsSome (item k.rows b) → IsSome (item cut.rows n)
  row_stays n b h some = let (r, e) = have (item k.rows b) some in there (item cut.rows n) (asleep d r) (stays n b r h e)

  -- Theorem: the table and its arcs keep them.
  pub keeps : Keeps d new cut None opened
  keeps = record {
    own = own;
    each = λ n. subst (AtBoth (KeepsRow d new cut None n) (item cut.rows n)) (sym (item_map work_row cut.rows n))
        (both_of (KeepsRow d new cut None n) work_row (item cut.rows n) (λ r e. keeps_row n r e));
    dirty_rows = λ n m t. some_has (λ (r : KeptRow d). Gains d old new r.name.pred m) (item cut.rows n) ((c.dirty n m).0 t);
    calls_rows = λ n m j t.
        let (a, b, f, g, u) = rows_of (c.had n) (c.had j) (λ a b. k.calls a m b) (sym (c.calls n m j) ∙ t) in (
          row_stays n a f (some_has (λ (r : KeptRow d). IsSome (clause_at d old r.name.pred m)) (item k.rows a) (w.callers a m b u)),
          row_stays j b g (w.called a m b u),
        );
  }
