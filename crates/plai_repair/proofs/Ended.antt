-- Where work has ended, what calls reach from the entries' rows is a whole table again.
use Rattle.std.proofs.Common.{◌≡◌, ◌↔◌, ℕ, zero, suc, Bool, true, false, List, Option, Some, None, IsSome, sym, refl, ap, ◌∙◌, subst, inl, inr}
use Rattle.plai_theory.specs.Words.{IsIn, HasSome, given, item}
use Rattle.plai_theory.specs.Domain.{Domain, Program, IsLawful}
use Rattle.plai_theory.specs.Evaluation.{NameOf, name_of, calls_of}
use Rattle.plai_theory.specs.LeastTable.{Row, Order, IsStrictOrder, IsLeastTable}
use Rattle.plai_theory.specs.Tables.{source_of, HasName, IsDistinct}
use Rattle.plai_theory.specs.LegalWork.{WorkRow, Work, find, present_source, IsEnd, IsNeeded, First, Then, IsRecorded, IsLogResult}
use Rattle.plai_theory.proofs.Options.{by_test}
use Rattle.plai_theory.proofs.Rows.{find_name}
use Rattle.plai_theory.proofs.Tables.{lookup_name}
use Rattle.plai_theory.proofs.Same.{distinct}
use Rattle.plai_theory.proofs.Eval.{same_called}
use Rattle.plai_theory.proofs.Invariant.{Inv}
use Rattle.plai_theory.proofs.Logs.{done, need_met, outcome_least}
use Rattle.plai_arcs.specs.Moves.{of_row}
use Rattle.plai_fix_laws.specs.WorkStates.{KeptRow, Keeping, Keeps, KeepsRow, clause_at, IsNamed}
use Rattle.plai_fix_laws.proofs.Places.{have, there, has_some, in_both, place_of, found_at, one_place}
use Rattle.plai_repair.specs.Reached.{IsReached}
use Rattle.plai_repair.specs.Reached as reached
use Rattle.plai_repair.specs.Whole.{IsWhole}
use Rattle.plai_repair.proofs.Leads.{in_first, numbered, row_of_name, name_of_row}
use Rattle.plai_repair.proofs.Opens.{rows_of}

-- the row, live
abbrev pub awake : (d : Domain) → KeptRow d → KeptRow d
awake d r = record { name = r.name; answer = r.answer; live = true }

-- The rows that calls reach from the entries' are there, each once, live, under the number that it had, with their dirty
-- clauses and their calls.
pub record IsCutTo (d : Domain) (k : Keeping d) (entry : ℕ → Bool) (cut : Keeping d) : Type 0 where
  pub had : ℕ → Option ℕ
  pub items : (n : ℕ) → item cut.rows n ≡ given None (λ b. given None (λ r. Some (awake d r)) (item k.rows b)) (had n)
  pub dirty : (n m : ℕ) → cut.dirty n m ≡ of_row (had n) (λ b. k.dirty b m)
  pub calls : (n m j : ℕ) → cut.calls n m j ≡ of_row (had n) (λ a. of_row (had j) (λ b. k.calls a m b))
  pub sound : (n b : ℕ) → had n ≡ Some b → IsReached entry k.calls b
  pub whole : (b : ℕ) → IsReached entry k.calls b → (n : ℕ) × (had n ≡ Some b)
  pub once : (m n b : ℕ) → had m ≡ Some b → had n ≡ Some b → m ≡ n

-- Work that has ended, which a table and its arcs keep, with the entries' rows marked.
pub record HasEnded (d : Domain) (g : Program d) (k : Keeping d) (entry : ℕ → Bool) (w : Work d) : Type 0 where
  pub inv : Inv d g w.rows w.last
  pub end : IsEnd d g w
  pub keeps : Keeps d g k None w.rows
  pub entries : (n : ℕ) (x : NameOf d) → IsNamed d k.rows n x → (entry n ≡ true) ↔ IsIn x g.entries

module _ (d : Domain) (g : Program d) (laws : IsLawful d g) (k : Keeping d) (entry : ℕ → Bool) (w : Work d) (s : HasEnded d g k entry w) where
  -- a row of the table with the row under work that it keeps
  record IsPair (n : ℕ) (x : NameOf d) : Type 0 where
    kept : KeptRow d
    at : item k.rows n ≡ Some kept
    row : WorkRow d
    there : item w.rows n ≡ Some row
    keeps : KeepsRow d g k None n kept row
    kept_name : kept.name ≡ x
    row_name : row.name ≡ x

  pair : (n : ℕ) (x : NameOf d) → IsNamed d k.rows n x → IsPair n x
  pair n x named =
      let (kept, e, same) = row_of_name d k.rows n x named in
      let (row, f, h) = in_first (KeepsRow d g k None n) (item k.rows n) (item w.rows n) kept e (s.keeps.each n) in
      record { kept = kept; at = e; row = row; there = f; keeps = h; kept_name = same; row_name = sym h.name ∙ same }

  pair_found : (n : ℕ) (x : NameOf d) (a : IsPair n x) → find d w.rows x ≡ Some a.row
  pair_found n x a =
      subst (λ (y : NameOf d). find d w.rows y ≡ Some a.row) a.row_name (found_at d g laws w.rows s.keeps.own n a.row a.there)

  named_once : (m n : ℕ) (x : NameOf d) → IsNamed d k.rows m x → IsNamed d k.rows n x → m ≡ n
  named_once m n x a b =
      let p = pair m x a in
      let q = pair n x b in one_place d g laws w.rows s.keeps.own m n p.row q.row p.there q.there (p.row_name ∙ sym q.row_name)

  -- the number of a name's row
  numbered_name : (x : NameOf d) (r : WorkRow d) → find d w.rows x ≡ Some r → (n : ℕ) × IsNamed d k.rows n x
  numbered_name x r f =
      let (n, at) = place_of d g laws w.rows x r f in
      let (kept, e, h) = in_both (KeepsRow d g k None n) (item k.rows n) (item w.rows n) r at (s.keeps.each n) in
      (n, has_some (λ (z : KeptRow d). z.name ≡ x) (item k.rows n) kept e (h.name ∙ find_name d g laws w.rows x r f))

  -- the row of a needed name is live, and none of its clauses is dirty
  needed_live : (n : ℕ) (x : NameOf d) (a : IsPair n x) → IsNeeded d g w.rows x → a.row.live ≡ true
  needed_live n x a need =
      let (r, f, live) = need_met d g laws w s.inv s.end x need in
      let e = pair_found n x a in
      let one : r ≡ a.row = (let o : Some r ≡ Some a.row = sym f ∙ e in cc) in subst (λ (z : WorkRow d). z.live ≡ true) one live

  needed_clean : (n : ℕ) (x : NameOf d) (a : IsPair n x) → IsNeeded d g w.rows x → (i : ℕ) (c : d.Clause) → item (g.clauses x.pred) i ≡ Some c
      → a.row.dirty i ≡ false
  needed_clean n x a need i c e = s.end.clean x a.row (pair_found n x a) (needed_live n x a need) i c e

  at_row : (n : ℕ) (x : NameOf d) (a : IsPair n x) (i : ℕ) (c : d.Clause) → item (g.clauses x.pred) i ≡ Some c → item (g.clauses a.row.name.pred) i ≡ Some c
  at_row n x a i c e = subst (λ (y : NameOf d). item (g.clauses y.pred) i ≡ Some c) (sym a.row_name) e

  -- what a clause of such a row calls is recorded
  call_is : (n : ℕ) (x : NameOf d) (a : IsPair n x) → IsNeeded d g w.rows x → (i : ℕ) (c : d.Clause) → item (g.clauses x.pred) i ≡ Some c
      → (j : ℕ) (y : NameOf d)
      → IsNamed d k.rows j y → (k.calls n (suc i) j ≡ true) ↔ IsIn y (a.row.calls i)
  call_is n x a need i c e j y named =
      a.keeps.calls i c (at_row n x a i c e) (needed_clean n x a need i c e) (λ (o : None ≡ Some (n, i)). cc) j y named

  recorded : (n : ℕ) (x : NameOf d) (a : IsPair n x) → IsNeeded d g w.rows x → (i : ℕ) (c : d.Clause) → item (g.clauses x.pred) i ≡ Some c → (y : NameOf d)
      → IsIn y (a.row.calls i) → IsRecorded d g w.rows x y
  recorded n x a need i c e y names = record {
    row = a.row;
    number = i;
    clause = c;
    there = pair_found n x a;
    is_live = needed_live n x a need;
    is_clause = e;
    names = names;
  }

  caller_clause : (n : ℕ) (x : NameOf d) (a : IsPair n x) (m j : ℕ) → k.calls n m j ≡ true → IsSome (clause_at d g x.pred m)
  caller_clause n x a m j t = subst (λ (y : NameOf d). IsSome (clause_at d g y.pred m)) a.row_name (a.keeps.calls_clauses m j t)

  pub reached_needed : (n : ℕ) → IsReached entry k.calls n → (x : NameOf d) → IsNamed d k.rows n x → IsNeeded d g w.rows x
  reached_needed n (reached.First e) x named = First ((s.entries n x named).0 e)
  reached_needed n (reached.Then m i r t) x named =
      let (q, e) = have (item k.rows m) (s.keeps.calls_rows m i n t).0 in
      let at = name_of_row d k.rows m q e in
      let a = pair m q.name at in
      let need = reached_needed m r q.name at in
      let (l, c, is, f) = numbered d g q.name.pred i (caller_clause m q.name a i n t) in
      let u : k.calls m (suc l) n ≡ true = subst (λ (b : ℕ). k.calls m b n ≡ true) is t in
      Then q.name need (recorded m q.name a need l c f x ((call_is m q.name a need l c f n x named).0 u))

  pub needed_reached : (x : NameOf d) → IsNeeded d g w.rows x → (n : ℕ) × IsReached entry k.calls n × IsNamed d k.rows n x
  needed_reached x (First i) =
      let (r, f, live) = s.end.met x (inl i) in
      let (n, named) = numbered_name x r f in (n, reached.First ((s.entries n x named).1 i), named)
  needed_reached x (Then m h rec) =
      let (b, is_reached, at) = needed_reached m h in
      let (r, f, live) = s.end.met x (inr (m, rec)) in
      let (n, named) = numbered_name x r f in
      let a = pair b m at in
      let one : rec.row ≡ a.row = (let o : Some rec.row ≡ Some a.row = sym rec.there ∙ pair_found b m a in cc) in
      let names : IsIn x (a.row.calls rec.number) = subst (λ (z : WorkRow d). IsIn x (z.calls rec.number)) one rec.names in
      (n, reached.Then b (suc rec.number) is_reached ((call_is b m a h rec.number rec.clause rec.is_clause n x named).1 names), named)

  module _ (cut : Keeping d) (c : IsCutTo d k entry cut) where
    -- the row that it was
    record IsFrom (n : ℕ) (x : NameOf d) : Type 0 where
      number : ℕ
      had : c.had n ≡ Some number
      named : IsNamed d k.rows number x
      need : IsNeeded d g w.rows x

    stays : (n b : ℕ) (r : KeptRow d) → c.had n ≡ Some b → item k.rows b ≡ Some r → item cut.rows n ≡ Some (awake d r)
    stays n b r h e =
        c.items n ∙ ap (given None (λ b. given None (λ r. Some (awake d r)) (item k.rows b))) h ∙ ap (given None (λ r. Some (awake d r))) e

    was_row : (n : ℕ) (r : KeptRow d) → item cut.rows n ≡ Some r → (b : ℕ) × (c.had n ≡ Some b) × (q : KeptRow d) × (item k.rows b ≡ Some q) × (awake d q ≡ r)
    was_row n r e = with_number (c.had n) refl (sym (c.items n) ∙ e)
      where
        Was : Type 0
        Was = (b : ℕ) × (c.had n ≡ Some b) × (q : KeptRow d) × (item k.rows b ≡ Some q) × (awake d q ≡ r)

        with_row : (b : ℕ) → c.had n ≡ Some b → (o : Option (KeptRow d)) → item k.rows b ≡ o → given None (λ r. Some (awake d r)) o ≡ Some r → Was
        with_row b h None f t = cc
        with_row b h (Some q) f t = let same : awake d q ≡ r = cc in (b, h, q, f, same)

        with_number : (o : Option ℕ) → c.had n ≡ o → given None (λ b. given None (λ r. Some (awake d r)) (item k.rows b)) o ≡ Some r → Was
        with_number None h t = cc
        with_number (Some b) h t = with_row b h (item k.rows b) refl t

    from : (n : ℕ) (x : NameOf d) → IsNamed d cut.rows n x → IsFrom n x
    from n x here =
        let (r, e, same) = row_of_name d cut.rows n x here in
        let (b, h, q, f, is) = was_row n r e in
        let name : q.name ≡ x = ap (λ (z : KeptRow d). z.name) is ∙ same in
        let named : IsNamed d k.rows b x = has_some (λ (z : KeptRow d). z.name ≡ x) (item k.rows b) q f name in
        record { number = b; had = h; named = named; need = reached_needed b (c.sound n b h) x named }

    -- its rows are the needed ones
    pub cut_needed : (n : ℕ) (x : NameOf d) → IsNamed d cut.rows n x → IsNeeded d g w.rows x
    cut_needed n x named = (from n x named).need

    pub needed_cut : (x : NameOf d) → IsNeeded d g w.rows x → (n : ℕ) × IsNamed d cut.rows n x
    needed_cut x need =
        let (b, is_reached, named) = needed_reached x need in
        let (n, h) = c.whole b is_reached in
        let (q, e, name) = row_of_name d k.rows b x named in
        (n, has_some (λ (z : KeptRow d). z.name ≡ x) (item cut.rows n) (awake d q) (stays n b q h e) name)

  module _ (order : Order d) (strict : IsStrictOrder d order) (rows : List (Row d)) (result : IsLogResult d g order w rows) where
    pub least : IsLeastTable d g order rows
    least = outcome_least d g laws w s.inv s.end order rows result

    own_names : IsDistinct d rows
    own_names = let (from, snaps) = least in distinct d g laws order strict rows from snaps

    -- the table has the answers of the work
    same_source : (x : NameOf d) → IsNeeded d g w.rows x → source_of d rows x.pred x.call ≡ present_source d w.rows x.pred x.call
    same_source x need =
        let (r, i, same) = result.whole x need in
        lookup_name d g laws rows own_names x r i same
        ∙ subst (λ (y : NameOf d). r.answer ≡ present_source d w.rows y.pred y.call) same (result.sound r i).1

    -- the calls of a row are those of its clauses' evaluation under the table
    same_calls : (n : ℕ) (x : NameOf d) (a : IsPair n x) → IsNeeded d g w.rows x → (i : ℕ) (c : d.Clause) → item (g.clauses x.pred) i ≡ Some c
        → a.row.calls i ≡ calls_of d (source_of d rows) c x.call
    same_calls n x a need i c e =
        let is : a.row.calls i ≡ calls_of d (present_source d w.rows) c x.call =
        (done d g laws w s.inv s.end).clean_calls x a.row (pair_found n x a) i c e (needed_clean n x a need i c e) in
        is
        ∙ sym (same_called d (source_of d rows) (present_source d w.rows) c x.call
        (λ p v t. same_source (name_of d p v) (Then x need (recorded n x a need i c e (name_of d p v)
        (subst (λ (names : List (NameOf d)). IsIn (name_of d p v) names) (sym is) t)))))

    module _ (cut : Keeping d) (c : IsCutTo d k entry cut) where
      sound : (n : ℕ) (r : KeptRow d) → item cut.rows n ≡ Some r → HasName d rows r.name × (r.answer ≡ source_of d rows r.name.pred r.name.call)
      sound n r e =
          let f = from cut c n r.name (name_of_row d cut.rows n r e) in
          let a = pair f.number r.name f.named in
          let (b, h, q, at, is) = was_row cut c n r e in
          let one : b ≡ f.number = (let o : Some b ≡ Some f.number = sym h ∙ f.had in cc) in
          let two : q ≡ a.kept = (let o : Some q ≡ Some a.kept = sym at ∙ (ap (item k.rows) one ∙ a.at) in cc) in
          let answer : r.answer ≡ a.row.answer = sym (ap (λ (z : KeptRow d). z.answer) is) ∙ ap (λ (z : KeptRow d). z.answer) two ∙ a.keeps.answer in
          let present : present_source d w.rows r.name.pred r.name.call ≡ a.row.answer = ap (given None (λ (z : WorkRow d). z.answer))
          (pair_found f.number r.name a) in
          (result.whole r.name f.need, answer ∙ sym present ∙ sym (same_source r.name f.need))

      whole : (x : NameOf d) → HasName d rows x → (n : ℕ) × IsNamed d cut.rows n x
      whole x (r, i, same) = needed_cut cut c x (subst (λ (y : NameOf d). IsNeeded d g w.rows y) same (result.sound r i).0)

      once : (m n : ℕ) (x : NameOf d) → IsNamed d cut.rows m x → IsNamed d cut.rows n x → m ≡ n
      once m n x a b =
          let p = from cut c m x a in
          let q = from cut c n x b in
          let one = named_once p.number q.number x p.named q.named in c.once m n q.number (p.had ∙ ap Some one) q.had

      clean : (n m : ℕ) → cut.dirty n m ≡ false
      clean n m = c.dirty n m ∙ at (c.had n) refl
        where
          not_dirty : (b : ℕ) → c.had n ≡ Some b → k.dirty b m ≡ true → k.dirty b m ≡ false
          not_dirty b h t =
              let (q, e) = have (item k.rows b) (s.keeps.dirty_rows b m t) in
              let named = name_of_row d k.rows b q e in
              let a = pair b q.name named in
              let need = reached_needed b (c.sound n b h) q.name named in
              let some : IsSome (clause_at d g q.name.pred m) =
              subst (λ (y : NameOf d). IsSome (clause_at d g y.pred m)) a.row_name (a.keeps.dirty_clauses m t) in
              let (i, cl, is, f) = numbered d g q.name.pred m some in
              ap (k.dirty b) is ∙ a.keeps.dirty i cl (at_row b q.name a i cl f) ∙ needed_clean b q.name a need i cl f

          at : (o : Option ℕ) → c.had n ≡ o → of_row o (λ b. k.dirty b m) ≡ false
          at None h = refl
          at (Some b) h = by_test (k.dirty b m) (λ t. not_dirty b h t) (λ t. t)

      calls : (n m j : ℕ) (x y : NameOf d) (cl : d.Clause) → IsNamed d cut.rows n x → clause_at d g x.pred m ≡ Some cl → IsNamed d cut.rows j y
          → (cut.calls n m j ≡ true) ↔ IsIn y (calls_of d (source_of d rows) cl x.call)
      calls n zero j x y cl here e there' = cc
      calls n (suc i) j x y cl here e there' =
          let p = from cut c n x here in
          let q = from cut c j y there' in
          let a = pair p.number x p.named in
          let is : cut.calls n (suc i) j ≡ k.calls p.number (suc i) q.number =
          c.calls n (suc i) j ∙ ap (λ o. of_row o (λ a. of_row (c.had j) (λ b. k.calls a (suc i) b))) p.had
          ∙ ap (λ o. of_row o (λ b. k.calls p.number (suc i) b)) q.had in
          let both = call_is p.number x a p.need i cl e q.number y q.named in
          let same = same_calls p.number x a p.need i cl e in (
            λ t. subst (λ (names : List (NameOf d)). IsIn y names) same (both.0 (sym is ∙ t)),
            λ t. is ∙ both.1 (subst (λ (names : List (NameOf d)). IsIn y names) (sym same) t),
          )

      callers : (n m j : ℕ) → cut.calls n m j ≡ true → HasSome (λ (r : KeptRow d). IsSome (clause_at d g r.name.pred m)) (item cut.rows n)
      callers n m j t =
          let (a, b, f, h, u) = rows_of (c.had n) (c.had j) (λ a b. k.calls a m b) (sym (c.calls n m j) ∙ t) in
          let (q, e) = have (item k.rows a) (s.keeps.calls_rows a m b u).0 in
          let p = pair a q.name (name_of_row d k.rows a q e) in
          has_some (λ (r : KeptRow d). IsSome (clause_at d g r.name.pred m)) (item cut.rows n) (awake d q) (stays cut c n a q f e)
          (caller_clause a q.name p m b u)

      called : (n m j : ℕ) → cut.calls n m j ≡ true → IsSome (item cut.rows j)
      called n m j t =
          let (a, b, f, h, u) = rows_of (c.had n) (c.had j) (λ a b. k.calls a m b) (sym (c.calls n m j) ∙ t) in
          let (q, e) = have (item k.rows b) (s.keeps.calls_rows a m b u).1 in there (item cut.rows j) (awake d q) (stays cut c j b q h e)

      -- Theorem: it is whole.
      pub is_whole : IsWhole d g order rows cut
      is_whole = record {
        least = least;
        sound = sound;
        whole = whole;
        once = once;
        live = λ n r e. let (b, h, q, f, is) = was_row cut c n r e in sym (ap (λ (z : KeptRow d). z.live) is);
        clean = clean;
        calls = calls;
        callers = callers;
        called = called;
      }
