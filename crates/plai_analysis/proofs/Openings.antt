-- The rows of a table and its arcs, with which work on a program opens, are those that an edit keeps.
use Rattle.std.proofs.Common.{◌≡◌, ℕ, zero, suc, ◌+◌, ◌≤◌, true, false, cond, List, [], ◌∷◌, map, Option, Some, None, sym, refl, ap, ap₂, ◌∙◌, subst, arith}
use Rattle.plai_theory.specs.Words.{IsIn, UpTo, given, item}
use Rattle.plai_theory.specs.Domain.{Domain, Program, IsLawful}
use Rattle.plai_theory.specs.Evaluation.{Source, NameOf, calls_of}
use Rattle.plai_theory.specs.LeastTable.{Row, Order, IsStrictOrder, IsSnapshot, IsLeastTable}
use Rattle.plai_theory.specs.Tables.{source_of}
use Rattle.plai_theory.specs.LegalWork.{WorkRow, find, present_source, work_with}
use Rattle.plai_theory.specs.Edits.{Leads, Stay, Go, IsKept, IsOpening}
use Rattle.plai_theory.proofs.Options.{by_test}
use Rattle.plai_theory.proofs.Eval.{same_called}
use Rattle.plai_theory.proofs.Stages.{left_at}
use Rattle.plai_theory.proofs.Tables.{closed_at}
use Rattle.plai_theory.proofs.Same.{least_closed, table_value}
use Rattle.plai_theory.proofs.Rows.{item_in}
use Rattle.plai_theory.proofs.Invariant.{Inv}
use Rattle.plai_theory.proofs.Edits.{item_append, opened_inv}
use Rattle.plai_terms.specs.declared.abs.Abs.{Abs}
use Rattle.plai_domain.specs.Plain.{PlainDomain}
use Rattle.plai_domain.specs.Laws as domain
use Rattle.plai_clauses.specs.Program.{ProgramView}
use Rattle.plai_clauses.specs.WellFormed.{IsWellFormed}
use Rattle.plai_table.specs.Rows.{TableRow}
use Rattle.plai_arcs.specs.declared.arcs.Arcs.{Arcs}
use Rattle.plai_arcs.specs.Arcs.{is_dirty, is_call}
use Rattle.plai_eval.specs.Meaning.{as_domain, as_program}
use Rattle.plai_eval.specs.LeastTable as order
use Rattle.plai_eval.proofs.One.{strict}
use Rattle.plai_eval.proofs.Lawful.{lawful_at}
use Rattle.plai_fix_laws.specs.WorkStates.{KeptRow, Keeping, Keeps, KeepsRow, AtBoth, kept_source}
use Rattle.plai_fix_laws.specs.Logs.{Opens}
use Rattle.plai_fix_rows.specs.Tables.{state_of}
use Rattle.plai_fix_rows.specs.Told.{row_under, work_over}
use Rattle.plai_fix_laws.proofs.Places.{found_at, same_source}
use Rattle.plai_fix_laws.proofs.Ends as ends
use Rattle.plai_repair.specs.Opened.{IsOpened}
use Rattle.plai_analysis.specs.Starts.{IsStart}
use Rattle.plai_analysis.specs.Solved.{opened_from, opened_rows}

-- rows under work with equal fields are equal
work_path : (d : Domain) (r q : WorkRow d) → r.name ≡ q.name → r.answer ≡ q.answer → r.live ≡ q.live → ((i : ℕ) → r.dirty i ≡ q.dirty i)
    → ((i : ℕ) → r.calls i ≡ q.calls i) → r ≡ q
work_path d r q e f l t c = λ j. record { name = e j; answer = f j; live = l j; dirty = λ i. t i j; calls = λ i. c i j }

-- so many places further on
further : ℕ → ℕ → ℕ
further m zero = m
further m (suc n) = further (suc m) n

further_sum : (m n : ℕ) → further m n ≡ m + n
unfolding further
further_sum m zero = omega arith
further_sum m (suc n) = let k : further (suc m) n ≡ suc m + n = further_sum (suc m) n in omega arith

from_zero : (n : ℕ) → further 0 n ≡ n
from_zero n = let k : further 0 n ≡ 0 + n = further_sum 0 n in omega arith

further_zero : (m : ℕ) → further m zero ≡ m
unfolding further
further_zero m = refl

further_next : (m n : ℕ) → further m (suc n) ≡ further (suc m) n
unfolding further
further_next m n = refl

-- a call in front of a chain of calls
leads_on : (d : Domain) (g : Program d) (s : Source d) (x : NameOf d) (c : d.Clause) → IsIn c (g.clauses x.pred) → {y z : NameOf d}
    → IsIn y (calls_of d s c x.call) → Leads d g s y z → Leads d g s x z
leads_on d g s x c i j Stay = Go x c Stay i j
leads_on d g s x c i j (Go m b l k t) = Go m b (leads_on d g s x c i j l) k t

module _ (d : Domain) (g : Program d) (k : Keeping d) where
  -- the kept row of this number as a row under work
  abbrev again : ℕ → KeptRow d → WorkRow d
  again n r =
      record {
        name = r.name;
        answer = r.answer;
        live = r.live;
        dirty = λ i. given true (λ c. k.dirty n (suc i)) (item (g.clauses r.name.pred) i);
        calls = λ i. given [] (λ c. cond (k.dirty n (suc i)) [] (calls_of d (kept_source d k.rows) c r.name.call)) (item (g.clauses r.name.pred) i);
      }

  -- the same of these rows, which begin with this number
  abbrev again_from : ℕ → List (KeptRow d) → List (WorkRow d)
  again_from n [] = []
  again_from n (r ∷ rows) = again n r ∷ again_from (suc n) rows

  same_from : (m : ℕ) (kept : List (KeptRow d)) (rows : List (WorkRow d))
      → ((n : ℕ) → AtBoth (λ a b. again (further m n) a ≡ b) (item kept n) (item rows n)) → again_from m kept ≡ rows
  same_from m [] [] h = refl
  same_from m [] (r ∷ rows) h = absurd (h zero)
  same_from m (a ∷ kept) [] h = absurd (h zero)
  same_from m (a ∷ kept) (r ∷ rows) h =
      ap₂ (λ x xs. x ∷ xs) (ap (λ n. again n a) (sym (further_zero m)) ∙ h zero)
      (same_from (suc m) kept rows
      (λ n. subst (λ (l : ℕ). AtBoth (λ a b. again l a ≡ b) (item kept n) (item rows n)) (further_next m n) (h (suc n))))

  both_more : (R S : KeptRow d → WorkRow d → Type 0) (o : Option (KeptRow d)) (u : Option (WorkRow d)) → AtBoth R o u
      → ((a : KeptRow d) (b : WorkRow d) → u ≡ Some b → R a b → S a b) → AtBoth S o u
  both_more R S None None h t = tt
  both_more R S None (Some b) h t = absurd h
  both_more R S (Some a) None h t = absurd h
  both_more R S (Some a) (Some b) h t = t a b refl h

module _ (d : Domain) (old new : Program d) (laws : IsLawful d old) (laws' : IsLawful d new) (before : Order d) (order : IsStrictOrder d before)
    (rows : List (Row d)) (N : ℕ) (least : (n : ℕ) → N ≤ n → IsSnapshot d old before n rows) (opened : List (WorkRow d))
    (opening : IsOpening d old new rows opened) where
  found : (n : ℕ) (r : WorkRow d) → item opened n ≡ Some r → find d opened r.name ≡ Some r
  found n r e = found_at d new laws' opened opening.own n r e

  inv : Inv d new opened None
  inv = opened_inv d old new laws laws' before order rows N least opened opening

  -- a clause that the new program lacks, the old one lacks,
  old_none : (x : NameOf d) (r : WorkRow d) → find d opened x ≡ Some r → (i : ℕ) → item (new.clauses x.pred) i ≡ None
      → item (old.clauses x.pred) i ≡ None
  old_none x r f i e = at (item (old.clauses x.pred) i) refl
    where
      at : (o : Option d.Clause) → item (old.clauses x.pred) i ≡ o → o ≡ None
      at None t = refl
      at (Some b) t =
          let (more, m) = (opening.kept x r f).1 x Stay in
          let k : Some b ≡ None = sym (item_append (old.clauses x.pred) more i b t) ∙ (ap (λ (cs : List d.Clause). item cs i) (sym m) ∙ e) in cc

  -- and also one that is dirty
  old_clean : (x : NameOf d) (r : WorkRow d) → find d opened x ≡ Some r → (i : ℕ) → r.dirty i ≡ true → item (old.clauses x.pred) i ≡ None
  old_clean x r f i e = at (item (old.clauses x.pred) i) refl
    where
      at : (o : Option d.Clause) → item (old.clauses x.pred) i ≡ o → o ≡ None
      at None t = refl
      at (Some b) t = let k : true ≡ false = sym e ∙ (opening.old_clauses x r f i b t).0 in cc

  module _ (k : Keeping d) (keeps : Keeps d new k None opened) where
    kept_answers : (p : d.Pred) (v : d.Value) → kept_source d k.rows p v ≡ present_source d opened p v
    kept_answers = same_source d new laws' k.rows opened (KeepsRow d new k None) keeps.each (λ a kept r h. (h.name, h.answer))

    kept_called : (c : d.Clause) (v : d.Value) → calls_of d (kept_source d k.rows) c v ≡ calls_of d (present_source d opened) c v
    kept_called c v = same_called d (kept_source d k.rows) (present_source d opened) c v (λ p w i. kept_answers p w)

    -- the row of this number
    module _ (n : ℕ) (a : KeptRow d) (b : WorkRow d) (there : item opened n ≡ Some b) (h : KeepsRow d new k None n a b) where
      same_dirty : (i : ℕ) (o : Option d.Clause) → item (new.clauses b.name.pred) i ≡ o → given true (λ c. k.dirty n (suc i)) o ≡ b.dirty i
      same_dirty i None e = sym (opening.new_clauses b.name b (found n b there) i (old_none b.name b (found n b there) i e)).0
      same_dirty i (Some c) e = h.dirty i c e

      same_calls : (i : ℕ) (o : Option d.Clause) → item (new.clauses b.name.pred) i ≡ o
          → given [] (λ c. cond (k.dirty n (suc i)) [] (calls_of d (kept_source d k.rows) c b.name.call)) o ≡ b.calls i
      same_calls i None e = sym (opening.new_clauses b.name b (found n b there) i (old_none b.name b (found n b there) i e)).1
      same_calls i (Some c) e =
          by_test (k.dirty n (suc i))
          (λ t. rw t
          (sym (opening.new_clauses b.name b (found n b there) i (old_clean b.name b (found n b there) i (sym (h.dirty i c e) ∙ t))).1))
          (λ t. rw t
          (kept_called c b.name.call ∙ sym (inv.clean_calls b.name b (found n b there) i c e (sym (h.dirty i c e) ∙ t))))

      same_row : again d new k n a ≡ b
      same_row =
          work_path d (again d new k n a) b h.name h.answer h.live
          (λ i. ap (λ (x : NameOf d). given true (λ c. k.dirty n (suc i)) (item (new.clauses x.pred) i)) h.name
          ∙ same_dirty i (item (new.clauses b.name.pred) i) refl)
          (λ i. ap (λ (x : NameOf d). given [] (λ c. cond (k.dirty n (suc i)) [] (calls_of d (kept_source d k.rows) c x.call))
          (item (new.clauses x.pred) i)) h.name
          ∙ same_calls i (item (new.clauses b.name.pred) i) refl)

    -- Theorem: the kept rows as rows under work are those of the opening.
    same_rows : again_from d new k 0 k.rows ≡ opened
    same_rows =
        same_from d new k 0 k.rows opened
        (λ n. both_more d new k (KeepsRow d new k None n) (λ a b. again d new k (further 0 n) a ≡ b) (item k.rows n) (item opened n) (keeps.each n)
        (λ a b e h. ap (λ l. again d new k l a) (from_zero n) ∙ same_row n a b e h))

    -- what a row says that a clause called, an old clause calls under the old table
    opened_called : (P : NameOf d → Type 0) (x : NameOf d) (r : WorkRow d) → find d opened x ≡ Some r → (i : ℕ) (y : NameOf d) → IsIn y (r.calls i)
        → ((c : d.Clause) → IsIn c (old.clauses x.pred) → IsIn y (calls_of d (source_of d rows) c x.call) → P y) → P y
    opened_called P x r f i y j then = at (item (old.clauses x.pred) i) refl
      where
        at : (o : Option d.Clause) → item (old.clauses x.pred) i ≡ o → P y
        at None e = absurd (subst (λ (ns : List (NameOf d)). IsIn y ns) (opening.new_clauses x r f i e).1 j)
        at (Some c) e =
            then c (item_in (old.clauses x.pred) i c e) (subst (λ (ns : List (NameOf d)). IsIn y ns) (opening.old_clauses x r f i c e).1 j)

    called_kept : (x : NameOf d) → IsKept d old new rows x → (c : d.Clause) → IsIn c (old.clauses x.pred) → (y : NameOf d)
        → IsIn y (calls_of d (source_of d rows) c x.call) → IsKept d old new rows y
    called_kept x kept c i y j = (
      (closed_at d old laws rows (least_closed d old laws before order rows N least)).calls_in x.pred x.call kept.0 c i y.pred y.call j,
      λ z l. kept.1 z (leads_on d old (source_of d rows) x c i j l),
    )

    opened_value : (x : NameOf d) (r : WorkRow d) → find d opened x ≡ Some r → UpTo (d.leq x.pred) r.answer r.answer
    opened_value x r f =
        let e : present_source d opened x.pred x.call ≡ r.answer = ap (given None (λ (q : WorkRow d). q.answer)) f in
        subst (λ (o : Option d.Value). UpTo (d.leq x.pred) o o) e
        (left_at d new laws' x.pred (present_source d opened x.pred x.call) _ (inv.low.1 x.pred x.call (inv.value_names x r f)))

    -- Theorem: work opens with them.
    opened_works : Opens d new (work_with d opened) k
    opened_works =
        record {
          last = refl;
          keeps = keeps;
          values =
              record {
                names = inv.value_names;
                answers = opened_value;
                calls = λ x r f i y j. opened_called (λ (z : NameOf d). d.leq z.pred z.call z.call) x r f i y j
                    (λ c t u. table_value d old laws before order rows N least y (called_kept x (opening.kept x r f) c t y u).0);
              };
          dormant = λ n r e. opening.dormant r.name r (found n r e);
          met = λ n r e i c s clean y j. opened_called (λ (z : NameOf d). (q : WorkRow d) × (find d opened z ≡ Some q)) r.name r (found n r e) i y j
              (λ b t u. opening.whole y (called_kept r.name (opening.kept r.name r (found n r e)) b t y u));
        }

-- the rows that are told of are those over the domain
under_from : (p : PlainDomain) (program : ProgramView) (k : Keeping (as_domain p)) (n : ℕ) (rows : List (KeptRow (as_domain p)))
    → map (row_under p) (opened_from p program k n rows) ≡ again_from (as_domain p) (as_program p program) k n rows
under_from p program k n [] = refl
under_from p program k n (r ∷ rows) =
    ap (λ rest. again (as_domain p) (as_program p program) k n r ∷ rest) (under_from p program k (suc n) rows)

module _ {V : Type 0} (value_of : V → Abs) (p : PlainDomain) where
  module _ (laws : domain.IsLawful p) (was program : ProgramView) (good : IsWellFormed was) (good' : IsWellFormed program)
      (rows : List (Row (as_domain p))) (least : IsLeastTable (as_domain p) (as_program p was) (order.before p) rows)
      (table : List (TableRow V)) (arcs : Arcs) (is : IsOpened value_of p was program rows table arcs) where
    same_opened : map (row_under p) (opened_rows value_of p program table arcs) ≡ is.opened
    same_opened =
        under_from p program (state_of value_of p table arcs) 0 (state_of value_of p table arcs).rows
        ∙ same_rows (as_domain p) (as_program p was) (as_program p program) (lawful_at p laws was good) (lawful_at p laws program good') (order.before p)
        (strict p) rows least.0 least.1 is.opened is.opening (state_of value_of p table arcs) is.keeps

    -- Theorem: work on a program may begin with what an edit keeps of the least table.
    pub opened_start : IsStart p (Some was) program (opened_rows value_of p program table arcs)
    opened_start =
        record {
          well_formed = good;
          table = rows;
          least = least;
          opening = subst (λ (ws : List (WorkRow (as_domain p))). IsOpening (as_domain p) (as_program p was) (as_program p program) rows ws)
              (sym same_opened) is.opening;
        }

    -- Theorem: table and arcs keep a state from which that work may begin.
    pub opened_opens : Opens (as_domain p) (as_program p program) (work_over p (opened_rows value_of p program table arcs)) (state_of value_of p table arcs)
    opened_opens =
        subst (λ (ws : List (WorkRow (as_domain p))). Opens (as_domain p) (as_program p program) (work_with (as_domain p) ws) (state_of value_of p table arcs))
        (sym same_opened)
        (opened_works (as_domain p) (as_program p was) (as_program p program) (lawful_at p laws was good) (lawful_at p laws program good') (order.before p)
        (strict p) rows least.0 least.1 is.opened is.opening (state_of value_of p table arcs) is.keeps)

  module _ (program : ProgramView) (table : List (TableRow V)) (arcs : Arcs) (none : table ≡ []) where
    -- Theorem: from no rows work begins with none.
    pub nothing_start : IsStart p None program (opened_rows value_of p program table arcs)
    nothing_start = ap (λ (rows : List (TableRow V)). opened_rows value_of p program rows arcs) none

    -- Theorem: such a table and its arcs keep a state from which that work may begin.
    pub nothing_opens : ((n m : ℕ) → is_dirty arcs n m ≡ false) → ((n m j : ℕ) → is_call arcs n m j ≡ false)
        → Opens (as_domain p) (as_program p program) (work_over p (opened_rows value_of p program table arcs)) (state_of value_of p table arcs)
    nothing_opens clean silent =
        subst (λ (rows : List (TableRow V)). Opens (as_domain p) (as_program p program) (work_over p (opened_rows value_of p program rows arcs))
        (state_of value_of p rows arcs)) (sym none)
        (ends.nothing_opens (as_domain p) (as_program p program) (state_of value_of p [] arcs) refl clean silent)
