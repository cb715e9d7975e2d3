-- What work that has ended leaves in a table and its arcs.
use Rattle.std.proofs.Common.{◌≡◌, ℕ, zero, suc, ◌≤◌, ◌<◌, true, List, [], ◌∷◌, length, slice_get, Option, Some, None, IsSome, refl, sym, ap, ◌∙◌, subst, arith}
use Rattle.plai_theory.specs.Words.{HasSome, given, item}
use Rattle.plai_theory.specs.Domain.{Name}
use Rattle.plai_theory.specs.LegalWork.{LogEntry, after_all}
use Rattle.plai_terms.specs.declared.abs.Abs.{Abs}
use Rattle.plai_terms.specs.declared.pred_key.PredKey.{PredKey}
use Rattle.plai_domain.specs.Plain.{PlainDomain}
use Rattle.plai_domain.specs.Laws.{IsLawful}
use Rattle.plai_domain.specs.Printed.{IsPrinted}
use Rattle.plai_clauses.specs.Program.{ProgramView, clauses_of}
use Rattle.plai_clauses.specs.WellFormed.{IsWellFormed}
use Rattle.plai_eval.specs.Meaning.{as_domain, as_program}
use Rattle.plai_table.specs.Rows.{TableRow}
use Rattle.plai_arcs.specs.declared.arcs.Arcs.{Arcs}
use Rattle.plai_arcs.specs.Arcs.{is_dirty, is_call}
use Rattle.plai_fix_laws.specs.WorkStates.{KeepsRow, AtBoth, clause_at}
use Rattle.plai_fix_rows.specs.Tables.{kept_row, kept_rows, state_of}
use Rattle.plai_fix_rows.specs.Told.{PlainRow, work_over}
use Rattle.plai_fix.specs.Stops.{IsSolvedBy}
use Rattle.plai_fix_laws.proofs.Lists.{item_slice}
use Rattle.plai_fix_laws.proofs.Places.{item_map, has_some}
use Rattle.plai_repair.specs.Reached.{AreCallsWithin, KeepsReached}
use Rattle.plai_repair.proofs.Results.{IsRestored, restored_anew, restored_again}
use Rattle.plai_analysis.specs.Kept.{IsKeptTable}
use Rattle.plai_analysis.specs.Starts.{IsStart}
use Rattle.plai_analysis.specs.Solved.{IsSolvedWork}

some_within : {A : Type 0} (xs : List A) (i : ℕ) → IsSome (item xs i) → i < length xs
some_within [] i h = cc
some_within (x ∷ xs) zero h = omega arith
some_within (x ∷ xs) (suc i) h = let k = some_within xs i h in omega (arith, k)

item_some : {A : Type 0} (xs : List A) (i : ℕ) → i < length xs → (x : A) × (item xs i ≡ Some x)
item_some [] i h = absurd (omega arith)
item_some (x ∷ xs) zero h = (x, refl)
item_some (x ∷ xs) (suc i) h = item_some xs i (omega (arith, h))

at_left : {A B : Type 0} (R : A → B → Type 0) (o : Option A) (u : Option B) (x : A) → o ≡ Some x → AtBoth R o u → (y : B) × R x y
at_left R None u x e h = cc
at_left R (Some a) None x e h = absurd h
at_left R (Some a) (Some b) x e h = let same : a ≡ x = cc in (b, subst (λ z. R z b) same h)

module _ {V : Type 0} (value_of : V → Abs) (p : PlainDomain) (program : ProgramView) (limit : ℕ) (table : List (TableRow V)) (arcs : Arcs)
    (s : IsSolvedWork value_of p program limit table arcs) where
  kept_within : (n : ℕ) → IsSome (item (kept_rows value_of p table) n) → n < length table
  kept_within n h = some_within table n (at (item table n) (subst IsSome (item_map (kept_row value_of p) table n) h))
    where
      at : (o : Option (TableRow V)) → IsSome (given None (λ (t : TableRow V). Some (kept_row value_of p t)) o) → IsSome o
      at None h = cc
      at (Some t) h = refl

  clause_bound : (pred : PredKey) (m : ℕ) → IsSome (clause_at (as_domain p) (as_program p program) pred m)
      → (1 ≤ m) × (m ≤ length (clauses_of program pred))
  clause_bound pred zero h = cc
  clause_bound pred (suc i) h = let k = some_within (clauses_of program pred) i h in (omega arith, omega (arith, k))

  -- the dirty pairs are those of rows,
  pub dirty_within : (r c : ℕ) → is_dirty arcs r c ≡ true → r < length table
  dirty_within r c e = kept_within r (s.solved.keeps.dirty_rows r c e)

  -- and so are the calls, of clauses of the program.
  pub calls_within : AreCallsWithin program table (is_call arcs)
  calls_within = record {
    callers = callers;
    called = λ n m j e. kept_within j (s.solved.keeps.calls_rows n m j e).1;
  }
    where
      callers : (n m j : ℕ) → is_call arcs n m j ≡ true
          → HasSome (λ (r : TableRow V). (1 ≤ m) × (m ≤ length (clauses_of program r.name.pred))) (slice_get table n)
      callers n m j e =
          let (t, at) = item_some table n (kept_within n (s.solved.keeps.calls_rows n m j e).0) in
          let kept = item_map (kept_row value_of p) table n ∙ ap (given None (λ (q : TableRow V). Some (kept_row value_of p q))) at in
          let (row, h) = at_left (KeepsRow (as_domain p) (as_program p program) (state_of value_of p table arcs) None n)
          (item (kept_rows value_of p table) n) (item (after_all (as_domain p) (as_program p program) (work_over p s.opened) s.log).rows n) (kept_row value_of p t)
          kept (s.solved.keeps.each n) in
          has_some (λ (r : TableRow V). (1 ≤ m) × (m ≤ length (clauses_of program r.name.pred))) (slice_get table n) t (item_slice table n t at)
          (clause_bound t.name.pred m (subst (λ (x : Name PredKey Abs). IsSome (clause_at (as_domain p) (as_program p program) x.pred m)) (sym h.name)
          (h.calls_clauses m j e)))

  -- Theorem: where what calls reach is kept, it is the least table.
  pub kept_table : IsLawful p → IsPrinted p → IsWellFormed program → (now : List (TableRow V)) (new_arcs : Arcs) → KeepsReached table arcs now new_arcs
      → IsKeptTable value_of p program limit now new_arcs
  kept_table laws printed good now new_arcs c = at s.was s.opened s.start s.log s.solved
    where
      is_kept : (opened : List PlainRow) (log : List (LogEntry (as_domain p))) → IsRestored value_of p program limit (work_over p opened) log now new_arcs
          → IsKeptTable value_of p program limit now new_arcs
      is_kept opened log r = record { rows = r.rows; whole = r.whole; within = r.within }

      at : (was : Option ProgramView) (opened : List PlainRow) → IsStart p was program opened → (log : List (LogEntry (as_domain p)))
          → IsSolvedBy p program limit (work_over p opened) (state_of value_of p table arcs) log → IsKeptTable value_of p program limit now new_arcs
      at None opened start log solved =
          is_kept [] log
          (restored_anew p laws program good value_of printed limit table now arcs new_arcs log
          (subst (λ (rows : List PlainRow). IsSolvedBy p program limit (work_over p rows) (state_of value_of p table arcs) log) start solved) s.marked c)
      at (Some was) opened start log solved =
          is_kept opened log
          (restored_again p laws program good value_of printed was start.well_formed start.table start.least opened start.opening limit table now arcs new_arcs
          log solved s.marked c)
