-- What the operations at a program's clauses keep holds of the rows that an edit keeps of another program's table, where it holds
-- of their calls.
use Rattle.std.proofs.Common.{◌≡◌, ℕ, zero, suc, ◌≤◌, List, Option, Some, ◌∙◌, arith}
use Rattle.plai_theory.specs.Words.{IsIn}
use Rattle.plai_theory.specs.Domain.{Domain, Program, IsLawful}
use Rattle.plai_theory.specs.Evaluation.{Source, NameOf, name_of, calls_of}
use Rattle.plai_theory.specs.Stages.{stage}
use Rattle.plai_theory.specs.LeastTable.{Row, Order, IsSnapshot, IsStrictOrder}
use Rattle.plai_theory.specs.Tables.{source_of, HasName, IsClosed}
use Rattle.plai_theory.specs.Edits.{Leads, Stay, Go}
use Rattle.plai_theory.specs.Edits as edits
use Rattle.plai_theory.proofs.Eval.{called_le}
use Rattle.plai_theory.proofs.Stages.{stage_below}
use Rattle.plai_theory.proofs.Tables.{closed_at}
use Rattle.plai_theory.proofs.Same.{least_closed, stage_at, table_value}
use Rattle.plai_theory.proofs.Edits.{in_append}
use Rattle.plai_depth_symbols.specs.Kept.{OfValues, OfStates, IsKept}
use Rattle.plai_depth_symbols.proofs.Kept.{best_at, calls_at}

leads_on : (d : Domain) (g : Program d) (s : Source d) (x : NameOf d) (c : d.Clause) → IsIn c (g.clauses x.pred) → {y z : NameOf d}
    → IsIn y (calls_of d s c x.call) → Leads d g s y z → Leads d g s x z
leads_on d g s x c i j Stay = Go x c Stay i j
leads_on d g s x c i j (Go m b l k t) = Go m b (leads_on d g s x c i j l) k t

module _ (d : Domain) (old new : Program d) (laws : IsLawful d old) (of_call : OfValues d) (of_state : OfStates d) (of_answer : OfValues d)
    (kept : IsKept d new of_call of_state of_answer) (before : Order d) (order : IsStrictOrder d before) (rows : List (Row d)) (N : ℕ)
    (least : (n : ℕ) → N ≤ n → IsSnapshot d old before n rows) where
  closed : IsClosed d old rows
  closed = least_closed d old laws before order rows N least

  -- the edit keeps the row of that name
  abbrev Remains : NameOf d → Type 0
  Remains = edits.IsKept d old new rows

  -- what a kept row's clauses call is kept
  called_remains : (x : NameOf d) → Remains x → (c : d.Clause) → IsIn c (old.clauses x.pred) → (y : NameOf d)
      → IsIn y (calls_of d (source_of d rows) c x.call) → Remains y
  called_remains x (has, keeps) c i y j =
      ((closed_at d old laws rows closed).calls_in x.pred x.call has c i y.pred y.call j, λ z l. keeps z (leads_on d old (source_of d rows) x c i j l))

  -- a clause of the old program is one of the new one
  pub new_clause : (x : NameOf d) → Remains x → (c : d.Clause) → IsIn c (old.clauses x.pred) → IsIn c (new.clauses x.pred)
  new_clause x remains c i =
      let (more, e) = remains.1 x Stay in
      rw e (in_append (old.clauses x.pred) more c i)

  -- Theorem: at a call that has the property and lies at or below a kept row's, each old stage answers so.
  stage_over : (n : ℕ) (p : d.Pred) (v w a : d.Value) → Remains (name_of d p w) → d.leq p v w → of_call p v → stage d old n p v ≡ Some a → of_answer p a
  unfolding stage
  stage_over zero p v w a remains le h e = absurd cc
  stage_over (suc n) p v w a remains le h e =
      best_at d new of_call of_state of_answer kept (stage d old n) p (old.clauses p) (new_clause (name_of d p w) remains) v a
      (λ c i q u b j k f.
      let (y, m, uy) = called_le d old laws (stage d old n) (source_of d rows) p c i v w le
      (λ r x z l o xz. stage_below d old laws (source_of d rows) (λ p v. HasName d rows (name_of d p v)) (closed_at d old laws rows closed) n r x z
      (called_remains (name_of d p w) remains c i (name_of d r z) o).0 xz) q u j in
      stage_over n q u y b (called_remains (name_of d p w) remains c i (name_of d q y) m) uy k f) h e

  -- Theorem: the answer of a kept row has the property of answers where its call has that of calls,
  pub answer_over : (x : NameOf d) → Remains x → of_call x.pred x.call → (a : d.Value) → source_of d rows x.pred x.call ≡ Some a → of_answer x.pred a
  answer_over x remains h a e =
      stage_over N x.pred x.call x.call a remains (table_value d old laws before order rows N least x remains.0) h
      (stage_at d old laws before order rows N least N (omega arith) x remains.0 ∙ e)

  -- and so do the calls of what it calls have theirs.
  pub called_over : (x : NameOf d) → Remains x → of_call x.pred x.call → (c : d.Clause) → IsIn c (old.clauses x.pred) → (y : NameOf d)
      → IsIn y (calls_of d (source_of d rows) c x.call) → of_call y.pred y.call
  called_over x remains h c i =
      calls_at d new of_call of_state of_answer kept (source_of d rows) x.pred c (new_clause x remains c i) x.call
      (λ q u b j k f. answer_over (name_of d q u) (called_remains x remains c i (name_of d q u) j) k b f) h
