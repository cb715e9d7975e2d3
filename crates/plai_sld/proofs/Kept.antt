-- Runs lead from states to states, and a run goes on by a step.
use Rattle.std.proofs.Common.{◌≡◌, ℕ, List, [], ◌∷◌, ◌++◌, length, refl, sym, subst}
use Rattle.plai_terms.specs.declared.term.Term.{Term}
use Rattle.plai_terms.specs.declared.pred_key.PredKey.{PredKey}
use Rattle.plai_clauses.specs.Program.{ProgramView, clauses_of}
use Rattle.plai_clauses.specs.WellFormed.{IsWellFormed}
use Rattle.plai_sld.specs.declared.item.Item.{Item}
use Rattle.plai_sld.specs.declared.item.Item.TheVariants.{Call, Builtin, Mark}
use Rattle.plai_sld.specs.Runs.{RunState, start_of, LeadsTo, IsStep, IsRun}
use Rattle.plai_sld.specs.States.{AreItems, IsState}
use Rattle.plai_sld.proofs.Above.{limits_above}
use Rattle.plai_sld.proofs.Formed.{numbered_formed, numbered_arity}
use Rattle.plai_sld.proofs.States.{head_state, builtin_state}

module _ (g : ProgramView) (formed : IsWellFormed g) where
  pub leads_to_state : (items : List Item) (n choice : ℕ) (after : RunState) → AreItems n items → LeadsTo g items n choice after → IsState after
  leads_to_state [] n choice after h e = absurd e
  leads_to_state (Mark pred was now ∷ rest) n choice after (h, k) e = subst IsState (sym e) k
  leads_to_state (Call pred args ∷ rest) n choice after ((many, below), k) (c, is, s, u, e) =
      subst IsState (sym e)
      (head_state pred args rest n c s (numbered_formed g formed pred (clauses_of g pred) refl choice c is)
      (numbered_arity g formed pred (clauses_of g pred) refl choice c is) many below k u)
  leads_to_state (Builtin name args ∷ rest) n choice after (h, k) (s, m, e) = subst IsState (sym e) (builtin_state rest n s k)

  pub run_state : (first : RunState) (choices : List ℕ) (last : RunState) → IsState first → IsRun g first choices last → IsState last
  run_state first [] last h e = subst IsState e h
  run_state first (choice ∷ choices) last h (middle, e, run) = run_state middle choices last (leads_to_state first.items first.next choice middle h e) run

  pub start_is_state : (pred : PredKey) (args : List Term) → length args ≡ pred.arity → IsState (start_of pred args)
  start_is_state pred args many = ((many, limits_above args), tt)

-- a step more
pub one_more : (g : ProgramView) (first : RunState) (choices : List ℕ) (middle : RunState) (choice : ℕ) (last : RunState) → IsRun g first choices middle
    → IsStep g middle choice last → IsRun g first (choices ++ choice ∷ []) last
one_more g first [] middle choice last e step = (last, subst (λ st. IsStep g st choice last) (sym e) step, refl)
one_more g first (c ∷ choices) middle choice last (next, e, run) step = (next, e, one_more g next choices middle choice last run step)
