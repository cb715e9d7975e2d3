-- Every call and every answer of every run from a described goal is described by a closed list of rows.
use Rattle.std.proofs.Common.{◌≡◌, inl, inr, ℕ, ◌≤◌, List, [], ◌∷◌, ◌++◌, map, refl, sym, ap, subst, ◌∙◌}
use Rattle.plai_theory.specs.Words.{IsIn}
use Rattle.plai_theory.specs.Domain.{IsLawful}
use Rattle.plai_theory.specs.Evaluation.{NameOf, name_of}
use Rattle.plai_theory.specs.LeastTable.{Row}
use Rattle.plai_theory.specs.Tables as theory
use Rattle.plai_theory.proofs.Same.{least_closed}
use Rattle.plai_terms.specs.declared.term.Term.{Term}
use Rattle.plai_terms.specs.declared.abs.Abs.{Abs}
use Rattle.plai_terms.specs.declared.pred_key.PredKey.{PredKey}
use Rattle.plai_terms.specs.declared.plain_row.PlainRow.{PlainRow}
use Rattle.plai_terms.specs.Substitution.{under}
use Rattle.plai_domain.specs.Plain.{StateView, PlainDomain}
use Rattle.plai_domain.specs.Laws as laws
use Rattle.plai_domain.specs.Soundness.{IsFrom, IsSound}
use Rattle.plai_clauses.specs.declared.clause.Clause.{Clause}
use Rattle.plai_clauses.specs.declared.clause.Literal.{Literal}
use Rattle.plai_clauses.specs.declared.clause.Target.{Target}
use Rattle.plai_clauses.specs.declared.clause.Target.TheVariants as target
use Rattle.plai_clauses.specs.Program.{ProgramView, clauses_of}
use Rattle.plai_clauses.specs.WellFormed.{IsWellFormed}
use Rattle.plai_eval.specs.Meaning.{as_domain, as_program, entry_name}
use Rattle.plai_eval.specs.LeastTable.{row_of, before, IsLeastTable}
use Rattle.plai_eval.proofs.Lawful.{lawful_at}
use Rattle.plai_eval.proofs.One.{strict}
use Rattle.plai_sld.specs.declared.item.Item.{Item}
use Rattle.plai_sld.specs.declared.item.Item.TheVariants.{Call, Builtin, Mark}
use Rattle.plai_sld.specs.Runs.{RunState, goal_at, goals_of, start_of, LeadsTo, IsStep, IsRun}
use Rattle.plai_sld.specs.Described.{IsClosed, IsDescribedGoal, IsFrontDescribed, AreRunsDescribed}
use Rattle.plai_sld.proofs.Above.{limits_above}
use Rattle.plai_sld.proofs.Formed.{numbered_in}
use Rattle.plai_sld.proofs.Frames.{IsActive, Frame, IsStack, IsPending, IsGood, IsCallTold, IsFrontTold}
use Rattle.plai_sld.proofs.Steps.{AreMeant, top_answer, mark_step, test_step, clause_step, call_pending}

in_mapped : {A B : Type 0} (f : A → B) (x : A) (xs : List A) → IsIn x xs → IsIn (f x) (map f xs)
in_mapped f x [] i = absurd i
in_mapped f x (y ∷ ys) (inl e) = inl (ap f e)
in_mapped f x (y ∷ ys) (inr i) = inr (in_mapped f x ys i)

mapped_in : {A B : Type 0} (f : A → B) (z : B) (xs : List A) → IsIn z (map f xs) → (x : A) × IsIn x xs × (f x ≡ z)
mapped_in f z [] i = absurd i
mapped_in f z (y ∷ ys) (inl e) = (y, inl refl, e)
mapped_in f z (y ∷ ys) (inr i) = let (x, j, e) = mapped_in f z ys i in (x, inr j, e)

module _ (d : PlainDomain) (g : ProgramView) (laws : IsLawful (as_domain d) (as_program d g)) (formed : IsWellFormed g) (sound : IsSound d) (meant : AreMeant)
    (rows : List (Row (as_domain d))) (closed : theory.IsClosed (as_domain d) (as_program d g) rows) where
  pending_step : (n : ℕ) (p : PredKey) (ts : List Term) (rest : List Item) (choice : ℕ) (after : RunState) → IsPending d g rows n p ts rest
      → LeadsTo g (Call p ts ∷ rest) n choice after → IsGood d g rows after
  pending_step n p ts rest choice after goal (c, e, s, h, is) =
      subst (IsGood d g rows) (sym is) (inr (inl
      (clause_step d g laws formed sound meant rows closed n p ts rest c s goal (numbered_in (clauses_of g p) choice c e) h)))

  pending_front : (n : ℕ) (p : PredKey) (ts : List Term) (rest : List Item) → IsPending d g rows n p ts rest → IsCallTold d rows p ts
  pending_front n p ts rest goal = (
    goal.row,
    goal.in_rows,
    ap (λ (y : NameOf (as_domain d)). y.pred) goal.name_is,
    subst (λ (y : NameOf (as_domain d)). d.describes y.call ts) (sym goal.name_is) goal.describes,
  )

  module _ (r : Row (as_domain d)) (c : Clause) (st : StateView) (i : ℕ → Term) (was : List Term) (n from : ℕ) (fs : List (Frame d)) (lower : List Item)
      (below : IsFrom c.variables n i) (from_le : from ≤ n) (stack : IsStack d g rows fs n from r.name was (map (under i) c.head) lower) where
    way_step : (rest : List Literal) → IsActive d g rows r c rest st i was from → (choice : ℕ) (after : RunState)
        → LeadsTo g (goals_of i rest ++ Mark r.name.pred was (map (under i) c.head) ∷ lower) n choice after → IsGood d g rows after
    way_step [] active choice after e =
        subst (IsGood d g rows) (sym e) (mark_step d g laws formed sound meant rows closed r c st i was n from fs lower active stack)
    way_step (l ∷ rest) active choice after e = at l.target refl e
      where
        at : (t : Target) → l.target ≡ t → LeadsTo g (goal_at i l t ∷ goals_of i rest ++ Mark r.name.pred was (map (under i) c.head) ∷ lower) n choice after
            → IsGood d g rows after
        at (target.Pred q) is e =
            pending_step n q (map (under i) l.args) (goals_of i rest ++ Mark r.name.pred was (map (under i) c.head) ∷ lower) choice after
            (call_pending d g laws formed sound meant rows closed r c l q rest st i was n from fs lower active is below from_le stack) e
        at target.Builtin is (s, means, e) =
            subst (IsGood d g rows) (sym e) (inr (inl
            (test_step d g laws formed sound meant rows closed r c l rest st i was n from fs lower s active is below from_le stack means)))

    way_front : (rest : List Literal) → IsActive d g rows r c rest st i was from
        → IsFrontTold d rows (goals_of i rest ++ Mark r.name.pred was (map (under i) c.head) ∷ lower)
    way_front [] active = top_answer d g laws formed sound meant rows closed r c st i was from active
    way_front (l ∷ rest) active = at l.target refl
      where
        at : (t : Target) → l.target ≡ t → IsFrontTold d rows (goal_at i l t ∷ goals_of i rest ++ Mark r.name.pred was (map (under i) c.head) ∷ lower)
        at (target.Pred q) is =
            pending_front n q (map (under i) l.args) (goals_of i rest ++ Mark r.name.pred was (map (under i) c.head) ∷ lower)
            (call_pending d g laws formed sound meant rows closed r c l q rest st i was n from fs lower active is below from_le stack)
        at target.Builtin is = tt

  good_step : (st : RunState) (choice : ℕ) (after : RunState) → IsGood d g rows st → IsStep g st choice after → IsGood d g rows after
  good_step st choice after (inl (p, ts, are, goal)) e =
      pending_step st.next p ts [] choice after goal (subst (λ items. LeadsTo g items st.next choice after) are e)
  good_step st choice after (inr (inl w)) e =
      way_step w.row w.clause w.state w.instance w.was st.next w.from w.frames w.lower w.below w.from_le w.stack w.rest w.active choice after
      (subst (λ items. LeadsTo g items st.next choice after) w.items_are e)
  good_step st choice after (inr (inr none)) e = absurd (subst (λ items. LeadsTo g items st.next choice after) none e)

  good_front : (st : RunState) → IsGood d g rows st → IsFrontTold d rows st.items
  good_front st (inl (p, ts, are, goal)) = subst (IsFrontTold d rows) (sym are) (pending_front st.next p ts [] goal)
  good_front st (inr (inl w)) =
      subst (IsFrontTold d rows) (sym w.items_are)
      (way_front w.row w.clause w.state w.instance w.was st.next w.from w.frames w.lower w.below w.from_le w.stack w.rest w.active)
  good_front st (inr (inr none)) = subst (IsFrontTold d rows) (sym none) tt

  good_run : (first : RunState) (choices : List ℕ) (last : RunState) → IsGood d g rows first → IsRun g first choices last → IsGood d g rows last
  good_run first [] last good e = subst (IsGood d g rows) e good
  good_run first (i ∷ is) last good (middle, e, run) = good_run middle is last (good_step first i middle good e) run

  good_start : (p : PredKey) (ts : List Term) → IsDescribedGoal d g p ts → IsGood d g rows (start_of p ts)
  good_start p ts (entry, inside, same, told, as_many) =
      let v : Abs = (entry_name d entry).call in
      let (r, there, is) = closed.entries (name_of (as_domain d) entry.pred v)
      (in_mapped (λ e. name_of (as_domain d) e.pred (entry_name d e).call) entry g.entries inside) in
      inl (
        p,
        ts,
        refl,
        record {
          row = r;
          call = v;
          frames = [];
          in_rows = there;
          name_is = is ∙ ap (λ q. name_of (as_domain d) q v) same;
          describes = told;
          below = limits_above ts;
          as_many = as_many;
          stack = refl;
        },
      )

  pub rows_tell : (p : PredKey) (ts : List Term) → IsDescribedGoal d g p ts → (choices : List ℕ) (last : RunState) → IsRun g (start_of p ts) choices last
      → IsFrontTold d rows last.items
  rows_tell p ts goal choices last run = good_front last (good_run (start_of p ts) choices last (good_start p ts goal) run)

-- what the theory's rows tell of a front, the rows of the table do
front_described : (d : PlainDomain) (rows : List PlainRow) (items : List Item) → IsFrontTold d (map (row_of d) rows) items → IsFrontDescribed d rows items
front_described d rows [] h = tt
front_described d rows (Call p ts ∷ rest) (r, i, is, told) =
    let (row, j, e) = mapped_in (row_of d) r rows i in
    (row, j, ap (λ (z : Row (as_domain d)). z.name.pred) e ∙ is, subst (λ (z : Row (as_domain d)). d.describes z.name.call ts) (sym e) told)
front_described d rows (Builtin name ts ∷ rest) h = tt
front_described d rows (Mark p was now ∷ rest) (r, i, is, called, a, answer, told) =
    let (row, j, e) = mapped_in (row_of d) r rows i in (
      row,
      j,
      ap (λ (z : Row (as_domain d)). z.name.pred) e ∙ is,
      subst (λ (z : Row (as_domain d)). d.describes z.name.call was) (sym e) called,
      a,
      ap (λ (z : Row (as_domain d)). z.answer) e ∙ answer,
      told,
    )

-- Theorem: every call and every answer of every run from a described goal is described by the rows of a closed list.
pub closed_rows_describe : (d : PlainDomain) (g : ProgramView) → IsLawful (as_domain d) (as_program d g) → IsWellFormed g → IsSound d → AreMeant
    → (rows : List PlainRow) → IsClosed d g rows → AreRunsDescribed d g rows
closed_rows_describe d g laws formed sound meant rows closed p ts goal choices last run =
    front_described d rows last.items (rows_tell d g laws formed sound meant (map (row_of d) rows) closed p ts goal choices last run)

-- the same by the laws of the domain
pub closed_describes : (d : PlainDomain) → AreMeant → laws.IsLawful d → IsSound d → (g : ProgramView) → IsWellFormed g → (rows : List PlainRow)
    → IsClosed d g rows → AreRunsDescribed d g rows
closed_describes d meant lawful sound g formed rows closed = closed_rows_describe d g (lawful_at d lawful g formed) formed sound meant rows closed

-- the least table is closed
pub least_closes : (d : PlainDomain) → laws.IsLawful d → (g : ProgramView) → IsWellFormed g → (rows : List PlainRow) → IsLeastTable d g rows → IsClosed d g rows
least_closes d lawful g formed rows least =
    least_closed (as_domain d) (as_program d g) (lawful_at d lawful g formed) (before d) (strict d) (map (row_of d) rows) least.0 least.1

pub least_describes : (d : PlainDomain) → AreMeant → laws.IsLawful d → IsSound d → (g : ProgramView) → IsWellFormed g → (rows : List PlainRow)
    → IsLeastTable d g rows → AreRunsDescribed d g rows
least_describes d meant lawful sound g formed rows least = closed_describes d meant lawful sound g formed rows (least_closes d lawful g formed rows least)
