-- A dirty pair that is evaluated, as it is told.
use Rattle.std.proofs.Common.{◌≡◌, ℕ, suc, ◌+◌, ◌-◌, ◌≤◌, Bool, true, false, not, ◌&&◌, nat_eq, eqb-true, List, [], ◌∷◌, ◌++◌, map, slice_get, Option, Some}
use Rattle.std.proofs.Common.{None, IsSome, length, sym, refl, ap, ◌∙◌, subst, inl, inr, zero, arith}
use Rattle.std.proofs.lemmas.Bool.{eq-eqb}
use Rattle.plai_theory.specs.Words.{IsIn, HasSome, given, item}
use Rattle.plai_theory.specs.Domain.{Domain, Program, Name, IsLawful}
use Rattle.plai_theory.specs.LegalWork.{WorkRow, Work, Evaluated, find, present_source, after_evaluating, calls_now, after_all}
use Rattle.plai_theory.proofs.Walk.{after_push}
use Rattle.plai_terms.specs.declared.abs.Abs.{Abs}
use Rattle.plai_terms.specs.declared.pred_key.PredKey.{PredKey}
use Rattle.plai_domain.specs.declared.work.WorkEntry.{WorkEntry}
use Rattle.plai_domain.specs.declared.work.WorkEntry.TheVariants as entries
use Rattle.plai_domain.specs.Noted.{noted}
use Rattle.plai_domain.specs.Plain.{PlainDomain}
use Rattle.plai_domain.specs.Laws as domain
use Rattle.plai_domain.specs.Conditions.{IsValue}
use Rattle.plai_clauses.specs.declared.clause.Clause.{Clause}
use Rattle.plai_clauses.specs.Program.{ProgramView, clauses_of}
use Rattle.plai_clauses.specs.WellFormed.{IsWellFormed}
use Rattle.plai_eval.specs.Meaning.{row_name, as_domain, as_limits, as_program}
use Rattle.plai_eval.specs.Answering.{AnswersFit}
use Rattle.plai_eval.specs.Evaluation.{evaluation}
use Rattle.plai_eval.specs.Cost.{cost_of}
use Rattle.plai_eval.proofs.Lawful.{lawful_at}
use Rattle.plai_fix_rows.specs.declared.change.Change.TheVariants.{Nothing}
use Rattle.plai_fix.specs.declared.solve_fail.SolveFail.{SolveFail}
use Rattle.plai_fix.specs.declared.solve_fail.SolveFail.TheVariants as solve_fail
use Rattle.plai_fix_laws.specs.WorkStates.{KeptRow, Keeping, Keeps, IsNamed, is_live, clause_at}
use Rattle.plai_fix_laws.specs.Changes.{Clears}
use Rattle.plai_fix_laws.specs.Logs.{IsWorking}
use Rattle.plai_fix_laws.specs.Pairs.{HasEvaluated}
use Rattle.plai_fix_laws.specs.Measures.{kept_room, kept_ranks}
use Rattle.plai_fix_rows.specs.Tables.{answers_of}
use Rattle.plai_fix.specs.Evaluating.{IsEvaluation, TellsOver}
use Rattle.plai_fix_rows.specs.Told.{start_of, Origin, HasLog}
use Rattle.plai_fix_rows.specs.Solving.{IsAtWork, IsPastEvaluation}
use Rattle.plai_fix_rows.specs.Moves.{Moves}
use Rattle.plai_fix.specs.Stops.{IsOverBehind, Stops}
use Rattle.plai_fix_laws.proofs.Lists.{slice_item, item_within}
use Rattle.plai_fix_laws.proofs.Places.{found_at}
use Rattle.plai_fix_laws.proofs.Linked.{row_under, live_at, named_row}
use Rattle.plai_fix_laws.proofs.Lowering.{evaluated_dirties}
use Rattle.plai_fix_laws.proofs.Pairs.{evaluates}
use Rattle.plai_fix_laws.proofs.Values.{kept_answers, name_is_value, answer_is_value}
use Rattle.plai_fix_rows.proofs.Telling.{has_more, has_less}

-- a clause at a place is one of the clauses
pub clause_in : {A : Type 0} (xs : List A) (i : ℕ) (x : A) → slice_get xs i ≡ Some x → IsIn x xs
clause_in [] i x e = cc
clause_in (y ∷ xs) zero x e = let s : y ≡ x = cc in inl s
clause_in (y ∷ xs) (suc i) x e = inr (clause_in xs i x e)

-- the clause of a dirty pair is there
pub clause_there : (d : Domain) (g : Program d) (laws : IsLawful d g) (k : Keeping d) (open_pair : Option (ℕ × ℕ)) (rows : List (WorkRow d))
    → Keeps d g k open_pair rows
    → (n : ℕ) (x : Name d.Pred d.Value) → IsNamed d k.rows n x → (m : ℕ) → k.dirty n m ≡ true → IsSome (clause_at d g x.pred m)
clause_there d g laws k open_pair rows keeps n x named m dirty = at (item k.rows n) refl named
  where
    at : (o : Option (KeptRow d)) → item k.rows n ≡ o → HasSome (λ (z : KeptRow d). z.name ≡ x) o → IsSome (clause_at d g x.pred m)
    at None e h = absurd h
    at (Some kept) e h =
        let (r, f, keep) = row_under d g laws k open_pair rows keeps n kept e in
        subst (λ (y : Name d.Pred d.Value). IsSome (clause_at d g y.pred m)) (sym keep.name ∙ h) (keep.dirty_clauses m dirty)

clause_number : (d : Domain) (g : Program d) (x : d.Pred) (m : ℕ) → IsSome (clause_at d g x m) → (1 ≤ m) × (m ≤ length (g.clauses x))
clause_number d g x zero e = let h : IsSome {T = d.Clause} None = e in cc
clause_number d g x (suc i) e = let l = item_within (g.clauses x) i e in (omega arith, omega arith)

module _ (p : PlainDomain) (laws : domain.IsLawful p) (program : ProgramView) (good : IsWellFormed program) (limit : ℕ)
    (begun : Origin) (told : Option (List WorkEntry)) (steps : ℕ)
    (k : Keeping (as_domain p)) (unmet : ℕ → ℕ → Bool) (at_work : IsAtWork p program limit begun told steps k unmet) where
  abbrev d : Domain
  d = as_domain p

  abbrev g : Program d
  g = as_program p program

  lawful : IsLawful d g
  lawful = lawful_at p laws program good

  abbrev rows : List (WorkRow d)
  rows = (after_all d g (start_of p begun) at_work.log).rows

  -- what evaluations ask of names and answers
  pub name_fits : (n : ℕ) (x : Name PredKey Abs) → IsNamed d k.rows n x → IsValue p x.pred.arity x.call
  name_fits n x named = name_is_value d g lawful (as_limits p) limit (start_of p begun) at_work.log k None at_work.is.logged n x named

  pub answers_fit : AnswersFit p (answers_of p k.rows)
  answers_fit = record {
    fit = λ name answer is e. answer_is_value d g lawful (as_limits p) limit (start_of p begun) at_work.log k None at_work.is.logged name.pred name.call
        answer is e;
  }

  module _ (n number : ℕ) (x : Name PredKey Abs) (named : IsNamed d k.rows n x) (dirty : k.dirty n number ≡ true)
      (live : is_live (as_domain p) k.rows n ≡ true) where
    pub number_fits : (1 ≤ number) × (number ≤ length (clauses_of program x.pred))
    number_fits = clause_number d g x.pred number (clause_there d g lawful k None rows at_work.is.logged.keeps n x named number dirty)

    row_live : (r : WorkRow d) → item rows n ≡ Some r → r.live ≡ true
    row_live r place = sym (live_at d g lawful k None rows at_work.is.logged.keeps n r place) ∙ live

    module _ (clause : Clause) (is_clause : slice_get (clauses_of program x.pred) (number - 1) ≡ Some clause) where
      one_more : suc (number - 1) ≡ number
      one_more = let h = number_fits.0 in omega arith

      at_clause : item (clauses_of program x.pred) (number - 1) ≡ Some clause
      at_clause = slice_item (clauses_of program x.pred) (number - 1) clause is_clause

      module _ (new : Keeping d) (clears : Clears d k new n (number - 1)) (left : ℕ → ℕ → Bool)
          (lefts : (a m : ℕ) → left a m ≡ (not (nat_eq a n && nat_eq m number) && unmet a m)) (answer : Option Abs) (called : List (Name PredKey Abs))
          (evaluation : IsEvaluation p k.rows clause x.call answer called) where
        others : (a m : ℕ) → (a ≡ n → m ≡ suc (number - 1) → ⊥) → left a m ≡ unmet a m
        others a m other = lefts a m ∙ at (nat_eq a n) (nat_eq m number) refl refl
          where
            at : (s t : Bool) → nat_eq a n ≡ s → nat_eq m number ≡ t → (not (s && t) && unmet a m) ≡ unmet a m
            at true true e f = absurd (other (eqb-true a n e) (eqb-true m number f ∙ sym one_more))
            at true false e f = refl
            at false t e f = refl

        own : left n (suc (number - 1)) ≡ false
        own =
            let t : nat_eq n n ≡ true = eq-eqb n n refl in
            let u : nat_eq number number ≡ true = eq-eqb number number refl in
            ap (left n) one_more ∙ lefts n number ∙ rw (t, u) refl

        -- the evaluation at the name of the row under work
        at_row : (r : WorkRow d) → item rows n ≡ Some r → r.name ≡ x
            → HasEvaluated d g (as_limits p) limit (start_of p begun) (at_work.log ++ Evaluated x (number - 1) ∷ []) new (Some (n, number - 1)) left n
            (number - 1) called answer
        at_row r place same =
            let P : Name PredKey Abs → Type 0 = λ y. item (clauses_of program y.pred) (number - 1) ≡ Some clause in
            let Q : Name PredKey Abs → Type 0 = λ y. HasEvaluated d g (as_limits p) limit (start_of p begun) (at_work.log ++ Evaluated y (number - 1) ∷ []) new
            (Some (n, number - 1)) left n (number - 1) called answer in
            let e : IsEvaluation p k.rows clause r.name.call answer called = subst (λ (y : Name PredKey Abs). IsEvaluation p k.rows clause y.call answer
            called) (sym same) evaluation in
            subst Q same
            (evaluates d g lawful (as_limits p) limit (start_of p begun) at_work.log k new unmet left at_work.is n (number - 1) r place (row_live r place)
            clause (subst P (sym same) at_clause)
            (ap (k.dirty n) one_more ∙ dirty) e.within clears others own answer called e.answer e.calls)

        pub evaluates_told : (new_told : Option (List WorkEntry)) (later : ℕ) → new_told ≡ noted (entries.Evaluated (row_name x) number) told
            → later ≤ steps + (cost_of clause + 1)
            → IsPastEvaluation p program limit begun new_told later new left (Some (n, number - 1)) n (number - 1) called answer
        evaluates_told new_told later noted_is few =
            let (r, place, same, rest) = named_row d g lawful k None rows at_work.is.logged.keeps n x named in
            has_more p program begun.told told steps (λ log. IsWorking d g (as_limits p) limit (start_of p begun) log k None None unmet)
            (λ log. HasEvaluated d g (as_limits p) limit (start_of p begun) log new (Some (n, number - 1)) left n (number - 1) called answer) at_work
            new_told later
            (Evaluated x (number - 1))
            (entries.Evaluated (row_name x) number) (ap (λ m. entries.Evaluated (row_name x) m ∷ []) one_more) noted_is
            (let c : given 0 (λ (z : Clause). cost_of z + 1) (item (clauses_of program x.pred) (number - 1)) ≡ cost_of clause + 1 = ap
            (given 0 (λ (z : Clause). cost_of z + 1)) at_clause in omega arith)
            (at_row r place same)

        -- the dirty clauses fall
        pub evaluation_moves : Moves d g limit (λ pred. p.rank) k new Nothing
        evaluation_moves =
            let (r, place, same, dirties) = named_row d g lawful k None rows at_work.is.logged.keeps n x named in
            let has = at_row r place same in
            let P : Name PredKey Abs → Type 0 = λ y. item (clauses_of program y.pred) (number - 1) ≡ Some clause in
            let Q : Name PredKey Abs → Type 0 = λ y. Keeps d g new (Some (n, number - 1))
            (map (after_evaluating d y (number - 1) (calls_now d g rows y (number - 1))) rows) in
            let keeps : Keeps d g new (Some (n, number - 1)) (map (after_evaluating d x (number - 1) (calls_now d g rows x (number - 1))) rows) =
            subst (λ (w : Work d). Keeps d g new (Some (n, number - 1)) w.rows) (after_push d g limit (start_of p begun) at_work.log
            (Evaluated x (number - 1))) has.evaluated.logged.keeps in
            let s = subst P (sym same) at_clause in (
              ap (kept_room d limit) clears.rows,
              ap (kept_ranks d (λ pred. p.rank)) clears.rows,
              evaluated_dirties d g lawful k new None (Some (n, number - 1)) rows at_work.is.logged.keeps n r place (row_live r place)
                  (number - 1) clause s
                  (sym (dirties (number - 1) clause s) ∙ ap (k.dirty n) one_more ∙ dirty) (calls_now d g rows r.name (number - 1)) (subst Q (sym same) keeps),
            )

      -- why an evaluation gives nothing
      pub evaluation_stops : (same_told : Option (List WorkEntry)) (later : ℕ) (fail : SolveFail) → same_told ≡ told → later ≤ steps + cost_of clause
          → TellsOver p k.rows x number clause fail → Stops p program limit begun same_told later fail
      evaluation_stops same_told later fail e few tells = subst (λ (o : Option (List WorkEntry)). Stops p program limit begun o later fail) (sym e)
          (at fail tells)
        where
          at : (f : SolveFail) → TellsOver p k.rows x number clause f → Stops p program limit begun told later f
          at solve_fail.Memory h =
              has_less p program begun.told told steps (λ log. IsWorking d g (as_limits p) limit (start_of p begun) log k None None unmet) _ at_work 0
              (omega arith)
              (λ w. w.logged.legal)
          at (solve_fail.Rows m) h = absurd h
          at (solve_fail.Groups row at_number literal place) (is_row, is_number, over) =
              let (r, at_place, same, dirties) = named_row d g lawful k None rows at_work.is.logged.keeps n x named in
              let one = number_fits.0 in
              let P : Name PredKey Abs → Type 0 = λ y. item (clauses_of program y.pred) (number - 1) ≡ Some clause in
              let s = subst P (sym same) at_clause in
              let source : answers_of p k.rows ≡ (λ y. present_source d rows y.pred y.call) = λ j y. kept_answers d g lawful
              (as_limits p) limit (start_of p begun) at_work.log k None at_work.is.logged y.pred y.call j in
              let behind : IsOverBehind p program limit (start_of p begun) later row number literal place at_work.log =
              record {
                legal = at_work.is.logged.legal;
                fits = at_work.is.logged.fits;
                name = x;
                is_row = is_row;
                under = r;
                there = subst (λ (y : Name PredKey Abs). find d rows y ≡ Some r) same (found_at d g lawful rows at_work.is.logged.keeps.own n r at_place);
                live = row_live r at_place;
                some = one;
                dirty = sym (dirties (number - 1) clause s) ∙ ap (k.dirty n) one_more ∙ dirty;
                clause = clause;
                is_clause = subst (λ m. clause_at d g x.pred m ≡ Some clause) one_more at_clause;
                over = ap (λ source'. (evaluation p source' clause x.call).over) (sym source) ∙ over;
                within_all = let h = at_work.within in omega arith;
              } in
              subst (λ m. HasLog p program begun.told told 0 (IsOverBehind p program limit (start_of p begun) later row m literal place)) (sym is_number)
              (record { log = at_work.log; is = behind; is_told = at_work.is_told; within = omega arith })
