-- The growth behind the evaluation of a pair, as it is told.
use Rattle.std.proofs.Common.{◌≡◌, ℕ, Bool, true, false, not, is_some, List, [], ◌∷◌, ◌++◌, map, Option, Some, None, sym, refl, ap, ◌∙◌, subst, arith}
use Rattle.std.specs.Option.{option_map}
use Rattle.plai_theory.specs.Words.{UpTo, given, item}
use Rattle.plai_theory.specs.Domain.{Domain, Program, Name, IsLawful}
use Rattle.plai_theory.specs.Evaluation.{join_of}
use Rattle.plai_theory.specs.LegalWork.{WorkRow, Work, Grew, present_source, after_growing, after_all}
use Rattle.plai_theory.proofs.Walk.{after_push}
use Rattle.plai_terms.specs.declared.abs.Abs.{Abs}
use Rattle.plai_terms.specs.declared.pred_key.PredKey.{PredKey}
use Rattle.plai_domain.specs.declared.work.WorkEntry.{WorkEntry}
use Rattle.plai_domain.specs.declared.work.WorkEntry.TheVariants as entries
use Rattle.plai_domain.specs.Noted.{noted}
use Rattle.plai_domain.specs.Plain.{PlainDomain}
use Rattle.plai_domain.specs.Laws as domain
use Rattle.plai_domain.specs.Conditions.{AreAlike}
use Rattle.plai_clauses.specs.Program.{ProgramView}
use Rattle.plai_clauses.specs.WellFormed.{IsWellFormed}
use Rattle.plai_eval.specs.Meaning.{row_name, as_domain, as_limits, as_program}
use Rattle.plai_eval.proofs.Lawful.{lawful_at}
use Rattle.plai_fix_rows.specs.declared.change.Change.TheVariants.{Grown, Opened}
use Rattle.plai_fix_laws.specs.WorkStates.{KeptRow, Keeping, Keeps}
use Rattle.plai_fix_laws.specs.Changes.{Answers}
use Rattle.plai_fix_laws.specs.Pairs.{HasEvaluated, IsWaiting}
use Rattle.plai_fix_rows.specs.Told.{start_of, Origin}
use Rattle.plai_fix_rows.specs.Solving.{IsPastEvaluation, IsPastGrowth}
use Rattle.plai_fix_rows.specs.Moves.{Shifts, growth_of}
use Rattle.plai_fix_laws.proofs.Places.{found_at, has_some}
use Rattle.plai_fix_laws.proofs.Linked.{row_under}
use Rattle.plai_fix_laws.proofs.Lowering.{first_answer, later_room, later_ranks}
use Rattle.plai_fix_laws.proofs.Pairs.{settles, grows}
use Rattle.plai_fix_laws.proofs.Values.{answer_is_value, name_is_value, kept_answers}
use Rattle.plai_fix_rows.proofs.Telling.{has_more, has_less}

join_none : (d : Domain) (o : Option d.Value) → join_of d o None ≡ o
unfolding join_of
join_none d None = refl
join_none d (Some a) = refl

join_both : (d : Domain) (a b : d.Value) → join_of d (Some a) (Some b) ≡ Some (d.join a b)
unfolding join_of
join_both d a b = refl

-- what the join with an answer makes of an answer that it changes
joined_up : (d : Domain) (g : Program d) → IsLawful d g → (q : d.Pred) (u a : d.Value) (answer : Option d.Value) → d.leq q u u → UpTo (d.leq q) answer answer
    → Some a ≡ join_of d (Some u) answer → (Some a ≡ Some u → ⊥) → d.leq q u a
joined_up d g laws q u a None low fits e other = absurd (other (e ∙ join_none d (Some u)))
joined_up d g laws q u a (Some b) low fits e other =
    let s : ◌≡◌ {A = Option d.Value} (Some a) (Some (d.join u b)) = e ∙ join_both d u b in
    let t : d.join u b ≡ a = cc in
    subst (d.leq q u) t (laws.join_first low fits)

module _ (p : PlainDomain) (laws : domain.IsLawful p) (program : ProgramView) (good : IsWellFormed program) (limit : ℕ)
    (begun : Origin) (told : Option (List WorkEntry)) (steps : ℕ)
    (k : Keeping (as_domain p)) (unmet : ℕ → ℕ → Bool) (n i : ℕ) (called : List (Name PredKey Abs)) (answer : Option Abs)
    (past : IsPastEvaluation p program limit begun told steps k unmet None n i called answer) (kept : KeptRow (as_domain p))
    (at : item k.rows n ≡ Some kept) where
  abbrev d : Domain
  d = as_domain p

  abbrev g : Program d
  g = as_program p program

  lawful : IsLawful d g
  lawful = lawful_at p laws program good

  abbrev rows : List (WorkRow d)
  rows = (after_all d g (start_of p begun) past.log).rows

  keeps : Keeps d g k None rows
  keeps = past.is.evaluated.logged.keeps

  -- the row under work
  same_row : (kept.name ≡ past.is.pair.row.name) × (kept.answer ≡ past.is.pair.row.answer)
  same_row =
      let (r, place, keep) = row_under d g lawful k None rows keeps n kept at in
      let e : ◌≡◌ {A = Option (WorkRow d)} (Some r) (Some past.is.pair.row) = sym place ∙ past.is.pair.at in
      let s : r ≡ past.is.pair.row = cc in (keep.name ∙ ap (λ (z : WorkRow d). z.name) s, keep.answer ∙ ap (λ (z : WorkRow d). z.answer) s)

  abbrev r : WorkRow d
  r = past.is.pair.row

  present : present_source d rows r.name.pred r.name.call ≡ kept.answer
  present = ap (given None (λ (z : WorkRow d). z.answer)) (found_at d g lawful rows keeps.own n r past.is.pair.at) ∙ sym same_row.1

  value_name : d.leq r.name.pred r.name.call r.name.call
  value_name =
      name_is_value d g lawful (as_limits p) limit (start_of p begun) past.log k None past.is.evaluated.logged n r.name
      (has_some (λ (z : KeptRow d). z.name ≡ r.name) (item k.rows n) kept at same_row.0)

  value_had : (u : Abs) → kept.answer ≡ Some u → d.leq r.name.pred u u
  value_had u had =
      answer_is_value d g lawful (as_limits p) limit (start_of p begun) past.log k None past.is.evaluated.logged r.name.pred r.name.call u value_name
      (kept_answers d g lawful (as_limits p) limit (start_of p begun) past.log k None past.is.evaluated.logged r.name.pred r.name.call ∙ present ∙ had)

  -- the answers that are joined are values of one arity
  pub alike_told : (a b : Abs) → kept.answer ≡ Some a → answer ≡ Some b → AreAlike p a b
  alike_told a b e f =
      let fit : UpTo (d.leq r.name.pred) (Some b) (Some b) = subst (λ (o : Option Abs). UpTo (d.leq r.name.pred) o o) f past.is.fits in
      (r.name.pred.arity, value_had a e, fit)

  -- no growth is due
  pub settles_told : join_of d kept.answer answer ≡ kept.answer → IsPastGrowth p program limit begun told steps k unmet None n i called
  settles_told same =
      has_less p program begun.told told steps (λ log. HasEvaluated d g (as_limits p) limit (start_of p begun) log k None unmet n i called answer)
      (λ log. IsWaiting d g (as_limits p) limit (start_of p begun) log k None unmet n i called) past
      steps (omega arith) (λ has. settles d g lawful (as_limits p) limit (start_of p begun) past.log k None unmet n i called answer past.is
      (ap (λ (o : Option Abs). join_of d o answer) present ∙ same ∙ sym present))

  module _ (new : Keeping d) (a : Abs) (is : ◌≡◌ {A = Option Abs} (Some a) (join_of d kept.answer answer))
      (other : ◌≡◌ {A = Option Abs} (Some a) kept.answer → ⊥) (answers : Answers d k new n (Some a)) where
    waits : IsWaiting d g (as_limits p) limit (start_of p begun) (past.log ++ Grew r.name (Some a) ∷ []) new None unmet n i called
    waits =
        grows d g lawful (as_limits p) limit (start_of p begun) past.log k new unmet n i called answer (Some a) past.is
        (is ∙ ap (λ (o : Option Abs). join_of d o answer) (sym present)) (λ e. other (e ∙ present)) answers

    -- the growth that is due
    pub grows_told : (new_told : Option (List WorkEntry)) → new_told ≡ noted (entries.Grew (row_name kept.name) a) told
        → IsPastGrowth p program limit begun new_told steps new unmet None n i called
    grows_told new_told e =
        has_more p program begun.told told steps (λ log. HasEvaluated d g (as_limits p) limit (start_of p begun) log k None unmet n i called answer)
        (λ log. IsWaiting d g (as_limits p) limit (start_of p begun) log new None unmet n i called) past
        new_told steps (Grew r.name (Some a)) (entries.Grew (row_name r.name) a) refl (e
        ∙ ap (λ (x : Name PredKey Abs). noted (entries.Grew (row_name x) a) told) same_row.0) (omega arith) waits

    after : Keeps d g new None (map (after_growing d r.name (Some a)) rows)
    after = subst (λ (w : Work d). Keeps d g new None w.rows) (after_push d g limit (start_of p begun) past.log (Grew r.name (Some a)))
        waits.working.logged.keeps

    live : r.live ≡ true
    live = past.is.pair.live

    -- a first answer
    pub first_shifts : kept.answer ≡ None → Shifts d g limit (λ pred. p.rank) k new Opened
    first_shifts none = first_answer d g lawful k new None None rows keeps n r past.is.pair.at live a after limit (sym same_row.1 ∙ none)

    -- a later one
    pub later_shifts : (u : Abs) → kept.answer ≡ Some u → Shifts d g limit (λ pred. p.rank) k new Grown
    later_shifts u had =
        let mine : r.answer ≡ Some u = sym same_row.1 ∙ had in
        let up : d.leq r.name.pred u a =
        joined_up d g lawful r.name.pred u a answer (value_had u had) past.is.fits (is ∙ ap (λ (o : Option Abs). join_of d o answer) had)
        (λ e. other (e ∙ sym had)) in (
          later_room d g lawful k new None None rows keeps n r past.is.pair.at live a after limit u mine,
          later_ranks d g lawful k new None None rows keeps n r past.is.pair.at live a after (λ pred. p.rank)
              (λ q x y h ne. laws.ranked.falls q.arity x y h ne) u mine up
              (λ e. other (ap Some (sym e) ∙ sym had)),
        )

    pub grown_shifts : {A : Type 0} (f : A → Abs) (o : Option A) (first : Bool) → is_some o ≡ not first → kept.answer ≡ option_map f o
        → Shifts d g limit (λ pred. p.rank) k new (growth_of first)
    grown_shifts f None true e h = first_shifts h
    grown_shifts f None false e h = cc
    grown_shifts f (Some b) true e h = cc
    grown_shifts f (Some b) false e h = later_shifts (f b) h
