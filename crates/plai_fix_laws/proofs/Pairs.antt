-- A pair that is evaluated and worked in, step by step.
use Rattle.std.proofs.Common.{◌≡◌, ◌≢◌, ◌⊎◌, ◌↔◌, ℕ, suc, Bool, true, false, nat_eq, List, [], ◌∷◌, ◌++◌, Option, Some, None, IsSome, sym, refl, ap, ◌∙◌}
use Rattle.std.proofs.Common.{subst, inl, inr}
use Rattle.std.proofs.lemmas.Bool.{eq-eqb}
use Rattle.plai_theory.specs.Words.{IsIn, UpTo, given, item, HasSome}
use Rattle.plai_theory.specs.Domain.{Domain, Program, IsLawful}
use Rattle.plai_theory.specs.Evaluation.{NameOf, answer_of, calls_of, join_of}
use Rattle.plai_theory.specs.LegalWork.{WorkRow, Work, LogEntry, Evaluated, Grew, present_source, after_evaluating, after_growing, calls_now, after}
use Rattle.plai_theory.specs.LegalWork.{after_all}
use Rattle.plai_theory.specs.Limits.{Limits, IsOverAt}
use Rattle.plai_theory.proofs.Rows.{present_map, item_in}
use Rattle.plai_theory.proofs.Walk.{after_push}
use Rattle.plai_fix_laws.specs.WorkStates.{KeptRow, Keeping, kept_source, IsNamed}
use Rattle.plai_fix_laws.specs.Changes.{Clears, SetsCalls, Answers}
use Rattle.plai_fix_laws.specs.Logs.{AreValues, IsLogged, IsWorking}
use Rattle.plai_fix_laws.specs.Pairs.{Links, HasEvaluated, IsWaiting}
use Rattle.plai_fix_laws.proofs.Places.{item_map, found_at}
use Rattle.plai_fix_laws.proofs.Working.{evaluated, nothing_due}
use Rattle.plai_fix_laws.proofs.Grown.{grew, sets, opens}
use Rattle.plai_fix_laws.proofs.ValueLogs.{answer_valued, rows_valued}
use Rattle.plai_fix_laws.proofs.Values.{kept_answers, one_row, values}

pub is_named : (d : Domain) (kept : List (KeptRow d)) (j : ℕ) (y : NameOf d) → IsNamed d kept j y → IsSome (item kept j)
is_named d kept j y e = at_kept (item kept j) e
  where
    at_kept : (o : Option (KeptRow d)) → HasSome (λ (z : KeptRow d). z.name ≡ y) o → IsSome o
    at_kept None e = absurd e
    at_kept (Some z) e = refl

pub one_name : (d : Domain) (kept : List (KeptRow d)) (j : ℕ) (x y : NameOf d) → IsNamed d kept j x → IsNamed d kept j y → x ≡ y
one_name d kept j x y e f = at_kept (item kept j) e f
  where
    at_kept : (o : Option (KeptRow d)) → HasSome (λ (z : KeptRow d). z.name ≡ x) o → HasSome (λ (z : KeptRow d). z.name ≡ y) o → x ≡ y
    at_kept None e f = absurd e
    at_kept (Some k) e f = sym e ∙ f

-- where each name that is left has no row, the rows are those of the called names
pub links_right : (d : Domain) (kept : List (KeptRow d)) (called left : List (NameOf d)) (rows : ℕ → Bool) (full : Bool) → Links d kept called rows left full
    → ((i j : ℕ) (y : NameOf d) → IsNamed d kept i y → IsNamed d kept j y → i ≡ j) → ((y : NameOf d) → IsIn y left → (j : ℕ) → IsNamed d kept j y → ⊥)
    → (j : ℕ) (y : NameOf d) → IsNamed d kept j y → (rows j ≡ true) ↔ IsIn y called
links_right d kept called left rows full links own absent j y named = (
  λ t. let (x, inside, there) = links.sound j t in subst (λ z. IsIn z called) (one_name d kept j x y there named) inside,
  λ inside. at (links.whole y inside),
)
  where
    at : ((m : ℕ) × (rows m ≡ true) × IsNamed d kept m y) ⊎ (IsIn y left ⊎ ((full ≡ true) × ((m : ℕ) → IsNamed d kept m y → ⊥))) → rows j ≡ true
    at (inl (m, t, there)) = subst (λ z. rows z ≡ true) (own m j y there named) t
    at (inr (inl i)) = absurd (absent y i j named)
    at (inr (inr h)) = absurd (h.1 j named)

module _ (d : Domain) (g : Program d) (laws : IsLawful d g) (limits : Limits d) (limit : ℕ) (start : Work d) (log : List (LogEntry d)) where
  abbrev rows : List (WorkRow d)
  rows = (after_all d g start log).rows

  -- the source of the kept rows is that of the rows under work
  same_source : (k : Keeping d) (open_pair : Option (ℕ × ℕ)) → IsLogged d g limits limit start log k open_pair
      → kept_source d k.rows ≡ present_source d rows
  same_source k open_pair logged = λ j p v. kept_answers d g laws limits limit start log k open_pair logged p v j

  -- Theorem: a dirty pair is evaluated.
  module _ (k new : Keeping d) (unmet left : ℕ → ℕ → Bool) (working : IsWorking d g limits limit start log k None None unmet) (n i : ℕ) (r : WorkRow d)
      (at : item rows n ≡ Some r) (live : r.live ≡ true)
      (c : d.Clause) (is_clause : item (g.clauses r.name.pred) i ≡ Some c) (is_dirty : k.dirty n (suc i) ≡ true)
      (within : IsOverAt d limits (kept_source d k.rows) c r.name.call → ⊥) (clears : Clears d k new n i)
      (others : (a m : ℕ) → (a ≡ n → m ≡ suc i → ⊥) → left a m ≡ unmet a m) (own : left n (suc i) ≡ false) (answer : Option d.Value) (called : List (NameOf d))
      (is_answer : answer ≡ answer_of d (kept_source d k.rows) c r.name.call) (is_called : called ≡ calls_of d (kept_source d k.rows) c r.name.call) where
    abbrev evaluate : WorkRow d → WorkRow d
    evaluate = after_evaluating d r.name i (calls_now d g rows r.name i)

    abbrev step : LogEntry d
    step = Evaluated r.name i

    source : kept_source d k.rows ≡ present_source d rows
    source = same_source k None working.logged

    same : after_all d g start (log ++ step ∷ []) ≡ after d g (after_all d g start log) step
    same = after_push d g limit start log step

    behind : present_source d (after_all d g start (log ++ step ∷ [])).rows ≡ kept_source d k.rows
    behind = ap (λ (w : Work d). present_source d w.rows) same ∙ (λ j p v. present_map d g laws evaluate (λ z. refl) rows p v j) ∙ sym source

    recorded : (evaluate r).calls i ≡ called
    recorded =
        let t : d.same_name r.name r.name ≡ true = laws.same_refl r.name in
        let u : nat_eq i i ≡ true = eq-eqb i i refl in
        let v : calls_now d g rows r.name i ≡ calls_of d (present_source d rows) c r.name.call =
        ap (given [] (λ b. calls_of d (present_source d rows) b r.name.call)) is_clause in
        rw (t, u) (v ∙ ap (λ s. calls_of d s c r.name.call) (sym source) ∙ sym is_called)

    known : AreValues d rows
    known = values d g laws limits limit start log k None working.logged

    pub evaluates : HasEvaluated d g limits limit start (log ++ step ∷ []) new (Some (n, i)) left n i called answer
    evaluates =
        record {
          pair =
              record {
                row = evaluate r;
                at = ap (λ (w : Work d). item w.rows n) same ∙ item_map evaluate rows n ∙ ap (given None (λ q. Some (evaluate q))) at;
                live = live;
                clause = c;
                is_clause = is_clause;
                calls = recorded;
              };
          evaluated = evaluated d g laws limits limit start log k new unmet left working n i r at live c is_clause is_dirty
              (λ o. within (subst (λ s. IsOverAt d limits s c r.name.call) (sym source) o)) clears others own;
          next = ap (join_of d (present_source d (after_all d g start (log ++ step ∷ [])).rows r.name.pred r.name.call))
              (ap (given None (λ b. answer_of d (present_source d (after_all d g start (log ++ step ∷ [])).rows) b r.name.call)) is_clause
              ∙ ap (λ s. answer_of d s c r.name.call) behind ∙ sym is_answer);
          fits = subst (λ (o : Option d.Value). UpTo (d.leq r.name.pred) o o) (sym (is_answer ∙ ap (λ s. answer_of d s c r.name.call) source))
              (answer_valued d g laws (present_source d rows) (rows_valued d g laws rows known) r.name.pred c (item_in (g.clauses r.name.pred) i c is_clause)
              r.name.call (known.names r.name r (found_at d g laws rows working.logged.keeps.own n r at)));
        }

  -- Theorem: the calls of that pair are set.
  pub links : (k new : Keeping d) (unmet : ℕ → ℕ → Bool) (n i : ℕ) (called left : List (NameOf d)) (answer : Option d.Value) (found : ℕ → Bool)
      → HasEvaluated d g limits limit start log k (Some (n, i)) unmet n i called answer → SetsCalls d k new n i found → Links d k.rows called found left false
      → ((y : NameOf d) → IsIn y left → (j : ℕ) → IsNamed d k.rows j y → ⊥) → HasEvaluated d g limits limit start log new None unmet n i called answer
  links k new unmet n i called left answer found has set linked absent =
      record {
        pair = has.pair;
        evaluated =
            record {
              logged = sets d g laws limits limit start log k new n i has.evaluated.logged has.pair.row has.pair.at
                  has.pair.clause has.pair.is_clause found set
                  (λ j t. let (y, inside, named) = linked.sound j t in is_named d k.rows j y named)
                  (λ j y named. subst (λ ns. (found j ≡ true) ↔ IsIn y ns) (sym has.pair.calls)
                  (links_right d k.rows called left found false linked (one_row d g laws limits limit start log k (Some (n, i)) has.evaluated.logged) absent
                  j y named));
              last = has.evaluated.last;
              met = has.evaluated.met;
              full = has.evaluated.full;
            };
        next = has.next;
        fits = has.fits;
      }

  -- Theorem: where the join with its answer is the row's answer, no growth is due.
  pub settles : (k : Keeping d) (open_pair : Option (ℕ × ℕ)) (unmet : ℕ → ℕ → Bool) (n i : ℕ) (called : List (NameOf d)) (answer : Option d.Value)
      → (has : HasEvaluated d g limits limit start log k open_pair unmet n i called answer)
      → join_of d (present_source d rows has.pair.row.name.pred has.pair.row.name.call) answer
      ≡ present_source d rows has.pair.row.name.pred has.pair.row.name.call
      → IsWaiting d g limits limit start log k open_pair unmet n i called
  settles k open_pair unmet n i called answer has same =
      record {
        working = nothing_due d g laws limits limit start log k open_pair n i has.pair.row.name unmet has.evaluated (has.next ∙ same);
        pair = has.pair;
      }

  -- Theorem: the growth that is due is done.
  pub grows : (k new : Keeping d) (unmet : ℕ → ℕ → Bool) (n i : ℕ) (called : List (NameOf d)) (answer a : Option d.Value)
      → (has : HasEvaluated d g limits limit start log k None unmet n i called answer)
      → a ≡ join_of d (present_source d rows has.pair.row.name.pred has.pair.row.name.call) answer
      → a ≢ present_source d rows has.pair.row.name.pred has.pair.row.name.call
      → Answers d k new n a → IsWaiting d g limits limit start (log ++ Grew has.pair.row.name a ∷ []) new None unmet n i called
  grows k new unmet n i called answer a has is other answers =
      let r = has.pair.row in
      record {
        working = grew d g laws limits limit start log k new n i r unmet has.evaluated has.pair.at a (is ∙ sym has.next) other answers;
        pair =
            record {
              row = after_growing d r.name a r;
              at = ap (λ (w : Work d). item w.rows n) (after_push d g limit start log (Grew r.name a)) ∙ item_map (after_growing d r.name a) rows n
                  ∙ ap (given None (λ q. Some (after_growing d r.name a q))) has.pair.at;
              live = has.pair.live;
              clause = has.pair.clause;
              is_clause = has.pair.is_clause;
              calls = has.pair.calls;
            };
      }

  -- the pair is open again while rows are made for it
  pub reopens : (k : Keeping d) (unmet : ℕ → ℕ → Bool) (n i : ℕ) (called : List (NameOf d)) → IsWaiting d g limits limit start log k None unmet n i called
      → IsWaiting d g limits limit start log k (Some (n, i)) unmet n i called
  reopens k unmet n i called waiting =
      record {
        working =
            record {
              logged = opens d g laws limits limit start log k (Some (n, i)) waiting.working.logged;
              none_due = waiting.working.none_due;
              met = waiting.working.met;
              full = waiting.working.full;
            };
        pair = waiting.pair;
      }
