-- Legal work keeps an invariant, and a log that ends has the least table as its result.
use Rattle.std.proofs.Common.{◌≡◌, ◌≢◌, ℕ, zero, suc, true, List, [], ◌∷◌, map, Option, Some, None, sym, subst, inl, inr}
use Rattle.plai_theory.specs.Words.{IsIn, given, UpTo}
use Rattle.plai_theory.specs.Domain.{Domain, Program, IsLawful}
use Rattle.plai_theory.specs.Evaluation.{NameOf, answer_of, calls_of}
use Rattle.plai_theory.specs.Stages.{Reaches, AtEntry, ByCall, IsSettled}
use Rattle.plai_theory.specs.LeastTable.{Row, Order, IsLeastTable}
use Rattle.plai_theory.specs.LegalWork.{WorkRow, Work, Made, Woke, Evaluated, Grew, find, present_source, after_growing, after, IsDue, IsLegal, IsLegalLog}
use Rattle.plai_theory.specs.LegalWork.{after_all, IsEnd, IsNeeded, First, Then, IsLogResult, no_work, LogEntry}
use Rattle.plai_theory.proofs.Least.{least_table}
use Rattle.plai_theory.proofs.Rows.{item_in, in_item}
use Rattle.plai_theory.proofs.Invariant.{Inv, no_exception, settle, made, woke, evaluate}
use Rattle.plai_theory.proofs.Growth.{grew, next_first}

module _ (d : Domain) (g : Program d) (laws : IsLawful d g) where
  -- each legal step keeps the invariant
  pub step : (limit : ℕ) (w : Work d) (e : LogEntry d) → Inv d g w.rows w.last → IsLegal d g limit w e → Inv d g (after d g w e).rows (after d g w e).last
  step limit w (Made x) inv (none, dem, absent, room) = made d g laws w.rows (settle d g laws w inv none) x dem
  step limit w (Woke x) inv (none, dem, row, room) = woke d g laws w.rows (settle d g laws w inv none) x dem
  step limit w (Evaluated x i) inv (none, (r, f, live, dirty), (c, e)) = evaluate d g laws w.rows (settle d g laws w inv none) x i c e (r, f)
  step limit w (Grew x a) inv (i, l, is, grows) =
      subst (λ (o : Option d.Value). Inv d g (map (after_growing d x o) w.rows) None) (sym is)
      (grew d g laws w.rows x i (subst (λ (o : Option (NameOf d × ℕ)). Inv d g w.rows o) l inv))

  pub log_keeps : (limit : ℕ) (w : Work d) (es : List (LogEntry d)) → Inv d g w.rows w.last → IsLegalLog d g limit w es
      → Inv d g (after_all d g w es).rows (after_all d g w es).last
  log_keeps limit w [] inv legal = inv
  log_keeps limit w (e ∷ es) inv legal = log_keeps limit (after d g w e) es (step limit w e inv legal.0) legal.1

  pub empty : Inv d g [] None
  empty =
      record {
        low = (zero, λ p v is. tt);
        value_names = λ x r e. cc;
        near_live = λ x r e t. cc;
        near_calls = λ x r e i y j. cc;
        clean_calls = λ x r e i c t u. cc;
        clean_answers = λ x r e i c t u. cc;
      }

  -- Where work ends, the present rows are settled, and what is needed is what they reach.
  module _ (w : Work d) (inv : Inv d g w.rows w.last) (end : IsEnd d g w) where
    pub done : Inv d g w.rows None
    done = settle d g laws w inv end.none_due

    pub need_met : (x : NameOf d) → IsNeeded d g w.rows x → (r : WorkRow d) × (find d w.rows x ≡ Some r) × (r.live ≡ true)
    need_met x (First i) = end.met x (inl i)
    need_met x (Then m n rec) = end.met x (inr (m, rec))

    needed_reached : {x : NameOf d} → IsNeeded d g w.rows x → (k : ℕ) × Reaches d g (present_source d w.rows) k x
    needed_reached (First i) = (zero, AtEntry i)
    needed_reached (Then {x = x} m n rec) =
        let (k, r) = needed_reached n in
        let e : rec.row.calls rec.number ≡ calls_of d (present_source d w.rows) rec.clause m.call =
        done.clean_calls m rec.row rec.there rec.number
        rec.clause rec.is_clause (end.clean m rec.row rec.there rec.is_live rec.number rec.clause rec.is_clause) in (
          suc k,
          ByCall m rec.clause r (item_in (g.clauses m.pred) rec.number rec.clause rec.is_clause)
              (subst (λ (ns : List (NameOf d)). IsIn x ns) e rec.names),
        )

    pub reached_needed : {k : ℕ} {x : NameOf d} → Reaches d g (present_source d w.rows) k x → IsNeeded d g w.rows x
    reached_needed (AtEntry i) = First i
    reached_needed (ByCall {x = x} m c r i j) =
        let n : IsNeeded d g w.rows m = reached_needed r in
        let (q, f, live) = need_met m n in
        let (k, e) = in_item (g.clauses m.pred) c i in
        Then m n (record {
          row = q;
          number = k;
          clause = c;
          there = f;
          is_live = live;
          is_clause = e;
          names = subst (λ (ns : List (NameOf d)). IsIn x ns) (sym (done.clean_calls m q f k c e (end.clean m q f live k c e))) j;
        })

    pub end_settled : IsSettled d g (present_source d w.rows)
    end_settled k x r c i =
        let (q, f, live) = need_met x (reached_needed r) in
        let (n, e) = in_item (g.clauses x.pred) c i in
        subst (λ (o : Option (WorkRow d)). UpTo (d.leq x.pred) (answer_of d (present_source d w.rows) c x.call) (given None (λ z. z.answer) o)) (sym f)
        (no_exception (x, n) (done.clean_answers x q f n c e (end.clean x q f live n c e)))

    -- Theorem: the result of work that ends is the least table.
    pub outcome_least : (before : Order d) (rows : List (Row d)) → IsLogResult d g before w rows → IsLeastTable d g before rows
    outcome_least before rows out =
        least_table d g laws before (present_source d w.rows) rows done.low end_settled
        (record {
          ordered = out.ordered;
          sound = λ r i. (needed_reached (out.sound r i).0, (out.sound r i).1);
          whole = λ k x r. out.whole x (reached_needed r);
        })

  -- Theorem: every legal log that opens with no rows and ends has the least table as its result, whatever its order.
  pub legal_log_least : (limit : ℕ) (es : List (LogEntry d)) → IsLegalLog d g limit (no_work d) es → IsEnd d g (after_all d g (no_work d) es)
      → (before : Order d) (rows : List (Row d)) → IsLogResult d g before (after_all d g (no_work d) es) rows → IsLeastTable d g before rows
  legal_log_least limit es legal end = outcome_least (after_all d g (no_work d) es) (log_keeps limit (no_work d) es empty legal) end

  -- a growth is strict, so that a rank gets smaller
  pub due_strict : (w : Work d) (x : NameOf d) (a : Option d.Value) → Inv d g w.rows w.last → d.leq x.pred x.call x.call → IsDue d g w x a
      → UpTo (d.leq x.pred) (present_source d w.rows x.pred x.call) a × (a ≢ present_source d w.rows x.pred x.call)
  due_strict w x a inv value (i, l, is, grows) = (rw is (next_first d g laws w.rows inv.low x value i), grows)
