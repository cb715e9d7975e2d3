-- Closed lists of rows, and the least table among them.
use Rattle.std.proofs.Common.{◌≡◌, ℕ, Option, List, [], ◌∷◌, sym, refl, subst, inl, inr}
use Rattle.plai_theory.specs.Words.{IsIn, UpTo}
use Rattle.plai_theory.specs.Domain.{Domain, Program, IsLawful}
use Rattle.plai_theory.specs.Evaluation.{NameOf, name_of, answer_of, calls_of}
use Rattle.plai_theory.specs.Stages.{stage, Reaches, AtEntry, ByCall, IsFromBelow}
use Rattle.plai_theory.specs.LeastTable.{Row, Order, IsOrdered, IsLeastTable}
use Rattle.plai_theory.specs.Tables.{source_of, HasName, IsDistinct, IsClosed}
use Rattle.plai_theory.proofs.Options.{by_test}
use Rattle.plai_theory.proofs.Stages.{stage_below, reach_below, IsClosedAt}
use Rattle.plai_theory.proofs.Least.{least_table}

module _ (d : Domain) (g : Program d) (laws : IsLawful d g) where
  -- the answer that a list of rows gives at a row's name
  pub lookup_row : (rows : List (Row d)) → IsDistinct d rows → (r : Row d) → IsIn r rows → source_of d rows r.name.pred r.name.call ≡ r.answer
  lookup_row [] dis r i = absurd i
  lookup_row (q ∷ rows) dis r (inl e) = subst (λ (x : Row d). source_of d (q ∷ rows) x.name.pred x.name.call ≡ x.answer) e (rw (laws.same_refl q.name) refl)
  lookup_row (q ∷ rows) dis r (inr i) =
      by_test (d.same_name q.name r.name) (λ e. absurd (dis.0 r i (laws.same_true q.name r.name e))) (λ e. rw e (lookup_row rows dis.1 r i))

  pub lookup_name : (rows : List (Row d)) → IsDistinct d rows → (x : NameOf d) (r : Row d) → IsIn r rows → r.name ≡ x
      → source_of d rows x.pred x.call ≡ r.answer
  lookup_name rows dis x r i e = subst (λ (y : NameOf d). source_of d rows y.pred y.call ≡ r.answer) e (lookup_row rows dis r i)

module _ (d : Domain) (g : Program d) (laws : IsLawful d g) (rows : List (Row d)) (closed : IsClosed d g rows) where
  -- a closed list as a source that is closed at the names of its rows
  pub closed_at : IsClosedAt d g (source_of d rows) (λ p v. HasName d rows (name_of d p v))
  closed_at = record {
    calls_in = λ p v (r, i, e) c j q x k. closed.calls r i c (subst (λ (y : NameOf d). IsIn c (g.clauses y.pred)) (sym e) j) (name_of d q x)
        (subst (λ (y : NameOf d). IsIn (name_of d q x) (calls_of d (source_of d rows) c y.call)) (sym e) k);
    answers = λ p v (r, i, e) c j.
        rw (lookup_name d g laws rows closed.distinct (name_of d p v) r i e)
        (subst (λ (y : NameOf d). IsIn c (g.clauses y.pred) → UpTo (d.leq y.pred) (answer_of d (source_of d rows) c y.call) r.answer) e
        (closed.answers r i c) j);
  }

  -- Theorem: each stage of each name at or below a row's lies at or below that row's answer.
  pub stage_below_row : (n : ℕ) (r : Row d) → IsIn r rows → (v : d.Value) → d.leq r.name.pred v r.name.call
      → UpTo (d.leq r.name.pred) (stage d g n r.name.pred v) r.answer
  stage_below_row n r i v le =
      subst (λ (o : Option d.Value). UpTo (d.leq r.name.pred) (stage d g n r.name.pred v) o) (lookup_row d g laws rows closed.distinct r i)
      (stage_below d g laws (source_of d rows) (λ p v. HasName d rows (name_of d p v)) closed_at n r.name.pred v r.name.call (r, i, refl) le)

  -- Theorem: each name that is reached at a stage lies at or below a row's name.
  pub reach_below_row : (n k : ℕ) (x : NameOf d) → Reaches d g (stage d g n) k x → (w : d.Value) × HasName d rows (name_of d x.pred w) × d.leq x.pred x.call w
  reach_below_row n k x r =
      reach_below d g laws (stage d g n) (source_of d rows) (λ p v. HasName d rows (name_of d p v))
      closed_at.calls_in (λ p v i. closed.entries (name_of d p v) i)
      (λ p v w i le. stage_below d g laws (source_of d rows) (λ p v. HasName d rows (name_of d p v)) closed_at n p v w i le) r

  -- what is reached under the list is a row
  pub reach_rows : {k : ℕ} {x : NameOf d} → Reaches d g (source_of d rows) k x → HasName d rows x
  reach_rows (AtEntry {x = x} i) = closed.entries x i
  reach_rows (ByCall {x = x} m c r i j) = closed_at.calls_in m.pred m.call (reach_rows r) c i x.pred x.call j

  -- Theorem: a closed list that is reached from below, in order, and all of whose rows are reached, is the least table.
  pub closed_is_least : (before : Order d) → IsOrdered d before rows → IsFromBelow d g (source_of d rows)
      → ((r : Row d) → IsIn r rows → (k : ℕ) × Reaches d g (source_of d rows) k r.name) → IsLeastTable d g before rows
  closed_is_least before ordered low reach =
      least_table d g laws before (source_of d rows) rows low
      (λ k x r c i. closed_at.answers x.pred x.call (reach_rows r) c i)
      (record {
        ordered = ordered;
        sound = λ r i. (reach r i, sym (lookup_row d g laws rows closed.distinct r i));
        whole = λ k x r. reach_rows r;
      })
