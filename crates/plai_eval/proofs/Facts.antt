-- The rows of a program of facts are its least table: one stage gives all answers, and nothing is called.
use Rattle.std.proofs.Common.{◌≡◌, ℕ, zero, suc, ◌≤◌, List, [], ◌∷◌, map, Option, Some, None, sym, refl, ap₂, ◌∙◌, subst, inl, inr, arith}
use Rattle.std.specs.List.{AllByRecursion}
use Rattle.std.proofs.lemmas.List.Elements.{recursion_from_All}
use Rattle.plai_theory.specs.Words.{IsIn, given}
use Rattle.plai_theory.specs.Domain.{Name}
use Rattle.plai_theory.specs.Evaluation.{Source, NameOf, state_behind, calls_along, answer_of, calls_of, best_of}
use Rattle.plai_theory.specs.Evaluation as theory
use Rattle.plai_theory.specs.Stages.{stage, Reaches, AtEntry, ByCall}
use Rattle.plai_theory.specs.LeastTable.{Row, IsOrdered, IsSnapshot}
use Rattle.plai_theory.proofs.Rounds.{map_in}
use Rattle.plai_theory.proofs.Snapshots.{in_map}
use Rattle.plai_terms.specs.declared.abs.Abs.{Abs}
use Rattle.plai_terms.specs.declared.pred_key.PredKey.{PredKey}
use Rattle.plai_terms.specs.declared.row_name.RowName.{RowName}
use Rattle.plai_terms.specs.declared.plain_row.PlainRow.{PlainRow}
use Rattle.plai_terms.specs.RowOrder.{IsBefore}
use Rattle.plai_terms.specs.Rows.{AreInOrder}
use Rattle.plai_domain.specs.Plain.{PlainDomain}
use Rattle.plai_clauses.specs.declared.clause.Clause.{Clause}
use Rattle.plai_clauses.specs.declared.entry.Entry as entries
use Rattle.plai_clauses.specs.Program.{ProgramView, clauses_of, entries_of, same_pred, pred_of, one_module}
use Rattle.plai_clauses.proofs.OneModule.{clauses_of-one_module, of_filter}
use Rattle.plai_eval.specs.Meaning.{row_name, as_domain, entry_name, as_program}
use Rattle.plai_eval.specs.LeastTable.{row_of, before, IsLeastTable}
use Rattle.plai_eval.specs.Facts.{AreFacts, fact_answer, join_of, facts_answer, AreFactRows}

all_in : {A : Type 0} (P : A → Type 0) (xs : List A) → AllByRecursion P xs → (x : A) → IsIn x xs → P x
all_in P [] h x i = absurd i
all_in P (y ∷ ys) h x (inl e) = subst P e h.0
all_in P (y ∷ ys) h x (inr i) = all_in P ys h.1 x i

none_called : {A B : Type 0} (o : Option A) → given [] (λ (x : A). (let xs : List B = [] in xs)) o ≡ []
none_called None = refl
none_called (Some x) = refl

-- two records of a name
same_pair : (a b : RowName) → a ≡ b → (let x : Name PredKey Abs = record { pred = a.pred; call = a.call } in x) ≡ record { pred = b.pred; call = b.call }
same_pair a b e = λ i. record { pred = (e i).pred; call = (e i).call }

module _ (p : PlainDomain) where
  -- a fact's evaluation
  answer_is : (s : Source (as_domain p)) (c : Clause) (v : Abs) → c.body ≡ [] → answer_of (as_domain p) s c v ≡ fact_answer p c v
  unfolding answer_of state_behind
  answer_is s c v e = rw e refl

  calls_are : (s : Source (as_domain p)) (c : Clause) (v : Abs) → c.body ≡ [] → calls_of (as_domain p) s c v ≡ []
  unfolding calls_of calls_along
  calls_are s c v e = rw e (none_called (p.enter v c.head c.variables).value)

  join_is : (a b : Option Abs) → theory.join_of (as_domain p) a b ≡ join_of p a b
  unfolding theory.join_of
  join_is None b = refl
  join_is (Some a) None = refl
  join_is (Some a) (Some b) = refl

  best_is : (s : Source (as_domain p)) (cs : List Clause) (v : Abs) → ((c : Clause) → IsIn c cs → c.body ≡ [])
      → best_of (as_domain p) s cs v ≡ facts_answer p cs v
  unfolding best_of
  best_is s [] v h = refl
  best_is s (c ∷ cs) v h =
      ap₂ (theory.join_of (as_domain p)) (answer_is s c v (h c (inl refl))) (best_is s cs v (λ b i. h b (inr i)))
      ∙ join_is (fact_answer p c v) (facts_answer p cs v)

  module _ (g : ProgramView) (facts : AreFacts g) where
    -- from the first stage on
    stage_is : (n : ℕ) (k : PredKey) (v : Abs) → stage (as_domain p) (as_program p g) (suc n) k v ≡ facts_answer p (clauses_of g k) v
    unfolding stage
    stage_is n k v = best_is (stage (as_domain p) (as_program p g) n) (clauses_of g k) v (facts k)

    -- the entries alone are reached
    reached : {s : Source (as_domain p)} {n : ℕ} {x : NameOf (as_domain p)} → Reaches (as_domain p) (as_program p g) s n x → IsIn x (as_program p g).entries
    reached (AtEntry i) = i
    reached {s} (ByCall {x = x} m c r i j) = absurd (subst (λ (ns : List (NameOf (as_domain p))). IsIn x ns) (calls_are s c m.call (facts m.pred c i)) j)

    module _ (rows : List PlainRow) (are : AreFactRows p g rows) where
      in_order : (rs : List PlainRow) → AreInOrder rs → IsOrdered (as_domain p) (before p) (map (row_of p) rs)
      in_order [] h = tt
      in_order (r ∷ rs) h = (
        (λ q i. map_in (λ (z : Row (as_domain p)). IsBefore r.name (row_name z.name)) (row_of p) rs q i
            (λ z j. all_in (λ q. IsBefore r.name q.name) rs (recursion_from_All (λ q. IsBefore r.name q.name) rs h.0) z j)),
        in_order rs h.1,
      )

      snapshot : (n : ℕ) → 1 ≤ n → IsSnapshot (as_domain p) (as_program p g) (before p) n (map (row_of p) rows)
      snapshot zero h = absurd (omega arith)
      snapshot (suc n) h =
          record {
            ordered = in_order rows are.ordered;
            sound = λ r i. map_in
                (λ (z : Row (as_domain p)). Reaches (as_domain p) (as_program p g) (stage (as_domain p) (as_program p g) (suc n)) (suc n) z.name
                × (z.answer ≡ stage (as_domain p) (as_program p g) (suc n) z.name.pred z.name.call))
                (row_of p) rows r i
                (λ q j.
                let (e, k, is) = are.sound q j in (
                  AtEntry (subst (λ (x : NameOf (as_domain p)). IsIn x (as_program p g).entries) (sym (same_pair q.name (entry_name p e) is))
                      (in_map (λ (e : entries.Entry). record { pred = e.pred; call = p.describe e.pred.arity e.pre }) (entries_of g) e k)),
                  are.answers q j ∙ sym (stage_is n q.name.pred q.name.call),
                ));
            whole = λ x r. map_in (λ (x : NameOf (as_domain p)). (q : Row (as_domain p)) × IsIn q (map (row_of p) rows) × (q.name ≡ x))
                (λ (e : entries.Entry). record { pred = e.pred; call = p.describe e.pred.arity e.pre }) (entries_of g) x (reached r)
                (λ e j.
                let (q, k, is) = are.whole e j in
                (row_of p q, in_map (row_of p) rows q k, same_pair q.name (entry_name p e) is));
          }

      -- Theorem: the rows of the entries with the joins of their facts are the least table.
      pub facts_least : IsLeastTable p g rows
      facts_least = (1, snapshot)

-- Theorem: a module whose clauses have no bodies is a program of facts.
pub module_facts : (m : List ℕ) (cs : List Clause) (es : List entries.Entry) → ((c : Clause) → IsIn c cs → c.body ≡ []) → AreFacts (one_module m cs es)
module_facts m cs es h k c i =
    h c (of_filter (λ b. same_pred (pred_of m b) k) cs c (subst (λ (xs : List Clause). IsIn c xs) (clauses_of-one_module m cs es k) i)).0
