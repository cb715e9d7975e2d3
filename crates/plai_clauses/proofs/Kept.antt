-- A program stays well formed when what is added to it is, and when something is taken away.
use Rattle.std.proofs.Common.{◌≡◌, ℕ, ◌-◌, zero, suc, List, [], ◌∷◌, ◌++◌, take, drop, length, ap, subst, inl, inr, ◌⊎◌, if◌then◌else◌}
use Rattle.std.specs.List.{insert, remove}
use Rattle.plai_theory.specs.Words.{IsIn}
use Rattle.plai_theory.proofs.Options.{by_test}
use Rattle.plai_terms.specs.declared.pred_key.PredKey.{PredKey}
use Rattle.plai_clauses.specs.declared.clause.Clause.{Clause}
use Rattle.plai_clauses.specs.declared.entry.Entry.{Entry}
use Rattle.plai_clauses.specs.declared.check.Check.{Check}
use Rattle.plai_clauses.specs.declared.definition.Definition.{Definition}
use Rattle.plai_clauses.specs.declared.modules.Module.{Module}
use Rattle.plai_clauses.specs.Program.{ProgramView, same_pred, pred_of, clauses_in, changed_in, with_clause, place_behind, place_of, homes_of_entries}
use Rattle.plai_clauses.specs.Program.{homes_of_checks, with_module, with_clause_of, without_clause, without_clauses, with_entry, with_check, without_entry}
use Rattle.plai_clauses.specs.Program.{without_check}
use Rattle.plai_clauses.specs.WellFormed.{IsWellFormedClause, IsWellFormedEntry, IsWellFormedCheck, IsWellFormed}
use Rattle.plai_clauses.proofs.OneModule.{same_pred-true, clauses_in-with_clause}

in_either : {A : Type 0} (xs ys : List A) (x : A) → IsIn x (xs ++ ys) → IsIn x xs ⊎ IsIn x ys
in_either [] ys x i = inr i
in_either (z ∷ xs) ys x (inl e) = inl (inl e)
in_either (z ∷ xs) ys x (inr i) = elim (in_either xs ys x i) [ inl j ↦ inl (inr j) | inr j ↦ inr j ]

in_take : {A : Type 0} (n : ℕ) (xs : List A) (x : A) → IsIn x (take n xs) → IsIn x xs
in_take zero xs x i = absurd i
in_take (suc n) [] x i = absurd i
in_take (suc n) (z ∷ xs) x (inl e) = inl e
in_take (suc n) (z ∷ xs) x (inr i) = inr (in_take n xs x i)

in_drop : {A : Type 0} (n : ℕ) (xs : List A) (x : A) → IsIn x (drop n xs) → IsIn x xs
in_drop zero xs x i = i
in_drop (suc n) [] x i = absurd i
in_drop (suc n) (z ∷ xs) x i = inr (in_drop n xs x i)

in_remove : {A : Type 0} (xs : List A) (n : ℕ) (x : A) → IsIn x (remove xs n) → IsIn x xs
in_remove xs n x i = elim (in_either (take n xs) (drop (suc n) xs) x i) [ inl j ↦ in_take n xs x j | inr j ↦ in_drop (suc n) xs x j ]

in_insert : {A : Type 0} (P : A → Type 0) (xs : List A) (n : ℕ) (y x : A) → P y → ((z : A) → IsIn z xs → P z) → IsIn x (insert xs n y) → P x
in_insert {A} P xs n y x p all i = elim (in_either (take n xs) (y ∷ drop n xs) x i) [ inl j ↦ all x (in_take n xs x j) | inr j ↦ behind j ]
  where
    behind : IsIn x (y ∷ drop n xs) → P x
    behind (inl e) = subst P e p
    behind (inr j) = all x (in_drop n xs x j)

-- what a predicate has after a change of its clauses it had before
in_changed : (change : List Clause → List Clause) → ((cs : List Clause) (c : Clause) → IsIn c (change cs) → IsIn c cs)
    → (ds : List Definition) (k p : PredKey) (c : Clause) → IsIn c (clauses_in (changed_in change ds k) p) → IsIn c (clauses_in ds p)
in_changed change f [] k p c i = i
in_changed change f (d ∷ ds) k p c i =
    by_test (same_pred d.pred k)
    (λ t. let j = rw t at i in by_test (same_pred d.pred p) (λ u. rw u (f d.clauses c (rw u at j))) (λ u. rw u (rw u at j)))
    (λ t. let j = rw t at i in by_test (same_pred d.pred p) (λ u. rw u (rw u at j)) (λ u. rw u (in_changed change f ds k p c (rw u at j))))

module _ (g : ProgramView) (good : IsWellFormed g) where
  -- other clauses, of which each predicate's are well formed and its own
  of_clauses : (ds : List Definition)
      → ((p : PredKey) (c : Clause) → IsIn c (clauses_in ds p) → (c.name ≡ p.name) × (length c.head ≡ p.arity) × IsWellFormedClause c)
      → IsWellFormed (record g { definitions = ds })
  of_clauses ds all = record {
    names = λ p c i. (all p c i).0;
    arities = λ p c i. (all p c i).1;
    clauses = λ p c i. (all p c i).2;
    entries = good.entries;
    checks = good.checks;
  }

  before : (p : PredKey) (c : Clause) → IsIn c (clauses_in g.definitions p) → (c.name ≡ p.name) × (length c.head ≡ p.arity) × IsWellFormedClause c
  before p c i = (good.names p c i, good.arities p c i, good.clauses p c i)

  pub keeps_with_clause : (name : List ℕ) (c : Clause) → IsWellFormedClause c → IsWellFormed (with_clause_of g name c)
  keeps_with_clause name c h = of_clauses (with_clause g.definitions (pred_of name c) c) all
    where
      new : (p : PredKey) (x : Clause) → IsIn x (if same_pred (pred_of name c) p then c ∷ [] else [])
          → (x.name ≡ p.name) × (length x.head ≡ p.arity) × IsWellFormedClause x
      new p x i =
          by_test (same_pred (pred_of name c) p)
          (λ t.
          let e : pred_of name c ≡ p = same_pred-true (pred_of name c) p t in
          alone e (rw t at i))
          (λ t. absurd (rw t at i))
        where
          alone : pred_of name c ≡ p → IsIn x (c ∷ []) → (x.name ≡ p.name) × (length x.head ≡ p.arity) × IsWellFormedClause x
          alone e (inl q) =
              subst (λ (z : Clause). (z.name ≡ p.name) × (length z.head ≡ p.arity) × IsWellFormedClause z) q
              (ap (λ (k : PredKey). k.name) e, ap (λ (k : PredKey). k.arity) e, h)
          alone e (inr j) = absurd j

      all : (p : PredKey) (x : Clause) → IsIn x (clauses_in (with_clause g.definitions (pred_of name c) c) p)
          → (x.name ≡ p.name) × (length x.head ≡ p.arity) × IsWellFormedClause x
      all p x i =
          elim (in_either (clauses_in g.definitions p) (if same_pred (pred_of name c) p then c ∷ [] else []) x
          (subst (λ (cs : List Clause). IsIn x cs) (clauses_in-with_clause g.definitions (pred_of name c) c p) i))
          [ inl j ↦ before p x j | inr j ↦ new p x j ]

  pub keeps_without_clause : (p : PredKey) (number : ℕ) → IsWellFormed (without_clause g p number)
  keeps_without_clause p number =
      of_clauses (changed_in (λ cs. remove cs (number - 1)) g.definitions p)
      (λ k c i. before k c (in_changed (λ cs. remove cs (number - 1)) (λ cs x j. in_remove cs (number - 1) x j) g.definitions p k c i))

  pub keeps_without_clauses : (p : PredKey) → IsWellFormed (without_clauses g p)
  keeps_without_clauses p =
      of_clauses (changed_in (λ _. []) g.definitions p) (λ k c i. before k c (in_changed (λ _. []) (λ cs x j. absurd j) g.definitions p k c i))

  of_entries : (es : List Entry) → ((e : Entry) → IsIn e es → IsWellFormedEntry e) → IsWellFormed (record g { entries = es })
  of_entries es all = record { names = good.names; arities = good.arities; clauses = good.clauses; entries = all; checks = good.checks }

  of_checks : (cs : List Check) → ((c : Check) → IsIn c cs → IsWellFormedCheck c) → IsWellFormed (record g { checks = cs })
  of_checks cs all = record { names = good.names; arities = good.arities; clauses = good.clauses; entries = good.entries; checks = all }

  pub keeps_with_entry : (e : Entry) → IsWellFormedEntry e → IsWellFormed (with_entry g e)
  keeps_with_entry e h =
      of_entries (insert g.entries (place_behind e.module (homes_of_entries g.entries)) e)
      (λ x i. in_insert IsWellFormedEntry g.entries (place_behind e.module (homes_of_entries g.entries)) e x h good.entries i)

  pub keeps_with_check : (c : Check) → IsWellFormedCheck c → IsWellFormed (with_check g c)
  keeps_with_check c h =
      of_checks (insert g.checks (place_behind c.module (homes_of_checks g.checks)) c)
      (λ x i. in_insert IsWellFormedCheck g.checks (place_behind c.module (homes_of_checks g.checks)) c x h good.checks i)

  pub keeps_without_entry : (name : List ℕ) (number : ℕ) → IsWellFormed (without_entry g name number)
  keeps_without_entry name number =
      of_entries (remove g.entries (place_of name number (homes_of_entries g.entries)))
      (λ x i. good.entries x (in_remove g.entries (place_of name number (homes_of_entries g.entries)) x i))

  pub keeps_without_check : (name : List ℕ) (number : ℕ) → IsWellFormed (without_check g name number)
  keeps_without_check name number =
      of_checks (remove g.checks (place_of name number (homes_of_checks g.checks)))
      (λ x i. good.checks x (in_remove g.checks (place_of name number (homes_of_checks g.checks)) x i))

  pub keeps_with_module : (m : Module) → IsWellFormed (with_module g m)
  keeps_with_module m = record { names = good.names; arities = good.arities; clauses = good.clauses; entries = good.entries; checks = good.checks }
