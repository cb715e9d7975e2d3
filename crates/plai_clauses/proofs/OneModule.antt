-- The clauses and entries of a program that is one module.
use Rattle.std.proofs.Common.{◌≡◌, ℕ, Bool, true, false, ◌&&◌, nat_eq, eqb-true, eq-eqb, List, [], ◌∷◌, ◌++◌, filter, fold, append-nil, append_assoc, sym}
use Rattle.std.proofs.Common.{refl, ap, ◌∙◌, subst, inl, inr, if◌then◌else◌}
use Rattle.std.specs.Cmp.Lexicographic.{pointwise, same_text, nat_list_eq_equiv}
use Rattle.plai_theory.specs.Words.{IsIn}
use Rattle.plai_theory.proofs.Options.{by_test}
use Rattle.plai_terms.specs.declared.pred_key.PredKey.{PredKey}
use Rattle.plai_clauses.specs.declared.clause.Clause.{Clause}
use Rattle.plai_clauses.specs.declared.definition.Definition.{Definition}
use Rattle.plai_clauses.specs.declared.entry.Entry.{Entry}
use Rattle.plai_clauses.specs.Program.{same_pred, clauses_in, clauses_of, entries_of, with_clause, pred_of, one_module}
use Rattle.plai_clauses.specs.WellFormed.{IsWellFormedClause, IsWellFormedEntry, IsWellFormed}

both : (p q : Bool) → (p && q) ≡ true → (p ≡ true) × (q ≡ true)
both true q e = (refl, e)
both false q e = cc

pub same_pred-true : (a b : PredKey) → same_pred a b ≡ true → a ≡ b
same_pred-true a b e =
    let (m, rest) = both (pointwise nat_eq a.module b.module) (pointwise nat_eq a.name b.name && nat_eq a.arity b.arity) e in
    let (n, k) = both (pointwise nat_eq a.name b.name) (nat_eq a.arity b.arity) rest in
    let p : a.module ≡ b.module = same_text a.module b.module (sym m) in
    let q : a.name ≡ b.name = same_text a.name b.name (sym n) in
    let r : a.arity ≡ b.arity = eqb-true a.arity b.arity k in
    λ i. record { «module» = p i; name = q i; arity = r i }

pub same_pred-refl : (a : PredKey) → same_pred a a ≡ true
same_pred-refl a = rw (nat_list_eq_equiv.refl a.module, nat_list_eq_equiv.refl a.name) (eq-eqb a.arity a.arity refl)

-- one more clause is the last of its predicate, and no other predicate's
pub clauses_in-with_clause : (ds : List Definition) (k : PredKey) (c : Clause) (p : PredKey)
    → clauses_in (with_clause ds k c) p ≡ clauses_in ds p ++ (if same_pred k p then c ∷ [] else [])
clauses_in-with_clause [] k c p = refl
clauses_in-with_clause (d ∷ ds) k c p =
    by_test (same_pred d.pred k)
    (λ t. rw t (by_test (same_pred d.pred p)
    (λ u.
    let e : k ≡ p = sym (same_pred-true d.pred k t) ∙ same_pred-true d.pred p u in
    let v : same_pred k p ≡ true = subst (λ (x : PredKey). same_pred k x ≡ true) e (same_pred-refl k) in
    rw (u, v) refl)
    (λ u.
    let v : same_pred k p ≡ false = subst (λ (x : PredKey). same_pred x p ≡ false) (same_pred-true d.pred k t) u in
    rw (u, v) (sym (append-nil (clauses_in ds p))))))
    (λ t. rw t (by_test (same_pred d.pred p)
    (λ u. by_test (same_pred k p)
    (λ v.
    let e : d.pred ≡ k = same_pred-true d.pred p u ∙ sym (same_pred-true k p v) in
    let w : same_pred d.pred k ≡ true = subst (λ (x : PredKey). same_pred d.pred x ≡ true) e (same_pred-refl d.pred) in
    let no' : true ≡ false = sym w ∙ t in cc)
    (λ v. rw (u, v) (sym (append-nil d.clauses))))
    (λ u. rw u (clauses_in-with_clause ds k c p))))

-- the clauses that are added one by one, behind those that were there
clauses_in-fold : (m : List ℕ) (cs : List Clause) (ds : List Definition) (p : PredKey)
    → clauses_in (fold (λ definitions clause. with_clause definitions (pred_of m clause) clause) ds cs) p
    ≡ clauses_in ds p ++ filter (λ c. same_pred (pred_of m c) p) cs
clauses_in-fold m [] ds p = sym (append-nil (clauses_in ds p))
clauses_in-fold m (c ∷ cs) ds p =
    clauses_in-fold m cs (with_clause ds (pred_of m c) c) p
    ∙ ap (λ xs. xs ++ filter (λ b. same_pred (pred_of m b) p) cs) (clauses_in-with_clause ds (pred_of m c) c p)
    ∙ append_assoc (clauses_in ds p) (if same_pred (pred_of m c) p then c ∷ [] else []) (filter (λ b. same_pred (pred_of m b) p) cs)
    ∙ ap (λ xs. clauses_in ds p ++ xs) (first (same_pred (pred_of m c) p))
  where
    first : (b : Bool) → (if b then c ∷ [] else []) ++ filter (λ b. same_pred (pred_of m b) p) cs
        ≡ (if b then c ∷ filter (λ b. same_pred (pred_of m b) p) cs else filter (λ b. same_pred (pred_of m b) p) cs)
    first true = refl
    first false = refl

-- Theorem: the clauses of a predicate are those of the module that belong to it, in order.
pub clauses_of-one_module : (m : List ℕ) (cs : List Clause) (es : List Entry) (p : PredKey)
    → clauses_of (one_module m cs es) p ≡ filter (λ c. same_pred (pred_of m c) p) cs
clauses_of-one_module m cs es p = clauses_in-fold m cs [] p

-- Theorem: the entries are those of the module.
pub entries_of-one_module : (m : List ℕ) (cs : List Clause) (es : List Entry) → entries_of (one_module m cs es) ≡ es
entries_of-one_module m cs es = refl

-- what passes a filter is in the list and passes the test
pub of_filter : {A : Type 0} (test : A → Bool) (xs : List A) (x : A) → IsIn x (filter test xs) → IsIn x xs × (test x ≡ true)
of_filter test [] x i = absurd i
of_filter {A} test (y ∷ ys) x i = by_test (test y) (λ t. here t (rw t at i) (of_filter test ys x)) (λ t. there (of_filter test ys x (rw t at i)))
  where
    here : test y ≡ true → IsIn x (y ∷ filter test ys) → (IsIn x (filter test ys) → IsIn x ys × (test x ≡ true)) → IsIn x (y ∷ ys) × (test x ≡ true)
    here t (inl e) k = (inl e, subst (λ (z : A). test z ≡ true) e t)
    here t (inr j) k = let (l, u) = k j in (inr l, u)

    there : IsIn x ys × (test x ≡ true) → IsIn x (y ∷ ys) × (test x ≡ true)
    there (l, u) = (inr l, u)

-- Theorem: where each clause and each entry is well formed, so is the program.
pub one_module_well_formed : (m : List ℕ) (cs : List Clause) (es : List Entry) → ((c : Clause) → IsIn c cs → IsWellFormedClause c)
    → ((e : Entry) → IsIn e es → IsWellFormedEntry e) → IsWellFormed (one_module m cs es)
one_module_well_formed m cs es good known =
    record {
      names = λ p c i. ap (λ (k : PredKey). k.name) (same_pred-true (pred_of m c) p (member p c i).1);
      arities = λ p c i. ap (λ (k : PredKey). k.arity) (same_pred-true (pred_of m c) p (member p c i).1);
      clauses = λ p c i. good c (member p c i).0;
      entries = λ e i. known e (subst (λ (xs : List Entry). IsIn e xs) (entries_of-one_module m cs es) i);
      checks = λ c i. absurd i;
    }
  where
    member : (p : PredKey) (c : Clause) → IsIn c (clauses_of (one_module m cs es) p) → IsIn c cs × (same_pred (pred_of m c) p ≡ true)
    member p c i = of_filter (λ b. same_pred (pred_of m b) p) cs c (subst (λ (xs : List Clause). IsIn c xs) (clauses_of-one_module m cs es p) i)
