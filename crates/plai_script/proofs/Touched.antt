-- What changes of programs touch, one after another.
use Rattle.std.proofs.Common.{◌≡◌, ◌∙◌, ℕ, Bool, true, false, cond, ◌&&◌, ◌||◌, nat_eq, List, [], ◌∷◌, ◌++◌, append-nil, refl, sym, ap, subst}
use Rattle.std.specs.List.{list_any, remove}
use Rattle.std.specs.Prelude.{◌-◌}
use Rattle.std.specs.Cmp.{nat_eq_equiv}
use Rattle.std.specs.Cmp.Lexicographic.{pointwise, nat_list_eq_equiv}
use Rattle.plai_theory.proofs.Options.{by_test}
use Rattle.plai_terms.specs.declared.pred_key.PredKey.{PredKey}
use Rattle.plai_clauses.specs.declared.clause.Clause.{Clause}
use Rattle.plai_clauses.specs.declared.definition.Definition.{Definition}
use Rattle.plai_clauses.specs.Program.{ProgramView, same_pred, clauses_in, changed_in, pred_of, with_clause_of, without_clause, without_clauses}
use Rattle.plai_clauses.proofs.OneModule.{same_pred-true, clauses_in-with_clause}
use Rattle.plai_script.specs.Touching.{LeavesOthers, AreTouchedWith, Touches}

same_symm : (a b : PredKey) → same_pred a b ≡ same_pred b a
same_symm a b =
    ap (λ (t : Bool). t && (pointwise nat_eq a.name b.name && nat_eq a.arity b.arity)) (nat_list_eq_equiv.symm a.module b.module)
    ∙ ap (λ (t : Bool). pointwise nat_eq b.module a.module && (t && nat_eq a.arity b.arity)) (nat_list_eq_equiv.symm a.name b.name)
    ∙ ap (λ (t : Bool). pointwise nat_eq b.module a.module && (pointwise nat_eq b.name a.name && t)) (nat_eq_equiv.symm a.arity b.arity)

as_or : (t x : Bool) → cond t true x ≡ (t || x)
as_or true x = refl
as_or false x = refl

first_not : (t x : Bool) → (t || x) ≡ false → t ≡ false
first_not true x e = e
first_not false x e = refl

or_true : (t x : Bool) → x ≡ true → (t || x) ≡ true
or_true true x e = refl
or_true false x e = e

-- the set with one key more
pub touched_more : (old new : List PredKey) (k : PredKey)
    → ((q : PredKey) → list_any (same_pred q) new ≡ cond (same_pred k q) true (list_any (same_pred q) old)) → AreTouchedWith k old new
touched_more old new k all q = all q ∙ as_or (same_pred k q) (list_any (same_pred q) old) ∙ ap (λ (t : Bool). t || list_any (same_pred q) old) (same_symm k q)

-- one change

-- a predicate that isn't the only touched one
not_only : (k pred : PredKey) → list_any (same_pred pred) (k ∷ []) ≡ false → same_pred k pred ≡ false
not_only k pred h = same_symm k pred ∙ first_not (same_pred pred k) false h

in_changed : (change : List Clause → List Clause) (ds : List Definition) (k pred : PredKey) → same_pred k pred ≡ false
    → clauses_in (changed_in change ds k) pred ≡ clauses_in ds pred
in_changed change [] k pred h = refl
in_changed change (d ∷ ds) k pred h =
    by_test (same_pred d.pred k)
    (λ t.
    let u : same_pred d.pred pred ≡ false = subst (λ (x : PredKey). same_pred x pred ≡ false) (sym (same_pred-true d.pred k t)) h in
    rw (t, u) refl)
    (λ t. rw t (by_test (same_pred d.pred pred) (λ u. rw u refl) (λ u. rw u (in_changed change ds k pred h))))

pub others_without_clause : (p : ProgramView) (k : PredKey) (n : ℕ) → LeavesOthers (k ∷ []) p (without_clause p k n)
others_without_clause p k n pred h = in_changed (λ clauses. remove clauses (n - 1)) p.definitions k pred (not_only k pred h)

pub others_without_clauses : (p : ProgramView) (k : PredKey) → LeavesOthers (k ∷ []) p (without_clauses p k)
others_without_clauses p k pred h = in_changed (λ _. []) p.definitions k pred (not_only k pred h)

pub others_with_clause : (p : ProgramView) (m : List ℕ) (c : Clause) → LeavesOthers (pred_of m c ∷ []) p (with_clause_of p m c)
others_with_clause p m c pred h =
    clauses_in-with_clause p.definitions (pred_of m c) c pred
    ∙ ap (λ (t : Bool). clauses_in p.definitions pred ++ cond t (c ∷ []) []) (not_only (pred_of m c) pred h)
    ∙ append-nil (clauses_in p.definitions pred)

pub touches_one : (k copy : PredKey) (old new : List PredKey) (p q : ProgramView) → copy ≡ k → AreTouchedWith copy old new → LeavesOthers (k ∷ []) p q
    → Touches old new p q
touches_one k copy old new p q same more others =
    let more_of : AreTouchedWith k old new = subst (λ (x : PredKey). AreTouchedWith x old new) same more in
    record {
      others = λ pred h. others pred (ap (λ (t : Bool). t || false) (first_not (same_pred pred k) (list_any (same_pred pred) old) (sym (more_of pred) ∙ h)));
      kept = λ pred h. more_of pred ∙ or_true (same_pred pred k) (list_any (same_pred pred) old) h;
    }

pub others_after : (keys : List PredKey) (p q r : ProgramView) → q ≡ r → LeavesOthers keys p r → LeavesOthers keys p q
others_after keys p q r same others = subst (λ (x : ProgramView). LeavesOthers keys p x) (sym same) others
