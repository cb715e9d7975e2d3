-- What is lost by the arcs of a table is what chains of calls lead from to a predicate that lost a clause.
use Rattle.std.proofs.Common.{◌≡◌, ℕ, zero, suc, Bool, true, List, Option, Some, None, IsSome, sym, refl, ◌∙◌, subst}
use Rattle.plai_theory.specs.Words.{IsIn, HasSome, item}
use Rattle.plai_theory.specs.Domain.{Domain, Program}
use Rattle.plai_theory.specs.Evaluation.{Source, NameOf, calls_of}
use Rattle.plai_theory.specs.LeastTable.{Row, Order}
use Rattle.plai_theory.specs.Tables.{source_of, HasName, IsClosed}
use Rattle.plai_theory.specs.Edits.{Leads, Stay, Go, IsKept}
use Rattle.plai_theory.specs.Edits as edits
use Rattle.plai_theory.proofs.Rows.{item_in, in_item}
use Rattle.plai_fix_laws.specs.WorkStates.{KeptRow, Keeping, AtBoth, clause_at, IsNamed}
use Rattle.plai_fix_laws.proofs.Places.{have, has_some}
use Rattle.plai_repair.specs.Lost.{IsLost, Itself, ByCall}
use Rattle.plai_repair.specs.Whole.{IsWhole}
use Rattle.plai_repair.proofs.Members.{at_some}

-- a value of an option and what holds of it
pub some_is : {A : Type 0} (P : A → Type 0) (o : Option A) → HasSome P o → (x : A) × (o ≡ Some x) × P x
some_is P None h = absurd h
some_is P (Some x) h = (x, refl, h)

pub in_first : {A B : Type 0} (R : A → B → Type 0) (o : Option A) (u : Option B) (x : A) → o ≡ Some x → AtBoth R o u → (y : B) × (u ≡ Some y) × R x y
in_first R None u x e h = cc
in_first R (Some z) None x e h = absurd h
in_first R (Some z) (Some y) x e h = let same : z ≡ x = cc in (y, refl, subst (λ a. R a y) same h)

-- the clause of a number from 1
pub numbered : (d : Domain) (g : Program d) (p : d.Pred) (m : ℕ) → IsSome (clause_at d g p m)
    → (i : ℕ) × (c : d.Clause) × (m ≡ suc i) × (item (g.clauses p) i ≡ Some c)
numbered d g p zero h = cc
numbered d g p (suc i) h = let (c, e) = have (item (g.clauses p) i) h in (i, c, refl, e)

-- the row of a name
pub row_of_name : (d : Domain) (kept : List (KeptRow d)) (n : ℕ) (x : NameOf d) → IsNamed d kept n x
    → (r : KeptRow d) × (item kept n ≡ Some r) × (r.name ≡ x)
row_of_name d kept n x named = some_is (λ (r : KeptRow d). r.name ≡ x) (item kept n) named

pub name_of_row : (d : Domain) (kept : List (KeptRow d)) (n : ℕ) (r : KeptRow d) → item kept n ≡ Some r → IsNamed d kept n r.name
name_of_row d kept n r e = has_some (λ (z : KeptRow d). z.name ≡ r.name) (item kept n) r e refl

pub clause_in : (d : Domain) (g : Program d) (p : d.Pred) (m : ℕ) (c : d.Clause) → clause_at d g p m ≡ Some c → IsIn c (g.clauses p)
clause_in d g p zero c e = cc
clause_in d g p (suc i) c e = item_in (g.clauses p) i c e

-- a call in front of a chain
leads_from : (d : Domain) (g : Program d) (s : Source d) (x : NameOf d) (c : d.Clause) → IsIn c (g.clauses x.pred) → {y z : NameOf d}
    → IsIn y (calls_of d s c x.call) → Leads d g s y z → Leads d g s x z
leads_from d g s x c i j Stay = Go x c Stay i j
leads_from d g s x c i j (Go m b l k t) = Go m b (leads_from d g s x c i j l) k t

-- the row's predicate lost a clause
abbrev pub Loses : (d : Domain) → Program d → Program d → List (KeptRow d) → ℕ → Type 0
Loses d old new kept n = HasSome (λ (r : KeptRow d). edits.Keeps d old new r.name.pred → ⊥) (item kept n)

module _ (d : Domain) (old : Program d) (order : Order d) (rows : List (Row d)) (k : Keeping d) (w : IsWhole d old order rows k) where
  pub named_has : (n : ℕ) (x : NameOf d) → IsNamed d k.rows n x → HasName d rows x
  named_has n x named = let (r, e, same) = row_of_name d k.rows n x named in subst (HasName d rows) same (w.sound n r e).0

  -- the names of a call
  pub record IsCall (n m j : ℕ) : Type 0 where
    pub caller : NameOf d
    pub named : IsNamed d k.rows n caller
    pub called : NameOf d
    pub is_called : IsNamed d k.rows j called
    pub clause : d.Clause
    pub is_clause : clause_at d old caller.pred m ≡ Some clause
    pub calls : IsIn called (calls_of d (source_of d rows) clause caller.call)

  pub call_is : (n m j : ℕ) → k.calls n m j ≡ true → IsCall n m j
  call_is n m j t =
      let (r, e, some) = some_is (λ (r : KeptRow d). IsSome (clause_at d old r.name.pred m)) (item k.rows n) (w.callers n m j t) in
      let (c, f) = have (clause_at d old r.name.pred m) some in
      let (q, g) = have (item k.rows j) (w.called n m j t) in
      let a = name_of_row d k.rows n r e in
      let b = name_of_row d k.rows j q g in
      record {
        caller = r.name;
        named = a;
        called = q.name;
        is_called = b;
        clause = c;
        is_clause = f;
        calls = (w.calls n m j r.name q.name c a f b).0 t;
      }

  -- a chain of calls leads to a predicate that lost a clause
  abbrev pub LeadsToLoss : Program d → NameOf d → Type 0
  LeadsToLoss new x = (y : NameOf d) × Leads d old (source_of d rows) x y × (edits.Keeps d old new y.pred → ⊥)

  -- Theorem: from a lost row it does.
  pub lost_leads : (new : Program d) (n : ℕ) → IsLost (Loses d old new k.rows) k.calls n → (x : NameOf d) → IsNamed d k.rows n x → LeadsToLoss new x
  lost_leads new n (Itself l) x named =
      let (r, e, same) = row_of_name d k.rows n x named in
      let none : edits.Keeps d old new r.name.pred → ⊥ = at_some (λ (r : KeptRow d). edits.Keeps d old new r.name.pred → ⊥) (item k.rows n) r e l in
      (x, Stay, λ keeps. none (subst (λ (y : NameOf d). edits.Keeps d old new y.pred) (sym same) keeps))
  lost_leads new n (ByCall m i l t) x named =
      let (r, e, same) = row_of_name d k.rows n x named in
      let call = call_is n i m t in
      let (q, f, own) = row_of_name d k.rows n call.caller call.named in
      let one : r ≡ q = cc in
      let is : call.caller ≡ x = subst (λ (z : KeptRow d). call.caller ≡ z.name) (sym one) (sym own) ∙ same in
      let (y, leads, none) = lost_leads new m l call.called call.is_called in (
        y,
        leads_from d old (source_of d rows) x call.clause
            (subst (λ (z : NameOf d). IsIn call.clause (old.clauses z.pred)) is (clause_in d old call.caller.pred i call.clause call.is_clause))
            (subst (λ (z : NameOf d). IsIn call.called (calls_of d (source_of d rows) call.clause z.call)) is call.calls) leads,
        none,
      )

  module _ (closed : IsClosed d old rows) where
    called_has : (x : NameOf d) → HasName d rows x → (c : d.Clause) → IsIn c (old.clauses x.pred) → (y : NameOf d)
        → IsIn y (calls_of d (source_of d rows) c x.call) → HasName d rows y
    called_has x (r, i, e) c j y t =
        closed.calls r i c (subst (λ (z : NameOf d). IsIn c (old.clauses z.pred)) (sym e) j) y
        (subst (λ (z : NameOf d). IsIn y (calls_of d (source_of d rows) c z.call)) (sym e) t)

    led_has : {x y : NameOf d} → HasName d rows x → Leads d old (source_of d rows) x y → HasName d rows y
    led_has has Stay = has
    led_has has (Go {y = y} m c l i j) = called_has m (led_has has l) c i y j

    -- Theorem: a row from which a chain leads to a lost row is lost.
    pub leads_lost : {loses : ℕ → Type 0} {x y : NameOf d} → Leads d old (source_of d rows) x y → (n b : ℕ) → IsNamed d k.rows n x → IsNamed d k.rows b y
        → IsLost loses k.calls b → IsLost loses k.calls n
    leads_lost {loses} (Stay {x = x}) n b named here lost = subst (λ (m : ℕ). IsLost loses k.calls m) (w.once b n x here named) lost
    leads_lost {loses} (Go {x = x} {y = y} m c l i j) n b named here lost =
        let (a, at) = w.whole m (led_has (named_has n x named) l) in
        let (number, e) = in_item (old.clauses m.pred) c i in
        leads_lost l n a named at (ByCall b (suc number) lost ((w.calls a (suc number) b m y c at e here).1 j))

    module _ (new : Program d) where
      -- Theorem: a row is kept exactly where it isn't lost.
      pub not_lost_kept : ((p : d.Pred) → ((edits.Keeps d old new p → ⊥) → ⊥) → edits.Keeps d old new p) → (n : ℕ) (x : NameOf d) → IsNamed d k.rows n x
          → (IsLost (Loses d old new k.rows) k.calls n → ⊥) → IsKept d old new rows x
      not_lost_kept stable n x named safe =
          let has = named_has n x named in
          (has, λ y leads. stable y.pred (λ none. safe (lost has y leads none)))
        where
          lost : HasName d rows x → (y : NameOf d) → Leads d old (source_of d rows) x y → (edits.Keeps d old new y.pred → ⊥)
              → IsLost (Loses d old new k.rows) k.calls n
          lost has y leads none =
              let (b, here) = w.whole y (led_has has leads) in
              let (r, e, same) = row_of_name d k.rows b y here in
              leads_lost leads n b named here
              (Itself (has_some (λ (r : KeptRow d). edits.Keeps d old new r.name.pred → ⊥) (item k.rows b) r e
              (λ keeps. none (subst (λ (z : NameOf d). edits.Keeps d old new z.pred) same keeps))))

      pub kept_not_lost : (n : ℕ) (x : NameOf d) → IsNamed d k.rows n x → IsKept d old new rows x → IsLost (Loses d old new k.rows) k.calls n → ⊥
      kept_not_lost n x named kept lost = let (y, leads, none) = lost_leads new n lost x named in none (kept.1 y leads)

-- what a row that isn't lost calls isn't lost
pub called_not_lost : {loses : ℕ → Type 0} {calls : ℕ → ℕ → ℕ → Bool} (n m j : ℕ) → (IsLost loses calls n → ⊥) → calls n m j ≡ true → IsLost loses calls j → ⊥
called_not_lost n m j safe t lost = safe (ByCall j m lost t)
