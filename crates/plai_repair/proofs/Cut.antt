-- What is left of a table and its arcs where its lost rows are removed, the others sleep, and the clauses that were gained are
-- dirty.
use Rattle.std.proofs.Common.{◌≡◌, ◌↔◌, ℕ, zero, suc, ◌<◌, ◌≤◌, Bool, true, false, ◌||◌, List, [], ◌∷◌, map, length, get_or, slice_get, Option, Some, None}
use Rattle.std.proofs.Common.{Result, IsSome, sym, refl, ap, ◌∙◌, subst, inr, arith, OnOk, Ok, Err}
use Rattle.plai_theory.specs.Words.{HasSome, given, item}
use Rattle.plai_theory.specs.LeastTable.{Row}
use Rattle.plai_theory.proofs.Options.{by_test}
use Rattle.plai_theory.proofs.Same.{least_closed}
use Rattle.plai_terms.specs.declared.abs.Abs.{Abs}
use Rattle.plai_terms.specs.declared.pred_key.PredKey.{PredKey}
use Rattle.plai_domain.specs.Plain.{PlainDomain}
use Rattle.plai_domain.specs.Laws.{IsLawful}
use Rattle.plai_clauses.specs.Program.{ProgramView, clauses_of}
use Rattle.plai_clauses.specs.WellFormed.{IsWellFormed}
use Rattle.plai_eval.specs.Meaning.{as_domain, as_program}
use Rattle.plai_eval.specs.LeastTable.{before}
use Rattle.plai_eval.proofs.One.{strict}
use Rattle.plai_eval.proofs.Lawful.{lawful_at}
use Rattle.plai_table.specs.Rows.{TableRow}
use Rattle.plai_arcs.specs.declared.arcs.Arcs.{Arcs}
use Rattle.plai_arcs.specs.Arcs.{is_dirty, is_call}
use Rattle.plai_arcs.specs.Moves.{of_row}
use Rattle.plai_fix_laws.specs.WorkStates.{KeptRow}
use Rattle.plai_fix_rows.specs.Tables.{kept_row, kept_rows, state_of}
use Rattle.plai_fix_rows.proofs.TableRows.{is_there}
use Rattle.plai_repair.specs.Lost.{LosesAt, IsLost, AreLost}
use Rattle.plai_repair.specs.Removal.{Removes}
use Rattle.plai_repair.specs.Gained.{is_gained, gained_at}
use Rattle.plai_repair.specs.Opened.{slept, AreAsleep, IsWholeTable, IsOpened}
use Rattle.plai_repair.proofs.Spread.{lost_as}
use Rattle.plai_repair.proofs.Stable.{prefix_is}
use Rattle.plai_repair.proofs.Leads.{Loses}
use Rattle.plai_repair.proofs.Opens.{asleep, Gains, IsCut, opened, opening, keeps}
use Rattle.plai_repair.proofs.Gains.{of_past, in_past}
use Rattle.plai_repair.proofs.Slept.{all_asleep}

-- places of lists
item_past : {A : Type 0} (xs : List A) (i : ℕ) → length xs ≤ i → item xs i ≡ None
item_past [] i h = refl
item_past (x ∷ xs) zero h = absurd (omega (arith, h))
item_past (x ∷ xs) (suc i) h = item_past xs i (omega (arith, h))

item_none : {A : Type 0} (xs : List A) (i : ℕ) → item xs i ≡ None → length xs ≤ i
item_none [] i e = omega arith
item_none (x ∷ xs) zero e = cc
item_none (x ∷ xs) (suc i) e = let h = item_none xs i e in omega (arith, h)

item_there : {A : Type 0} (xs : List A) (i : ℕ) → i < length xs → IsSome (item xs i)
item_there [] i h = absurd (omega (arith, h))
item_there (x ∷ xs) zero h = refl
item_there (x ∷ xs) (suc i) h = item_there xs i (omega (arith, h))

item_some : {A : Type 0} (xs : List A) (i : ℕ) → IsSome (item xs i) → i < length xs
item_some [] i e = cc
item_some (x ∷ xs) zero e = omega arith
item_some (x ∷ xs) (suc i) e = let h = item_some xs i e in omega (arith, h)

none_of : (o : Option ℕ) (t : ℕ → Bool) → ((b : ℕ) → t b ≡ false) → of_row o t ≡ false
none_of None t h = refl
none_of (Some b) t h = h b

module _ (p : PlainDomain) (old new : ProgramView) where
  gains_of : (pred : PredKey) (m : ℕ) → is_gained old new pred m ≡ true → Gains (as_domain p) (as_program p old) (as_program p new) pred m
  gains_of pred zero e = let (h, l) = in_past (length (clauses_of old pred)) (length (clauses_of new pred)) zero e in absurd (omega (arith, h))
  gains_of pred (suc i) e =
      let (h, l) = in_past (length (clauses_of old pred)) (length (clauses_of new pred)) (suc i) e in
      (item_past (clauses_of old pred) i (omega (arith, h)), item_there (clauses_of new pred) i (omega (arith, l)))

  of_gains : (pred : PredKey) (m : ℕ) → Gains (as_domain p) (as_program p old) (as_program p new) pred m → is_gained old new pred m ≡ true
  of_gains pred zero g = let e = g.1 in cc
  of_gains pred (suc i) g =
      let h = item_none (clauses_of old pred) i g.0 in
      let l = item_some (clauses_of new pred) i g.1 in
      of_past (length (clauses_of old pred)) (length (clauses_of new pred)) (suc i) (omega (arith, h)) (omega (arith, l))

module _ {V : Type 0} (value_of : V → Abs) (p : PlainDomain) (old new : ProgramView) where
  gained_is : (ts : List (TableRow V)) (n m : ℕ) → (gained_at old new ts n m ≡ true)
      ↔ HasSome (λ (r : KeptRow (as_domain p)). Gains (as_domain p) (as_program p old) (as_program p new) r.name.pred m) (item (kept_rows value_of p ts) n)
  gained_is [] n m = (λ e. cc, λ h. absurd h)
  gained_is (t ∷ ts) zero m = (gains_of p old new t.name.pred m, of_gains p old new t.name.pred m)
  gained_is (t ∷ ts) (suc n) m = gained_is ts n m

  loses_at : (ts : List (TableRow V)) (n : ℕ) → Loses (as_domain p) (as_program p old) (as_program p new) (kept_rows value_of p ts) n → LosesAt old new ts n
  loses_at [] n l = absurd l
  loses_at (t ∷ ts) zero l = l
  loses_at (t ∷ ts) (suc n) l = loses_at ts n l

  at_loses : (ts : List (TableRow V)) (n : ℕ) → LosesAt old new ts n → Loses (as_domain p) (as_program p old) (as_program p new) (kept_rows value_of p ts) n
  at_loses [] n l = absurd l
  at_loses (t ∷ ts) zero l = l
  at_loses (t ∷ ts) (suc n) l = at_loses ts n l

  slept_item : (ts : List (TableRow V)) (n : ℕ) → item (kept_rows value_of p (map slept ts)) n
      ≡ given None (λ (t : TableRow V). Some (asleep (as_domain p) (kept_row value_of p t))) (slice_get ts n)
  slept_item [] n = refl
  slept_item (t ∷ ts) zero = refl
  slept_item (t ∷ ts) (suc n) = slept_item ts n

  kept_item : (ts : List (TableRow V)) (n : ℕ) → given None (λ (t : TableRow V). Some (asleep (as_domain p) (kept_row value_of p t))) (slice_get ts n)
      ≡ given None (λ (r : KeptRow (as_domain p)). Some (asleep (as_domain p) r)) (item (kept_rows value_of p ts) n)
  kept_item [] n = refl
  kept_item (t ∷ ts) zero = refl
  kept_item (t ∷ ts) (suc n) = kept_item ts n

  had_item : (ts : List (TableRow V)) (o : Option ℕ)
      → given None (λ (t : TableRow V). Some (asleep (as_domain p) (kept_row value_of p t))) (given None (slice_get ts) o)
      ≡ given None (λ (b : ℕ). given None (λ (r : KeptRow (as_domain p)). Some (asleep (as_domain p) r)) (item (kept_rows value_of p ts) b)) o
  had_item ts None = refl
  had_item ts (Some b) = kept_item ts b

  module _ (ts mid now : List (TableRow V)) (arcs mid_arcs new_arcs : Arcs) (marks : List Bool)
      (lost : AreLost (LosesAt old new ts) (is_call arcs) (length ts) marks) (removes : Removes marks 0 ts arcs mid mid_arcs)
      (sleeps : now ≡ map slept mid)
      (dirty : (r c : ℕ) → is_dirty new_arcs r c ≡ (gained_at old new now r c || is_dirty mid_arcs r c))
      (calls : (r c q : ℕ) → is_call new_arcs r c q ≡ is_call mid_arcs r c q)
      (rows : List (Row (as_domain p))) (w : IsWholeTable value_of p old rows ts arcs) where
    clean : (r c : ℕ) → is_dirty mid_arcs r c ≡ false
    clean r c = removes.renumbers.dirty r c ∙ none_of (removes.had r) (λ b. is_dirty arcs b c) (λ b. w.clean b c)

    dirty_is : (r c : ℕ) → is_dirty new_arcs r c ≡ gained_at old new now r c
    dirty_is r c = dirty r c ∙ ap (λ t. gained_at old new now r c || t) (clean r c) ∙ or_false (gained_at old new now r c)
      where
        or_false : (b : Bool) → (b || false) ≡ b
        or_false true = refl
        or_false false = refl

    abbrev Lost : ℕ → Type 0
    Lost n = IsLost (Loses (as_domain p) (as_program p old) (as_program p new) (kept_rows value_of p ts)) (is_call arcs) n

    safe : (n : ℕ) → get_or marks n false ≡ false → Lost n → ⊥
    safe n e l =
        let t : get_or marks n false ≡ true = (lost.agree n).1 (lost_as (is_call arcs) (λ j h. loses_at ts j h) n l) in cc

    unmarked : (n : ℕ) → (Lost n → ⊥) → get_or marks n false ≡ false
    unmarked n h =
        by_test (get_or marks n false) (λ t. absurd (h (lost_as (is_call arcs) (λ j l. at_loses ts j l) n ((lost.agree n).0 t)))) (λ t. t)

    cut : IsCut (as_domain p) (as_program p old) (as_program p new) (state_of value_of p ts arcs) (state_of value_of p now new_arcs)
    cut = record {
      had = removes.had;
      items = λ n. ap (λ (xs : List (TableRow V)). item (kept_rows value_of p xs) n) sleeps ∙ slept_item mid n
          ∙ ap (given None (λ (t : TableRow V). Some (asleep (as_domain p) (kept_row value_of p t)))) (removes.renumbers.items n)
          ∙ had_item ts (removes.had n);
      calls = λ n m j. calls n m j ∙ removes.renumbers.calls n m j;
      dirty = λ n m. let is = gained_is now n m in (λ t. is.0 (sym (dirty_is n m) ∙ t), λ h. dirty_is n m ∙ is.1 h);
      safe = λ n b h. safe b (removes.kept n b h (omega arith));
      whole = λ b some h. removes.whole b (is_there V value_of p ts b some) (inr (unmarked b h));
      once = removes.once;
    }

    -- Theorem: it is open.
    is_opened : IsLawful p → IsWellFormed old → IsOpened value_of p old new rows now new_arcs
    is_opened laws good =
        let lawful = lawful_at p laws old good in
        let (from, least) = w.least in
        let closed = least_closed (as_domain p) (as_program p old) lawful (before p) (strict p) rows from least in
        let stable = λ (pred : PredKey). prefix_is (clauses_of old pred) (clauses_of new pred) in
        record {
          opened = opened (as_domain p) (as_program p old) (as_program p new) lawful (before p) rows (state_of value_of p ts arcs)
              (state_of value_of p now new_arcs) w closed stable cut;
          opening = opening (as_domain p) (as_program p old) (as_program p new) lawful (before p) rows (state_of value_of p ts arcs)
              (state_of value_of p now new_arcs) w closed stable cut;
          keeps = keeps (as_domain p) (as_program p old) (as_program p new) lawful (before p) rows (state_of value_of p ts arcs)
              (state_of value_of p now new_arcs) w closed stable cut;
          asleep = subst AreAsleep (sym sleeps) (all_asleep mid);
        }

-- the same, where marking the gained clauses succeeded
pub opened_where : {T E V : Type 0} (r : Result T E) (value_of : V → Abs) (p : PlainDomain) (old new : ProgramView) (ts mid now : List (TableRow V))
    (arcs mid_arcs new_arcs : Arcs) (marks : List Bool) → AreLost (LosesAt old new ts) (is_call arcs) (length ts) marks
    → Removes marks 0 ts arcs mid mid_arcs → now ≡ map slept mid
    → OnOk r ((r c : ℕ) → is_dirty new_arcs r c ≡ (gained_at old new now r c || is_dirty mid_arcs r c))
    → OnOk r ((r c q : ℕ) → is_call new_arcs r c q ≡ is_call mid_arcs r c q) → IsLawful p → IsWellFormed old
    → OnOk r ((rows : List (Row (as_domain p))) → IsWholeTable value_of p old rows ts arcs → IsOpened value_of p old new rows now new_arcs)
opened_where (Ok x) value_of p old new ts mid now arcs mid_arcs new_arcs marks lost removes sleeps dirty calls laws good =
    λ rows w. is_opened value_of p old new ts mid now arcs mid_arcs new_arcs marks lost removes sleeps dirty calls rows w laws good
opened_where (Err e) value_of p old new ts mid now arcs mid_arcs new_arcs marks lost removes sleeps dirty calls laws good = tt
