-- Each step leads from a state to a state.
use Rattle.std.proofs.Common.{◌≡◌, inl, inr, ℕ, ◌+◌, ◌<◌, ◌≤◌, List, [], ◌∷◌, ◌++◌, map, length, refl, sym, ◌∙◌, arith}
use Rattle.std.proofs.lemmas.List.{length-map}
use Rattle.plai_theory.specs.Words.{IsIn}
use Rattle.plai_terms.specs.Subst.{bound_to}
use Rattle.plai_terms.specs.declared.term.Term.{Term}
use Rattle.plai_terms.specs.declared.pred_key.PredKey.{PredKey}
use Rattle.plai_terms.specs.declared.outcome.Outcome.TheVariants.{Unified}
use Rattle.plai_terms.specs.Substitution.{under, raised, IsBelow, AreBelow}
use Rattle.plai_terms.specs.Unification.{Bindings, UnifiesTo}
use Rattle.plai_terms.specs.Unifiers.{IsMostGeneral}
use Rattle.plai_terms.proofs.Under.{source_in}
use Rattle.plai_terms.proofs.Outcomes.{unifier}
use Rattle.plai_clauses.specs.declared.clause.Clause.{Clause}
use Rattle.plai_clauses.specs.declared.clause.Literal.{Literal}
use Rattle.plai_clauses.specs.declared.clause.Target.{Target}
use Rattle.plai_clauses.specs.declared.clause.Target.TheVariants as target
use Rattle.plai_clauses.specs.WellFormed.{IsTargetOf, IsLiteral, IsWellFormedClause}
use Rattle.plai_sld.specs.declared.item.Item.{Item}
use Rattle.plai_sld.specs.declared.item.Item.TheVariants.{Call, Builtin, Mark}
use Rattle.plai_sld.specs.Limits.{past}
use Rattle.plai_sld.specs.Runs.{item_under, items_under, goal_at, goals_of, behind_head, behind_builtin}
use Rattle.plai_sld.specs.States.{IsItem, AreItems, IsState}
use Rattle.plai_sld.proofs.Local.{raised_below}
use Rattle.plai_sld.proofs.Above.{past_le, past_brought}
use Rattle.plai_sld.proofs.Formed.{are_below}

-- a substitution that brings only variables below m for those below n
module _ (f : ℕ → Term) (n m : ℕ) (le : n ≤ m) (brought : (v : ℕ) → v < n → IsBelow m (f v)) where
  pub terms_brought : (ts : List Term) → AreBelow n ts → AreBelow m (map (under f) ts)
  terms_brought ts below w o =
      let (u, a, b) = source_in f w ts o in
      brought u (below u a) w b

  item_brought : (x : Item) → IsItem n x → IsItem m (item_under f x)
  item_brought (Call pred args) (many, below) = (length-map args (under f) ∙ many, terms_brought args below)
  item_brought (Builtin name args) below = terms_brought args below
  item_brought (Mark pred was now) (many, many', below, below') = (
    many,
    length-map now (under f) ∙ many',
    λ v o. let l : v < n = below v o in omega arith,
    terms_brought now below',
  )

  pub items_brought : (xs : List Item) → AreItems n xs → AreItems m (items_under f xs)
  items_brought [] h = tt
  items_brought (x ∷ xs) (h, k) = (item_brought x h, items_brought xs k)

-- a renamed body
module _ (c : Clause) (n : ℕ) where
  goal_renamed : (l : Literal) (t : Target) → AreBelow c.variables l.args → IsTargetOf l.name (length l.args) t
      → IsItem (n + c.variables) (goal_at (raised n) l t)
  goal_renamed l (target.Pred q) below h = (length-map l.args (under (raised n)) ∙ sym h.2, raised_below n c.variables l.args below)
  goal_renamed l target.Builtin below h = raised_below n c.variables l.args below

  goals_renamed : (ls : List Literal) → ((l : Literal) → IsIn l ls → IsLiteral (length c.head) c.variables l)
      → AreItems (n + c.variables) (goals_of (raised n) ls)
  goals_renamed [] h = tt
  goals_renamed (l ∷ ls) h =
      let k : IsLiteral (length c.head) c.variables l = h l (inl refl) in
      (goal_renamed l l.target (are_below c.variables l.args k.args.below) k.target, goals_renamed ls (λ x i. h x (inr i)))

both_items : (n : ℕ) (xs ys : List Item) → AreItems n xs → AreItems n ys → AreItems n (xs ++ ys)
both_items n [] ys h k = k
both_items n (x ∷ xs) ys (h, i) k = (h, both_items n xs ys i k)

pub items_later : (n m : ℕ) → n ≤ m → (xs : List Item) → AreItems n xs → AreItems m xs
items_later n m le [] h = tt
items_later n m le (Call pred args ∷ xs) ((many, below), k) = ((many, λ v o. let l : v < n = below v o in omega arith), items_later n m le xs k)
items_later n m le (Builtin name args ∷ xs) (below, k) = (λ v o. let l : v < n = below v o in omega arith, items_later n m le xs k)
items_later n m le (Mark pred was now ∷ xs) ((many, many', below, below'), k) =
    ((many, many', λ v o. let l : v < n = below v o in omega arith, λ v o. let l : v < n = below' v o in omega arith), items_later n m le xs k)

-- behind a head
pub head_state : (pred : PredKey) (args : List Term) (rest : List Item) (n : ℕ) (c : Clause) (s : Bindings) → IsWellFormedClause c
    → length c.head ≡ pred.arity → length args ≡ pred.arity
    → AreBelow n args → AreItems n rest → UnifiesTo (map (under (raised n)) c.head) args (Unified s) → IsState (behind_head pred args rest n c s)
head_state pred args rest n c s good arity many below others h =
    let m : ℕ = n + c.variables in
    let u : IsMostGeneral (map (under (raised n)) c.head) args s =
    unifier (map (under (raised n)) c.head) args s (length-map c.head (under (raised n)) ∙ arity ∙ sym many) h in
    let brought : (v : ℕ) → v < m → IsBelow m (bound_to s v) = λ v lt w o.
    elim (u.brings v w o) [
      | inl e ↦ omega arith
      | inr (inl e) ↦ raised_below n c.variables c.head (are_below c.variables c.head good.head.below) w e
      | inr (inr e) ↦ let a : w < n = below w e in omega arith
    ] in
    let le : n ≤ m = omega arith in
    let args_later : AreBelow m args = λ v o. let l : v < n = below v o in omega arith in
    items_brought (bound_to s) m m (omega arith) brought (goals_of (raised n) c.body ++ Mark pred args args ∷ rest)
    (both_items m (goals_of (raised n) c.body) (Mark pred args args ∷ rest) (goals_renamed c n c.body good.body)
    ((many, many, args_later, args_later), items_later n m le rest others))

pub builtin_state : (rest : List Item) (n : ℕ) (s : Bindings) → AreItems n rest → IsState (behind_builtin rest n s)
builtin_state rest n s h = items_brought (bound_to s) n (past n s) (past_le n s) (past_brought n s) rest h
