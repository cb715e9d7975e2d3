-- What the code makes of a goal is the state behind the step.
use Rattle.std.proofs.Common.{◌≡◌, inl, inr, ℕ, ◌+◌, List, [], ◌∷◌, ◌++◌, map, length, take, reverse, refl, sym, ap, subst, ◌∙◌, arith}
use Rattle.std.proofs.lemmas.List.{map-append, append_assoc, take_all}
use Rattle.plai_theory.specs.Words.{IsIn}
use Rattle.plai_terms.specs.Subst.{bound_to}
use Rattle.plai_terms.specs.declared.term.Term.{Term}
use Rattle.plai_terms.specs.declared.pred_key.PredKey.{PredKey}
use Rattle.plai_terms.specs.declared.outcome.Outcome.{Outcome}
use Rattle.plai_terms.specs.Substitution.{under, raised, AreBelow}
use Rattle.plai_terms.specs.Unification.{Bindings, UnifiesTo}
use Rattle.plai_clauses.specs.declared.clause.Clause.{Clause}
use Rattle.plai_clauses.specs.declared.clause.Literal.{Literal}
use Rattle.plai_clauses.specs.declared.clause.Target.{Target}
use Rattle.plai_clauses.specs.declared.clause.Target.TheVariants as target
use Rattle.plai_clauses.specs.Program.{ProgramView}
use Rattle.plai_clauses.specs.WellFormed.{IsLiteral, IsWellFormedClause, IsWellFormed}
use Rattle.plai_sld.specs.declared.item.Item.{Item}
use Rattle.plai_sld.specs.declared.item.Item.TheVariants.{Call, Builtin, Mark}
use Rattle.plai_sld.specs.declared.pending.Pending.{Pending}
use Rattle.plai_sld.specs.declared.stack.Waiting.{Waiting}
use Rattle.plai_sld.specs.Limits.{limit_in, past}
use Rattle.plai_sld.specs.Renaming.{raising}
use Rattle.plai_sld.specs.Runs.{item_under, items_under, goal_at, goals_of, behind_head, behind_builtin, LeadsTo}
use Rattle.plai_sld.specs.Pending.{AreBoth}
use Rattle.plai_sld.specs.Stacks.{shown, limited, items_of, AreLimited, with_top, on_stack, IsChange, IsBrought}
use Rattle.plai_sld.specs.Nexts.{waiting_under}
use Rattle.plai_sld.specs.States.{AreItems, IsState}
use Rattle.plai_sld.proofs.Above.{limits_above}
use Rattle.plai_sld.proofs.Formed.{are_below}
use Rattle.plai_sld.proofs.Renaming.{raising_is}
use Rattle.plai_sld.proofs.Stacks.{items_both, shown-limited, limits_on, top_replaced}
use Rattle.plai_sld.proofs.Kept.{leads_to_state}

-- the first state, and its stack
pub start_state : (pred : PredKey) (args : List Term) (stack : List Waiting) (w : Waiting) (next : ℕ) (pred' : PredKey) (args' : List Term)
    → length args ≡ pred.arity → stack ≡ w ∷ [] → w.item ≡ Call pred' args'
    → pred' ≡ pred → args' ≡ args → next ≡ limit_in args → IsState (record { items = items_of stack; next = next }) × AreLimited (reverse stack)
start_state pred args stack w next pred' args' many are is p a n =
    let item : w.item ≡ Call pred args = is ∙ (λ i. Call (p i) (a i)) in
    let one : AreItems next (w.item ∷ []) =
    subst (λ x. AreItems next (x ∷ [])) (sym item) (subst (λ m. AreItems m (Call pred args ∷ [])) (sym n) ((many, limits_above args), tt)) in
    (subst (λ ws. AreItems next (items_of ws)) (sym are) one, subst (λ ws. AreLimited (reverse ws)) (sym are) (tt, tt))

-- what waits, and then a substitution, is brought to the stack
pub brought_both : (waits s both : Bindings) (limit : ℕ) (stack : List Waiting) (count : ℕ) (top : List Waiting) → AreItems limit (items_of stack)
    → AreBoth waits s limit both → IsBrought both stack count top
    → shown (with_top stack count top) ≡ items_under (bound_to s) (waiting_under waits stack)
brought_both waits s both limit stack count top below h brought =
    brought.items ∙ items_both (bound_to waits) (bound_to s) (bound_to both) limit h (items_of stack) below

-- behind a builtin
pub builtin_is : (waits s both pairs : Bindings) (limit n next : ℕ) (stack : List Waiting) (count : ℕ) (top : List Waiting) → AreItems limit (items_of stack)
    → AreBoth waits s limit both → IsBrought both stack count top → pairs ≡ s
    → next ≡ past n pairs → IsChange stack count top next × (on_stack stack count top next ≡ behind_builtin (waiting_under waits stack) n s)
builtin_is waits s both pairs limit n next stack count top below h brought same is =
    let whole : shown (with_top stack count top) ≡ items_under (bound_to s) (waiting_under waits stack) =
    brought_both waits s both limit stack count top below h brought in
    let number : next ≡ past n s = is ∙ ap (past n) same in
    ((brought.bound, λ k. brought.limits), λ i. record { items = whole i; next = number i })

module _ (c : Clause) (good : IsWellFormedClause c) (n : ℕ) (r : Bindings) (is : r ≡ raising n c.variables) where
  -- the renamed head
  pub head_renamed : (head : List Term) → head ≡ map (under (bound_to r)) c.head → head ≡ map (under (raised n)) c.head
  head_renamed head e = e ∙ ap (λ s. map (under (bound_to s)) c.head) is ∙ raising_is n c.variables c.head (are_below c.variables c.head good.head.below)

  goal_renamed : (l : Literal) (t : Target) → AreBelow c.variables l.args → goal_at (bound_to (raising n c.variables)) l t ≡ goal_at (raised n) l t
  goal_renamed l (target.Pred q) below = ap (Call q) (raising_is n c.variables l.args below)
  goal_renamed l target.Builtin below = ap (Builtin l.name) (raising_is n c.variables l.args below)

  goals_renamed : (ls : List Literal) → ((l : Literal) → IsIn l ls → IsLiteral (length c.head) c.variables l)
      → goals_of (bound_to (raising n c.variables)) ls ≡ goals_of (raised n) ls
  goals_renamed [] h = refl
  goals_renamed (l ∷ ls) h =
      let p = goal_renamed l l.target (are_below c.variables l.args (h l (inl refl)).args.below) in
      let q = goals_renamed ls (λ x i. h x (inr i)) in
      cc

  module _ (pred : PredKey) (args : List Term) (rest : List Item) (s : Bindings) where
    -- what stands behind the head
    pub behind_is : (literals : List Literal) (begin goals marked after : List Item) (pred' : PredKey) (was now : List Term) → literals ≡ c.body → begin ≡ []
        → goals ≡ begin ++ items_under (bound_to s) (goals_of (bound_to r) literals)
        → pred' ≡ pred → was ≡ args → now ≡ map (under (bound_to s)) args → marked ≡ goals ++ Mark pred' was now ∷ []
        → after ≡ marked ++ items_under (bound_to s) rest
        → after ≡ (behind_head pred args rest n c s).items
    behind_is literals begin goals marked after pred' was now all none made p w e m a =
        let body : List Item = goals_of (raised n) c.body in
        let goals_are : goals ≡ items_under (bound_to s) body =
        made ∙ ap (λ ls. begin ++ items_under (bound_to s) (goals_of (bound_to r) ls)) all
        ∙ ap (λ xs. xs ++ items_under (bound_to s) (goals_of (bound_to r) c.body)) none
        ∙ ap (λ t. items_under (bound_to s) (goals_of (bound_to t) c.body)) is
        ∙ ap (items_under (bound_to s)) (goals_renamed c.body good.body) in
        let mark : Item = Mark pred args (map (under (bound_to s)) args) in
        let mark_is : Mark pred' was now ≡ mark = λ i. Mark (p i) (w i) (e i) in
        a
        ∙ ap (λ xs. xs ++ items_under (bound_to s) rest)
        (m ∙ ap (λ xs. xs ++ Mark pred' was now ∷ []) goals_are ∙ ap (λ x. items_under (bound_to s) body ++ x ∷ []) mark_is)
        ∙ append_assoc (items_under (bound_to s) body) (mark ∷ []) (items_under (bound_to s) rest)
        ∙ sym (map-append (item_under (bound_to s)) body (Mark pred args args ∷ rest))

-- the stack where goals and another item stand in the place of the front
module _ (stack top marked : List Waiting) (goals : List Item) (w : Waiting) (next count : ℕ) (are : top ≡ limited next goals) (e : marked ≡ top ++ w ∷ [])
    (many : count ≡ length stack) where
  whole : with_top stack count marked ≡ limited next goals ++ (w ∷ reverse stack)
  whole =
      ap (λ ws. marked ++ reverse ws) (take_all count stack (omega arith)) ∙ ap (λ ws. ws ++ reverse stack) (e ∙ ap (λ ws. ws ++ w ∷ []) are)
      ∙ append_assoc (limited next goals) (w ∷ []) (reverse stack)

  pub clause_change : AreItems w.below.limit (items_of stack) → AreLimited (reverse stack) → IsChange stack count marked next
  clause_change below limits = (
    omega arith,
    λ h.
        subst (λ ws. AreLimited ws) (sym whole)
        (limits_on next goals (w ∷ reverse stack) (subst (λ xs. AreItems next xs) (ap shown whole ∙ shown-limited next goals (w ∷ reverse stack)) h)
        (below, limits)),
  )

  pub clause_items : (waits s : Bindings) → AreItems w.below.limit (items_of stack) → AreBoth waits s w.below.limit w.below.bindings
      → shown (with_top stack count marked) ≡ (goals ++ w.item ∷ []) ++ items_under (bound_to s) (waiting_under waits stack)
  clause_items waits s below both =
      ap shown whole
      ∙ shown-limited next goals (w ∷ reverse stack)
      ∙ ap (λ xs. goals ++ w.item ∷ xs) (items_both (bound_to waits) (bound_to s) (bound_to w.below.bindings) w.below.limit both (items_of stack) below)
      ∙ sym (append_assoc goals (w.item ∷ []) (items_under (bound_to s) (waiting_under waits stack)))

-- the stack behind a head
pub clause_top_is : (c : Clause) (good : IsWellFormedClause c) (n : ℕ) (r : Bindings) → r ≡ raising n c.variables
    → (pred : PredKey) (args : List Term) (waits s : Bindings) (stack top marked : List Waiting) (literals : List Literal) (goals : List Item)
    (below : Pending) (pred' : PredKey) (was now : List Term) (count limit : ℕ) → literals ≡ c.body
    → goals ≡ items_under (bound_to s) (goals_of (bound_to r) literals) → top ≡ limited (n + c.variables) goals
    → marked ≡ top ++ record { item = Mark pred' was now; below = below } ∷ [] → count ≡ length stack → pred' ≡ pred → was ≡ args
    → now ≡ map (under (bound_to s)) args → below.limit ≡ limit → AreBoth waits s limit below.bindings
    → AreItems limit (items_of stack) → AreLimited (reverse stack)
    → IsChange stack count marked (n + c.variables) × (shown (with_top stack count marked) ≡ (behind_head pred args (waiting_under waits stack) n c s).items)
clause_top_is c good n r is pred args waits s stack top marked literals goals below pred' was now count limit all made are e many p a m same both items limits =
    let w : Waiting = record { item = Mark pred' was now; below = below } in
    let next : ℕ = n + c.variables in
    let rest : List Item = waiting_under waits stack in
    let items' : AreItems below.limit (items_of stack) = subst (λ l. AreItems l (items_of stack)) (sym same) items in
    let both' : AreBoth waits s below.limit below.bindings = subst (λ l. AreBoth waits s l below.bindings) (sym same) both in
    let after = clause_items stack top marked goals w next count are e many waits s items' both' in (
      clause_change stack top marked goals w next count are e many items' limits,
      behind_is c good n r is pred args rest s literals [] goals (goals ++ Mark pred' was now ∷ []) (shown (with_top stack count marked)) pred' was now all
          refl made p a m refl after,
    )

-- the outcome of a head that is renamed by the bindings
pub unified_head : (head heads args : List Term) (o : Outcome) → head ≡ heads → UnifiesTo head args o → UnifiesTo heads args o
unified_head head heads args o e h = subst (λ hs. UnifiesTo hs args o) e h

-- The state behind a step that leaves so many items of the stack, and what its stack keeps.
module _ (program : ProgramView) (formed : IsWellFormed program) (stack after : List Waiting) (n choice count : ℕ) (top : List Waiting) (next : ℕ)
    (state : AreItems n (items_of stack)) (change : IsChange stack count top next)
    (leads : LeadsTo program (items_of stack) n choice (on_stack stack count top next)) (is : after ≡ take count stack ++ reverse top) where
  reversed : reverse after ≡ with_top stack count top
  reversed = top_replaced stack after count top is

  whole_after : AreItems next (shown (with_top stack count top))
  whole_after = leads_to_state program formed (items_of stack) n choice (on_stack stack count top next) state leads

  pub state_after : IsState (record { items = items_of after; next = next }) × AreLimited (reverse after)
  state_after = (subst (λ ws. AreItems next (shown ws)) (sym reversed) whole_after, subst (λ ws. AreLimited ws) (sym reversed) (change.1 whole_after))

  pub step_after : LeadsTo program (items_of stack) n choice (record { items = items_of after; next = next })
  step_after = subst (λ ws. LeadsTo program (items_of stack) n choice (record { items = shown ws; next = next })) (sym reversed) leads
