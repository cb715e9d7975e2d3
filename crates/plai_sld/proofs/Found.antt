-- What a goal comes to is what its list comes to.
use Rattle.std.proofs.Common.{◌≡◌, ◌≢◌, ◌+◌, ℕ, false, nat_lt, Option, Some, None, List, [], ◌∷◌, ◌++◌, length, take, reverse, refl, sym, ap, subst, ◌∙◌, arith}
use Rattle.std.proofs.lemmas.List.{length_push, take-append-le}
use Rattle.plai_terms.specs.declared.term.Term.{Term}
use Rattle.plai_terms.specs.declared.pred_key.PredKey.{PredKey}
use Rattle.plai_terms.specs.declared.outcome.Outcome.TheVariants.{Unified}
use Rattle.plai_terms.specs.Unification.{Bindings}
use Rattle.plai_clauses.specs.declared.clause.Clause.{Clause}
use Rattle.plai_clauses.specs.Program.{ProgramView, clauses_of}
use Rattle.plai_sld.specs.declared.item.Item.{Item}
use Rattle.plai_sld.specs.declared.item.Item.TheVariants.{Call}
use Rattle.plai_sld.specs.declared.stepped.Stepped.{Stepped}
use Rattle.plai_sld.specs.declared.stepped.Stepped.TheVariants.{Moved, NoClause, Clash}
use Rattle.plai_sld.specs.declared.stack.Waiting.{Waiting}
use Rattle.plai_sld.specs.declared.run.Next.{Next}
use Rattle.plai_sld.specs.declared.run.Next.TheVariants.{Stays, Goes}
use Rattle.plai_sld.specs.Runs.{numbered_clause, LeadsTo}
use Rattle.plai_sld.specs.Stacks.{shown, items_of, AreLimited}
use Rattle.plai_sld.specs.States.{AreItems}
use Rattle.plai_sld.specs.Steps.{greatest_number, AnswersHead, Within, AnswersAt}
use Rattle.plai_sld.specs.Nexts.{waiting_under, IsNextWith, IsNextAtCall, IsNext}
use Rattle.plai_sld.proofs.Stacks.{front_is}

unmoved : (stepped other : Stepped) → other ≢ Moved → stepped ≡ other → stepped ≢ Moved
unmoved stepped other h e k = h (sym e ∙ k)

module _ (program : ProgramView) (pred : PredKey) (args : List Term) (waits : Bindings) (stack : List Waiting) (n choice : ℕ)
    (few : nat_lt greatest_number n ≡ false) where
  abbrev Rest : List Item
  Rest = waiting_under waits stack

  within : (o : Option Clause) (stepped : Stepped) → numbered_clause (clauses_of program pred) choice ≡ o → AnswersHead args n o stepped
      → AnswersAt program (Call pred args ∷ Rest) n choice stepped
  within o stepped is h = subst (λ b. Within b stepped (AnswersHead args n (numbered_clause (clauses_of program pred) choice) stepped)) (sym few)
      (subst (λ x. AnswersHead args n x stepped) (sym is) h)

  with_clause : (o : Option Clause) (next : Next) → numbered_clause (clauses_of program pred) choice ≡ o → IsNextWith o pred args waits stack n next
      → IsNext program (Call pred args ∷ Rest) stack n choice next
  with_clause None (Stays stepped) is h = let e : stepped ≡ NoClause = cc in
      (within None stepped is e, unmoved stepped NoClause (λ (k : NoClause ≡ Moved). cc) e)
  with_clause None (Goes count top after) is h = absurd cc
  with_clause (Some c) (Stays stepped) is (e, o, u, a) = (within (Some c) stepped is (o, u, e ∙ sym a), unmoved stepped Clash (λ (k : Clash ≡ Moved). cc) e)
  with_clause (Some c) (Goes count top after) is (change, s, u, e) = (change, within (Some c) Moved is (Unified s, u, refl), (c, is, s, u, e))

  pub at_call : (items : List Item) (next : Next) → items ≡ Call pred args ∷ Rest → IsNextAtCall program pred args waits stack n choice next
      → IsNext program items stack n choice next
  at_call items next e h = subst (λ xs. IsNext program xs stack n choice next) (sym e)
      (with_clause (numbered_clause (clauses_of program pred) choice) next refl h)

-- what the front and the rest of a stack come to is what the stack comes to
pub on_stack_of : (program : ProgramView) (stack rest : List Waiting) (w : Waiting) (n choice : ℕ) (next : Next) → stack ≡ rest ++ w ∷ []
    → IsNext program (w.item ∷ waiting_under w.below.bindings rest) rest n choice next
    → IsNext program (items_of stack) stack n choice next
on_stack_of program stack rest w n choice next is h =
    subst (λ xs. IsNext program xs stack n choice next) (sym (front_is stack rest w is)) (moved next h)
  where
    moved : (next : Next) → IsNext program (w.item ∷ waiting_under w.below.bindings rest) rest n choice next
        → IsNext program (w.item ∷ waiting_under w.below.bindings rest) stack n choice next
    moved (Stays stepped) h = h
    moved (Goes count top after) ((le, keeps), answer, leads) =
        let longer : length stack ≡ length rest + 1 = ap length is ∙ length_push rest w in
        let same : take count rest ≡ take count stack = sym (ap (take count) is ∙ take-append-le count rest (w ∷ []) le) in (
          (omega arith, subst (λ ws. AreItems after (shown (top ++ reverse ws)) → AreLimited (top ++ reverse ws)) same keeps),
          answer,
          subst (λ ws. LeadsTo program (w.item ∷ waiting_under w.below.bindings rest) n choice
              (record { items = shown (top ++ reverse ws); next = after })) same leads,
        )

-- the same where the stack is read as this list
pub goes_on : (program : ProgramView) (read stack : List Waiting) (n choice count : ℕ) (top : List Waiting) (after : ℕ) (next : Next) → read ≡ stack
    → next ≡ Goes count top after → IsNext program (items_of read) read n choice next
    → IsNext program (items_of stack) stack n choice (Goes count top after)
goes_on program read stack n choice count top after next same is h =
    subst (λ ws. IsNext program (items_of ws) ws n choice (Goes count top after)) same (subst (λ x. IsNext program (items_of read) read n choice x) is h)
