-- Under terms cut at a depth, what the operations give at a program's clauses are patterns over the program's signature.
use Rattle.std.proofs.Common.{◌≡◌, ℕ, true, List, [], ◌∷◌, length, Option, Some, None, refl, ap, subst, inl, inr}
use Rattle.std.specs.List.{flat_map}
use Rattle.plai_theory.specs.Words.{IsIn}
use Rattle.plai_theory.specs.Domain.{Step, Goal, Do, Name}
use Rattle.plai_theory.specs.LeastTable.{Row, Order, IsLeastTable}
use Rattle.plai_theory.specs.Rounds.{IsAsked, IsMade}
use Rattle.plai_theory.proofs.Options.{by_test}
use Rattle.plai_theory.proofs.Rounds.{map_in}
use Rattle.plai_terms.specs.declared.term.Term.{Term}
use Rattle.plai_terms.specs.declared.skeleton.Skeleton.{Skeleton}
use Rattle.plai_terms.specs.declared.abs.Abs.{Abs}
use Rattle.plai_terms.specs.declared.abs.Abs.TheVariants.{Terms}
use Rattle.plai_terms.specs.declared.pred_key.PredKey.{PredKey}
use Rattle.plai_domain.specs.declared.action.Action.{Action}
use Rattle.plai_domain.specs.Plain.{StateView}
use Rattle.plai_clauses.specs.declared.clause.Clause.{Clause}
use Rattle.plai_clauses.specs.declared.clause.Literal.{Literal}
use Rattle.plai_clauses.specs.declared.clause.Target.{Target}
use Rattle.plai_clauses.specs.declared.clause.Target.TheVariants.{Pred, Builtin}
use Rattle.plai_clauses.specs.declared.definition.Definition.{Definition}
use Rattle.plai_clauses.specs.Program.{ProgramView, same_pred, clauses_in, clauses_of, entries_of}
use Rattle.plai_builtins.specs.Actions.{actions_of}
use Rattle.plai_eval.specs.Meaning.{Calling, Acting, actions_then, literal_then, steps_of, row_name, as_domain, as_program}
use Rattle.plai_eval.proofs.Names.{same_name-true}
use Rattle.plai_depth_laws.specs.DepthK.{skeletons_of, state_with, state_from, depth_k}
use Rattle.plai_depth_laws.specs.Operations.{describe_of, pulled, join_of, enter_of, refine_of}
use Rattle.plai_depth_laws.specs.Moves.{push_all}
use Rattle.plai_depth_symbols.specs.Symbols.{Symbol, term_symbols, literal_symbols, clause_symbols, definition_symbols, signature_of}
use Rattle.plai_depth_symbols.specs.Patterns.{skeleton_symbols, IsPatternOver}
use Rattle.plai_depth_symbols.specs.Kept.{IsKept}
use Rattle.plai_depth_symbols.proofs.Kept.{made_kept, asked_kept, least_kept}
use Rattle.plai_depth_symbols.proofs.Symbols.{in_first, in_second, in_part, Over, AllOver}
use Rattle.plai_depth_symbols.proofs.Moves.{TermsOver, pulled_over, pushes_over, describe_over, enter_over, join_over, refine_over}

-- ---- the arguments of the steps of a body are those of its literals

-- a literal of the body with these arguments
abbrev HasArguments : List Literal → List Term → Type 0
HasArguments body args = (literal : Literal) × IsIn literal body × (literal.args ≡ args)

abbrev args_of : Step Calling Acting → List Term
args_of (Goal l) = l.args
args_of (Do x) = x.args

-- the step is one of these actions, or stands behind
actions_from : {P : Type 0} (args : List Term) (xs : List Action) (rest : List (Step Calling Acting)) (x : Step Calling Acting)
    → IsIn x (actions_then args xs rest)
    → (args ≡ args_of x → P) → (IsIn x rest → P) → P
actions_from args [] rest x i here next = next i
actions_from args (y ∷ ys) rest x (inl e) here next = here (ap args_of e)
actions_from args (y ∷ ys) rest x (inr i) here next = actions_from args ys rest x i here next

step_from : (body : List Literal) (x : Step Calling Acting) → IsIn x (steps_of body) → HasArguments body (args_of x)
step_from [] x i = absurd i
step_from (literal ∷ body) x i = at literal.target i (λ j. later (step_from body x j))
  where
    here : literal.args ≡ args_of x → HasArguments (literal ∷ body) (args_of x)
    here e = (literal, inl refl, e)

    later : HasArguments body (args_of x) → HasArguments (literal ∷ body) (args_of x)
    later (l, j, e) = (l, inr j, e)

    at : (t : Target) → IsIn x (literal_then literal t (steps_of body)) → (IsIn x (steps_of body) → HasArguments (literal ∷ body) (args_of x))
        → HasArguments (literal ∷ body) (args_of x)
    at (Pred k) (inl e) next = here (ap args_of e)
    at (Pred k) (inr j) next = next j
    at Builtin j next = actions_from literal.args (actions_of literal.name (length literal.args)) (steps_of body) x j here next

-- ---- the symbols of a program's clauses are of its signature

clause_in : (definitions : List Definition) (pred : PredKey) (clause : Clause) → IsIn clause (clauses_in definitions pred)
    → (x : Symbol) → IsIn x (clause_symbols clause) → IsIn x (flat_map definition_symbols definitions)
clause_in [] pred clause i x j = absurd i
clause_in (d ∷ definitions) pred clause i x j =
    by_test (same_pred d.pred pred)
    (λ t.
    let here : IsIn clause d.clauses = rw t at i in
    in_first x (definition_symbols d) (flat_map definition_symbols definitions) (in_part clause_symbols x clause d.clauses here j))
    (λ t.
    let later : IsIn clause (clauses_in definitions pred) = rw t at i in
    in_second x (definition_symbols d) (flat_map definition_symbols definitions) (clause_in definitions pred clause later x j))

terms_over : (signature : List Symbol) (terms : List Term) → ((x : Symbol) → IsIn x (flat_map term_symbols terms) → IsIn x signature)
    → TermsOver signature terms
terms_over signature [] h = tt
terms_over signature (t ∷ terms) h = (
  λ x i. h x (in_first x (term_symbols t) (flat_map term_symbols terms) i),
  terms_over signature terms (λ x i. h x (in_second x (term_symbols t) (flat_map term_symbols terms) i)),
)

-- ---- patterns and their skeletons

module _ (signature : List Symbol) where
  each_over : (ss : List Skeleton) → AllOver signature ss → (s : Skeleton) → IsIn s ss → (x : Symbol) → IsIn x (skeleton_symbols s) → IsIn x signature
  each_over [] h s i = absurd i
  each_over (t ∷ ss) h s (inl e) = subst (Over signature) e h.0
  each_over (t ∷ ss) h s (inr i) = each_over ss h.1 s i

  all_over : (ss : List Skeleton) → ((s : Skeleton) → IsIn s ss → Over signature s) → AllOver signature ss
  all_over [] h = tt
  all_over (s ∷ ss) h = (h s (inl refl), all_over ss (λ t i. h t (inr i)))

  pub pattern_over : (ss : List Skeleton) → AllOver signature ss → IsPatternOver signature (Terms ss)
  pattern_over ss h = record { terms = refl; over = each_over ss h }

  pub skeletons_over : (a : Abs) → IsPatternOver signature a → AllOver signature (skeletons_of a)
  skeletons_over a h = all_over (skeletons_of a) h.over

  -- a state made of skeletons over the signature
  state_over : (n v : ℕ) (o : Option (List Skeleton)) (s : StateView) → state_from n v o ≡ Some s
      → ((ss : List Skeleton) → o ≡ Some ss → AllOver signature ss)
      → IsPatternOver signature s.abs
  state_over n v None s e h = absurd cc
  state_over n v (Some ss) s e h =
      let is : state_with n v ss ≡ s = cc in
      subst (λ (s : StateView). IsPatternOver signature s.abs) is (pattern_over ss (h ss refl))

-- ---- the operations

module _ (k : ℕ) (program : ProgramView) where
  abbrev signature : List Symbol
  signature = signature_of program

  head_over : (pred : PredKey) (clause : Clause) → IsIn clause (clauses_of program pred) → TermsOver signature clause.head
  head_over pred clause i =
      terms_over signature clause.head (λ x j. clause_in program.definitions pred clause i x
      (in_first x (flat_map term_symbols clause.head) (flat_map literal_symbols clause.body) j))

  step_over : (pred : PredKey) (clause : Clause) → IsIn clause (clauses_of program pred) → (y : Step Calling Acting) → IsIn y (steps_of clause.body)
      → TermsOver signature (args_of y)
  step_over pred clause i y j =
      let (literal, inside, is) = step_from clause.body y j in
      subst (TermsOver signature) is
      (terms_over signature literal.args (λ x m. clause_in program.definitions pred clause i x
      (in_second x (flat_map term_symbols clause.head) (flat_map literal_symbols clause.body) (in_part literal_symbols x literal clause.body inside m))))

  entry_over : (pred : PredKey) (call : Abs)
      → IsIn (let x : Name PredKey Abs = record { pred = pred; call = call } in x) (as_program (depth_k k) program).entries → IsPatternOver signature call
  entry_over pred call i =
      map_in (λ (n : Name PredKey Abs). IsPatternOver signature n.call)
      (λ entry. record { pred = entry.pred; call = (depth_k k).describe entry.pred.arity entry.pre })
      (entries_of program) (record { pred = pred; call = call }) i
      (λ entry j. pattern_over signature (describe_of entry.pred.arity entry.pre) (describe_over signature entry.pred.arity entry.pre))

  -- Theorem: each operation gives patterns over the signature of patterns over it.
  pub operations_over : IsKept (as_domain (depth_k k)) (as_program (depth_k k) program) (λ pred call. IsPatternOver signature call)
      (λ clause s. IsPatternOver signature s.abs) (λ pred answer. IsPatternOver signature answer)
  operations_over = record {
    entries = entry_over;
    enter = λ pred clause call s i h e.
        state_over signature (length clause.head) clause.variables (enter_of clause.head clause.variables (skeletons_of call)) s e
        (λ ss f. enter_over signature clause.head clause.variables (skeletons_of call) ss (skeletons_over signature call h) f);
    call = λ pred clause l s i j h.
        pattern_over signature (pulled k l.args (skeletons_of s.abs))
        (pulled_over signature (skeletons_of s.abs) (skeletons_over signature s.abs h) k l.args (step_over pred clause i (Goal l) j));
    back = λ pred clause l s t a i j h m e.
        state_over signature s.arity s.variables (push_all l.args (skeletons_of a) (skeletons_of s.abs)) t e
        (λ ss f. pushes_over signature l.args (skeletons_of a) (skeletons_of s.abs) ss (skeletons_over signature s.abs h) (skeletons_over signature a m) f);
    refine = λ pred clause x s t i j h e.
        state_over signature s.arity s.variables (refine_of k x.args x.action (skeletons_of s.abs)) t e
        (λ ss f. refine_over signature k x.args x.action (skeletons_of s.abs) ss (step_over pred clause i (Do x) j) (skeletons_over signature s.abs h) f);
    exit = λ pred clause s i h.
        pattern_over signature (pulled k clause.head (skeletons_of s.abs))
        (pulled_over signature (skeletons_of s.abs) (skeletons_over signature s.abs h) k clause.head (head_over pred clause i));
    join = λ pred a b h m.
        pattern_over signature (join_of (skeletons_of a) (skeletons_of b))
        (join_over signature (skeletons_of a) (skeletons_of b) (skeletons_over signature a h));
  }

  pub names_equal : (x y : Name PredKey Abs) → (as_domain (depth_k k)).same_name x y ≡ true → x ≡ y
  names_equal x y e = let q = same_name-true (row_name x) (row_name y) e in λ i. record { pred = (q i).pred; call = (q i).call }

  -- Theorem: so are the calls and answers of rows that rounds make, and the calls of names that are asked for under them.
  pub rows_over : {rows : List (Row (as_domain (depth_k k)))} → IsMade (as_domain (depth_k k)) (as_program (depth_k k) program) rows
      → (r : Row (as_domain (depth_k k))) → IsIn r rows → IsPatternOver signature r.name.call × ((a : Abs) → r.answer ≡ Some a → IsPatternOver signature a)
  rows_over made r i =
      let row = made_kept (as_domain (depth_k k)) (as_program (depth_k k) program) _ _ _ operations_over names_equal made r i in (row.call, row.answer)

  pub asked_over : (rows : List (Row (as_domain (depth_k k)))) → IsMade (as_domain (depth_k k)) (as_program (depth_k k) program) rows
      → (x : Name PredKey Abs) → IsAsked (as_domain (depth_k k)) (as_program (depth_k k) program) rows x → IsPatternOver signature x.call
  asked_over rows made x ask =
      asked_kept (as_domain (depth_k k)) (as_program (depth_k k) program) _ _ _ operations_over names_equal rows
      (made_kept (as_domain (depth_k k)) (as_program (depth_k k) program) _ _ _ operations_over names_equal made) x ask

  -- Theorem: so are the calls and answers of the least table.
  pub least_over : (before : Order (as_domain (depth_k k))) (rows : List (Row (as_domain (depth_k k))))
      → IsLeastTable (as_domain (depth_k k)) (as_program (depth_k k) program) before rows
      → (r : Row (as_domain (depth_k k))) → IsIn r rows → IsPatternOver signature r.name.call × ((a : Abs) → r.answer ≡ Some a → IsPatternOver signature a)
  least_over before rows least r i =
      let row = least_kept (as_domain (depth_k k)) (as_program (depth_k k) program) _ _ _ operations_over before rows least r i in (row.call, row.answer)
