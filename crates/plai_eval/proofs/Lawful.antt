-- A lawful domain at a well formed program meets what the theory of stages and tables asks.
use Rattle.std.proofs.Common.{◌≡◌, ◌⊎◌, ℕ, List, [], ◌∷◌, length, sym, refl, ap, subst, inl, inr}
use Rattle.plai_theory.specs.Words.{IsIn}
use Rattle.plai_theory.specs.Domain.{Step, Goal, Do, Name}
use Rattle.plai_theory.specs.Domain as theory
use Rattle.plai_theory.specs.Limits as limits
use Rattle.plai_theory.proofs.Rounds.{map_in}
use Rattle.plai_terms.specs.declared.term.Term.{Term}
use Rattle.plai_terms.specs.declared.abs.Abs.{Abs}
use Rattle.plai_terms.specs.declared.pred_key.PredKey.{PredKey}
use Rattle.plai_domain.specs.declared.action.Action.{Action}
use Rattle.plai_domain.specs.Plain.{PlainDomain}
use Rattle.plai_domain.specs.Instances.{acts_within}
use Rattle.plai_domain.specs.Conditions.{AreArguments}
use Rattle.plai_domain.specs.Laws.{IsLawful}
use Rattle.plai_clauses.specs.declared.clause.Clause.{Clause}
use Rattle.plai_clauses.specs.declared.clause.Literal.{Literal}
use Rattle.plai_clauses.specs.declared.clause.Target.{Target}
use Rattle.plai_clauses.specs.declared.clause.Target.TheVariants.{Pred, Builtin}
use Rattle.plai_clauses.specs.Program.{ProgramView, clauses_of, entries_of}
use Rattle.plai_clauses.specs.WellFormed.{IsTargetOf, IsLiteral, IsWellFormed}
use Rattle.plai_builtins.specs.Actions.{actions_of}
use Rattle.plai_builtins.proofs.Tables.{actions_within}
use Rattle.plai_eval.specs.Meaning.{Calling, Acting, actions_then, literal_then, steps_of, row_name, as_domain, as_limits, as_program}
use Rattle.plai_eval.proofs.Names.{same_name-true, same_name-refl}

abbrev goal_of : Calling → Step Calling Acting → Calling
goal_of other (Goal l) = l
goal_of other (Do x) = other

abbrev act_of : Acting → Step Calling Acting → Acting
act_of other (Goal l) = other
act_of other (Do x) = x

-- actions bring no call
goal_behind : (args : List Term) (xs : List Action) (rest : List (Step Calling Acting)) (l : Calling) → IsIn (Goal l) (actions_then args xs rest)
    → IsIn (Goal l) rest
goal_behind args [] rest l i = i
goal_behind args (x ∷ xs) rest l (inl e) = cc
goal_behind args (x ∷ xs) rest l (inr i) = goal_behind args xs rest l i

-- an action among them is one of theirs or stands behind
act_behind : (args : List Term) (xs : List Action) (rest : List (Step Calling Acting)) (x : Acting) → IsIn (Do x) (actions_then args xs rest)
    → ((x.args ≡ args) × IsIn x.action xs) ⊎ IsIn (Do x) rest
act_behind args [] rest x i = inr i
act_behind args (y ∷ ys) rest x (inl e) =
    let k : (let a : Acting = record { args = args; action = y } in a) ≡ x = ap (act_of x) e in
    inl (ap (λ (a : Acting). a.args) (sym k), inl (ap (λ (a : Acting). a.action) k))
act_behind args (y ∷ ys) rest x (inr i) = further (act_behind args ys rest x i)
  where
    further : ((x.args ≡ args) × IsIn x.action ys) ⊎ IsIn (Do x) rest → ((x.args ≡ args) × IsIn x.action (y ∷ ys)) ⊎ IsIn (Do x) rest
    further (inl (e, j)) = inl (e, inr j)
    further (inr j) = inr j

-- a call within a well formed body
pub record IsCall (n v : ℕ) (l : Calling) : Type 0 where
  pub args : AreArguments n v l.args
  pub arity : length l.args ≡ l.pred.arity

pub record IsAct (n v : ℕ) (x : Acting) : Type 0 where
  pub args : AreArguments n v x.args
  pub within : acts_within (length x.args) x.action

abbrev AreLiterals : ℕ → ℕ → List Literal → Type 0
AreLiterals n v body = (literal : Literal) → IsIn literal body → IsLiteral n v literal

pub call_in : (n v : ℕ) (body : List Literal) → AreLiterals n v body → (l : Calling) → IsIn (Goal l) (steps_of body) → IsCall n v l
call_in n v [] good l i = absurd i
call_in n v (literal ∷ body) good l i = at literal.target (good literal (inl refl)).target i (call_in n v body (λ b j. good b (inr j)) l)
  where
    at : (t : Target) → IsTargetOf literal.name (length literal.args) t → IsIn (Goal l) (literal_then literal t (steps_of body))
        → (IsIn (Goal l) (steps_of body) → IsCall n v l) → IsCall n v l
    at (Pred k) (no', is, arity) (inl e) next = subst (IsCall n v) (ap (goal_of l) e) (record { args = (good literal (inl refl)).args; arity = sym arity })
    at (Pred k) (no', is, arity) (inr j) next = next j
    at Builtin yes' j next = next (goal_behind literal.args (actions_of literal.name (length literal.args)) (steps_of body) l j)

pub act_in : (n v : ℕ) (body : List Literal) → AreLiterals n v body → (x : Acting) → IsIn (Do x) (steps_of body) → IsAct n v x
act_in n v [] good x i = absurd i
act_in n v (literal ∷ body) good x i = at literal.target i (act_in n v body (λ b j. good b (inr j)) x)
  where
    own : x.args ≡ literal.args → IsIn x.action (actions_of literal.name (length literal.args)) → IsAct n v x
    own e j = record {
      args = subst (AreArguments n v) (sym e) (good literal (inl refl)).args;
      within = subst (λ (ts : List Term). acts_within (length ts) x.action) (sym e) (actions_within literal.name (length literal.args) x.action j);
    }

    either : ((x.args ≡ literal.args) × IsIn x.action (actions_of literal.name (length literal.args))) ⊎ IsIn (Do x) (steps_of body)
        → (IsIn (Do x) (steps_of body) → IsAct n v x) → IsAct n v x
    either (inl (e, j)) next = own e j
    either (inr j) next = next j

    at : (t : Target) → IsIn (Do x) (literal_then literal t (steps_of body)) → (IsIn (Do x) (steps_of body) → IsAct n v x) → IsAct n v x
    at (Pred k) (inl e) next = cc
    at (Pred k) (inr j) next = next j
    at Builtin j next = either (act_behind literal.args (actions_of literal.name (length literal.args)) (steps_of body) x j) next

module _ (p : PlainDomain) (laws : IsLawful p) (g : ProgramView) (good : IsWellFormed g) where
  calls_well : (k : PredKey) (c : Clause) (l : Calling) → IsIn c (clauses_of g k) → IsIn (Goal l) (steps_of c.body) → IsCall (length c.head) c.variables l
  calls_well k c l i j = call_in (length c.head) c.variables c.body (good.clauses k c i).body l j

  acts_well : (k : PredKey) (c : Clause) (x : Acting) → IsIn c (clauses_of g k) → IsIn (Do x) (steps_of c.body) → IsAct (length c.head) c.variables x
  acts_well k c x i j = act_in (length c.head) c.variables c.body (good.clauses k c i).body x j

  -- an order of the predicate's arity is one of the head's length
  at_head : (k : PredKey) (c : Clause) (v w : Abs) → IsIn c (clauses_of g k) → p.Leq k.arity v w → p.Leq (length c.head) v w
  at_head k c v w i h = subst (λ n. p.Leq n v w) (sym (good.arities k c i)) h

  -- Theorem: the theory's laws hold.
  pub lawful_at : theory.IsLawful (as_domain p) (as_program p g)
  lawful_at =
      record {
        trans = λ {p = k} {a} {b} {c} h i. laws.ordered.trans k.arity a b c h i;
        antisym = λ {p = k} {a} {b} h i. laws.ordered.antisym k.arity a b h i;
        left = λ {p = k} {a} {b} h. laws.ordered.left k.arity a b h;
        right = λ {p = k} {a} {b} h. laws.ordered.right k.arity a b h;
        join_first = λ {p = k} {a} {b} h i. laws.ordered.join_first k.arity a b h i;
        join_second = λ {p = k} {a} {b} h i. laws.ordered.join_second k.arity a b h i;
        join_least = λ {p = k} {a} {b} {c} h i. laws.ordered.join_least k.arity a b c h i;
        enter = λ k c v w i h. laws.monotone.enter (length c.head) c.variables c.head v w (good.clauses k c i).head (at_head k c v w i h);
        exit = λ k c s t i h. subst (λ n. p.Leq n (p.exit s c.head) (p.exit t c.head)) (good.arities k c i)
            (laws.monotone.exit (length c.head) c.variables c.head s t (good.clauses k c i).head h);
        call = λ k c l s t i j h. subst (λ n. p.Leq n (p.call s l.args).value (p.call t l.args).value) (calls_well k c l i j).arity
            (laws.monotone.call (length c.head) c.variables l.args s t (calls_well k c l i j).args h);
        back = λ k c l s t a b i j h le. laws.monotone.back (length c.head) c.variables l.args s t a b (calls_well k c l i j).args h
            (subst (λ n. p.Leq n a b) (sym (calls_well k c l i j).arity) le);
        refine = λ k c x s t i j h. laws.monotone.refine (length c.head) c.variables x.args x.action s t (acts_well k c x i j).args
            (acts_well k c x i j).within h;
        entries = λ k v i. map_in (λ (x : Name PredKey Abs). p.Leq x.pred.arity x.call x.call)
            (λ e. record { pred = e.pred; call = p.describe e.pred.arity e.pre }) (entries_of g) (record { pred = k; call = v }) i
            (λ e j. laws.ordered.describe e.pred.arity e.pre (good.entries e j).few (good.entries e j).pre);
        same_true = λ x y e. (let q = same_name-true (row_name x) (row_name y) e in λ i. record { pred = (q i).pred; call = (q i).call });
        same_refl = λ x. same_name-refl (row_name x);
      }

  -- Theorem: so do those of formed sets.
  pub limits_at : limits.AreUpwardClosed (as_domain p) (as_program p g) (as_limits p)
  limits_at =
      record {
        enter = λ k c v w i h. laws.forms_more.enter (length c.head) c.variables c.head v w (good.clauses k c i).head (at_head k c v w i h);
        call = λ k c l s t i j h. laws.forms_more.call (length c.head) c.variables l.args s t (calls_well k c l i j).args h;
        back = λ k c l s t a b i j h le. laws.forms_more.back (length c.head) c.variables l.args s t a b (calls_well k c l i j).args h
            (subst (λ n. p.Leq n a b) (sym (calls_well k c l i j).arity) le);
        refine = λ k c x s t i j h. laws.forms_more.refine (length c.head) c.variables x.args x.action s t (acts_well k c x i j).args
            (acts_well k c x i j).within h;
      }
