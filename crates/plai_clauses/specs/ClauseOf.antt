-- The clause that a term says: its head, and the goals of its body, each with what it calls (ISO/IEC 13211-1:1995,
-- 6.2.1.2 and 7.6; the causes of a term that says none are this project's).
use Rattle.std.specs.Prelude.{◌≡◌, ℕ, ◌+◌, Bool, cond, ◌&&◌, ◌||◌, nat_eq, nat_lt, max, fold, map, flat_map, codes, Option, Some, None, unwrap_or, Result, Ok, Err, List, [], ◌∷◌, length, if◌then◌else◌}
use Rattle.std.specs.Cmp.Lexicographic.{pointwise}
use Rattle.plai_terms.specs.declared.read_term.ReadTerm.{ReadTerm}
use Rattle.plai_terms.specs.declared.term.Term.{Term, Var, Int, Atom, Compound, fold-Term, out-Term}
use Rattle.plai_terms.specs.declared.term.Term.TheOpen.{Term-F}
use Rattle.plai_domain.specs.Conditions.{most_arguments, most_slots}
use Rattle.plai_clauses.specs.declared.clause.Clause.{Clause}
use Rattle.plai_clauses.specs.declared.clause.Literal.{Literal}
use Rattle.plai_clauses.specs.declared.clause.Target.{Target}
use Rattle.plai_clauses.specs.declared.clause.Target.TheVariants.{Pred, Builtin}
use Rattle.plai_clauses.specs.declared.cause.ClauseCause.{ClauseCause}
use Rattle.plai_clauses.specs.declared.cause.ClauseCause.TheVariants.{NotAClause, Unsupported, ArityTooLarge, TooManySlots}
use Rattle.plai_clauses.specs.declared.cause.ClauseFail.{ClauseFail}
use Rattle.plai_clauses.specs.declared.cause.ClauseFail.TheVariants.{Memory, Refused}
use Rattle.plai_clauses.specs.Builtins.{is_builtin_key, is_refused_key}

-- the module of the first import of a key
abbrev pub exporter : List (List ℕ × ℕ × List ℕ) → List ℕ → ℕ → Option (List ℕ)
exporter [] name arity = None
exporter (i ∷ imports) name arity = if pointwise nat_eq i.0 name && nat_eq i.1 arity then Some i.2 else exporter imports name arity

-- the module whose predicate a module speaks of by a name: the exporting one where it imports the key, else itself
abbrev pub spoken_of : List ℕ → List (List ℕ × ℕ × List ℕ) → List ℕ → ℕ → List ℕ
spoken_of module_name imports name arity = unwrap_or (exporter imports name arity) module_name

-- what a literal of a module calls
abbrev pub target_of : List ℕ → List (List ℕ × ℕ × List ℕ) → List ℕ → ℕ → Target
target_of module_name imports name arity =
    if is_builtin_key name arity then Builtin
    else Pred (record { «module» = spoken_of module_name imports name arity; name = name; arity = arity })

-- the cause that a name and a number of arguments give: it isn't supported, or there are too many
abbrev pub cause_of_key : Bool → List ℕ → ℕ → Option ClauseCause
cause_of_key unsupported name arity =
    if unsupported then Some (Unsupported name arity) else (if nat_lt most_arguments arity then Some (ArityTooLarge arity) else None)

abbrev pub unless : {A : Type 0} → Option ClauseCause → A → Result A ClauseCause
unless (Some cause) x = Err cause
unless None x = Ok x

-- a head's name and arguments: no builtin and no refused key may be defined
abbrev pub head_at : List ℕ → List Term → Result (List ℕ × List Term) ClauseCause
head_at name args =
    unless (cause_of_key (is_builtin_key name (length args) || is_refused_key name (length args)) name (length args)) (name, args)

abbrev pub head_in : Term-F Term → Result (List ℕ × List Term) ClauseCause
head_in (Term-F.Var _) = Err NotAClause
head_in (Term-F.Int _) = Err NotAClause
head_in (Term-F.Atom name) = head_at name []
head_in (Term-F.Compound name args) = head_at name args

abbrev pub head_of : Term → Result (List ℕ × List Term) ClauseCause
head_of t = head_in (out-Term t)

-- a goal's literal: a variable stands for `call` of it
abbrev pub literal_at : List ℕ → List (List ℕ × ℕ × List ℕ) → List ℕ → List Term → Result Literal ClauseCause
literal_at module_name imports name args =
    unless (cause_of_key (is_refused_key name (length args)) name (length args))
    (record { name = name; args = args; target = target_of module_name imports name (length args) })

abbrev pub literal_in : List ℕ → List (List ℕ × ℕ × List ℕ) → Term-F Term → Result Literal ClauseCause
literal_in module_name imports (Term-F.Var _) = Err (Unsupported (codes "call") 1)
literal_in module_name imports (Term-F.Int _) = Err NotAClause
literal_in module_name imports (Term-F.Atom name) = literal_at module_name imports name []
literal_in module_name imports (Term-F.Compound name args) = literal_at module_name imports name args

abbrev pub literal_of : List ℕ → List (List ℕ × ℕ × List ℕ) → Term → Result Literal ClauseCause
literal_of module_name imports t = literal_in module_name imports (out-Term t)

-- one item in front of others, or the first cause
abbrev pub in_front : {A : Type 0} → Result A ClauseCause → Result (List A) ClauseCause → Result (List A) ClauseCause
in_front (Err cause) rest = Err cause
in_front (Ok x) (Err cause) = Err cause
in_front (Ok x) (Ok xs) = Ok (x ∷ xs)

-- the literals of the goals in order, or the cause of the first goal that has none
abbrev pub body_of : List ℕ → List (List ℕ × ℕ × List ℕ) → List Term → Result (List Literal) ClauseCause
body_of module_name imports [] = Ok []
body_of module_name imports (goal ∷ goals) = in_front (literal_of module_name imports goal) (body_of module_name imports goals)

-- whether a compound joins two goals
abbrev pub is_conjunction : List ℕ → ℕ → Bool
is_conjunction name arity = pointwise nat_eq name (codes ",") && nat_eq arity 2

-- one level: the term, with the goals that it joins from the left to the right
abbrev pub goals_step : Term-F (Term × List Term) → Term × List Term
goals_step (Term-F.Var v) = (Var v, Var v ∷ [])
goals_step (Term-F.Int n) = (Int n, Int n ∷ [])
goals_step (Term-F.Atom a) = (Atom a, Atom a ∷ [])
goals_step (Term-F.Compound name parts) = (
  Compound name (map (λ p. p.0) parts),
  if is_conjunction name (length parts) then flat_map (λ p. p.1) parts else Compound name (map (λ p. p.0) parts) ∷ [],
)

abbrev pub with_goals : Term → Term × List Term
with_goals = fold-Term (Term × List Term) goals_step

-- the goals of a body
abbrev pub goals_of : Term → List Term
goals_of t = (with_goals t).1

-- the arguments of a compound of this name with two arguments
abbrev pub two : List Term → Option (Term × Term)
two (x ∷ y ∷ []) = Some (x, y)
two _ = None

abbrev pub two_in : List ℕ → Term-F Term → Option (Term × Term)
two_in wanted (Term-F.Compound name args) = cond (pointwise nat_eq name wanted) (two args) None
two_in wanted _ = None

abbrev pub two_arguments : List ℕ → Term → Option (Term × Term)
two_arguments wanted t = two_in wanted (out-Term t)

-- the most arguments of a literal
abbrev pub widest : List Literal → ℕ
widest body = fold max 0 (map (λ literal. length literal.args) body)

-- the slots of a clause: for the head's arguments, the variables and the widest literal
abbrev pub within_slots : ℕ → List ℕ × List Term → List Literal → Result Clause ClauseCause
within_slots variables head body =
    if nat_lt most_slots (length head.1 + variables + widest body) then Err (TooManySlots (length head.1 + variables + widest body))
    else Ok (record { name = head.0; head = head.1; variables = variables; body = body })

abbrev pub clause_with : ℕ → Result (List ℕ × List Term) ClauseCause → Result (List Literal) ClauseCause → Result Clause ClauseCause
clause_with variables (Err cause) body = Err cause
clause_with variables (Ok head) (Err cause) = Err cause
clause_with variables (Ok head) (Ok body) = within_slots variables head body

-- the clause of a head and the goals of a body
abbrev pub clause_from : List ℕ → List (List ℕ × ℕ × List ℕ) → ℕ → Term → List Term → Result Clause ClauseCause
clause_from module_name imports variables head goals = clause_with variables (head_of head) (body_of module_name imports goals)

-- a rule, where the term is one; no clause for a rule of a grammar; else a fact
abbrev pub clause_in : List ℕ → List (List ℕ × ℕ × List ℕ) → ReadTerm → Option (Term × Term) → Option (Term × Term) → Result Clause ClauseCause
clause_in module_name imports read (Some rule) grammar = clause_from module_name imports read.variables rule.0 (goals_of rule.1)
clause_in module_name imports read None (Some _) = Err (Unsupported (codes "-->") 2)
clause_in module_name imports read None None = clause_from module_name imports read.variables read.term []

-- the clause that a term says in a module with these imports, or the first cause why it says none
abbrev pub clause_of : List ℕ → List (List ℕ × ℕ × List ℕ) → ReadTerm → Result Clause ClauseCause
clause_of module_name imports read =
    clause_in module_name imports read (two_arguments (codes ":-") read.term) (two_arguments (codes "-->") read.term)

-- what a call may answer where the definition gives this: just that, or that memory is wanting
abbrev pub Answers : {A : Type 0} → Result A ClauseCause → Result A ClauseFail → Type 0
Answers answer (Ok x) = answer ≡ Ok x
Answers answer (Err Memory) = Unit {0}
Answers answer (Err (Refused cause)) = answer ≡ Err cause
