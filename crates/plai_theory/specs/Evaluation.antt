-- The evaluation of a clause for a call, under given answers of the predicates that it calls (Muthukumar and
-- Hermenegildo 1992). After none nothing more is called.
use Rattle.std.specs.Prelude.{List, [], ◌∷◌, Option, Some, None}
use Rattle.plai_theory.specs.Words.{given}
use Rattle.plai_theory.specs.Domain.{Step, Goal, Do, Name, Domain}

-- where answers come from: the answer of each predicate at each call, or none
abbrev pub Source : Domain → Type 0
Source d = d.Pred → d.Value → Option d.Value

abbrev pub NameOf : Domain → Type 0
NameOf d = Name d.Pred d.Value

abbrev pub name_of : (d : Domain) → d.Pred → d.Value → NameOf d
name_of d p v = record { pred = p; call = v }

-- the state behind these steps, or none
unfoldable pub state_behind : (d : Domain) → Source d → List (Step d.Literal d.Action) → d.State → Option d.State
state_behind d s [] st = Some st
state_behind d s (Do x ∷ rest) st = given None (λ next. state_behind d s rest next) (d.refine x st)
state_behind d s (Goal l ∷ rest) st =
    given None (λ answer. given None (λ next. state_behind d s rest next) (d.back l st answer)) (s (d.callee l) (d.call l st))

-- the names that these steps call, in order
unfoldable pub calls_along : (d : Domain) → Source d → List (Step d.Literal d.Action) → d.State → List (NameOf d)
calls_along d s [] st = []
calls_along d s (Do x ∷ rest) st = given [] (λ next. calls_along d s rest next) (d.refine x st)
calls_along d s (Goal l ∷ rest) st =
    name_of d (d.callee l) (d.call l st)
    ∷ given [] (λ answer. given [] (λ next. calls_along d s rest next) (d.back l st answer)) (s (d.callee l) (d.call l st))

-- the answer of a clause at a call, or none
unfoldable pub answer_of : (d : Domain) → Source d → d.Clause → d.Value → Option d.Value
answer_of d s c v = given None (λ st. given None (λ end. Some (d.exit c end)) (state_behind d s (d.body c) st)) (d.enter c v)

-- the names that the clause calls at a call, in order
unfoldable pub calls_of : (d : Domain) → Source d → d.Clause → d.Value → List (NameOf d)
calls_of d s c v = given [] (λ st. calls_along d s (d.body c) st) (d.enter c v)

-- the join, with none below all
unfoldable pub join_of : (d : Domain) → Option d.Value → Option d.Value → Option d.Value
join_of d None b = b
join_of d (Some a) None = Some a
join_of d (Some a) (Some b) = Some (d.join a b)

-- the join of the answers of clauses, none without clauses
unfoldable pub best_of : (d : Domain) → Source d → List d.Clause → d.Value → Option d.Value
best_of d s [] v = None
best_of d s (c ∷ cs) v = join_of d (answer_of d s c v) (best_of d s cs v)
