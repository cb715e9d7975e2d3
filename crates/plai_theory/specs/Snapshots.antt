-- Snapshots as computed lists: the names that are reached, put in order, with their answers.
use Rattle.std.specs.Prelude.{◌≡◌, ℕ, zero, suc, Bool, true, false, cond, List, [], ◌∷◌, ◌++◌, map}
use Rattle.plai_theory.specs.Domain.{Domain, Program}
use Rattle.plai_theory.specs.Evaluation.{Source, NameOf, calls_of}
use Rattle.plai_theory.specs.Stages.{stage}
use Rattle.plai_theory.specs.LeastTable.{Row}

-- what the clauses of a name call
abbrev pub calls_of_clauses : (d : Domain) → Source d → List d.Clause → d.Value → List (NameOf d)
calls_of_clauses d s [] v = []
calls_of_clauses d s (c ∷ cs) v = calls_of d s c v ++ calls_of_clauses d s cs v

-- what these names call
abbrev pub calls_of_names : (d : Domain) → Program d → Source d → List (NameOf d) → List (NameOf d)
calls_of_names d g s [] = []
calls_of_names d g s (x ∷ xs) = calls_of_clauses d s (g.clauses x.pred) x.call ++ calls_of_names d g s xs

-- the names that at most n call steps reach
abbrev pub reach_list : (d : Domain) → Program d → Source d → ℕ → List (NameOf d)
reach_list d g s zero = g.entries
reach_list d g s (suc n) = g.entries ++ calls_of_names d g s (reach_list d g s n)

-- x in its place, once
abbrev pub placed : (d : Domain) → (NameOf d → NameOf d → Bool) → NameOf d → List (NameOf d) → List (NameOf d)
placed d is_before x [] = x ∷ []
placed d is_before x (y ∷ ys) =
    cond (is_before x y) (x ∷ y ∷ ys) (cond (is_before y x) (y ∷ placed d is_before x ys) (y ∷ ys))

-- the names in order, each once
abbrev pub in_order : (d : Domain) → (NameOf d → NameOf d → Bool) → List (NameOf d) → List (NameOf d)
in_order d is_before [] = []
in_order d is_before (x ∷ xs) = placed d is_before x (in_order d is_before xs)

-- the row of a name under a source
abbrev pub row_at : (d : Domain) → Source d → NameOf d → Row d
row_at d s x = record { name = x; answer = s x.pred x.call }

-- the names of n call steps at stage n, with their answers there
abbrev pub snapshot : (d : Domain) → Program d → (NameOf d → NameOf d → Bool) → ℕ → List (Row d)
snapshot d g is_before n = map (row_at d (stage d g n)) (in_order d is_before (reach_list d g (stage d g n) n))

-- the test is a strict order in which two different names are in one order or the other
pub record IsTotalTest (d : Domain) (is_before : NameOf d → NameOf d → Bool) : Type 0 where
  pub irrefl : (x : NameOf d) → is_before x x ≡ false
  pub trans : (x y z : NameOf d) → is_before x y ≡ true → is_before y z ≡ true → is_before x z ≡ true
  pub total : (x y : NameOf d) → is_before x y ≡ false → is_before y x ≡ false → x ≡ y
