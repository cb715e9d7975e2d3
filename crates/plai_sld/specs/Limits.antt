-- Numbers above the variables of terms and of bindings.
use Rattle.std.specs.Prelude.{ℕ, suc, max, List, [], ◌∷◌}
use Rattle.plai_terms.specs.declared.term.Term.{Term, fold-Term, out-Term}
use Rattle.plai_terms.specs.declared.term.Term.TheOpen.{Term-F}
use Rattle.plai_terms.specs.Unification.{Bindings}

-- the greatest of these numbers, or 0
abbrev pub highest : List ℕ → ℕ
highest [] = 0
highest (n ∷ ns) = max n (highest ns)

-- one level, whose arguments have these limits
abbrev pub limit_step : Term-F ℕ → ℕ
limit_step (Term-F.Var v) = suc v
limit_step (Term-F.Int _) = 0
limit_step (Term-F.Atom _) = 0
limit_step (Term-F.Compound _ limits) = highest limits

-- one more than the greatest variable, or 0
abbrev pub limit_of : Term → ℕ
limit_of = fold-Term ℕ limit_step

abbrev pub own_limit_at : Term-F Term → ℕ
own_limit_at (Term-F.Var v) = suc v
own_limit_at _ = 0

-- one more than the variable, where the term itself is one, and else 0
unfoldable pub own_limit : Term → ℕ
own_limit t = own_limit_at (out-Term t)

-- the same of several terms, one more than their greatest variable, or 0
abbrev pub limit_in : List Term → ℕ
limit_in [] = 0
limit_in (t ∷ ts) = max (limit_of t) (limit_in ts)

-- the number, or where the terms of the bindings have greater variables, one more than the greatest of these
abbrev pub past : ℕ → Bindings → ℕ
past n [] = n
past n (b ∷ bs) = max (limit_of b.1) (past n bs)
