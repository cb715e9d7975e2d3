-- Terms at slots as instances, and substitutions as changes.
use Rattle.std.specs.Prelude.{◌≡◌, ◌⊎◌, ℕ, ◌+◌, ◌-◌, ◌<◌, true, cond, ◌&&◌, nat_lt, List, [], ◌∷◌, None, zero, suc, length, pos}
use Rattle.plai_terms.specs.declared.term.Term.{Term, Var, Int}
use Rattle.plai_terms.specs.Term.{occurs}
use Rattle.plai_terms.specs.Substitution.{under}
use Rattle.plai_share_laws.specs.Sides.{variable_of}
use Rattle.plai_share_laws.proofs.Meaning.{Instance, Change}

-- the terms at the slots below n
abbrev pub placed : ℕ → (ℕ → Term) → Instance
placed n terms = record {
  occurs = λ v k. nat_lt k n && occurs v (terms k);
  variable = λ k. cond (nat_lt k n) (variable_of (terms k)) None;
}

abbrev pub change_of : (ℕ → Term) → Change
change_of f = record { puts = λ v w. occurs w (f v); image = λ v. variable_of (f v) }

-- the images of the term's variables are different variables
pub record IsRenaming (f : ℕ → Term) (t : Term) : Type 0 where
  pub to_variable : (v : ℕ) → occurs v t ≡ true → (u : ℕ) × (f v ≡ Var u)
  pub apart : (v w u : ℕ) → occurs v t ≡ true → occurs w t ≡ true → f v ≡ Var u → f w ≡ Var u → v ≡ w

-- what the domain needs of the substitution that unifies two terms
pub record IsSolution (f : ℕ → Term) (a b : Term) : Type 0 where
  pub equal : under f a ≡ under f b
  pub leaves : (v : ℕ) → (occurs v a ≡ true → ⊥) → (occurs v b ≡ true → ⊥) → f v ≡ Var v
  pub brings : (v w : ℕ) → (occurs v a ≡ true) ⊎ (occurs v b ≡ true) → occurs w (f v) ≡ true → (occurs w a ≡ true) ⊎ (occurs w b ≡ true)
  pub left : (y : ℕ) → a ≡ Var y → IsRenaming f b
  pub right : (y : ℕ) → b ≡ Var y → IsRenaming f a

-- the term at a place
abbrev pub term_at : List Term → ℕ → Term
term_at [] k = Int (pos 0)
term_at (t ∷ ts) zero = t
term_at (t ∷ ts) (suc k) = term_at ts k

-- a list of terms
abbrev pub tuple_of : List Term → Instance
tuple_of terms = placed (length terms) (term_at terms)

-- some term of the list has the variable
abbrev pub InSome : List Term → ℕ → Type 0
InSome terms v = (k : ℕ) × (k < length terms) × (occurs v (term_at terms k) ≡ true)

-- each variable of the terms at the slots below n is below the number
abbrev pub HaveBelow : ℕ → ℕ → (ℕ → Term) → Type 0
HaveBelow n number terms = (v k : ℕ) → k < n → occurs v (terms k) ≡ true → v < number

-- the goal's arguments, and behind them the clause's variables, renamed by the number
abbrev pub start_terms : ℕ → ℕ → (ℕ → Term) → ℕ → Term
start_terms arity number goal k = cond (nat_lt k arity) (goal k) (Var (number + (k - arity)))

-- the equations of the slots from k on with the head's arguments are solved one after the other by these substitutions
abbrev pub AreSolved : ℕ → ℕ → List Term → List (ℕ → Term) → (ℕ → Term) → Type 0
AreSolved base k [] [] terms = Unit {0}
AreSolved base k [] (f ∷ fs) terms = ⊥
AreSolved base k (t ∷ ts) [] terms = ⊥
AreSolved base k (t ∷ ts) (f ∷ fs) terms = IsSolution f (terms k) (under (λ v. terms (base + v)) t) × AreSolved base (suc k) ts fs (λ l. under f (terms l))

abbrev pub solved : List (ℕ → Term) → (ℕ → Term) → ℕ → Term
solved [] terms k = terms k
solved (f ∷ fs) terms k = solved fs (λ l. under f (terms l)) k
