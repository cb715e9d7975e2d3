-- Lists of terms that loops make.
use Rattle.std.proofs.Common.{◌≡◌, ◌∙◌, ℕ, zero, suc, ◌+◌, ◌<◌, ◌≤◌, List, [], ◌∷◌, ◌++◌, length, get_or, sym, ap, arith}
use Rattle.plai_terms.specs.declared.term.Term.{Term, Var}
use Rattle.plai_terms.specs.Term.{occurs}
use Rattle.plai_terms.specs.Substitution.{occurs_in, AreBelow, IsBelow}
use Rattle.plai_terms.proofs.Under.{or_first}
use Rattle.plai_builtins.specs.Meaning.{new_variables}

pub new_variables_push : (first i : ℕ) → new_variables first (i + 1) ≡ new_variables first i ++ Var (first + i) ∷ []
new_variables_push first zero = ap (λ n. Var n ∷ []) (omega arith)
new_variables_push first (suc i) =
    let more : suc i + 1 ≡ suc (i + 1) = omega arith in
    let same : suc first + i ≡ first + suc i = omega arith in
    ap (new_variables first) more ∙ ap (λ ts. Var first ∷ ts) (new_variables_push (suc first) i ∙ ap (λ n. new_variables (suc first) i ++ Var n ∷ []) same)

-- one more, made so
pub one_more_variable : (first i : ℕ) (items after : List Term) → items ≡ new_variables first i → after ≡ items ++ Var (first + i) ∷ []
    → after ≡ new_variables first (i + 1)
one_more_variable first i items after e a = a ∙ ap (λ ts. ts ++ Var (first + i) ∷ []) e ∙ sym (new_variables_push first i)

-- the first of terms below a number is below it
pub first_below : (n : ℕ) (ts : List Term) (t : Term) → 0 < length ts → t ≡ get_or ts 0 t → AreBelow n ts → IsBelow n t
first_below n [] t some is below v o = absurd (omega arith)
first_below n (u ∷ ts) t some is below v o = below v (or_first (occurs v u) (occurs_in v ts) (ap (occurs v) (sym is) ∙ o))

-- lists of one term, of two and of three, by their items
pub as_one : (ts : List Term) (x : Term) → 1 ≤ length ts → length ts < 2 → x ≡ get_or ts 0 x → ts ≡ x ∷ []
as_one [] x least below first = absurd (omega arith)
as_one (t ∷ []) x least below first = ap (λ u. u ∷ []) (sym first)
as_one (t ∷ u ∷ ts) x least below first = absurd (omega arith)

pub as_two : (ts : List Term) (x y : Term) → 2 ≤ length ts → length ts < 3 → x ≡ get_or ts 0 x → y ≡ get_or ts 1 y → ts ≡ x ∷ y ∷ []
as_two [] x y least below first second = absurd (omega arith)
as_two (t ∷ ts) x y least below first second =
    let some : 1 ≤ length ts = omega arith in
    let few : length ts < 2 = omega arith in
    ap (λ u. u ∷ ts) (sym first) ∙ ap (λ us. x ∷ us) (as_one ts y some few second)

pub as_three : (ts : List Term) (x y z : Term) → 3 ≤ length ts → length ts < 4 → x ≡ get_or ts 0 x → y ≡ get_or ts 1 y → z ≡ get_or ts 2 z
    → ts ≡ x ∷ y ∷ z ∷ []
as_three [] x y z least below first second third = absurd (omega arith)
as_three (t ∷ ts) x y z least below first second third =
    let some : 2 ≤ length ts = omega arith in
    let few : length ts < 3 = omega arith in
    ap (λ u. u ∷ ts) (sym first) ∙ ap (λ us. x ∷ us) (as_two ts y z some few second third)
