-- What the tests of a term's kind say of it.
use Rattle.std.proofs.Common.{◌≡◌, ◌∙◌, ℕ, true, false, ◌||◌, Some, refl, ap, subst, rules}
use Rattle.plai_terms.specs.Term.{is_ground}
use Rattle.plai_terms.specs.declared.term.Term.{Term, Var, out-Term, roll-Term, roll-out-Term, the_lemmas}
use Rattle.plai_terms.specs.declared.term.Term.TheOpen.{Term-F}
use Rattle.plai_terms.specs.declared.term.Term.TheVariants.{rolls-Var, rolls-Int}
use Rattle.plai_domain.specs.Instances.{IsVar, IsInt}
use Rattle.plai_builtins.specs.Meaning.{is_variable, is_integer, is_atom, is_compound, number_in, number_up_to}

var_level : (x : Term-F Term) → is_variable x ≡ true → IsVar (roll-Term x)
var_level (Term-F.Var v) e = (v, rolls-Var v)
var_level (Term-F.Int n) e = absurd cc
var_level (Term-F.Atom a) e = absurd cc
var_level (Term-F.Compound name args) e = absurd cc

pub variable_is : (t : Term) → is_variable (out-Term t) ≡ true → IsVar t
variable_is t e = subst IsVar (roll-out-Term t) (var_level (out-Term t) e)

pub is_no_variable : (t : Term) → is_variable (out-Term t) ≡ false → IsVar t → ⊥
is_no_variable t e (v, is) =
    let one : is_variable (out-Term (Var v)) ≡ true = search (rules, the_lemmas) in
    let same : is_variable (out-Term t) ≡ true = ap (λ u. is_variable (out-Term u)) is ∙ one in
    cc

int_level : (x : Term-F Term) → is_integer x ≡ true → IsInt (roll-Term x)
int_level (Term-F.Var v) e = absurd cc
int_level (Term-F.Int n) e = (n, rolls-Int n)
int_level (Term-F.Atom a) e = absurd cc
int_level (Term-F.Compound name args) e = absurd cc

pub integer_is : (t : Term) → is_integer (out-Term t) ≡ true → IsInt t
integer_is t e = subst IsInt (roll-out-Term t) (int_level (out-Term t) e)

pub atomic_level : (x : Term-F Term) → (is_atom x || is_integer x) ≡ true → is_ground (roll-Term x) ≡ true
atomic_level (Term-F.Var v) e = absurd cc
atomic_level (Term-F.Int n) e = search (rules, the_lemmas)
atomic_level (Term-F.Atom a) e = search (rules, the_lemmas)
atomic_level (Term-F.Compound name args) e = absurd cc

pub atomic_ground : (t : Term) → (is_atom (out-Term t) || is_integer (out-Term t)) ≡ true → is_ground t ≡ true
atomic_ground t e = subst (λ u. is_ground u ≡ true) (roll-out-Term t) (atomic_level (out-Term t) e)

compound_level : (x : Term-F Term) → is_compound x ≡ true → is_variable x ≡ false
compound_level (Term-F.Var v) e = absurd cc
compound_level (Term-F.Int n) e = absurd cc
compound_level (Term-F.Atom a) e = absurd cc
compound_level (Term-F.Compound name args) e = refl

pub compound_no_variable : (t : Term) → is_compound (out-Term t) ≡ true → IsVar t → ⊥
compound_no_variable t e = is_no_variable t (compound_level (out-Term t) e)

number_level : (x : Term-F Term) (g k : ℕ) → number_in g x ≡ Some k → IsInt (roll-Term x)
number_level (Term-F.Var v) g k e = absurd cc
number_level (Term-F.Int n) g k e = (n, rolls-Int n)
number_level (Term-F.Atom a) g k e = absurd cc
number_level (Term-F.Compound name args) g k e = absurd cc

pub number_is : (t : Term) (g k : ℕ) → number_up_to g t ≡ Some k → IsInt t
number_is t g k e = subst IsInt (roll-out-Term t) (number_level (out-Term t) g k e)
