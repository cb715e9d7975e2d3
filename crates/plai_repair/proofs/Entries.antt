-- Entries and assertions that are compared: by module, predicate and properties, and the kind of an assertion.
use Rattle.std.proofs.Common.{◌≡◌, ◌↔◌, true, nat_eq, ap, subst}
use Rattle.std.proofs.lemmas.Bool.{eqb-true}
use Rattle.plai_terms.specs.declared.prop.Prop.{Prop}
use Rattle.plai_terms.specs.declared.prop.Prop.TheVariants.{Ground, Var, Nonvar, Int, Indep}
use Rattle.plai_terms.specs.contracts.prop.PropPartialEq.TheImpl as prop_eq
use Rattle.plai_terms.specs.contracts.prop.PropEq.TheImpl.Laws as prop_laws
use Rattle.plai_terms.proofs.Same.{both}
use Rattle.plai_clauses.specs.declared.check.Check.{Check}
use Rattle.plai_clauses.specs.declared.entry.Entry.{Entry}

prop_true : (a b : Prop) → (prop_eq.ghosts).eq a b ≡ true → a ≡ b
prop_true (Ground m) (Ground n) e = ap Ground (eqb-true m n e)
prop_true (Var m) (Var n) e = ap Var (eqb-true m n e)
prop_true (Nonvar m) (Nonvar n) e = ap Nonvar (eqb-true m n e)
prop_true (Int m) (Int n) e = ap Int (eqb-true m n e)
prop_true (Indep m k) (Indep n l) e =
    let (f, g) = both (nat_eq m n) (nat_eq k l) e in
    let p : m ≡ n = eqb-true m n f in
    let q : k ≡ l = eqb-true k l g in
    λ i. Indep (p i) (q i)
prop_true _ _ e = cc

-- two properties at which `==` answers true are equal, and the other way round
pub prop-Decides : (a b : Prop) → ((prop_eq.ghosts).eq a b ≡ true) ↔ (a ≡ b)
prop-Decides a b = (prop_true a b, λ e. subst (λ b. (prop_eq.ghosts).eq a b ≡ true) e (prop_laws.laws-law.refl a))

pub entry_is : (a b : Entry) → ((a.module ≡ b.module) × (a.pred ≡ b.pred)) × (a.pre ≡ b.pre) → a ≡ b
entry_is a b ((e, f), g) = λ i. record { «module» = e i; pred = f i; pre = g i }

pub entry_parts : (a b : Entry) → a ≡ b → ((a.module ≡ b.module) × (a.pred ≡ b.pred)) × (a.pre ≡ b.pre)
entry_parts a b e =
    ((ap (λ (x : Entry). x.module) e, ap (λ (x : Entry). x.pred) e), ap (λ (x : Entry). x.pre) e)

pub check_is : (a b : Check) → ((((a.module ≡ b.module) × (a.kind ≡ b.kind)) × (a.pred ≡ b.pred)) × (a.pre ≡ b.pre)) × (a.post ≡ b.post) → a ≡ b
check_is a b ((((e, k), f), g), h) = λ i. record { «module» = e i; kind = k i; pred = f i; pre = g i; post = h i }

pub check_parts : (a b : Check) → a ≡ b → ((((a.module ≡ b.module) × (a.kind ≡ b.kind)) × (a.pred ≡ b.pred)) × (a.pre ≡ b.pre)) × (a.post ≡ b.post)
check_parts a b e = (
  (((ap (λ (x : Check). x.module) e, ap (λ (x : Check). x.kind) e), ap (λ (x : Check). x.pred) e), ap (λ (x : Check). x.pre) e),
  ap (λ (x : Check). x.post) e,
)
