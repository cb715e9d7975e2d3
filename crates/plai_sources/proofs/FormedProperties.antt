-- The goals, entries and checks that terms say are well formed.
use Rattle.std.proofs.Common.{◌≡◌, ◌∙◌, ℕ, ◌+◌, ◌≤◌, ◌<◌, Bool, true, false, not, ◌&&◌, cond, Option, Some, None, Ok, List, [], ◌∷◌, length, refl, ap, subst}
use Rattle.std.proofs.Common.{arith, codes}
use Rattle.std.specs.Prelude.{All, option_map, option_and_then, ok_or, position, nat_le, nat_eq}
use Rattle.std.specs.Cmp.Lexicographic.{pointwise}
use Rattle.std.proofs.lemmas.Bool.Decides.{nat_tests}
use Rattle.std.proofs.lemmas.List.Elements.{All-nil}
use Rattle.std.proofs.lemmas.List.Quantifiers.{position-Some}
use Rattle.plai_terms.specs.declared.term.Term.{Term, out-Term}
use Rattle.plai_terms.specs.declared.term.Term.TheOpen.{Term-F}
use Rattle.plai_terms.specs.declared.prop.Prop.{Prop}
use Rattle.plai_terms.specs.declared.prop.Prop.TheVariants as property
use Rattle.plai_domain.specs.Instances.{speaks_within}
use Rattle.plai_clauses.specs.Builtins.{is_builtin_key, is_refused_key, is_definable}
use Rattle.plai_clauses.specs.declared.check.CheckKind.{CheckKind}
use Rattle.plai_clauses.specs.declared.check.CheckKind.TheVariants.{Calls, Success}
use Rattle.plai_clauses.specs.ClauseOf.{two_arguments, goals_of}
use Rattle.plai_sources.specs.declared.cause.LoadCause.{LoadCause}
use Rattle.plai_sources.specs.declared.properties.Goal.{Goal}
use Rattle.plai_sources.specs.declared.properties.Call.{Call}
use Rattle.plai_sources.specs.declared.items.EntryItem.{EntryItem}
use Rattle.plai_sources.specs.declared.items.CheckItem.{CheckItem}
use Rattle.plai_sources.specs.Shapes.{variable_of, each}
use Rattle.plai_sources.specs.Properties.{are_distinct, open_goal, goal_at, goal_in, goal_of, place_among, place_of, property_named, apart, property_at}
use Rattle.plai_sources.specs.Properties.{property_in, property_of, properties_of, call, call_with, call_from, call_of, entry, entry_of, check, calls_of}
use Rattle.plai_sources.specs.Properties.{success_with, success_of, check_from}
use Rattle.plai_sources.specs.WellFormed.{IsEntryItem, IsCheckItem}
use Rattle.plai_sources.proofs.Each.{length-each, All-each}

-- tests and options
tested : {A : Type 0} (b : Bool) (x y : A) → cond b (Some x) None ≡ Some y → (b ≡ true) × (x ≡ y)
tested true x y h = (refl, cc)
tested false x y h = absurd cc

passed : {A : Type 0} (b : Bool) (o : Option A) (y : A) → cond b o None ≡ Some y → (b ≡ true) × (o ≡ Some y)
passed true o y h = (refl, h)
passed false o y h = absurd cc

missed : {A : Type 0} (b : Bool) (o : Option A) (y : A) → cond b None o ≡ Some y → o ≡ Some y
missed true o y h = absurd cc
missed false o y h = h

pub mapped : {A B : Type 0} (f : A → B) (o : Option A) (y : B) → option_map f o ≡ Some y → (x : A) × (o ≡ Some x) × (f x ≡ y)
mapped f None y h = absurd cc
mapped f (Some x) y h = (x, refl, cc)

pub chained : {A B : Type 0} (f : A → Option B) (o : Option A) (y : B) → option_and_then f o ≡ Some y → (x : A) × (o ≡ Some x) × (f x ≡ Some y)
chained f None y h = absurd cc
chained f (Some x) y h = (x, refl, h)

pub found : {A : Type 0} (o : Option A) (c : LoadCause) (x : A) → ok_or o c ≡ Ok x → o ≡ Some x
found None c x h = absurd cc
found (Some y) c x h = cc

both_true : (p q : Bool) → (p && q) ≡ true → (p ≡ true) × (q ≡ true)
both_true true q e = (refl, e)
both_true false q e = absurd cc

definable-few : (name : List ℕ) (arity : ℕ) → is_definable name arity ≡ true → arity ≤ 16
definable-few name arity h =
    let (first, few) = both_true (not (is_builtin_key name arity) && not (is_refused_key name arity)) (nat_le arity 16) h in
    grind (arith, nat_tests)

-- goals
abbrev IsDefined : Goal → Type 0
IsDefined g = is_definable g.name (length g.variables) ≡ true

goal_at-defined : (name : List ℕ) (args : List Term) (g : Goal) → goal_at name args ≡ Some g → IsDefined g
goal_at-defined name args g h =
    let (definable, rest) = passed (is_definable name (length args)) (option_and_then (open_goal name) (each variable_of args)) g h in
    let (vs, all, made) = chained (open_goal name) (each variable_of args) g rest in
    let (distinct, is) = tested (are_distinct vs) (record { name = name; variables = vs }) g made in
    let n = length-each variable_of args vs all in
    subst IsDefined is (ap (is_definable name) n ∙ definable)

goal_in-defined : (y : Term-F Term) (g : Goal) → goal_in y ≡ Some g → IsDefined g
goal_in-defined (Term-F.Var v) g h = absurd cc
goal_in-defined (Term-F.Int n) g h = absurd cc
goal_in-defined (Term-F.Atom a) g h = goal_at-defined a [] g h
goal_in-defined (Term-F.Compound name args) g h = goal_at-defined name args g h

goal_of-defined : (t : Term) (g : Goal) → goal_of t ≡ Some g → IsDefined g
goal_of-defined t g h = goal_in-defined (out-Term t) g h

-- properties
abbrev IsPlace : List ℕ → ℕ → Type 0
IsPlace vs p = (1 ≤ p) × (p ≤ length vs)

place_of-within : (vs : List ℕ) (t : Term) (p : ℕ) → place_of vs t ≡ Some p → IsPlace vs p
place_of-within vs t p h =
    let (v, variable, among) = chained (place_among vs) (variable_of t) p h in
    let (i, at, is) = mapped (λ i. i + 1) (position (λ w. nat_eq w v) vs) p among in
    let below : i < length vs = (position-Some (λ w. nat_eq w v) vs i 0 at).0 in
    (omega arith, omega arith)

named-within : (n : ℕ) (name : List ℕ) (place : ℕ) (p : Prop) → (1 ≤ place) × (place ≤ n) → property_named name place ≡ Some p → speaks_within n p
named-within n name place p h e =
    first (pointwise nat_eq name (codes "ground")) (pointwise nat_eq name (codes "var")) (pointwise nat_eq name (codes "nonvar"))
    (pointwise nat_eq name (codes "int")) e
  where
    first : (a b c d : Bool) → cond a (Some (property.Ground place))
        (cond b (Some (property.Var place)) (cond c (Some (property.Nonvar place)) (cond d (Some (property.Int place)) None))) ≡ Some p → speaks_within n p
    first true b c d e = let is : property.Ground place ≡ p = cc in subst (speaks_within n) is h
    first false true c d e = let is : property.Var place ≡ p = cc in subst (speaks_within n) is h
    first false false true d e = let is : property.Nonvar place ≡ p = cc in subst (speaks_within n) is h
    first false false false true e = let is : property.Int place ≡ p = cc in subst (speaks_within n) is h
    first false false false false e = absurd cc

apart-within : (n i j : ℕ) (p : Prop) → (1 ≤ i) × (i ≤ n) → (1 ≤ j) × (j ≤ n) → apart i j ≡ Some p → speaks_within n p
apart-within n i j p h k e =
    let is : property.Indep i j ≡ p = let same = missed (nat_eq i j) (Some (property.Indep i j)) p e in cc in
    subst (speaks_within n) is (h.0, h.1, k.0, k.1)

property_at-within : (vs name : List ℕ) (args : List Term) (p : Prop) → property_at vs name args ≡ Some p → speaks_within (length vs) p
property_at-within vs name [] p h = absurd cc
property_at-within vs name (x ∷ []) p h =
    let (i, place, named) = chained (property_named name) (place_of vs x) p h in
    named-within (length vs) name i p (place_of-within vs x i place) named
property_at-within vs name (x ∷ y ∷ []) p h =
    let (is, rest) = passed (pointwise nat_eq name (codes "indep"))
    (option_and_then (λ first. option_and_then (apart first) (place_of vs y)) (place_of vs x)) p h in
    let (i, one, others) = chained (λ first. option_and_then (apart first) (place_of vs y)) (place_of vs x) p rest in
    let (j, other, both) = chained (apart i) (place_of vs y) p others in
    apart-within (length vs) i j p (place_of-within vs x i one) (place_of-within vs y j other) both
property_at-within vs name (x ∷ y ∷ z ∷ args) p h = absurd cc

property_in-within : (vs : List ℕ) (y : Term-F Term) (p : Prop) → property_in vs y ≡ Some p → speaks_within (length vs) p
property_in-within vs (Term-F.Var v) p h = absurd cc
property_in-within vs (Term-F.Int n) p h = absurd cc
property_in-within vs (Term-F.Atom a) p h = absurd cc
property_in-within vs (Term-F.Compound name args) p h = property_at-within vs name args p h

properties_of-within : (vs : List ℕ) (t : Term) (ps : List Prop) → properties_of vs t ≡ Some ps → All (speaks_within (length vs)) ps
properties_of-within vs t ps h = All-each (property_of vs) (speaks_within (length vs)) (λ x p e. property_in-within vs (out-Term x) p e) (goals_of t) ps h

-- goals with properties
pub record IsFormed (c : Call) : Type 0 where
  pub defined : IsDefined c.goal
  pub pre : All (speaks_within (length c.goal.variables)) c.pre

call_with-formed : (p : Term × Term) (c : Call) → call_with p ≡ Some c → IsFormed c
call_with-formed p c h =
    let (g, goal, rest) = chained (λ goal. option_map (call goal) (properties_of goal.variables p.1)) (goal_of p.0) c h in
    let (pre, all, is) = mapped (call g) (properties_of g.variables p.1) c rest in
    subst IsFormed is (record { defined = goal_of-defined p.0 g goal; pre = properties_of-within g.variables p.1 pre all })

call_from-formed : (t : Term) (o : Option (Term × Term)) (c : Call) → call_from t o ≡ Some c → IsFormed c
call_from-formed t None c h =
    let (g, goal, is) = mapped (λ g. call g []) (goal_of t) c h in
    subst IsFormed is (record { defined = goal_of-defined t g goal; pre = All-nil (speaks_within (length g.variables)) })
call_from-formed t (Some p) c h = call_with-formed p c h

pub entry_of-formed : (t : Term) (e : EntryItem) → entry_of t ≡ Some e → IsEntryItem e
entry_of-formed t e h =
    let (c, made, is) = mapped entry (call_of t) e h in
    let f = call_from-formed t (two_arguments (codes ":") t) c made in
    subst IsEntryItem is (record { definable = f.defined; few = definable-few c.goal.name (length c.goal.variables) f.defined; pre = f.pre })

check-formed : (kind : CheckKind) (c : Call) (post : List Prop) → IsFormed c → All (speaks_within (length c.goal.variables)) post
    → IsCheckItem (check kind c post)
check-formed kind c post f all = record { definable = f.defined; few = definable-few c.goal.name (length c.goal.variables) f.defined; pre = f.pre; post = all }

calls_of-formed : (t : Term) (e : CheckItem) → calls_of t ≡ Some e → IsCheckItem e
calls_of-formed t e h =
    let (p, two, rest) = chained (λ p. option_map (λ c. check Calls c []) (call_with p)) (two_arguments (codes ":") t) e h in
    let (c, made, is) = mapped (λ c. check Calls c []) (call_with p) e rest in
    subst IsCheckItem is (check-formed Calls c [] (call_with-formed p c made) (All-nil (speaks_within (length c.goal.variables))))

success_of-formed : (t : Term) (e : CheckItem) → success_of t ≡ Some e → IsCheckItem e
success_of-formed t e h =
    let (p, two, rest) = chained success_with (two_arguments (codes "=>") t) e h in
    let (c, made, more) = chained (λ c. option_map (check Success c) (properties_of c.goal.variables p.1)) (call_of p.0) e rest in
    let (post, all, is) = mapped (check Success c) (properties_of c.goal.variables p.1) e more in
    subst IsCheckItem is (check-formed Success c post (call_from-formed p.0 (two_arguments (codes ":") p.0) c made)
    (properties_of-within c.goal.variables p.1 post all))

pub check_from-formed : (calls success : Option Term) (e : CheckItem) → check_from calls success ≡ Some e → IsCheckItem e
check_from-formed (Some t) success e h = calls_of-formed t e h
check_from-formed None (Some t) e h = success_of-formed t e h
check_from-formed None None e h = absurd cc
