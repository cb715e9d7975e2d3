-- The goals of a term, and the parts of a term in which no compound has too many arguments.
use Rattle.std.proofs.Common.{◌||◌, ◌≡◌, ◌∙◌, ℕ, ◌<◌, ℤ, Bool, true, false, cond, map, zero, suc, Some, None, List, [], ◌∷◌, ◌++◌, length, get_or, refl, sym}
use Rattle.std.proofs.Common.{ap}
use Rattle.std.proofs.Common.{arith, rules, if◌then◌else◌}
use Rattle.std.proofs.lemmas.List.{length-map}
use Rattle.std.specs.Prelude.{flat_map, nat_lt, nat_eq}
use Rattle.std.specs.List.{list_any, AllByRecursion}
use Rattle.std.specs.Cmp.Lexicographic.{pointwise}
use Rattle.plai_terms.proofs.Terms.{induction}
use Rattle.plai_terms.specs.declared.term.Term.{Term, Var, Int, Atom, Compound, the_lemmas}
use Rattle.plai_terms.specs.declared.term.Term.TheOpen.{Term-F}
use Rattle.plai_terms.specs.Readable.{is_wide}
use Rattle.plai_clauses.specs.ClauseOf.{is_conjunction, with_goals, goals_step, goals_of, two, two_arguments}

-- the goals of a term

with_goals-Compound : (name : List ℕ) (args : List Term) → with_goals (Compound name args) ≡ goals_step (Term-F.Compound name (map with_goals args))
with_goals-Compound name args = search (rules, the_lemmas)

abbrev IsWhole : Term → Type 0
IsWhole t = (with_goals t).0 ≡ t

all_whole : (args : List Term) → AllByRecursion IsWhole args → map (λ p. p.0) (map with_goals args) ≡ args
all_whole [] h = refl
all_whole (a ∷ args) h = let p = h.0 in let q = all_whole args h.1 in cc

whole : (t : Term) → (with_goals t).0 ≡ t
whole = induction IsWhole
    (λ v. search (rules, the_lemmas)) (λ n. search (rules, the_lemmas)) (λ a. search (rules, the_lemmas))
    (λ name args h. ap (λ p. p.0) (with_goals-Compound name args) ∙ ap (Compound name) (all_whole args h))

parts : (args : List Term) → map (λ p. p.0) (map with_goals args) ≡ args
parts [] = refl
parts (a ∷ args) = let p = whole a in let q = parts args in cc

fused : (args : List Term) → flat_map (λ p. p.1) (map with_goals args) ≡ flat_map goals_of args
fused [] = refl
fused (a ∷ args) = ap (λ gs. goals_of a ++ gs) (fused args)

goals_of-Compound : (name : List ℕ) (args : List Term)
    → goals_of (Compound name args) ≡ (if is_conjunction name (length args) then flat_map goals_of args else Compound name args ∷ [])
goals_of-Compound name args =
    ap (λ p. p.1) (with_goals-Compound name args)
    ∙ ap (λ n. if is_conjunction name n then flat_map (λ p. p.1) (map with_goals args) else Compound name (map (λ p. p.0) (map with_goals args)) ∷ [])
    (length-map args with_goals)
    ∙ ap (λ gs. if is_conjunction name (length args) then gs else Compound name (map (λ p. p.0) (map with_goals args)) ∷ []) (fused args)
    ∙ ap (λ ts. if is_conjunction name (length args) then flat_map goals_of args else Compound name ts ∷ []) (parts args)

pub goals_of-joined : (name : List ℕ) (args : List Term) → is_conjunction name (length args) ≡ true → goals_of (Compound name args) ≡ flat_map goals_of args
goals_of-joined name args e = goals_of-Compound name args ∙ ap (λ b. if b then flat_map goals_of args else Compound name args ∷ []) e

pub goals_of-single : (name : List ℕ) (args : List Term) → is_conjunction name (length args) ≡ false → goals_of (Compound name args) ≡ Compound name args ∷ []
goals_of-single name args e = goals_of-Compound name args ∙ ap (λ b. if b then flat_map goals_of args else Compound name args ∷ []) e

pub single_at : (t : Term) (name : List ℕ) (args : List Term) → t ≡ Compound name args → is_conjunction name (length args) ≡ false → goals_of t ≡ t ∷ []
single_at t name args e f = ap goals_of e ∙ goals_of-single name args f ∙ ap (λ x. x ∷ []) (sym e)

pub joined_at : (t : Term) (name : List ℕ) (args parts : List Term) → t ≡ Compound name args → parts ≡ args → is_conjunction name (length args) ≡ true
    → goals_of t ≡ flat_map goals_of parts
joined_at t name args parts e s f = ap goals_of e ∙ goals_of-joined name args f ∙ ap (flat_map goals_of) (sym s)

pub goals_of-Var : (v : ℕ) → goals_of (Var v) ≡ Var v ∷ []
goals_of-Var v = search (rules, the_lemmas)

pub goals_of-Int : (n : ℤ) → goals_of (Int n) ≡ Int n ∷ []
goals_of-Int n = search (rules, the_lemmas)

pub goals_of-Atom : (a : List ℕ) → goals_of (Atom a) ≡ Atom a ∷ []
goals_of-Atom a = search (rules, the_lemmas)

-- parts of a term in which no compound has too many arguments

is_wide-Compound : (name : List ℕ) (args : List Term)
    → is_wide (Compound name args) ≡ (nat_lt 255 (length (map is_wide args)) || list_any (λ b. b) (map is_wide args))
is_wide-Compound name args = search (rules, the_lemmas)

neither : (p q : Bool) → (p || q) ≡ false → (p ≡ false) × (q ≡ false)
neither false q e = (refl, e)
neither true q e = cc

none_wide : (args : List Term) (i : ℕ) (d : Term) → list_any (λ b. b) (map is_wide args) ≡ false → i < length args → is_wide (get_or args i d) ≡ false
none_wide [] i d e h = absurd (omega arith)
none_wide (a ∷ args) zero d e h = (neither (is_wide a) (list_any (λ b. b) (map is_wide args)) e).0
none_wide (a ∷ args) (suc i) d e h = none_wide args i d (neither (is_wide a) (list_any (λ b. b) (map is_wide args)) e).1 (omega arith)

any_wide : (name : List ℕ) (args : List Term) → is_wide (Compound name args) ≡ false → list_any (λ b. b) (map is_wide args) ≡ false
any_wide name args e = (neither (nat_lt 255 (length (map is_wide args))) (list_any (λ b. b) (map is_wide args)) (sym (is_wide-Compound name args) ∙ e)).1

pub narrow_part : (name : List ℕ) (args : List Term) (i : ℕ) (d : Term) → is_wide (Compound name args) ≡ false → i < length args
    → is_wide (get_or args i d) ≡ false
narrow_part name args i d e h = none_wide args i d (any_wide name args e) h

abbrev AreNarrow : List ℕ → Term → Type 0
AreNarrow wanted t = (h b : Term) → is_wide t ≡ false → two_arguments wanted t ≡ Some (h, b) → (is_wide h ≡ false) × (is_wide b ≡ false)

narrow_pair : (args : List Term) (h b : Term) → list_any (λ b. b) (map is_wide args) ≡ false → two args ≡ Some (h, b)
    → (is_wide h ≡ false) × (is_wide b ≡ false)
narrow_pair [] h b e f = cc
narrow_pair (x ∷ []) h b e f = cc
narrow_pair (x ∷ y ∷ []) h b e f =
    let p = neither (is_wide x) (is_wide y || false) e in
    let q = neither (is_wide y) false p.1 in
    let r : (x, y) ≡ (h, b) = cc in
    (sym (ap (λ (z : Term × Term). is_wide z.0) r) ∙ p.0, sym (ap (λ (z : Term × Term). is_wide z.1) r) ∙ q.0)
narrow_pair (x ∷ y ∷ z ∷ args) h b e f = cc

pub two_arguments-Compound : (wanted name : List ℕ) (args : List Term)
    → two_arguments wanted (Compound name args) ≡ cond (pointwise nat_eq name wanted) (two args) None
two_arguments-Compound wanted name args = search (rules, the_lemmas)

pub named_pair : (b : Bool) (args : List Term) (x y : Term) → cond b (two args) None ≡ Some (x, y) → two args ≡ Some (x, y)
named_pair true args x y e = e
named_pair false args x y e = cc

pub narrow_two : (wanted : List ℕ) (t : Term) → AreNarrow wanted t
narrow_two wanted = induction (AreNarrow wanted)
    (λ v h b e f. let no : two_arguments wanted (Var v) ≡ None = search (rules, the_lemmas) in cc)
    (λ n h b e f. let no : two_arguments wanted (Int n) ≡ None = search (rules, the_lemmas) in cc)
    (λ a h b e f. let no : two_arguments wanted (Atom a) ≡ None = search (rules, the_lemmas) in cc)
    (λ name args all h b e f. narrow_pair args h b (any_wide name args e)
    (named_pair (pointwise nat_eq name wanted) args h b (sym (two_arguments-Compound wanted name args) ∙ f)))
