-- The goals that a term joins.
use Rattle.std.proofs.Common.{◌≡◌, ◌∙◌, ℕ, true, false, List, [], ◌∷◌, ◌++◌, length, map, refl, sym, ap, rules, if◌then◌else◌}
use Rattle.std.proofs.lemmas.List.{length-map}
use Rattle.std.specs.Prelude.{flat_map}
use Rattle.std.specs.List.{AllByRecursion}
use Rattle.plai_terms.proofs.Terms.{induction}
use Rattle.plai_terms.specs.declared.term.Term.{Term, Compound, the_lemmas}
use Rattle.plai_terms.specs.declared.term.Term.TheOpen.{Term-F}
use Rattle.plai_clauses.specs.ClauseOf.{is_conjunction, with_goals, goals_step, goals_of}

with_goals-Compound : (name : List ℕ) (args : List Term) → with_goals (Compound name args) ≡ goals_step (Term-F.Compound name (map with_goals args))
with_goals-Compound name args = search (rules, the_lemmas)

abbrev IsWhole : Term → Type 0
IsWhole t = (with_goals t).0 ≡ t

all_whole : (args : List Term) → AllByRecursion IsWhole args → map (λ p. p.0) (map with_goals args) ≡ args
all_whole [] h = refl
all_whole (a ∷ args) h = let p = h.0 in let q = all_whole args h.1 in cc

whole : (t : Term) → (with_goals t).0 ≡ t
whole = induction IsWhole
    (λ v. search (rules, the_lemmas)) (λ n. search (rules, the_lemmas)) (λ a. search (rules, the_lemmas))
    (λ name args h. ap (λ p. p.0) (with_goals-Compound name args) ∙ ap (Compound name) (all_whole args h))

parts : (args : List Term) → map (λ p. p.0) (map with_goals args) ≡ args
parts [] = refl
parts (a ∷ args) = let p = whole a in let q = parts args in cc

fused : (args : List Term) → flat_map (λ p. p.1) (map with_goals args) ≡ flat_map goals_of args
fused [] = refl
fused (a ∷ args) = ap (λ gs. goals_of a ++ gs) (fused args)

goals_of-Compound : (name : List ℕ) (args : List Term)
    → goals_of (Compound name args) ≡ (if is_conjunction name (length args) then flat_map goals_of args else Compound name args ∷ [])
goals_of-Compound name args =
    ap (λ p. p.1) (with_goals-Compound name args)
    ∙ ap (λ n. if is_conjunction name n then flat_map (λ p. p.1) (map with_goals args) else Compound name (map (λ p. p.0) (map with_goals args)) ∷ [])
    (length-map args with_goals)
    ∙ ap (λ gs. if is_conjunction name (length args) then gs else Compound name (map (λ p. p.0) (map with_goals args)) ∷ []) (fused args)
    ∙ ap (λ ts. if is_conjunction name (length args) then flat_map goals_of args else Compound name ts ∷ []) (parts args)

goals_of-joined : (name : List ℕ) (args : List Term) → is_conjunction name (length args) ≡ true → goals_of (Compound name args) ≡ flat_map goals_of args
goals_of-joined name args e = goals_of-Compound name args ∙ ap (λ b. if b then flat_map goals_of args else Compound name args ∷ []) e

goals_of-single : (name : List ℕ) (args : List Term) → is_conjunction name (length args) ≡ false → goals_of (Compound name args) ≡ Compound name args ∷ []
goals_of-single name args e = goals_of-Compound name args ∙ ap (λ b. if b then flat_map goals_of args else Compound name args ∷ []) e

pub single_at : (t : Term) (name : List ℕ) (args : List Term) → t ≡ Compound name args → is_conjunction name (length args) ≡ false → goals_of t ≡ t ∷ []
single_at t name args e f = ap goals_of e ∙ goals_of-single name args f ∙ ap (λ x. x ∷ []) (sym e)

pub joined_at : (t : Term) (name : List ℕ) (args parts : List Term) → t ≡ Compound name args → parts ≡ args → is_conjunction name (length args) ≡ true
    → goals_of t ≡ flat_map goals_of parts
joined_at t name args parts e s f = ap goals_of e ∙ goals_of-joined name args f ∙ ap (flat_map goals_of) (sym s)
