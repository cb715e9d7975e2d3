-- Walks that find numbers above the variables of terms.
use Rattle.std.proofs.Common.{◌≡◌, ◌≢◌, ℕ, suc, ◌+◌, ◌<◌, max, ℤ, List, [], ◌∷◌, ◌++◌, map, flat_map, take, length, get_or, Bor, refl, sym, ap, ◌∙◌, rules}
use Rattle.std.proofs.Common.{arith}
use Rattle.std.specs.List.{AllByRecursion}
use Rattle.std.proofs.lemmas.List.{take_more, map-append}
use Rattle.plai_terms.specs.Preorder.{arguments_of, preorder, referred}
use Rattle.plai_terms.specs.declared.term.Term.{Term, Var, Int, Atom, Compound, out-Term, roll-Term, roll-out-Term, the_lemmas}
use Rattle.plai_terms.specs.declared.term.Term.TheOpen.{Term-F}
use Rattle.plai_terms.specs.declared.term.Term.TheVariants.{rolls-Var, rolls-Int, rolls-Atom, rolls-Compound}
use Rattle.plai_terms.specs.Unification.{Bindings}
use Rattle.plai_terms.proofs.Preorder.{arguments_of-Var, arguments_of-Int, arguments_of-Atom, arguments_of-Compound, preorder_is}
use Rattle.plai_terms.proofs.Terms.{induction}
use Rattle.plai_sld.specs.Limits.{highest, own_limit, limit_of, limit_in, past}
use Rattle.plai_sld.proofs.Above.{limit_of-Var, limit_of-Compound}

pub own_limit-Var : (v : ℕ) → own_limit (Var v) ≡ suc v
unfolding own_limit
own_limit-Var v = search (rules, the_lemmas)

own_limit-Int : (z : ℤ) → own_limit (Int z) ≡ 0
unfolding own_limit
own_limit-Int z = search (rules, the_lemmas)

own_limit-Atom : (a : List ℕ) → own_limit (Atom a) ≡ 0
unfolding own_limit
own_limit-Atom a = search (rules, the_lemmas)

own_limit-Compound : (name : List ℕ) (args : List Term) → own_limit (Compound name args) ≡ 0
unfolding own_limit
own_limit-Compound name args = search (rules, the_lemmas)

other_in : (t : Term) (x : Term-F Term) → roll-Term x ≡ t → ((v : ℕ) → t ≢ Var v) → own_limit t ≡ 0
other_in t (Term-F.Var v) e h = absurd (h v (sym e ∙ rolls-Var v))
other_in t (Term-F.Int z) e h = ap own_limit (sym e ∙ rolls-Int z) ∙ own_limit-Int z
other_in t (Term-F.Atom a) e h = ap own_limit (sym e ∙ rolls-Atom a) ∙ own_limit-Atom a
other_in t (Term-F.Compound name args) e h = ap own_limit (sym e ∙ rolls-Compound name args) ∙ own_limit-Compound name args

pub other_limit : (t : Term) → ((v : ℕ) → t ≢ Var v) → own_limit t ≡ 0
other_limit t h = other_in t (out-Term t) (roll-out-Term t) h

-- the greatest of the terms' own limits
abbrev pub walked : List Term → ℕ
walked ts = highest (map own_limit ts)

walked-append : (ts us : List Term) → walked (ts ++ us) ≡ max (walked ts) (walked us)
walked-append [] us = omega arith
walked-append (t ∷ ts) us = let e : walked (ts ++ us) ≡ max (walked ts) (walked us) = walked-append ts us in omega arith

abbrev IsWalked : Term → Type 0
IsWalked t = walked (preorder t) ≡ limit_of t

all_walked : (args : List Term) → AllByRecursion IsWalked args → walked (flat_map preorder args) ≡ highest (map limit_of args)
all_walked [] h = refl
all_walked (a ∷ args) h =
    let first : walked (preorder a) ≡ limit_of a = h.0 in
    let others : walked (flat_map preorder args) ≡ highest (map limit_of args) = all_walked args h.1 in
    walked-append (preorder a) (flat_map preorder args) ∙ omega arith

leaf : (t : Term) (n : ℕ) → arguments_of t ≡ [] → own_limit t ≡ n → limit_of t ≡ n → IsWalked t
leaf t n e i o =
    let whole : walked (preorder t) ≡ max (own_limit t) 0 = ap walked (preorder_is t) ∙ ap (λ ts. max (own_limit t) (walked (flat_map preorder ts))) e in
    omega arith

is_walked : (t : Term) → IsWalked t
is_walked = induction IsWalked
    (λ v. leaf (Var v) (suc v) (arguments_of-Var v) (own_limit-Var v) (limit_of-Var v))
    (λ z. leaf (Int z) 0 (arguments_of-Int z) (own_limit-Int z) (search (rules, the_lemmas)))
    (λ a. leaf (Atom a) 0 (arguments_of-Atom a) (own_limit-Atom a) (search (rules, the_lemmas)))
    (λ name args h.
    let whole : walked (preorder (Compound name args)) ≡ max (own_limit (Compound name args)) (walked (flat_map preorder args)) =
    ap walked (preorder_is (Compound name args))
    ∙ ap (λ ts. max (own_limit (Compound name args)) (walked (flat_map preorder ts))) (arguments_of-Compound name args) in
    let own : own_limit (Compound name args) ≡ 0 = own_limit-Compound name args in
    let others : walked (flat_map preorder args) ≡ highest (map limit_of args) = all_walked args h in
    let all : limit_of (Compound name args) ≡ highest (map limit_of args) = limit_of-Compound name args in
    omega arith)

-- a step of the walk over a term's subterms, and its end
pub walk_on : (nodes : List (Bor Term)) (i : ℕ) (node : Bor Term) (limit after : ℕ) → i < length nodes → node ≡ get_or nodes i node
    → limit ≡ walked (referred (take i nodes)) → after ≡ max limit (own_limit node.now)
    → after ≡ walked (referred (take (i + 1) nodes))
walk_on nodes i node limit after lt is before e =
    let cut : referred (take (i + 1) nodes) ≡ referred (take i nodes) ++ node.now ∷ [] =
    ap referred (take_more nodes i node lt ∙ ap (λ x. take i nodes ++ x ∷ []) (sym is)) ∙ map-append (λ (x : Bor Term). x.now) (take i nodes) (node ∷ []) in
    let more : walked (referred (take (i + 1) nodes)) ≡ max (walked (referred (take i nodes))) (max (own_limit node.now) 0) =
    ap walked cut ∙ walked-append (referred (take i nodes)) (node.now ∷ []) in
    omega arith

pub walk_ends : (nodes : List (Bor Term)) (t : Term) → referred nodes ≡ preorder t → walked (referred nodes) ≡ limit_of t
walk_ends nodes t e = ap walked e ∙ is_walked t

-- a step of the walk over a list of terms, and of one over bindings
limit_in-append : (ts : List Term) (t : Term) → limit_in (ts ++ t ∷ []) ≡ max (limit_in ts) (limit_of t)
limit_in-append [] t = omega arith
limit_in-append (u ∷ ts) t = let e : limit_in (ts ++ t ∷ []) ≡ max (limit_in ts) (limit_of t) = limit_in-append ts t in omega arith

pub terms_on : (ts : List Term) (i : ℕ) (t : Term) (limit after : ℕ) → i < length ts → t ≡ get_or ts i t → limit ≡ limit_in (take i ts)
    → after ≡ max limit (limit_of t) → after ≡ limit_in (take (i + 1) ts)
terms_on ts i t limit after lt is before e =
    let cut : take (i + 1) ts ≡ take i ts ++ t ∷ [] = take_more ts i t lt ∙ ap (λ x. take i ts ++ x ∷ []) (sym is) in
    let more : limit_in (take (i + 1) ts) ≡ max (limit_in (take i ts)) (limit_of t) = ap limit_in cut ∙ limit_in-append (take i ts) t in
    omega arith

past-append : (n : ℕ) (bs : Bindings) (b : ℕ × Term) → past n (bs ++ b ∷ []) ≡ max (past n bs) (limit_of b.1)
past-append n [] b = omega arith
past-append n (c ∷ bs) b = let e : past n (bs ++ b ∷ []) ≡ max (past n bs) (limit_of b.1) = past-append n bs b in omega arith

pub bindings_on : (n : ℕ) (bs : Bindings) (i : ℕ) (b : ℕ × Term) (limit after : ℕ) → i < length bs → b ≡ get_or bs i b → limit ≡ past n (take i bs)
    → after ≡ max limit (limit_of b.1) → after ≡ past n (take (i + 1) bs)
bindings_on n bs i b limit after lt is before e =
    let cut : take (i + 1) bs ≡ take i bs ++ b ∷ [] = take_more bs i b lt ∙ ap (λ x. take i bs ++ x ∷ []) (sym is) in
    let more : past n (take (i + 1) bs) ≡ max (past n (take i bs)) (limit_of b.1) = ap (past n) cut ∙ past-append n (take i bs) b in
    omega arith
