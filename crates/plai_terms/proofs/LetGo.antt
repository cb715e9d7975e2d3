-- Why the loop that lets go of a term ends.
use Rattle.std.proofs.Common.{◌≡◌, ◌≤◌, ◌<◌, ℕ, suc, ◌+◌, ◌*◌, List, [], ◌∷◌, ◌++◌, length, flat_map, ap, ◌∙◌, arith, length-append}
use Rattle.std.proofs.lemmas.List.{append-nil}
use Rattle.std.proofs.lemmas.Grind.{flat_map-append}
use Rattle.std.proofs.lemmas.Nat.{mul-le}
use Rattle.std.proofs.Math.Nat.{mul-suc, suc-mul}
use Rattle.plai_terms.specs.Preorder.{arguments_of, preorder}
use Rattle.plai_terms.specs.declared.term.Term.{Term, Compound}
use Rattle.plai_terms.proofs.Preorder.{arguments_of-Compound, preorder_is}

-- how many subterms some terms have together
abbrev pub count_in : List Term → ℕ
count_in ts = length (flat_map preorder ts)

-- how many a term and those that wait have, and where this stays, how many the term has
abbrev pub left_to_go : Term → List Term → ℕ
left_to_go t ts = (count_in (t ∷ ts)) * (count_in (t ∷ ts)) + length (preorder t)

pub count_first : (t : Term) (ts : List Term) → count_in (t ∷ ts) ≡ length (preorder t) + count_in ts
count_first t ts = length-append (preorder t) (flat_map preorder ts)

count_last : (ts : List Term) (t : Term) → count_in (ts ++ t ∷ []) ≡ count_in ts + length (preorder t)
count_last ts t =
    ap length (flat_map-append preorder ts (t ∷ [])) ∙ length-append (flat_map preorder ts) (preorder t ++ [])
    ∙ ap (λ us. count_in ts + length us) (append-nil (preorder t))

pub count_of : (t : Term) → length (preorder t) ≡ 1 + count_in (arguments_of t)
count_of t = let p = ap length (preorder_is t) in omega (arith, p)

pub fewer_in_all : (m n c d : ℕ) → m < n → c ≤ m → m * m + c < n * n + d
fewer_in_all m n c d h k =
    let larger = mul-le (suc m) (suc m) n n (omega arith) (omega arith) in
    let p = mul-suc (suc m) m in
    let q = suc-mul m m in
    omega (arith, larger, p, q)

-- those that wait give their last
pub takes_waiting : (s t : Term) (args rest : List Term) → args ≡ rest ++ t ∷ [] → left_to_go t rest < left_to_go s args
takes_waiting s t args rest e =
    let a = ap count_in e ∙ count_last rest t in
    let b = count_first t rest in
    let c = count_first s args in
    let d = count_of s in
    fewer_in_all (count_in (t ∷ rest)) (count_in (s ∷ args)) (length (preorder t)) (length (preorder s)) (omega (arith, a, b, c, d)) (omega (arith, b))

-- a compound while none wait
pub takes_arguments : (s t : Term) (name : List ℕ) (args rest : List Term) → s ≡ Compound name args → args ≡ rest ++ t ∷ []
    → left_to_go t rest < left_to_go s []
takes_arguments s t name args rest is e =
    let a = ap count_in e ∙ count_last rest t in
    let b = count_first t rest in
    let c = count_first s [] in
    let d = count_of s in
    let f = ap count_in (ap arguments_of is ∙ arguments_of-Compound name args) in
    fewer_in_all (count_in (t ∷ rest)) (count_in (s ∷ [])) (length (preorder t)) (length (preorder s)) (omega (arith, a, b, c, d, f)) (omega (arith, b))

-- a compound while others wait
pub turns : (s : Term) (name : List ℕ) (args others : List Term) (t : Term) (rest : List Term) (r : Term × List Term)
    → s ≡ Compound name args → args ≡ t ∷ rest → r ≡ (t, Compound name others ∷ rest) → left_to_go r.0 r.1 < left_to_go s others
turns s name args others t rest r is e k =
    let first = ap (λ p. p.0) k in
    let behind = ap (λ p. p.1) k in
    let g = ap (λ p. left_to_go p.0 p.1) k in
    let a = ap count_in e ∙ count_first t rest in
    let b = count_first t (Compound name others ∷ rest) in
    let c = count_first s others in
    let d = count_of s in
    let f = ap count_in (ap arguments_of is ∙ arguments_of-Compound name args) in
    let h = count_first (Compound name others) rest in
    let i = count_of (Compound name others) in
    let j = ap count_in (arguments_of-Compound name others) in
    let same : count_in (t ∷ (Compound name others ∷ rest)) ≡ count_in (s ∷ others) = omega (arith, a, b, c, d, f, h, i, j) in
    let squares = ap (λ n. n * n) same in
    omega (arith, g, squares, a, d, f)
