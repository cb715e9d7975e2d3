-- One more equation at the end.
use Rattle.std.proofs.Common.{◌≡◌, ℕ, zero, suc, ◌<◌, List, [], ◌∷◌, ◌++◌, take, length, reverse, get_or, refl, sym, ap, ◌∙◌, append_assoc, length-append}
use Rattle.std.proofs.Common.{arith}
use Rattle.std.proofs.lemmas.List.{reverse-append}
use Rattle.plai_terms.specs.declared.term.Term.{Term}
use Rattle.plai_terms.specs.Unification.{Equations, equations}

pub equations_more : (xs ys : List Term) (i : ℕ) (a b : Term) → i < length xs → length xs ≡ length ys
    → equations (take (suc i) xs) (take (suc i) ys) ≡ equations (take i xs) (take i ys) ++ (get_or xs i a, get_or ys i b) ∷ []
equations_more [] ys i a b h e = absurd (omega arith)
equations_more (x ∷ xs) [] i a b h e = absurd (omega arith)
equations_more (x ∷ xs) (y ∷ ys) zero a b h e = refl
equations_more (x ∷ xs) (y ∷ ys) (suc i) a b h e = ap (λ es. (x, y) ∷ es) (equations_more xs ys i a b (omega arith) (omega arith))

-- One more of each at the end.
pub equations_last : (xs ys : List Term) (x y : Term) → length xs ≡ length ys → equations (xs ++ x ∷ []) (ys ++ y ∷ []) ≡ equations xs ys ++ (x, y) ∷ []
equations_last [] [] x y e = refl
equations_last [] (b ∷ ys) x y e = absurd (omega (arith, e))
equations_last (a ∷ xs) [] x y e = absurd (omega (arith, e))
equations_last (a ∷ xs) (b ∷ ys) x y e = ap (λ es. (a, b) ∷ es) (equations_last xs ys x y (omega (arith, e)))

-- The last of each is taken.
pub lengths_taken : (xs ys us vs : List Term) (x y : Term) → xs ≡ us ++ x ∷ [] → ys ≡ vs ++ y ∷ [] → length xs ≡ length ys → length us ≡ length vs
lengths_taken xs ys us vs x y d e h =
    let p = ap length d ∙ length-append us (x ∷ []) in
    let q = ap length e ∙ length-append vs (y ∷ []) in
    omega (arith, p, q, h)

pub pairs_taken : (xs ys us vs : List Term) (x y : Term) (ps qs es : Equations) → xs ≡ us ++ x ∷ [] → ys ≡ vs ++ y ∷ [] → length xs ≡ length ys
    → qs ≡ ps ++ (x, y) ∷ [] → equations xs ys ++ reverse ps ≡ es → equations us vs ++ reverse qs ≡ es
pairs_taken xs ys us vs x y ps qs es d e h k is =
    ap (λ q. equations us vs ++ q) (ap reverse k ∙ reverse-append ps ((x, y) ∷ []))
    ∙ sym (append_assoc (equations us vs) ((x, y) ∷ []) (reverse ps))
    ∙ ap (λ q. q ++ reverse ps) (sym (equations_last us vs x y (lengths_taken xs ys us vs x y d e h)))
    ∙ (λ i. equations (sym d i) (sym e i) ++ reverse ps)
    ∙ is
