-- Two compounds, whose arguments are given up.
use Rattle.std.proofs.Common.{◌≡◌, ℕ, Bool, true, false, ◌&&◌, cond, nat_eq, List, length, sym, ap, ◌∙◌}
use Rattle.std.specs.Cmp.Lexicographic.{pointwise}
use Rattle.std.proofs.lemmas.Bool.{eqb-true}
use Rattle.plai_terms.specs.declared.term.Term.{Term, Compound}
use Rattle.plai_terms.specs.declared.moves.Move.TheVariants.{Split, Differ}
use Rattle.plai_terms.specs.Preorder.{arguments_of}
use Rattle.plai_terms.specs.Unification.{equations, move_of}
use Rattle.plai_terms.proofs.MoveAt.{compound_compound}
use Rattle.plai_terms.proofs.MoveLaws.{both}
use Rattle.plai_terms.proofs.Renewed.{arguments_is}

abbrev pub are_alike : List ℕ → List Term → List ℕ → List Term → Bool
are_alike a xs b ys = pointwise nat_eq a b && nat_eq (length xs) (length ys)

pub alike_is : (a b : List ℕ) (xs ys us vs : List Term) (p q : Bool) → us ≡ xs → vs ≡ ys → p ≡ are_alike a us b vs → p ≡ q → are_alike a xs b ys ≡ q
alike_is a b xs ys us vs p q d e k h = (λ i. are_alike a (sym d i) b (sym e i)) ∙ sym k ∙ h

pub alike_lengths : (l r : Term) (a b : List ℕ) (xs ys : List Term) → l ≡ Compound a xs → r ≡ Compound b ys
    → are_alike a xs b ys ≡ true → length (arguments_of l) ≡ length (arguments_of r)
alike_lengths l r a b xs ys d e k =
    ap length (arguments_is l a xs d) ∙ eqb-true (length xs) (length ys) ((both (pointwise nat_eq a b) (nat_eq (length xs) (length ys)) k).1)
    ∙ sym (ap length (arguments_is r b ys e))

pub alike_split : (l r : Term) (a b : List ℕ) (xs ys : List Term) → l ≡ Compound a xs → r ≡ Compound b ys
    → are_alike a xs b ys ≡ true → move_of l r ≡ Split (equations (arguments_of l) (arguments_of r))
alike_split l r a b xs ys d e k =
    compound_compound l r a b xs ys d e ∙ ap (λ c. cond c (Split (equations xs ys)) Differ) k
    ∙ (λ i. Split (equations (sym (arguments_is l a xs d) i) (sym (arguments_is r b ys e) i)))

pub others_differ : (l r : Term) (a b : List ℕ) (xs ys : List Term) → l ≡ Compound a xs → r ≡ Compound b ys
    → are_alike a xs b ys ≡ false → move_of l r ≡ Differ
others_differ l r a b xs ys d e k = compound_compound l r a b xs ys d e ∙ ap (λ c. cond c (Split (equations xs ys)) Differ) k
