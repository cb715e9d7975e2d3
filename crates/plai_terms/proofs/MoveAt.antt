-- The move at each two terms.
use Rattle.std.proofs.Common.{◌≡◌, ◌⊎◌, inl, inr, ℕ, ℤ, ◌==◌, cond, nat_eq, List, ap, ◌∙◌, rules}
use Rattle.std.specs.Cmp.Lexicographic.{pointwise}
use Rattle.std.specs.Ordering.{int_eq}
use Rattle.plai_terms.specs.declared.term.Term.{Term, Var, Int, Atom, Compound, out-Term, the_lemmas}
use Rattle.plai_terms.specs.declared.term.Term.TheOpen.{Term-F}
use Rattle.std.proofs.lemmas.Bool.{eqb-true, eq-eqb}
use Rattle.plai_terms.proofs.Under.{decided}
use Rattle.plai_terms.specs.Unification.{bind_of, skip_if, split_of, move_of_levels, move_of}
use Rattle.plai_terms.specs.declared.moves.Move.TheVariants.{Skip, Bind, Differ}

abbrev At : Term → Term-F Term → Type 0
At t x = out-Term t ≡ x

at_Var : (t : Term) (v : ℕ) → t ≡ Var v → At t (Term-F.Var v)
at_Var t v e = let o : out-Term (Var v) ≡ Term-F.Var v = search (rules, the_lemmas) in ap out-Term e ∙ o

at_Int : (t : Term) (n : ℤ) → t ≡ Int n → At t (Term-F.Int n)
at_Int t n e = let o : out-Term (Int n) ≡ Term-F.Int n = search (rules, the_lemmas) in ap out-Term e ∙ o

at_Atom : (t : Term) (a : List ℕ) → t ≡ Atom a → At t (Term-F.Atom a)
at_Atom t a e = let o : out-Term (Atom a) ≡ Term-F.Atom a = search (rules, the_lemmas) in ap out-Term e ∙ o

at_Compound : (t : Term) (a : List ℕ) (xs : List Term) → t ≡ Compound a xs → At t (Term-F.Compound a xs)
at_Compound t a xs e = let o : out-Term (Compound a xs) ≡ Term-F.Compound a xs = search (rules, the_lemmas) in ap out-Term e ∙ o

at_both : (l r : Term) (x y : Term-F Term) → At l x → At r y → move_of l r ≡ move_of_levels l r x y
unfolding move_of
at_both l r x y a b = λ i. move_of_levels l r (a i) (b i)

abbrev IsCompound : Term → Type 0
IsCompound t = (a : List ℕ) × (xs : List Term) × (t ≡ Compound a xs)

abbrev IsAtom : Term → Type 0
IsAtom t = (a : List ℕ) × (t ≡ Atom a)

abbrev IsInt : Term → Type 0
IsInt t = (n : ℤ) × (t ≡ Int n)

pub var_var : (l r : Term) (v w : ℕ) → l ≡ Var v → r ≡ Var w → move_of l r ≡ cond (v == w) Skip (Bind v r)
var_var l r v w d e = at_both l r (Term-F.Var v) (Term-F.Var w) (at_Var l v d) (at_Var r w e)

pub var_other : (l r : Term) (v : ℕ) → l ≡ Var v → IsInt r ⊎ (IsAtom r ⊎ IsCompound r) → move_of l r ≡ bind_of v r
var_other l r v d (inl (n, e)) = at_both l r (Term-F.Var v) (Term-F.Int n) (at_Var l v d) (at_Int r n e)
var_other l r v d (inr (inl (a, e))) = at_both l r (Term-F.Var v) (Term-F.Atom a) (at_Var l v d) (at_Atom r a e)
var_other l r v d (inr (inr (a, xs, e))) = at_both l r (Term-F.Var v) (Term-F.Compound a xs) (at_Var l v d) (at_Compound r a xs e)

pub int_var : (l r : Term) (n : ℤ) (w : ℕ) → l ≡ Int n → r ≡ Var w → move_of l r ≡ bind_of w l
int_var l r n w d e = at_both l r (Term-F.Int n) (Term-F.Var w) (at_Int l n d) (at_Var r w e)

pub atom_var : (l r : Term) (a : List ℕ) (w : ℕ) → l ≡ Atom a → r ≡ Var w → move_of l r ≡ bind_of w l
atom_var l r a w d e = at_both l r (Term-F.Atom a) (Term-F.Var w) (at_Atom l a d) (at_Var r w e)

pub compound_var : (l r : Term) (a : List ℕ) (xs : List Term) (w : ℕ) → l ≡ Compound a xs → r ≡ Var w → move_of l r ≡ bind_of w l
compound_var l r a xs w d e = at_both l r (Term-F.Compound a xs) (Term-F.Var w) (at_Compound l a xs d) (at_Var r w e)

pub int_int : (l r : Term) (m n : ℤ) → l ≡ Int m → r ≡ Int n → move_of l r ≡ skip_if (int_eq m n)
int_int l r m n d e = at_both l r (Term-F.Int m) (Term-F.Int n) (at_Int l m d) (at_Int r n e)

pub atom_atom : (l r : Term) (a b : List ℕ) → l ≡ Atom a → r ≡ Atom b → move_of l r ≡ skip_if (pointwise nat_eq a b)
atom_atom l r a b d e = at_both l r (Term-F.Atom a) (Term-F.Atom b) (at_Atom l a d) (at_Atom r b e)

pub compound_compound : (l r : Term) (a b : List ℕ) (xs ys : List Term) → l ≡ Compound a xs → r ≡ Compound b ys → move_of l r ≡ split_of a xs b ys
compound_compound l r a b xs ys d e = at_both l r (Term-F.Compound a xs) (Term-F.Compound b ys) (at_Compound l a xs d) (at_Compound r b ys e)

pub int_other : (l r : Term) (n : ℤ) → l ≡ Int n → IsAtom r ⊎ IsCompound r → move_of l r ≡ Differ
int_other l r n d (inl (b, e)) = at_both l r (Term-F.Int n) (Term-F.Atom b) (at_Int l n d) (at_Atom r b e)
int_other l r n d (inr (b, ys, e)) = at_both l r (Term-F.Int n) (Term-F.Compound b ys) (at_Int l n d) (at_Compound r b ys e)

pub atom_other : (l r : Term) (a : List ℕ) → l ≡ Atom a → IsInt r ⊎ IsCompound r → move_of l r ≡ Differ
atom_other l r a d (inl (n, e)) = at_both l r (Term-F.Atom a) (Term-F.Int n) (at_Atom l a d) (at_Int r n e)
atom_other l r a d (inr (b, ys, e)) = at_both l r (Term-F.Atom a) (Term-F.Compound b ys) (at_Atom l a d) (at_Compound r b ys e)

pub compound_other : (l r : Term) (a : List ℕ) (xs : List Term) → l ≡ Compound a xs → IsInt r ⊎ IsAtom r → move_of l r ≡ Differ
compound_other l r a xs d (inl (n, e)) = at_both l r (Term-F.Compound a xs) (Term-F.Int n) (at_Compound l a xs d) (at_Int r n e)
compound_other l r a xs d (inr (b, e)) = at_both l r (Term-F.Compound a xs) (Term-F.Atom b) (at_Compound l a xs d) (at_Atom r b e)

pub var_same : (l r : Term) (v w : ℕ) → l ≡ Var v → r ≡ Var w → v ≡ w → move_of l r ≡ Skip
var_same l r v w d e same = var_var l r v w d e ∙ ap (λ b. cond b Skip (Bind v r)) (eq-eqb v w same)

pub var_apart : (l r : Term) (v w : ℕ) → l ≡ Var v → r ≡ Var w → (v ≡ w → ⊥) → move_of l r ≡ Bind v r
var_apart l r v w d e apart =
    elim (decided (v == w)) [
      | inl k ↦ absurd (apart (eqb-true v w k))
      | inr k ↦ var_var l r v w d e ∙ ap (λ b. cond b Skip (Bind v r)) k
    ]
