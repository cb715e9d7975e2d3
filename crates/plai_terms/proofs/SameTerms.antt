-- Two terms at which `==` answers true are equal, and the other way round.
use Rattle.std.proofs.Common.{◌≡◌, Bool, true, false, ◌&&◌, nat_eq, List, [], ◌∷◌, rules, refl, sym, ap, ◌∙◌, subst, ◌↔◌}
use Rattle.std.specs.List.{AllByRecursion}
use Rattle.std.specs.Cmp.Lexicographic.{pointwise}
use Rattle.std.specs.Ordering.{int_eq}
use Rattle.std.proofs.lemmas.Bool.{eqb-true}
use Rattle.std.proofs.lemmas.Bool.Decides.{Decides-int_eq}
use Rattle.plai_terms.specs.declared.term.Term.{Term, roll-Term, out-Term, roll-out-Term, the_lemmas}
use Rattle.plai_terms.specs.declared.term.Term.TheOpen.{Term-F}
use Rattle.plai_terms.specs.contracts.term.TermPartialEq.TheImpl as term_eq
use Rattle.plai_terms.specs.contracts.term.TermPartialEq.TheImpl.Laws as laws
use Rattle.plai_terms.specs.contracts.term.TermEq.TheImpl.Laws as equiv_laws
use Rattle.plai_terms.proofs.Terms.{arguments, induction_by_levels}
use Rattle.plai_terms.proofs.Same.{both, names_equal}

abbrev pub same_term : Term → Term → Bool
same_term = (term_eq.ghosts).eq

abbrev same_level : Term-F Term → Term-F Term → Bool
same_level (Term-F.Var v) (Term-F.Var w) = nat_eq v w
same_level (Term-F.Int m) (Term-F.Int n) = int_eq m n
same_level (Term-F.Atom a) (Term-F.Atom b) = pointwise nat_eq a b
same_level (Term-F.Compound n as') (Term-F.Compound m bs) = pointwise nat_eq n m && pointwise same_term as' bs
same_level _ _ = false

same_term-roll : (x y : Term-F Term) → same_term (roll-Term x) (roll-Term y) ≡ same_level x y
same_term-roll (Term-F.Var v) (Term-F.Var w) = laws.is _ _ ∙ search (rules, the_lemmas)
same_term-roll (Term-F.Int m) (Term-F.Int n) = laws.is _ _ ∙ search (rules, the_lemmas)
same_term-roll (Term-F.Atom a) (Term-F.Atom b) = laws.is _ _ ∙ search (rules, the_lemmas)
same_term-roll (Term-F.Compound n as') (Term-F.Compound m bs) = laws.is _ _ ∙ search (rules, the_lemmas)
same_term-roll _ _ = laws.is _ _ ∙ search (rules, the_lemmas)

abbrev IsTold : Term → Type 0
IsTold a = (b : Term) → same_term a b ≡ true → a ≡ b

all_equal : (as' bs : List Term) → AllByRecursion IsTold as' → pointwise same_term as' bs ≡ true → as' ≡ bs
all_equal [] [] h e = refl
all_equal [] (b ∷ bs) h e = cc
all_equal (a ∷ as') [] h e = cc
all_equal (a ∷ as') (b ∷ bs) h e =
    let t = both (same_term a b) (pointwise same_term as' bs) e in
    let p = h.0 b t.0 in
    let q = all_equal as' bs h.1 t.1 in
    cc

equal_levels : (x y : Term-F Term) → AllByRecursion IsTold (arguments x) → same_level x y ≡ true → x ≡ y
equal_levels (Term-F.Var v) (Term-F.Var w) h e = ap Term-F.Var (eqb-true v w e)
equal_levels (Term-F.Int m) (Term-F.Int n) h e = ap Term-F.Int ((Decides-int_eq m n).0 e)
equal_levels (Term-F.Atom a) (Term-F.Atom b) h e = ap Term-F.Atom (names_equal a b e)
equal_levels (Term-F.Compound n as') (Term-F.Compound m bs) h e =
    let t = both (pointwise nat_eq n m) (pointwise same_term as' bs) e in
    let p = names_equal n m t.0 in
    let q = all_equal as' bs h t.1 in
    cc
equal_levels _ _ h e = cc

same_term-true : (a b : Term) → same_term a b ≡ true → a ≡ b
same_term-true = induction_by_levels IsTold (λ x h b e.
    let y = out-Term b in
    let back : roll-Term y ≡ b = roll-out-Term b in
    let seen : same_level x y ≡ true = sym (same_term-roll x y) ∙ ap (same_term (roll-Term x)) back ∙ e in
    ap roll-Term (equal_levels x y h seen) ∙ back)

-- two terms at which `==` answers true are equal, and the other way round
pub term-Decides : (a b : Term) → (same_term a b ≡ true) ↔ (a ≡ b)
term-Decides a b = (same_term-true a b, λ e. subst (λ b. same_term a b ≡ true) e (equiv_laws.laws-law.refl a))
