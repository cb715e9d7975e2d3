-- Bindings that are put behind others.
use Rattle.std.proofs.Common.{◌≡◌, inl, inr, ℕ, zero, suc, ◌+◌, ◌<◌, ◌≤◌, true, false, ◌||◌, nat_eq, eqb, cond, Option, Some, None, is_some, unwrap_or, []}
use Rattle.std.proofs.Common.{◌∷◌, ◌++◌, map, take, length, get_or, refl, sym, ap, subst, ◌∙◌, arith}
use Rattle.std.specs.List.{list_any, IsDistinct}
use Rattle.std.proofs.lemmas.Bool.{eqb-true, eqb-false, eq-eqb, ne_eqb}
use Rattle.std.proofs.lemmas.List.{append_assoc, take_more, take_all}
use Rattle.std.proofs.lemmas.Map.Keys.{IsDistinct-push}
use Rattle.std.proofs.lemmas.Cmp.{nat_eq_equiv}
use Rattle.plai_terms.specs.Subst.{bound_to}
use Rattle.plai_terms.specs.Substitution.{under, then_also}
use Rattle.plai_terms.specs.declared.term.Term.{Term, Var}
use Rattle.plai_terms.specs.Unification.{Bindings}
use Rattle.plai_terms.proofs.Under.{decided, or_first, or_second, under-composed}
use Rattle.plai_sld.specs.Pending.{keys, found, found_or, HaveMore}

pub bound_found : (bs : Bindings) (v : ℕ) → bound_to bs v ≡ unwrap_or (found bs v) (Var v)
bound_found [] v = refl
bound_found (b ∷ bs) v =
    elim (decided (eqb b.0 v)) [
      | inl e ↦ ap (λ q. cond q b.1 (bound_to bs v)) e ∙ sym (ap (λ q. unwrap_or (cond q (Some b.1) (found bs v)) (Var v)) e)
      | inr e ↦ ap (λ q. cond q b.1 (bound_to bs v)) e ∙ bound_found bs v ∙ sym (ap (λ q. unwrap_or (cond q (Some b.1) (found bs v)) (Var v)) e)
    ]

-- one more binding at the end
pub found_push : (bs : Bindings) (b : ℕ × Term) (v : ℕ) → found (bs ++ b ∷ []) v ≡ found_or (found bs v) b v
found_push [] b v = refl
found_push (x ∷ bs) b v =
    elim (decided (eqb x.0 v)) [
      | inl e ↦ ap (λ q. cond q (Some x.1) (found (bs ++ b ∷ []) v)) e ∙ sym (ap (λ q. found_or (cond q (Some x.1) (found bs v)) b v) e)
      | inr e ↦ ap (λ q. cond q (Some x.1) (found (bs ++ b ∷ []) v)) e ∙ found_push bs b v ∙ sym (ap (λ q. found_or (cond q (Some x.1) (found bs v)) b v) e)
    ]

other_last : (o : Option Term) (b : ℕ × Term) (v : ℕ) → eqb b.0 v ≡ false → found_or o b v ≡ o
other_last (Some t) b v e = refl
other_last None b v e = ap (λ q. cond q (Some b.1) None) e

some_first : (o : Option Term) (b : ℕ × Term) (v : ℕ) → is_some o ≡ true → found_or o b v ≡ o
some_first (Some t) b v e = refl
some_first None b v e = cc

-- a variable is bound where it is one of those
found_any : (bs : Bindings) (v : ℕ) → list_any (nat_eq v) (keys bs) ≡ is_some (found bs v)
found_any [] v = refl
found_any (b ∷ bs) v =
    elim (decided (eqb b.0 v)) [
      | inl e ↦ ap (λ q. q || list_any (nat_eq v) (keys bs)) (eq-eqb v b.0 (sym (eqb-true b.0 v e)))
          ∙ sym (ap (λ q. is_some (cond q (Some b.1) (found bs v))) e)
      | inr e ↦
          let apart : b.0 ≡ v → ⊥ = eqb-false b.0 v e in
          ap (λ q. q || list_any (nat_eq v) (keys bs)) (ne_eqb v b.0 (λ (k : v ≡ b.0). apart (sym k))) ∙ found_any bs v
          ∙ sym (ap (λ q. is_some (cond q (Some b.1) (found bs v))) e)
    ]

-- a binding that is left out
module _ (limit : ℕ) (bs : Bindings) (b : ℕ × Term) where
  pub more_above : limit ≤ b.0 → HaveMore limit b bs bs
  more_above le v lt = sym (other_last (found bs v) b v (ne_eqb b.0 v (λ (e : b.0 ≡ v). omega arith)))

  pub more_again : list_any (nat_eq b.0) (keys bs) ≡ true → HaveMore limit b bs bs
  more_again there v lt =
      elim (decided (eqb b.0 v)) [
        | inl e ↦ sym (some_first (found bs v) b v (ap (λ w. is_some (found bs w)) (sym (eqb-true b.0 v e)) ∙ sym (found_any bs b.0) ∙ there))
        | inr e ↦ sym (other_last (found bs v) b v e)
      ]

-- the bindings so far, and the next one
pub next_more : (limit : ℕ) (initial pairs before after : Bindings) (i : ℕ) (b : ℕ × Term) → i < length pairs → b ≡ get_or pairs i b
    → ((v : ℕ) → v < limit → found before v ≡ found (initial ++ take i pairs) v) → HaveMore limit b before after
    → (v : ℕ) → v < limit → found after v ≡ found (initial ++ take (i + 1) pairs) v
next_more limit initial pairs before after i b lt is same more v below =
    let cut : initial ++ take (i + 1) pairs ≡ (initial ++ take i pairs) ++ b ∷ [] =
    ap (λ bs. initial ++ bs) (take_more pairs i b lt ∙ ap (λ x. take i pairs ++ x ∷ []) (sym is)) ∙ sym (append_assoc initial (take i pairs) (b ∷ [])) in
    more v below ∙ ap (λ o. found_or o b v) (same v below) ∙ sym (found_push (initial ++ take i pairs) b v) ∙ ap (λ bs. found bs v) (sym cut)

-- all of them
pub all_more : (limit : ℕ) (initial pairs all : Bindings) (i : ℕ) → length pairs ≤ i → ((v : ℕ) → v < limit → found all v ≡ found (initial ++ take i pairs) v)
    → (v : ℕ) → v < limit → bound_to all v ≡ bound_to (initial ++ pairs) v
all_more limit initial pairs all i le same v below =
    bound_found all v ∙ ap (λ o. unwrap_or o (Var v)) (same v below ∙ ap (λ bs. found (initial ++ bs) v) (take_all i pairs le))
    ∙ sym (bound_found (initial ++ pairs) v)

-- a variable that one of the bindings binds
pub any_key : (pairs : Bindings) (i : ℕ) (b : ℕ × Term) (v : ℕ) → i < length pairs → b ≡ get_or pairs i b → v ≡ b.0 → list_any (nat_eq v) (keys pairs) ≡ true
any_key [] i b v lt is e = absurd (omega arith)
any_key (x ∷ xs) zero b v lt is e = or_first (nat_eq v x.0) (list_any (nat_eq v) (keys xs)) (eq-eqb v x.0 (e ∙ ap (λ (p : ℕ × Term). p.0) is))
any_key (x ∷ xs) (suc i) b v lt is e = or_second (nat_eq v x.0) (list_any (nat_eq v) (keys xs)) (any_key xs i b v (omega arith) is e)

-- distinct variables
pub distinct_none : (ps : Bindings) → ps ≡ [] → IsDistinct nat_eq (keys ps)
unfolding IsDistinct
distinct_none ps e = subst (λ qs. IsDistinct nat_eq (keys qs)) (sym e) tt

keys_push : (ps : Bindings) (b : ℕ × Term) → keys (ps ++ b ∷ []) ≡ keys ps ++ b.0 ∷ []
keys_push [] b = refl
keys_push (p ∷ ps) b = ap (λ ks. p.0 ∷ ks) (keys_push ps b)

pub distinct_more : (ps after : Bindings) (b : ℕ × Term) → after ≡ ps ++ b ∷ [] → IsDistinct nat_eq (keys ps) → list_any (nat_eq b.0) (keys ps) ≡ false
    → IsDistinct nat_eq (keys after)
distinct_more ps after b e distinct fresh =
    subst (λ ks. IsDistinct nat_eq ks) (sym (ap keys e ∙ keys_push ps b)) (IsDistinct-push nat_eq_equiv (keys ps) b.0 distinct fresh)

-- bindings with their terms under a substitution
abbrev put_in : (ℕ → Term) → Bindings → Bindings
put_in f = map (λ b. (b.0, under f b.1))

keys_put : (f : ℕ → Term) (ps : Bindings) → keys (put_in f ps) ≡ keys ps
keys_put f [] = refl
keys_put f (p ∷ ps) = ap (λ ks. p.0 ∷ ks) (keys_put f ps)

pub distinct_put : (f : ℕ → Term) (first ps after : Bindings) → after ≡ map (λ b. (b.0, under f b.1)) ps → ps ≡ first → IsDistinct nat_eq (keys first)
    → IsDistinct nat_eq (keys after)
distinct_put f first ps after e same distinct = subst (λ ks. IsDistinct nat_eq ks) (sym (ap keys (e ∙ ap (put_in f) same) ∙ keys_put f first)) distinct

-- one substitution after another
pub both_is : (first second ps qs put all result : Bindings) (v : ℕ) → result ≡ all → bound_to all v ≡ bound_to (put ++ qs) v
    → put ≡ map (λ b. (b.0, under (bound_to second) b.1)) ps → ps ≡ first → qs ≡ second
    → bound_to result v ≡ then_also (bound_to first) (bound_to second) v
both_is first second ps qs put all result v r a e p q =
    ap (λ bs. bound_to bs v) r ∙ a ∙ ap (λ bs. bound_to (put ++ bs) v) q ∙ ap (λ bs. bound_to (bs ++ second) v) (e ∙ ap (put_in (bound_to second)) p)
    ∙ under-composed first second v
