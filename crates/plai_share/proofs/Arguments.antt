-- Walks over the arguments of compounds, heads and literals.
use Rattle.std.proofs.Common.{◌≡◌, ℕ, zero, suc, ◌+◌, ◌<◌, ◌≤◌, Bool, true, bit_or, List, [], ◌∷◌, map, length, drop, get_or, refl, sym, ap, ◌∙◌, arith}
use Rattle.std.specs.List.{list_all}
use Rattle.std.proofs.lemmas.List.{drop_more}
use Rattle.std.proofs.lemmas.Bool.{and_parts}
use Rattle.plai_terms.specs.declared.term.Term.{Term}
use Rattle.plai_terms.specs.Term.{has_variables_below}
use Rattle.plai_domain.specs.Instances.{all_below}
use Rattle.plai_share_laws.specs.Sides.{unions, side_of}
use Rattle.plai_share_laws.specs.Calls.{side_at}
use Rattle.plai_share_laws.specs.Sharing.{sides_of}
use Rattle.plai_share_laws.proofs.Sets.{or_zero, or_assoc}

front : (g : Bool → Bool) (b : Bool) (bs : List Bool) → list_all g (b ∷ bs) ≡ true → list_all g bs ≡ true
front g b bs h = (and_parts (g b) (list_all g bs) h).1

pub arg_term : (g : Term → Bool) (args : List Term) (i : ℕ) (t : Term) → i < length args → list_all (λ b. b) (map g (drop i args)) ≡ true
    → list_all (λ b. b) (map g (drop (i + 1) args)) ≡ true
arg_term g args i t l h = front (λ b. b) (g (get_or args i t)) (map g (drop (i + 1) args))
    (sym (ap (λ ts. list_all (λ b. b) (map g ts)) (drop_more args i t l)) ∙ h)

pub arg_slots : (f : Term → ℕ) (args : List Term) (i : ℕ) (t : Term) (slots new r whole : ℕ) → i < length args → t ≡ get_or args i t
    → bit_or slots (unions (map f (drop i args))) ≡ whole → r ≡ f t → new ≡ bit_or slots r → bit_or new (unions (map f (drop (i + 1) args))) ≡ whole
arg_slots f args i t slots new r whole l at e d n =
    let rest = unions (map f (drop (i + 1) args)) in
    ap (λ m. bit_or m rest) (n ∙ ap (bit_or slots) (d ∙ ap f at)) ∙ or_assoc slots (f (get_or args i t)) rest
    ∙ ap (λ ts. bit_or slots (unions (map f ts))) (sym (drop_more args i t l)) ∙ e

drop_past : (args : List Term) (i : ℕ) → length args ≤ i → drop i args ≡ []
drop_past [] zero l = refl
drop_past [] (suc i) l = refl
drop_past (t ∷ ts) zero l = absurd (omega arith)
drop_past (t ∷ ts) (suc i) l = drop_past ts i (omega arith)

pub arg_end : (f : Term → ℕ) (args : List Term) (i slots whole : ℕ) → length args ≤ i → bit_or slots (unions (map f (drop i args))) ≡ whole → slots ≡ whole
arg_end f args i slots whole l e = sym (or_zero slots) ∙ ap (λ ts. bit_or slots (unions (map f ts))) (sym (drop_past args i l)) ∙ e

-- the first argument and the others
pub first_below : (limit : ℕ) (ts rest : List Term) (t : Term) → ts ≡ t ∷ rest → all_below limit ts ≡ true
    → (has_variables_below limit t ≡ true) × (all_below limit rest ≡ true)
first_below limit ts rest t e h = and_parts (has_variables_below limit t) (all_below limit rest) (sym (ap (all_below limit) e) ∙ h)

-- the argument at a place
pub below_at : (limit : ℕ) (args : List Term) (j : ℕ) (d : Term) → all_below limit args ≡ true → j < length args
    → has_variables_below limit (get_or args j d) ≡ true
below_at limit [] j d e l = absurd (omega (arith, l))
below_at limit (t ∷ ts) zero d e l = (and_parts (has_variables_below limit t) (all_below limit ts) e).0
below_at limit (t ∷ ts) (suc j) d e l = below_at limit ts j d (and_parts (has_variables_below limit t) (all_below limit ts) e).1 (omega (arith, l))

pub side_here : (n : ℕ) (args : List Term) (j : ℕ) (d : Term) → j < length args → side_of n (get_or args j d) ≡ side_at (sides_of n args) j
side_here n [] j d l = absurd (omega (arith, l))
side_here n (t ∷ ts) zero d l = refl
side_here n (t ∷ ts) (suc j) d l = side_here n ts j d (omega (arith, l))
