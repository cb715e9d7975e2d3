-- Sets of keys answer as the lists of which they are made.
use Rattle.std.proofs.Common.{◌≡◌, ◌∙◌, ℕ, ◌+◌, ◌<◌, Bool, true, false, cond, ◌&&◌, ◌||◌, nat_eq, List, length, get_or, take, refl, sym, ap}
use Rattle.std.proofs.lemmas.List.Folds.{list_any_more}
use Rattle.std.specs.Prelude.{Option, Some, None}
use Rattle.std.specs.List.{list_any}
use Rattle.std.specs.Option.{option_map_or}
use Rattle.std.specs.Cmp.{nat_eq_equiv}
use Rattle.std.specs.Cmp.Lexicographic.{pointwise, nat_list_eq_equiv}
use Rattle.std.specs.Prelude.{codes}
use Rattle.plai_terms.specs.declared.term.Term.{Term}
use Rattle.plai_terms.specs.Readable.{is_wide}
use Rattle.plai_clauses.specs.ClauseOf.{two_arguments}
use Rattle.plai_clauses.proofs.Bodies.{narrow_two}
use Rattle.plai_modules.specs.Importing.{head_of}
use Rattle.plai_modules.specs.KeySets.{same_key}

pub same_symm : (a b : List ℕ × ℕ) → same_key a b ≡ same_key b a
same_symm a b =
    ap (λ (t : Bool). t && nat_eq a.1 b.1) (nat_list_eq_equiv.symm a.0 b.0) ∙ ap (λ (t : Bool). pointwise nat_eq b.0 a.0 && t) (nat_eq_equiv.symm a.1 b.1)

joined : (t x : Bool) → cond t true x ≡ (x || t)
joined true true = refl
joined true false = refl
joined false true = refl
joined false false = refl

-- one key more
pub key_added : (old new : List (List ℕ × ℕ)) (k : List ℕ × ℕ)
    → ((q : List ℕ × ℕ) → list_any (same_key q) new ≡ cond (same_key k q) true (list_any (same_key q) old))
    → (q : List ℕ × ℕ) → list_any (same_key q) new ≡ (list_any (same_key q) old || same_key q k)
key_added old new k all q =
    all q ∙ joined (same_key k q) (list_any (same_key q) old) ∙ ap (λ (t : Bool). list_any (same_key q) old || t) (same_symm k q)

-- the keys of one item more of a list
pub set_more : {X : Type 0} (test : List ℕ × ℕ → X → Bool) (xs : List X) (i : ℕ) (x : X) (old new : List (List ℕ × ℕ)) → i < length xs → x ≡ get_or xs i x
    → ((q : List ℕ × ℕ) → list_any (same_key q) old ≡ list_any (test q) (take i xs))
    → ((q : List ℕ × ℕ) → list_any (same_key q) new ≡ (list_any (same_key q) old || test q x))
    → (q : List ℕ × ℕ) → list_any (same_key q) new ≡ list_any (test q) (take (i + 1) xs)
set_more {X} test xs i x old new h e before step q =
    step q ∙ ap (λ (t : Bool). t || test q x) (before q) ∙ ap (λ (y : X). list_any (test q) (take i xs) || test q y) e ∙ sym (list_any_more (test q) xs i x h)

-- the head of what is not wide isn't
pub narrow_head : (t : Term) → is_wide t ≡ false → is_wide (head_of t) ≡ false
narrow_head t narrow = go (two_arguments (codes ":-") t) refl
  where
    go : (o : Option (Term × Term)) → two_arguments (codes ":-") t ≡ o → is_wide (option_map_or (λ rule. rule.0) o t) ≡ false
    go None e = narrow
    go (Some rule) e = (narrow_two (codes ":-") t rule.0 rule.1 narrow e).0
