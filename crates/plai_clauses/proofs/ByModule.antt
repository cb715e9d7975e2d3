-- Entries and checks stay in the order of their modules' names.
use Rattle.std.proofs.Common.{◌≡◌, ◌∙◌, ℕ, ◌≤◌, zero, suc, true, false, Less, Equal, Greater, Ordering, List, [], ◌∷◌, length, map, refl, sym, ap, subst, arith}
use Rattle.std.proofs.lemmas.Bool.Decides.{nat_tests}
use Rattle.std.proofs.lemmas.Cmp.{nat_list_cmp_total, upto}
use Rattle.std.proofs.lemmas.List.Elements.{All-nil, All-cons, All-head, All-tail, All-weaker}
use Rattle.std.proofs.lemmas.List.Kept.{AllPairs-cons}
use Rattle.std.proofs.lemmas.List.Quantifiers.{all_pairs_remove}
use Rattle.std.specs.Prelude.{All, AllPairs, nat_lt}
use Rattle.std.specs.List.{insert, remove}
use Rattle.std.specs.Ordering.{nat_cmp, is_lt, is_le, is_gt, ordering_reverse}
use Rattle.std.specs.Cmp.Lexicographic.{slice_cmp}
use Rattle.plai_theory.proofs.Options.{by_test}
use Rattle.plai_clauses.specs.declared.entry.Entry.{Entry}
use Rattle.plai_clauses.specs.declared.check.Check.{Check}
use Rattle.plai_clauses.specs.Program.{ProgramView, place_behind, empty, with_entry, with_check, without_entry, without_check}
use Rattle.plai_clauses.specs.ByModule.{IsUpTo, AreByModule}

-- the order of names

le_of_lt : (o : Ordering) → is_lt o ≡ true → is_le o ≡ true
le_of_lt Less e = refl
le_of_lt Equal e = cc
le_of_lt Greater e = cc

back_le : (o : Ordering) → is_lt o ≡ false → is_le (ordering_reverse o) ≡ true
back_le Less e = cc
back_le Equal e = refl
back_le Greater e = refl

not_gt : (o : Ordering) → is_le o ≡ true → is_gt o ≡ false
not_gt Less e = refl
not_gt Equal e = refl
not_gt Greater e = cc

le_of_not_gt : (o : Ordering) → is_gt o ≡ false → is_le o ≡ true
le_of_not_gt Less e = refl
le_of_not_gt Equal e = refl
le_of_not_gt Greater e = cc

pub IsUpTo-trans : (a b c : List ℕ) → IsUpTo a b → IsUpTo b c → IsUpTo a c
IsUpTo-trans a b c h k =
    le_of_not_gt (slice_cmp nat_cmp a c)
    (upto nat_list_cmp_total a b c (not_gt (slice_cmp nat_cmp a b) h) (not_gt (slice_cmp nat_cmp b c) k))

up_to_below : (a b : List ℕ) → is_lt (slice_cmp nat_cmp a b) ≡ true → IsUpTo a b
up_to_below a b e = le_of_lt (slice_cmp nat_cmp a b) e

pub up_to_not_below : (a b : List ℕ) → is_lt (slice_cmp nat_cmp a b) ≡ false → IsUpTo b a
up_to_not_below a b e = ap is_le (nat_list_cmp_total.antisymm b a) ∙ back_le (slice_cmp nat_cmp a b) e

-- lists of what belongs to modules

module _ {A : Type 0} (home : A → List ℕ) where
  abbrev IsBefore : A → A → Type 0
  IsBefore x y = IsUpTo (home x) (home y)

  pairs_nil : AllPairs IsBefore []
  pairs_nil i j d h k = absurd (omega arith)

  pairs_head : (x : A) (xs : List A) → AllPairs IsBefore (x ∷ xs) → All (IsBefore x) xs
  pairs_head x xs all k d h = all zero (suc k) d (omega arith) (omega arith)

  pairs_tail : (x : A) (xs : List A) → AllPairs IsBefore (x ∷ xs) → AllPairs IsBefore xs
  pairs_tail x xs all i j d h k = all (suc i) (suc j) d (omega arith) (omega arith)

  all_insert : (P : A → Type 0) (xs : List A) (n : ℕ) (y : A) → P y → All P xs → All P (insert xs n y)
  all_insert P xs zero y p all = All-cons P y xs p all
  all_insert P [] (suc n) y p all = All-cons P y [] p all
  all_insert P (x ∷ xs) (suc n) y p all = All-cons P x (insert xs n y) (All-head P x xs all) (all_insert P xs n y p (All-tail P x xs all))

  -- an item stays behind all of its module and those before
  pub pairs_insert : (y : A) (xs : List A) → AllPairs IsBefore xs → AllPairs IsBefore (insert xs (place_behind (home y) (map home xs)) y)
  pairs_insert y [] all = AllPairs-cons IsBefore y [] (All-nil (IsBefore y)) pairs_nil
  pairs_insert y (x ∷ xs) all = by_test (is_lt (slice_cmp nat_cmp (home y) (home x))) (λ t. rw t (first t))
      (λ t. rw t (later t (pairs_insert y xs (pairs_tail x xs all))))
    where
      first : is_lt (slice_cmp nat_cmp (home y) (home x)) ≡ true → AllPairs IsBefore (y ∷ x ∷ xs)
      first t =
          let b : IsBefore y x = up_to_below (home y) (home x) t in
          AllPairs-cons IsBefore y (x ∷ xs)
          (All-cons (IsBefore y) x xs b
          (All-weaker (IsBefore x) (IsBefore y) (λ z h. IsUpTo-trans (home y) (home x) (home z) b h) xs (pairs_head x xs all)))
          all

      later : is_lt (slice_cmp nat_cmp (home y) (home x)) ≡ false → AllPairs IsBefore (insert xs (place_behind (home y) (map home xs)) y)
          → AllPairs IsBefore (x ∷ insert xs (place_behind (home y) (map home xs)) y)
      later t rest =
          AllPairs-cons IsBefore x (insert xs (place_behind (home y) (map home xs)) y)
          (all_insert (IsBefore x) xs (place_behind (home y) (map home xs)) y (up_to_not_below (home y) (home x) t) (pairs_head x xs all))
          rest

  remove_past : (xs : List A) (n : ℕ) → length xs ≤ n → remove xs n ≡ xs
  remove_past [] zero h = refl
  remove_past [] (suc n) h = refl
  remove_past (x ∷ xs) zero h = absurd (omega arith)
  remove_past (x ∷ xs) (suc n) h = ap (λ ys. x ∷ ys) (remove_past xs n (omega arith))

  pub pairs_remove : (xs : List A) (n : ℕ) → AllPairs IsBefore xs → AllPairs IsBefore (remove xs n)
  pairs_remove xs n all =
      by_test (nat_lt n (length xs)) (λ t. all_pairs_remove IsBefore xs n (grind (arith, nat_tests)) all)
      (λ t. let h : length xs ≤ n = grind (arith, nat_tests) in subst (λ (ys : List A). AllPairs IsBefore ys) (sym (remove_past xs n h)) all)

-- programs

pub empty_by_module : AreByModule empty
empty_by_module = record { entries = pairs_nil (λ (e : Entry). e.module); checks = pairs_nil (λ (c : Check). c.module) }

module _ (g : ProgramView) (good : AreByModule g) where
  pub by_module_with_entry : (e : Entry) → AreByModule (with_entry g e)
  by_module_with_entry e = record { entries = pairs_insert (λ (x : Entry). x.module) e g.entries good.entries; checks = good.checks }

  pub by_module_with_check : (c : Check) → AreByModule (with_check g c)
  by_module_with_check c = record { entries = good.entries; checks = pairs_insert (λ (x : Check). x.module) c g.checks good.checks }

  pub by_module_without_entry : (name : List ℕ) (number : ℕ) → AreByModule (without_entry g name number)
  by_module_without_entry name number = record { entries = pairs_remove (λ (x : Entry). x.module) g.entries _ good.entries; checks = good.checks }

  pub by_module_without_check : (name : List ℕ) (number : ℕ) → AreByModule (without_check g name number)
  by_module_without_check name number = record { entries = good.entries; checks = pairs_remove (λ (x : Check). x.module) g.checks _ good.checks }
