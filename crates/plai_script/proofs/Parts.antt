-- The parts of a term that was read, and the items of a list.
use Rattle.std.proofs.Common.{◌||◌, ◌≡◌, ◌∙◌, ℕ, Bool, true, false, ◌&&◌, cond, nat_eq, Option, Some, None, List, [], ◌∷◌, map, length, refl, sym, ap, subst}
use Rattle.std.proofs.Common.{rules}
use Rattle.std.proofs.Common.{codes, Bor}
use Rattle.std.specs.Prelude.{All, nat_lt, option_map, option_and_then}
use Rattle.std.specs.List.{list_any, list_all, AllByRecursion}
use Rattle.std.specs.Cmp.Lexicographic.{pointwise}
use Rattle.std.proofs.lemmas.List.Elements.{All-cons, All-nil}
use Rattle.plai_terms.specs.Term.{has_variables_below}
use Rattle.plai_terms.specs.Readable.{is_wide}
use Rattle.plai_terms.specs.declared.term.Term.{Term, Var, Int, Atom, Compound, the_lemmas}
use Rattle.plai_terms.proofs.Terms.{induction}
use Rattle.plai_clauses.specs.ClauseOf.{two, two_arguments}
use Rattle.plai_sources.specs.Shapes.{one, one_argument, list_items, is_nil}
use Rattle.plai_sources.proofs.ListTerms.{list_items-cell, list_items-end}
use Rattle.plai_script.specs.Readable.{IsPart}

-- options
pub mapped : {A B : Type 0} (f : A → B) (o : Option A) (y : B) → option_map f o ≡ Some y → (x : A) × (o ≡ Some x) × (f x ≡ y)
mapped f None y h = absurd cc
mapped f (Some x) y h = (x, refl, cc)

pub chained : {A B : Type 0} (f : A → Option B) (o : Option A) (y : B) → option_and_then f o ≡ Some y → (x : A) × (o ≡ Some x) × (f x ≡ Some y)
chained f None y h = absurd cc
chained f (Some x) y h = (x, refl, h)

both_true : (p q : Bool) → (p && q) ≡ true → (p ≡ true) × (q ≡ true)
both_true true q e = (refl, e)
both_true false q e = absurd cc

neither : (p q : Bool) → (p || q) ≡ false → (p ≡ false) × (q ≡ false)
neither true q e = absurd cc
neither false q e = (refl, e)

module _ (n : ℕ) where
  parts_in : (args : List Term) → list_all (λ b. b) (map (has_variables_below n) args) ≡ true → list_any (λ b. b) (map is_wide args) ≡ false
      → AllByRecursion (IsPart n) args
  parts_in [] h k = tt
  parts_in (a ∷ args) h k =
      let (one, rest) = both_true (has_variables_below n a) (list_all (λ b. b) (map (has_variables_below n) args)) h in
      let (narrow, others) = neither (is_wide a) (list_any (λ b. b) (map is_wide args)) k in
      (record { numbered = one; few_arguments = narrow }, parts_in args rest others)

  pub parts : (name : List ℕ) (args : List Term) → IsPart n (Compound name args) → AllByRecursion (IsPart n) args
  parts name args part =
      let below : has_variables_below n (Compound name args) ≡ list_all (λ b. b) (map (has_variables_below n) args) = search (rules, the_lemmas) in
      let wide : is_wide (Compound name args) ≡ (nat_lt 255 (length (map is_wide args)) || list_any (λ b. b) (map is_wide args)) = search (rules, the_lemmas) in
      let (_, narrow) = neither (nat_lt 255 (length (map is_wide args))) (list_any (λ b. b) (map is_wide args)) (sym wide ∙ part.few_arguments) in
      parts_in args (sym below ∙ part.numbered) narrow

  all_parts : (args : List Term) → AllByRecursion (IsPart n) args → All (IsPart n) args
  all_parts [] h = All-nil (IsPart n)
  all_parts (a ∷ args) h = All-cons (IsPart n) a args h.0 (all_parts args h.1)

  pub parts_of : (t : Term) (name : List ℕ) (args items : List Term) → t ≡ Compound name args → items ≡ args → IsPart n t → All (IsPart n) items
  parts_of t name args items is same part = subst (All (IsPart n)) (sym same) (all_parts args (parts name args (subst (IsPart n) is part)))

  -- the argument of a compound of one
  abbrev HasPart : Term → Type 0
  HasPart t = (wanted : List ℕ) (x : Term) → IsPart n t → one_argument wanted t ≡ Some x → IsPart n x

  only : (b : Bool) (args : List Term) (x : Term) → AllByRecursion (IsPart n) args → cond b (one args) None ≡ Some x → IsPart n x
  only false args x h e = absurd cc
  only true [] x h e = absurd cc
  only true (a ∷ []) x h e = let same : a ≡ x = cc in subst (IsPart n) same h.0
  only true (a ∷ b ∷ args) x h e = absurd cc

  pub part_of_one : (t : Term) → HasPart t
  part_of_one = induction HasPart
      (λ v w x p e. let no : one_argument w (Var v) ≡ None = search (rules, the_lemmas) in absurd cc)
      (λ z w x p e. let no : one_argument w (Int z) ≡ None = search (rules, the_lemmas) in absurd cc)
      (λ a w x p e. let no : one_argument w (Atom a) ≡ None = search (rules, the_lemmas) in absurd cc)
      (λ name args h w x p e.
      let is : one_argument w (Compound name args) ≡ cond (pointwise nat_eq name w) (one args) None = search (rules, the_lemmas) in
      only (pointwise nat_eq name w) args x (parts name args p) (sym is ∙ e))

  -- the items of a list
  abbrev HasItems : Term → Type 0
  HasItems t = (xs : List Term) → IsPart n t → list_items t ≡ Some xs → AllByRecursion (IsPart n) xs

  ends : (b : Bool) (xs : List Term) → cond b (Some []) None ≡ Some xs → AllByRecursion (IsPart n) xs
  ends true xs e = let same : [] ≡ xs = cc in subst (AllByRecursion (IsPart n)) same tt
  ends false xs e = absurd cc

  at_end : (t : Term) (xs : List Term) → two_arguments (codes ".") t ≡ None → list_items t ≡ Some xs → AllByRecursion (IsPart n) xs
  at_end t xs none e = ends (is_nil t) xs (sym (list_items-end t none) ∙ e)

  two_parts : (args : List Term) → AllByRecursion (IsPart n) args → AllByRecursion HasItems args → (head tail : Term) → two args ≡ Some (head, tail)
      → IsPart n head × IsPart n tail × HasItems tail
  two_parts [] p h head tail e = absurd cc
  two_parts (x ∷ []) p h head tail e = absurd cc
  two_parts (x ∷ y ∷ []) p h head tail e =
      let pair : (x, y) ≡ (head, tail) = cc in
      let first : x ≡ head = ap (λ (q : Term × Term). q.0) pair in
      let second : y ≡ tail = ap (λ (q : Term × Term). q.1) pair in
      (subst (IsPart n) first p.0, subst (IsPart n) second p.1.0, subst HasItems second h.1.0)
  two_parts (x ∷ y ∷ z ∷ args) p h head tail e = absurd cc

  named : (b : Bool) (args : List Term) (p : Term × Term) → cond b (two args) None ≡ Some p → two args ≡ Some p
  named true args p e = e
  named false args p e = absurd cc

  in_cell : (t : Term) (o : Option (Term × Term)) (xs : List Term) → two_arguments (codes ".") t ≡ o
      → ((head tail : Term) → o ≡ Some (head, tail) → IsPart n head × IsPart n tail × HasItems tail)
      → list_items t ≡ Some xs → AllByRecursion (IsPart n) xs
  in_cell t None xs is h e = at_end t xs is e
  in_cell t (Some p) xs is h e =
      let (first, rest, items) = h p.0 p.1 refl in
      let (more, all, made) = mapped (λ ys. p.0 ∷ ys) (list_items p.1) xs (sym (list_items-cell t p.0 p.1 is) ∙ e) in
      subst (AllByRecursion (IsPart n)) made (first, items more rest all)

  pub items_parts : (t : Term) → HasItems t
  items_parts = induction HasItems
      (λ v xs p e. let no : two_arguments (codes ".") (Var v) ≡ None = search (rules, the_lemmas) in at_end (Var v) xs no e)
      (λ z xs p e. let no : two_arguments (codes ".") (Int z) ≡ None = search (rules, the_lemmas) in at_end (Int z) xs no e)
      (λ a xs p e. let no : two_arguments (codes ".") (Atom a) ≡ None = search (rules, the_lemmas) in at_end (Atom a) xs no e)
      (λ name args h xs p e.
      let is : two_arguments (codes ".") (Compound name args) ≡ cond (pointwise nat_eq name (codes ".")) (two args) None = search (rules, the_lemmas) in
      in_cell (Compound name args) (two_arguments (codes ".") (Compound name args)) xs refl
      (λ head tail k. two_parts args (parts name args p) h head tail (named (pointwise nat_eq name (codes ".")) args (head, tail) (sym is ∙ k))) e)

  -- what references to the items point to
  now_parts : (v : List (Bor Term)) → AllByRecursion (IsPart n) (map (λ (x : Bor Term). x.now) v) → All (λ (x : Bor Term). IsPart n x.now) v
  now_parts [] h = All-nil (λ (x : Bor Term). IsPart n x.now)
  now_parts (x ∷ v) h = All-cons (λ (y : Bor Term). IsPart n y.now) x v h.0 (now_parts v h.1)

  pub items_now : (t : Term) (v w : List (Bor Term)) → IsPart n t → list_items t ≡ Some (map (λ (x : Bor Term). x.now) v) → w ≡ v
      → All (λ (x : Bor Term). IsPart n x.now) w
  items_now t v w p e s = subst (All (λ (x : Bor Term). IsPart n x.now)) (sym s) (now_parts v (items_parts t (map (λ (x : Bor Term). x.now) v) p e))
