-- A term made anew from what its arguments gave, and what waits behind them.
use Rattle.std.proofs.Common.{◌≡◌, ◌≢◌, ◌≤◌, ◌<◌, ℕ, ℤ, List, [], ◌∷◌, ◌++◌, length, map, take, drop, reverse, refl, sym, ap, ◌∙◌, arith, rules}
use Rattle.std.proofs.Common.{length-append, subst, Bor, Result, Ok, Err, IfOk}
use Rattle.std.proofs.lemmas.List.{length-reverse, length-map, reverse-append, reverse-reverse}
use Rattle.plai_terms.specs.Preorder.{arguments_of, with_arguments, preorder, referred}
use Rattle.plai_terms.specs.declared.term.Term.{Term, Var, Int, Atom, Compound, the_lemmas}
use Rattle.plai_terms.proofs.Preorder.{arguments_of-Var, arguments_of-Int, arguments_of-Atom, arguments_of-Compound, IsBack, IsNext, back_starts, back_ends}
use Rattle.plai_terms.specs.Subst.{apply_of}
use Rattle.plai_terms.proofs.Substs.{apply_of-Compound}
use Rattle.plai_terms.proofs.Terms.{induction}

-- ---- a list cut after its first part

pub taken : {A : Type 0} (xs ys : List A) → take (length xs) (xs ++ ys) ≡ xs
taken [] ys = refl
taken (x ∷ xs) ys = ap (λ zs. x ∷ zs) (taken xs ys)

pub dropped : {A : Type 0} (xs ys : List A) → drop (length xs) (xs ++ ys) ≡ ys
dropped [] ys = refl
dropped (x ∷ xs) ys = dropped xs ys

pub taken_at : {A : Type 0} (xs ys zs : List A) (n : ℕ) → xs ++ ys ≡ zs → length xs ≡ n → take n zs ≡ xs
taken_at xs ys zs n e l = ap (λ ws. take n ws) (sym e) ∙ ap (λ k. take k (xs ++ ys)) (sym l) ∙ taken xs ys

pub dropped_at : {A : Type 0} (xs ys zs : List A) (n : ℕ) → xs ++ ys ≡ zs → length xs ≡ n → drop n zs ≡ ys
dropped_at xs ys zs n e l = ap (λ ws. drop n ws) (sym e) ∙ ap (λ k. drop k (xs ++ ys)) (sym l) ∙ dropped xs ys

pub last_one : {A : Type 0} (xs : List A) (x y : A) → xs ++ x ∷ [] ≡ y ∷ [] → x ≡ y
last_one [] x y e = cc
last_one (z ∷ []) x y e = cc
last_one (z ∷ (w ∷ ws)) x y e = cc

pub map_same : {A : Type 0} (xs : List A) → map (λ x. x) xs ≡ xs
map_same [] = refl
map_same (x ∷ xs) = ap (λ ys. x ∷ ys) (map_same xs)

pub always : {A B : Type 0} {P : Type 0} (r : Result A B) → P → IfOk r (λ _. P)
always (Ok x) p = p
always (Err e) p = tt

-- ---- one level

pub with_arguments-Var : (v : ℕ) (ts : List Term) → with_arguments (Var v) ts ≡ Var v
unfolding with_arguments
with_arguments-Var v ts = search (rules, the_lemmas)

pub with_arguments-Int : (n : ℤ) (ts : List Term) → with_arguments (Int n) ts ≡ Int n
unfolding with_arguments
with_arguments-Int n ts = search (rules, the_lemmas)

pub with_arguments-Atom : (a : List ℕ) (ts : List Term) → with_arguments (Atom a) ts ≡ Atom a
unfolding with_arguments
with_arguments-Atom a ts = search (rules, the_lemmas)

pub with_arguments-Compound : (name : List ℕ) (args ts : List Term) → with_arguments (Compound name args) ts ≡ Compound name ts
unfolding with_arguments
with_arguments-Compound name args ts = search (rules, the_lemmas)

-- with its own arguments it is as it was
pub with_arguments-same : (t : Term) → with_arguments t (arguments_of t) ≡ t
with_arguments-same = induction (λ t. with_arguments t (arguments_of t) ≡ t)
    (λ v. with_arguments-Var v (arguments_of (Var v)))
    (λ n. with_arguments-Int n (arguments_of (Int n)))
    (λ a. with_arguments-Atom a (arguments_of (Atom a)))
    (λ name args h. with_arguments-Compound name args (arguments_of (Compound name args)) ∙ ap (Compound name) (arguments_of-Compound name args))

-- ---- what the code answers

pub at_Var : (t : Term) (v : ℕ) (ts : List Term) → t ≡ Var v → Var v ≡ with_arguments t ts
at_Var t v ts e = sym (ap (λ s. with_arguments s ts) e ∙ with_arguments-Var v ts)

pub at_Int : (t : Term) (n : ℤ) (ts : List Term) → t ≡ Int n → Int n ≡ with_arguments t ts
at_Int t n ts e = sym (ap (λ s. with_arguments s ts) e ∙ with_arguments-Int n ts)

-- an integer that was read
pub at_Int_read : (t : Term) (m n : ℤ) (ts : List Term) → t ≡ Int n → m ≡ n → Int m ≡ with_arguments t ts
at_Int_read t m n ts e f = ap Int f ∙ at_Int t n ts e

pub at_Atom : (t : Term) (a b : List ℕ) (ts : List Term) → t ≡ Atom a → b ≡ a → Atom b ≡ with_arguments t ts
at_Atom t a b ts e f = ap Atom f ∙ sym (ap (λ s. with_arguments s ts) e ∙ with_arguments-Atom a ts)

none_dropped : (t : Term) (ts : List Term) → arguments_of t ≡ [] → ts ≡ drop (length (arguments_of t)) ts
none_dropped t ts e = sym (ap (λ us. drop (length us) ts) e)

pub behind_Var : (t : Term) (v : ℕ) (ts : List Term) → t ≡ Var v → ts ≡ drop (length (arguments_of t)) ts
behind_Var t v ts e = none_dropped t ts (ap arguments_of e ∙ arguments_of-Var v)

pub behind_Int : (t : Term) (n : ℤ) (ts : List Term) → t ≡ Int n → ts ≡ drop (length (arguments_of t)) ts
behind_Int t n ts e = none_dropped t ts (ap arguments_of e ∙ arguments_of-Int n)

pub behind_Atom : (t : Term) (a : List ℕ) (ts : List Term) → t ≡ Atom a → ts ≡ drop (length (arguments_of t)) ts
behind_Atom t a ts e = none_dropped t ts (ap arguments_of e ∙ arguments_of-Atom a)

pub arguments_is : (t : Term) (name : List ℕ) (args : List Term) → t ≡ Compound name args → arguments_of t ≡ args
arguments_is t name args e = ap arguments_of e ∙ arguments_of-Compound name args

pub at_Compound : (t : Term) (name : List ℕ) (args : List Term) (a : List ℕ) (ts us rest ds : List Term)
    → t ≡ Compound name args → a ≡ name → us ≡ ts → ts ++ rest ≡ ds → length ts ≡ length args
    → Compound a us ≡ with_arguments t (take (length (arguments_of t)) ds)
at_Compound t name args a ts us rest ds e n u k l =
    let m : length ts ≡ length (arguments_of t) = l ∙ ap length (sym (arguments_is t name args e)) in
    ap (λ b. Compound b us) n ∙ ap (Compound name) (u ∙ sym (taken_at ts rest ds (length (arguments_of t)) k m))
    ∙ sym (ap (λ s. with_arguments s (take (length (arguments_of t)) ds)) e ∙ with_arguments-Compound name args (take (length (arguments_of t)) ds))

pub behind_Compound : (t : Term) (name : List ℕ) (args ts rest ds : List Term)
    → t ≡ Compound name args → ts ++ rest ≡ ds → length ts ≡ length args → rest ≡ drop (length (arguments_of t)) ds
behind_Compound t name args ts rest ds e k l =
    sym (dropped_at ts rest ds (length (arguments_of t)) k (l ∙ ap length (sym (arguments_is t name args e))))

-- ---- the step of a loop that makes terms anew by f

module _ (f : Term → Term) (whole : Term) (left : List Term) (node : Term) (done : List Term) (b : IsNext f whole left node (reverse done)) where
  -- there are terms for each argument
  pub enough : length (arguments_of node) ≤ length done
  enough =
      let p = length-reverse done in
      let q = ap length b.split in
      let r = length-append (map f (arguments_of node)) b.others in
      let s = length-map (arguments_of node) f in
      omega (arith, p, q, r, s)

  pub terms_there : take (length (arguments_of node)) (reverse done) ≡ map f (arguments_of node)
  terms_there = taken_at (map f (arguments_of node)) b.others (reverse done) (length (arguments_of node)) (sym b.split) (length-map (arguments_of node) f)

  pub others_there : drop (length (arguments_of node)) (reverse done) ≡ b.others
  others_there = dropped_at (map f (arguments_of node)) b.others (reverse done) (length (arguments_of node)) (sym b.split) (length-map (arguments_of node) f)

  -- the term that f makes of it goes behind the others
  pub goes_behind : (after next : List Term) (t : Term) → t ≡ f node → reverse after ≡ drop (length (arguments_of node)) (reverse done) → next ≡ after ++ t ∷ []
      → IsBack f whole left (reverse next)
  goes_behind after next t is rest push =
      subst (IsBack f whole left)
      (sym (ap reverse push ∙ reverse-append after (t ∷ []) ∙ ap (λ u. u ∷ reverse after) is ∙ ap (λ us. f node ∷ us) (rest ∙ others_there)))
      b.next

-- the start and the end of such a loop
module _ (f : Term → Term) (whole : Term) where
  pub starts : (nodes : List (Bor Term)) (done : List Term) → referred nodes ≡ preorder whole → done ≡ [] → IsBack f whole (referred nodes) (reverse done)
  starts nodes done n d =
      subst (λ ds. IsBack f whole (referred nodes) (reverse ds)) (sym d) (subst (λ ns. IsBack f whole ns []) (sym n) (back_starts f whole))

  pub one_left : (nodes : List (Bor Term)) (done : List Term) → nodes ≡ [] → IsBack f whole (referred nodes) (reverse done) → done ≡ f whole ∷ []
  one_left nodes done e b =
      sym (reverse-reverse done) ∙ ap reverse (back_ends f whole (reverse done) (subst (λ ns. IsBack f whole (referred ns) (reverse done)) e b))

  pub one_is_left : (nodes : List (Bor Term)) (done : List Term) → nodes ≡ [] → IsBack f whole (referred nodes) (reverse done) → 0 < length done
  one_is_left nodes done e b = let l = ap length (one_left nodes done e b) in omega (arith, l)

  pub last_is : (nodes : List (Bor Term)) (done after : List Term) (t : Term) → nodes ≡ [] → IsBack f whole (referred nodes) (reverse done)
      → done ≡ after ++ t ∷ [] → t ≡ f whole
  last_is nodes done after t e b k = last_one after t (f whole) (sym k ∙ one_left nodes done e b)

module _ (node : Term) (whole : Term) (left : List Term) (done : List Term) (b : IsNext (λ t. t) whole left node (reverse done)) where
  pub copied : (after next : List Term) (t : Term) → t ≡ with_arguments node (take (length (arguments_of node)) (reverse done))
      → reverse after ≡ drop (length (arguments_of node)) (reverse done) → next ≡ after ++ t ∷ [] → IsBack (λ t. t) whole left (reverse next)
  copied after next t is rest push =
      goes_behind (λ t. t) whole left node done b after next t
      (is ∙ ap (with_arguments node) (terms_there (λ t. t) whole left node done b ∙ map_same (arguments_of node)) ∙ with_arguments-same node) rest push

-- what is no variable, with its arguments replaced
pub replaced_is : (s : List (ℕ × Term)) (t : Term) → ((v : ℕ) → t ≢ Var v) → with_arguments t (map (apply_of s) (arguments_of t)) ≡ apply_of s t
replaced_is s = induction (λ t. ((v : ℕ) → t ≢ Var v) → with_arguments t (map (apply_of s) (arguments_of t)) ≡ apply_of s t)
    (λ v h. absurd (h v refl))
    (λ n h. with_arguments-Int n _ ∙ search (rules, the_lemmas))
    (λ a h. with_arguments-Atom a _ ∙ search (rules, the_lemmas))
    (λ name args g h.
    with_arguments-Compound name args (map (apply_of s) (arguments_of (Compound name args)))
    ∙ ap (λ us. Compound name (map (apply_of s) us)) (arguments_of-Compound name args)
    ∙ sym (apply_of-Compound s name args))
