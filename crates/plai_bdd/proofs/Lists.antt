-- Tables of nodes: each node once, children before parents.
use Rattle.std.proofs.Common.{◌≡◌, ◌≢◌, ℕ, ◌+◌, ◌<◌, Bool, true, false, cond, not, nat_eq, ◌&&◌, ◌||◌, List, [], ◌∷◌, ◌++◌, length, get_or, fold, refl, sym}
use Rattle.std.proofs.Common.{ap, subst, ◌∙◌, true≢false, arith, ◌⊎◌, inl, inr, length-append, nat_lt, Some, None}
use Rattle.std.specs.Bool.{beq}
use Rattle.std.specs.List.{list_any, position, position_or_len}
use Rattle.std.proofs.lemmas.Bool.Decides.{nat_tests}
use Rattle.std.proofs.lemmas.List.{get_or_append_left, get_or_push}
use Rattle.std.proofs.lemmas.List.Sums.{fold-append, fails_before_first, passes_at_first}
use Rattle.plai_bdd.specs.declared.node.Node.{Node}
use Rattle.plai_bdd.specs.declared.node.Node.TheVariants.{Leaf, Branch}
use Rattle.plai_bdd.specs.Tree.{Tree, Tip}
use Rattle.plai_bdd.specs.Table.{no_node}
use Rattle.plai_bdd.specs.Nodes.{same_node, place_of, put, tree_of_node, trees_of, tree_at}

same_answer : (a b : Bool) → beq a b ≡ true → a ≡ b
same_answer true true h = refl
same_answer false false h = refl
same_answer true false h = absurd (true≢false (sym h))
same_answer false true h = absurd (true≢false (sym h))

own_answer : (a : Bool) → beq a a ≡ true
own_answer true = refl
own_answer false = refl

both : (a b : Bool) → (a && b) ≡ true → (a ≡ true) × (b ≡ true)
both true b h = (refl, h)
both false b h = absurd (true≢false (sym h))

number_is : (a b : ℕ) → nat_eq a b ≡ true → a ≡ b
number_is a b h = grind (arith, nat_tests)

own_number : (a : ℕ) → nat_eq a a ≡ true
own_number a = grind (arith, nat_tests)

pub same_node-true : (m n : Node) → same_node m n ≡ true → m ≡ n
same_node-true (Leaf a) (Leaf b) h = ap Leaf (same_answer a b h)
same_node-true (Leaf a) (Branch s i j) h = absurd (true≢false (sym h))
same_node-true (Branch s i j) (Leaf a) h = absurd (true≢false (sym h))
same_node-true (Branch s i j) (Branch t k l) h =
    let p = both (nat_eq s t) (nat_eq i k && nat_eq j l) h in
    let q = both (nat_eq i k) (nat_eq j l) p.1 in
    (λ x. Branch (number_is s t p.0 x) (number_is i k q.0 x) (number_is j l q.1 x))

pub same_node-same : (n : Node) → same_node n n ≡ true
same_node-same (Leaf a) = own_answer a
same_node-same (Branch s i j) = (λ x. own_number s x && (own_number i x && own_number j x))

pub same_node-of : (m n : Node) → m ≡ n → same_node m n ≡ true
same_node-of m n e = subst (λ k. same_node m k ≡ true) e (same_node-same m)

any_rest : (a b : Bool) → (a || b) ≡ true → a ≡ false → b ≡ true
any_rest a b h e = sym (ap (λ c. c || b) e) ∙ h

none_first : (a b : Bool) → (a || b) ≡ false → a ≡ false
none_first true b h = absurd (true≢false h)
none_first false b h = refl

none_rest : (a b : Bool) → (a || b) ≡ false → b ≡ false
none_rest true b h = absurd (true≢false h)
none_rest false b h = h

found : (p : Node → Bool) (t : List Node) → list_any p t ≡ true → position_or_len p t < length t
found p [] h = absurd (true≢false (sym h))
found p (n ∷ t) h = by (p n) refl (λ e. found p t (any_rest (p n) (list_any p t) h e))
  where
    by : (b : Bool) → p n ≡ b → (p n ≡ false → position_or_len p t < length t) → position_or_len p (n ∷ t) < length (n ∷ t)
    by true e more =
        let f : position_or_len p (n ∷ t) ≡ 0 = ap (λ b. cond (not b) (1 + position_or_len p t) 0) e in
        omega (arith, f)
    by false e more =
        let f : position_or_len p (n ∷ t) ≡ 1 + position_or_len p t = ap (λ b. cond (not b) (1 + position_or_len p t) 0) e in
        omega (arith, f, more e)

missing : (p : Node → Bool) (t : List Node) → list_any p t ≡ false → position_or_len p t ≡ length t
missing p [] h = refl
missing p (n ∷ t) h =
    let e = none_first (p n) (list_any p t) h in
    let f : position_or_len p (n ∷ t) ≡ 1 + position_or_len p t = ap (λ b. cond (not b) (1 + position_or_len p t) 0) e in
    let more = missing p t (none_rest (p n) (list_any p t) h) in
    omega (arith, f, more)

-- what `position` finds
some_is_no : (a : ℕ) → None ≡ Some a → ⊥
some_is_no a h = cc

found_first : (p : Node → Bool) (t : List Node) (place : ℕ) → position p t ≡ Some place → list_any p t ≡ true
found_first p t place h = by (list_any p t) refl
  where
    by : (b : Bool) → list_any p t ≡ b → list_any p t ≡ true
    by true e = e
    by false e =
        let none : nat_lt (position_or_len p t) (length t) ≡ false = grind (arith, nat_tests, missing p t e) in
        absurd (some_is_no place (sym (ap (λ b. cond b (Some (position_or_len p t)) None) none) ∙ h))

found_none : (p : Node → Bool) (t : List Node) → position p t ≡ None → list_any p t ≡ false
found_none p t h = by (list_any p t) refl
  where
    by : (b : Bool) → list_any p t ≡ b → list_any p t ≡ false
    by false e = e
    by true e =
        let some : nat_lt (position_or_len p t) (length t) ≡ true = grind (arith, nat_tests, found p t e) in
        absurd (some_is_no (position_or_len p t) (sym h ∙ ap (λ b. cond b (Some (position_or_len p t)) None) some))

pub put_found : (node : Node) (t : List Node) (place : ℕ) → position (same_node node) t ≡ Some place → t ≡ put node t
put_found node t place h = sym (ap (λ c. cond c t (t ++ node ∷ [])) (found_first (same_node node) t place h))

pub put_new : (node : Node) (t : List Node) → position (same_node node) t ≡ None
    → (length t ≡ place_of node t) × (t ++ node ∷ [] ≡ put node t)
put_new node t h =
    let none = found_none (same_node node) t h in
    (sym (missing (same_node node) t none), sym (ap (λ c. cond c t (t ++ node ∷ [])) none))

-- what a put does
pub record Puts (node : Node) (t : List Node) : Type 0 where
  pub inside : place_of node t < length (put node t)
  pub here : get_or (put node t) (place_of node t) no_node ≡ node
  pub either : (put node t ≡ t) ⊎ ((put node t ≡ t ++ node ∷ []) × (place_of node t ≡ length t) × ((k : ℕ) → k < length t → get_or t k no_node ≢ node))

puts_by : (node : Node) (t : List Node) (b : Bool) → list_any (same_node node) t ≡ b → Puts node t
puts_by node t true e =
    let stays : put node t ≡ t = ap (λ c. cond c t (t ++ node ∷ [])) e in
    let lt = found (same_node node) t e in
    record {
      inside = subst (λ l. place_of node t < length l) (sym stays) lt;
      here = ap (λ l. get_or l (place_of node t) no_node) stays ∙ sym (same_node-true _ _ (passes_at_first (same_node node) t no_node lt));
      either = inl stays;
    }
puts_by node t false e =
    let grows : put node t ≡ t ++ node ∷ [] = ap (λ c. cond c t (t ++ node ∷ [])) e in
    let last = missing (same_node node) t e in
    record {
      inside = subst (λ l. place_of node t < length l) (sym grows) (omega (arith, last, length-append t (node ∷ [])));
      here = ap (λ l. get_or l (place_of node t) no_node) grows ∙ get_or_push t node no_node (place_of node t) (sym last);
      either = inr (
        grows,
        last,
        λ k lt same. true≢false
            (sym (same_node-of _ _ (sym same)) ∙ fails_before_first (same_node node) t k no_node (omega (arith, last))),
      );
    }

pub puts : (node : Node) (t : List Node) → Puts node t
puts node t = puts_by node t (list_any (same_node node) t) refl

-- the trees of a table
pub trees_of-push : (t : List Node) (node : Node) → trees_of (t ++ node ∷ []) ≡ trees_of t ++ tree_of_node (trees_of t) node ∷ []
unfolding trees_of
trees_of-push t node = fold-append (λ trees n. trees ++ tree_of_node trees n ∷ []) [] t (node ∷ [])

length-fold : (done : List Tree) (t : List Node) → length (fold (λ trees n. trees ++ tree_of_node trees n ∷ []) done t) ≡ length done + length t
length-fold done [] = omega arith
length-fold done (n ∷ t) =
    let one = length-append done (tree_of_node done n ∷ []) in
    length-fold (done ++ tree_of_node done n ∷ []) t ∙ (omega (arith, one))

pub length-trees_of : (t : List Node) → length (trees_of t) ≡ length t
unfolding trees_of
length-trees_of t = omega (arith, length-fold [] t)

pub tree_at-before : (t : List Node) (node : Node) (k : ℕ) → k < length t → tree_at (t ++ node ∷ []) k ≡ tree_at t k
tree_at-before t node k h = ap (λ l. get_or l k (Tip false)) (trees_of-push t node)
    ∙ get_or_append_left (trees_of t) _ (Tip false) k (omega (arith, length-trees_of t))

pub tree_at-last : (t : List Node) (node : Node) (k : ℕ) → length t ≡ k → tree_at (t ++ node ∷ []) k ≡ tree_of_node (trees_of t) node
tree_at-last t node k h = ap (λ l. get_or l k (Tip false)) (trees_of-push t node)
    ∙ get_or_push (trees_of t) (tree_of_node (trees_of t) node) (Tip false) k (omega (arith, length-trees_of t))
