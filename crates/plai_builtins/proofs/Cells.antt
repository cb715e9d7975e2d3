-- The items of lists, cell by cell.
use Rattle.std.proofs.Common.{◌≡◌, ◌∙◌, ℕ, Bool, true, false, cond, Option, Some, None, List, [], ◌∷◌, ◌++◌, map, append_assoc, refl, sym, ap, rules, codes}
use Rattle.std.proofs.Common.{Bor}
use Rattle.std.specs.Prelude.{nat_eq, option_map}
use Rattle.std.specs.Cmp.Lexicographic.{pointwise}
use Rattle.plai_terms.proofs.Terms.{induction}
use Rattle.plai_terms.specs.declared.term.Term.{Term, Var, Int, Atom, Compound, the_lemmas}
use Rattle.plai_clauses.specs.ClauseOf.{two, two_arguments}
use Rattle.plai_builtins.specs.Lists.{with_items, cell_items, list_items, list_of}
use Rattle.plai_builtins.specs.Walks.{is_nil}
use Rattle.plai_builtins.proofs.ListItems.{whole, list_items-Compound}

-- items found before, and then those of the rest, if there are any
abbrev pub behind : {A : Type 0} → List A → Option (List A) → Option (List A)
behind before None = None
behind before (Some xs) = Some (before ++ xs)

cell : (args : List Term) (head tail : Term) → two args ≡ Some (head, tail)
    → cell_items (map with_items args) ≡ option_map (λ items. head ∷ items) (list_items tail)
cell [] head tail e = absurd cc
cell (x ∷ []) head tail e = absurd cc
cell (x ∷ y ∷ []) head tail e =
    let pair : (x, y) ≡ (head, tail) = cc in
    let first : x ≡ head = ap (λ (p : Term × Term). p.0) pair in
    let second : y ≡ tail = ap (λ (p : Term × Term). p.1) pair in
    ap (λ h. option_map (λ items. h ∷ items) (list_items y)) (whole x ∙ first) ∙ ap (λ t. option_map (λ items. head ∷ items) (list_items t)) second
cell (x ∷ y ∷ z ∷ args) head tail e = absurd cc

no_cell : (args : List Term) → two args ≡ None → cell_items (map with_items args) ≡ None
no_cell [] e = refl
no_cell (x ∷ []) e = refl
no_cell (x ∷ y ∷ []) e = absurd cc
no_cell (x ∷ y ∷ z ∷ args) e = refl

at_name : (b : Bool) (args : List Term) (head tail : Term) → cond b (two args) None ≡ Some (head, tail)
    → cond b (cell_items (map with_items args)) None ≡ option_map (λ items. head ∷ items) (list_items tail)
at_name true args head tail e = cell args head tail e
at_name false args head tail e = absurd cc

not_at_name : (b : Bool) (args : List Term) → cond b (two args) None ≡ None → cond b (cell_items (map with_items args)) None ≡ None
not_at_name true args e = no_cell args e
not_at_name false args e = refl

two_arguments-Compound : (wanted name : List ℕ) (args : List Term)
    → two_arguments wanted (Compound name args) ≡ cond (pointwise nat_eq name wanted) (two args) None
two_arguments-Compound wanted name args = search (rules, the_lemmas)

is_nil-Compound : (name : List ℕ) (args : List Term) → is_nil (Compound name args) ≡ false
is_nil-Compound name args = search (rules, the_lemmas)

abbrev IsCell : Term → Type 0
IsCell t = (head tail : Term) → two_arguments (codes ".") t ≡ Some (head, tail) → list_items t ≡ option_map (λ items. head ∷ items) (list_items tail)

-- a cell's items are its head and those of its tail
pub list_items-cell : (t head tail : Term) → two_arguments (codes ".") t ≡ Some (head, tail)
    → list_items t ≡ option_map (λ items. head ∷ items) (list_items tail)
list_items-cell = induction IsCell
    (λ v h t e. let no : two_arguments (codes ".") (Var v) ≡ None = search (rules, the_lemmas) in absurd cc)
    (λ n h t e. let no : two_arguments (codes ".") (Int n) ≡ None = search (rules, the_lemmas) in absurd cc)
    (λ a h t e. let no : two_arguments (codes ".") (Atom a) ≡ None = search (rules, the_lemmas) in absurd cc)
    (λ name args all h t e.
    list_items-Compound name args
    ∙ at_name (pointwise nat_eq name (codes ".")) args h t (sym (two_arguments-Compound (codes ".") name args) ∙ e))

abbrev IsEnd : Term → Type 0
IsEnd t = two_arguments (codes ".") t ≡ None → list_items t ≡ cond (is_nil t) (Some []) None

-- what is no cell has no items, or is the end of a list
pub list_items-end : (t : Term) → two_arguments (codes ".") t ≡ None → list_items t ≡ cond (is_nil t) (Some []) None
list_items-end = induction IsEnd
    (λ v e. search (rules, the_lemmas))
    (λ n e. search (rules, the_lemmas))
    (λ a e. search (rules, the_lemmas))
    (λ name args all e.
    list_items-Compound name args
    ∙ not_at_name (pointwise nat_eq name (codes ".")) args (sym (two_arguments-Compound (codes ".") name args) ∙ e)
    ∙ sym (ap (λ b. cond b (Some []) None) (is_nil-Compound name args)))

behind-cons : {A : Type 0} (before : List A) (x : A) (o : Option (List A)) → behind before (option_map (λ xs. x ∷ xs) o) ≡ behind (before ++ x ∷ []) o
behind-cons before x None = refl
behind-cons before x (Some xs) = ap Some (sym (append_assoc before (x ∷ []) xs))

-- one more cell
pub one_cell : (before : List Term) (t head tail whole : Term) → two_arguments (codes ".") t ≡ Some (head, tail)
    → behind before (list_items t) ≡ list_items whole → behind (before ++ head ∷ []) (list_items tail) ≡ list_items whole
one_cell before t head tail whole e same = sym (behind-cons before head (list_items tail)) ∙ sym (ap (behind before) (list_items-cell t head tail e)) ∙ same

-- behind the last cell
pub no_more_cells : (before : List Term) (t whole : Term) → two_arguments (codes ".") t ≡ None
    → behind before (list_items t) ≡ list_items whole → list_items whole ≡ behind before (cond (is_nil t) (Some []) None)
no_more_cells before t whole e same = sym same ∙ ap (behind before) (list_items-end t e)

map-now-push : (items : List (Bor Term)) (head : Bor Term)
    → map (λ (x : Bor Term). x.now) (items ++ head ∷ []) ≡ map (λ (x : Bor Term). x.now) items ++ head.now ∷ []
map-now-push [] head = refl
map-now-push (x ∷ items) head = ap (λ ts. x.now ∷ ts) (map-now-push items head)

-- one more cell, its head kept by reference
pub one_more_cell : (items after : List (Bor Term)) (head : Bor Term) (t tail whole : Term) → after ≡ items ++ head ∷ []
    → Some (head.now, tail) ≡ two_arguments (codes ".") t → behind (map (λ (x : Bor Term). x.now) items) (list_items t) ≡ list_items whole
    → behind (map (λ (x : Bor Term). x.now) after) (list_items tail) ≡ list_items whole
one_more_cell items after head t tail whole e two same =
    ap (λ (xs : List (Bor Term)). behind (map (λ (x : Bor Term). x.now) xs) (list_items tail)) e
    ∙ ap (λ xs. behind xs (list_items tail)) (map-now-push items head)
    ∙ one_cell (map (λ (x : Bor Term). x.now) items) t head.now tail whole (sym two) same

-- these items before a list
abbrev pub before_list : List Term → Term → Term
before_list [] t = t
before_list (x ∷ xs) t = Compound (codes ".") (x ∷ before_list xs t ∷ [])

pub before_nil : (xs : List Term) → before_list xs (Atom (codes "[]")) ≡ list_of xs
before_nil [] = refl
before_nil (x ∷ xs) = ap (λ t. Compound (codes ".") (x ∷ t ∷ [])) (before_nil xs)

pub before_last : (xs : List Term) (x t : Term) → before_list (xs ++ x ∷ []) t ≡ before_list xs (Compound (codes ".") (x ∷ t ∷ []))
before_last [] x t = refl
before_last (y ∷ ys) x t = ap (λ u. Compound (codes ".") (y ∷ u ∷ [])) (before_last ys x t)

-- the last of the items goes to the front of the list
pub cell_put : (items rest : List Term) (item list cell : Term) (made : Term) → items ≡ rest ++ item ∷ [] → cell ≡ Compound (codes ".") (item ∷ list ∷ [])
    → before_list items list ≡ made → before_list rest cell ≡ made
cell_put items rest item list cell made e is same =
    ap (before_list rest) is ∙ sym (before_last rest item list) ∙ ap (λ xs. before_list xs list) (sym e) ∙ same
