-- The standard order of terms is the order of their subterms in preorder, one by one.
use Rattle.std.proofs.Common.{◌≡◌, ℕ, List, [], ◌∷◌, ◌++◌, map, flat_map, length, refl, sym, ap, ◌∙◌, append_assoc, append-nil, arith, rules, subst}
use Rattle.std.specs.List.{AllByRecursion}
use Rattle.std.specs.declared.cmp.Ordering.{Ordering}
use Rattle.std.specs.declared.cmp.Ordering.TheVariants.{Less, Equal, Greater}
use Rattle.std.specs.Ordering.{ordering_then, nat_cmp}
use Rattle.std.specs.Cmp.Lexicographic.{slice_cmp}
use Rattle.std.proofs.lemmas.Cmp.{ranked}
use Rattle.std.proofs.lemmas.List.{length-map}
use Rattle.plai_terms.specs.RowOrder.{text_order}
use Rattle.plai_terms.specs.Preorder.{arguments_of, preorder}
use Rattle.plai_terms.specs.Preorder as pre
use Rattle.plai_terms.specs.declared.term.Term.{Term, roll-Term, out-Term, roll-out-Term, the_lemmas}
use Rattle.plai_terms.specs.declared.term.Term.TheOpen.{Term-F}
use Rattle.plai_terms.proofs.Terms.{arguments, induction_by_levels}
use Rattle.plai_terms.proofs.Preorder.{preorder_is}
use Rattle.plai_values.specs.Nodes.{node_level, node_order}
use Rattle.plai_values.specs.TermOrder.{level_order, term_order}

-- ---- one level

abbrev pub lifted : Term-F Term → Term-F (Term → Ordering)
lifted (Term-F.Var v) = Term-F.Var v
lifted (Term-F.Int n) = Term-F.Int n
lifted (Term-F.Atom a) = Term-F.Atom a
lifted (Term-F.Compound a xs) = Term-F.Compound a (map term_order xs)

pub term_order-roll : (x y : Term-F Term) → term_order (roll-Term x) (roll-Term y) ≡ level_order (lifted x) y
term_order-roll (Term-F.Var v) y = search (rules, the_lemmas)
term_order-roll (Term-F.Int n) y = search (rules, the_lemmas)
term_order-roll (Term-F.Atom a) y = search (rules, the_lemmas)
term_order-roll (Term-F.Compound a xs) y = search (rules, the_lemmas)

node_order-roll : (x y : Term-F Term) → node_order (roll-Term x) (roll-Term y) ≡ node_level x y
node_order-roll x y = search (rules, the_lemmas)

arguments_of-roll : (x : Term-F Term) → arguments_of (roll-Term x) ≡ pre.arguments x
unfolding arguments_of
arguments_of-roll x = search (rules, the_lemmas)

-- ---- the order of the subterms

pub then_then : (a b c : Ordering) → ordering_then (ordering_then a b) c ≡ ordering_then a (ordering_then b c)
then_then Less b c = refl
then_then Equal b c = refl
then_then Greater b c = refl

pub then_Equal : (a : Ordering) → ordering_then a Equal ≡ a
then_Equal Less = refl
then_Equal Equal = refl
then_Equal Greater = refl

pub numbers_tie : (x y : ℕ) → nat_cmp x y ≡ Equal → x ≡ y
numbers_tie x y e = ranked x y Equal (sym e)

abbrev IsCompared : Term → Type 0
IsCompared t =
    (u : Term) (rest others : List Term)
    → slice_cmp node_order (preorder t ++ rest) (preorder u ++ others) ≡ ordering_then (term_order t u) (slice_cmp node_order rest others)

forest : (ts us : List Term) → AllByRecursion IsCompared ts → length ts ≡ length us → (rest others : List Term)
    → slice_cmp node_order (flat_map preorder ts ++ rest) (flat_map preorder us ++ others)
    ≡ ordering_then (slice_cmp (λ order t. order t) (map term_order ts) us) (slice_cmp node_order rest others)
forest [] [] h e rest others = refl
forest [] (u ∷ us) h e rest others = cc
forest (t ∷ ts) [] h e rest others = cc
forest (t ∷ ts) (u ∷ us) h e rest others =
    ap (λ s. slice_cmp node_order s ((preorder u ++ flat_map preorder us) ++ others)) (append_assoc (preorder t) (flat_map preorder ts) rest)
    ∙ ap (λ s. slice_cmp node_order (preorder t ++ (flat_map preorder ts ++ rest)) s) (append_assoc (preorder u) (flat_map preorder us) others)
    ∙ h.0 u (flat_map preorder ts ++ rest) (flat_map preorder us ++ others)
    ∙ ap (ordering_then (term_order t u)) (forest ts us h.1 (omega arith) rest others)
    ∙ sym (then_then (term_order t u) (slice_cmp (λ order t. order t) (map term_order ts) us) (slice_cmp node_order rest others))

-- by number of arguments and name, and then by what follows
by_heads : (o p r s q : Ordering) → (o ≡ Equal → r ≡ ordering_then s q)
    → ordering_then (ordering_then o p) r ≡ ordering_then (ordering_then o (ordering_then p s)) q
by_heads Less p r s q h = refl
by_heads Equal p r s q h = ap (ordering_then p) (h refl) ∙ sym (then_then p s q)
by_heads Greater p r s q h = refl

levels : (x y : Term-F Term) → AllByRecursion IsCompared (arguments x) → (rest others : List Term)
    → ordering_then (node_level x y) (slice_cmp node_order (flat_map preorder (pre.arguments x) ++ rest) (flat_map preorder (pre.arguments y) ++ others))
    ≡ ordering_then (level_order (lifted x) y) (slice_cmp node_order rest others)
levels (Term-F.Compound a xs) (Term-F.Compound b ys) h rest others =
    by_heads (nat_cmp (length xs) (length ys)) (text_order a b)
    (slice_cmp node_order (flat_map preorder xs ++ rest) (flat_map preorder ys ++ others))
    (slice_cmp (λ order t. order t) (map term_order xs) ys) (slice_cmp node_order rest others)
    (λ e. forest xs ys h (numbers_tie (length xs) (length ys) e) rest others)
    ∙ ap (λ n. ordering_then (ordering_then (nat_cmp n (length ys)) (ordering_then (text_order a b) (slice_cmp (λ order t. order t) (map term_order xs) ys)))
    (slice_cmp node_order rest others))
    (sym (length-map xs term_order))
levels (Term-F.Var v) (Term-F.Var w) h rest others = refl
levels (Term-F.Int v) (Term-F.Int w) h rest others = refl
levels (Term-F.Atom v) (Term-F.Atom w) h rest others = refl
levels _ _ h rest others = refl

preorder-roll : (x : Term-F Term) (rest : List Term) → preorder (roll-Term x) ++ rest ≡ roll-Term x ∷ (flat_map preorder (pre.arguments x) ++ rest)
preorder-roll x rest = ap (λ s. s ++ rest) (preorder_is (roll-Term x)) ∙ ap (λ us. roll-Term x ∷ (flat_map preorder us ++ rest)) (arguments_of-roll x)

rolled : (x y : Term-F Term) → AllByRecursion IsCompared (arguments x) → (rest others : List Term)
    → slice_cmp node_order (preorder (roll-Term x) ++ rest) (preorder (roll-Term y) ++ others)
    ≡ ordering_then (term_order (roll-Term x) (roll-Term y)) (slice_cmp node_order rest others)
rolled x y h rest others =
    ap (λ s. slice_cmp node_order s (preorder (roll-Term y) ++ others)) (preorder-roll x rest)
    ∙ ap (λ s. slice_cmp node_order (roll-Term x ∷ (flat_map preorder (pre.arguments x) ++ rest)) s) (preorder-roll y others)
    ∙ ap (λ o. ordering_then o (slice_cmp node_order (flat_map preorder (pre.arguments x) ++ rest) (flat_map preorder (pre.arguments y) ++ others)))
    (node_order-roll x y)
    ∙ levels x y h rest others
    ∙ ap (λ o. ordering_then o (slice_cmp node_order rest others)) (sym (term_order-roll x y))

compared : (t : Term) → IsCompared t
compared = induction_by_levels IsCompared (λ x h u rest others.
    subst (λ w. slice_cmp node_order (preorder (roll-Term x) ++ rest) (preorder w ++ others)
    ≡ ordering_then (term_order (roll-Term x) w) (slice_cmp node_order rest others))
    (roll-out-Term u) (rolled x (out-Term u) h rest others))

pub order_by_subterms : (t u : Term) → slice_cmp node_order (preorder t) (preorder u) ≡ term_order t u
order_by_subterms t u =
    ap (λ s. slice_cmp node_order s (preorder u)) (sym (append-nil (preorder t)))
    ∙ ap (λ s. slice_cmp node_order (preorder t ++ []) s) (sym (append-nil (preorder u)))
    ∙ compared t u [] [] ∙ then_Equal (term_order t u)
