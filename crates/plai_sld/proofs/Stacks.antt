-- The list of a run as a stack.
use Rattle.std.proofs.Common.{◌≡◌, ℕ, ◌+◌, ◌<◌, List, [], ◌∷◌, ◌++◌, map, length, take, reverse, refl, sym, ap, subst, ◌∙◌, arith}
use Rattle.std.proofs.lemmas.List.{append_assoc, reverse-append, reverse-reverse, take_at, length_push}
use Rattle.plai_terms.specs.Subst.{bound_to}
use Rattle.plai_terms.specs.declared.term.Term.{Term, Var}
use Rattle.plai_terms.specs.Substitution.{under, then_also, AreBelow}
use Rattle.plai_terms.specs.Unification.{Bindings}
use Rattle.plai_terms.proofs.Under.{under_same_all, under_under_all, under_Var_all}
use Rattle.plai_sld.specs.declared.item.Item.{Item}
use Rattle.plai_sld.specs.declared.item.Item.TheVariants.{Call, Builtin, Mark}
use Rattle.plai_sld.specs.declared.stack.Waiting.{Waiting}
use Rattle.plai_sld.specs.Runs.{item_under, items_under}
use Rattle.plai_sld.specs.Pending.{AreBoth}
use Rattle.plai_sld.specs.Stacks.{shown, limited, items_of, AreLimited, with_top, IsBrought}
use Rattle.plai_sld.specs.States.{IsItem, AreItems}

-- one substitution after another, on items whose variables are below the limit
module _ (f g k : ℕ → Term) (m : ℕ) (both : (v : ℕ) → v < m → k v ≡ then_also f g v) where
  terms_both : (ts : List Term) → AreBelow m ts → map (under k) ts ≡ map (under g) (map (under f) ts)
  terms_both ts below = under_same_all k (then_also f g) ts (λ v o. both v (below v o)) ∙ sym (under_under_all f g ts)

  item_both : (x : Item) → IsItem m x → item_under k x ≡ item_under g (item_under f x)
  item_both (Call pred args) (many, below) = ap (Call pred) (terms_both args below)
  item_both (Builtin name args) below = ap (Builtin name) (terms_both args below)
  item_both (Mark pred was now) (many, many', below, below') = ap (Mark pred was) (terms_both now below')

  pub items_both : (xs : List Item) → AreItems m xs → items_under k xs ≡ items_under g (items_under f xs)
  items_both [] h = refl
  items_both (x ∷ xs) (h, i) = let p = item_both x h in let q = items_both xs i in cc

-- items under no bindings
terms_resting : (ts : List Term) → map (under (bound_to [])) ts ≡ ts
terms_resting ts = under_same_all (bound_to []) Var ts (λ v o. refl) ∙ under_Var_all ts

item_resting : (x : Item) → item_under (bound_to []) x ≡ x
item_resting (Call pred args) = ap (Call pred) (terms_resting args)
item_resting (Builtin name args) = ap (Builtin name) (terms_resting args)
item_resting (Mark pred was now) = ap (Mark pred was) (terms_resting now)

items_resting : (xs : List Item) → items_under (bound_to []) xs ≡ xs
items_resting [] = refl
items_resting (x ∷ xs) = let p = item_resting x in let q = items_resting xs in cc

-- items behind which nothing waits
pub shown-limited : (n : ℕ) (xs : List Item) (ws : List Waiting) → shown (limited n xs ++ ws) ≡ xs ++ shown ws
shown-limited n [] ws = refl
shown-limited n (x ∷ xs) ws = ap (λ ys. x ∷ ys) (items_resting (shown (limited n xs ++ ws)) ∙ shown-limited n xs ws)

pub limits_on : (n : ℕ) (xs : List Item) (ws : List Waiting) → AreItems n (xs ++ shown ws) → AreLimited ws → AreLimited (limited n xs ++ ws)
limits_on n [] ws h k = k
limits_on n (x ∷ xs) ws (h, i) k = (subst (λ ys. AreItems n ys) (sym (shown-limited n xs ws)) i, limits_on n xs ws i k)

-- a stack, from the front on
pub front_first : (stack rest : List Waiting) (w : Waiting) → stack ≡ rest ++ w ∷ [] → reverse stack ≡ w ∷ reverse rest
front_first stack rest w is = ap reverse is ∙ reverse-append rest (w ∷ [])

pub front_is : (stack rest : List Waiting) (w : Waiting) → stack ≡ rest ++ w ∷ []
    → items_of stack ≡ w.item ∷ items_under (bound_to w.below.bindings) (items_of rest)
front_is stack rest w is = ap shown (front_first stack rest w is)

-- the stack after a step
pub top_replaced : (stack after : List Waiting) (count : ℕ) (top : List Waiting) → after ≡ take count stack ++ reverse top
    → reverse after ≡ with_top stack count top
top_replaced stack after count top is = ap reverse is ∙ reverse-append (take count stack) (reverse top)
    ∙ ap (λ ws. ws ++ reverse (take count stack)) (reverse-reverse top)

-- a step of the loop that puts items on a stack
pub one_put : (stack after items left : List Waiting) (w : Waiting) → items ≡ left ++ w ∷ [] → after ≡ stack ++ w ∷ []
    → after ++ reverse left ≡ stack ++ reverse items
one_put stack after items left w is e =
    ap (λ ws. ws ++ reverse left) e ∙ append_assoc stack (w ∷ []) (reverse left) ∙ ap (λ ws. stack ++ ws) (sym (front_first items left w is))

-- an empty stack, and one with an item, under a substitution
pub brought_none : (s : Bindings) (stack top : List Waiting) → stack ≡ [] → top ≡ [] → IsBrought s stack 0 top
brought_none s stack top none e =
    subst (λ ws. IsBrought s ws 0 top) (sym none) (subst (λ ws. IsBrought s [] 0 ws) (sym e) (record { bound = omega arith; items = refl; limits = tt }))

pub brought_some : (s : Bindings) (stack rest : List Waiting) (w x : Waiting) (count : ℕ) (top : List Waiting) → AreLimited (reverse stack)
    → stack ≡ rest ++ w ∷ [] → x.item ≡ item_under (bound_to s) w.item
    → x.below.limit ≡ w.below.limit → AreBoth w.below.bindings s w.below.limit x.below.bindings → count ≡ length rest → top ≡ x ∷ []
    → IsBrought s stack count top
brought_some s stack rest w x count top h is item limit both many e =
    let limits : AreLimited (w ∷ reverse rest) = subst (λ ws. AreLimited ws) (front_first stack rest w is) h in
    let longer : length stack ≡ length rest + 1 = ap length is ∙ length_push rest w in
    let cut : take count stack ≡ rest = ap (take count) is ∙ take_at rest (w ∷ []) count (sym many) in
    let whole : with_top stack count top ≡ x ∷ reverse rest = ap (λ ws. ws ++ reverse (take count stack)) e ∙ ap (λ ws. x ∷ reverse ws) cut in
    let under_both : items_under (bound_to x.below.bindings) (items_of rest)
    ≡ items_under (bound_to s) (items_under (bound_to w.below.bindings) (items_of rest)) =
    items_both (bound_to w.below.bindings) (bound_to s) (bound_to x.below.bindings) w.below.limit both (items_of rest) limits.0 in
    record {
      bound = omega arith;
      items =
          ap shown whole ∙ ap (λ y. y ∷ items_under (bound_to x.below.bindings) (items_of rest)) item
          ∙ ap (λ ys. item_under (bound_to s) w.item ∷ ys) under_both
          ∙ ap (items_under (bound_to s)) (sym (front_is stack rest w is));
      limits = subst (λ ws. AreLimited ws) (sym whole) (subst (λ m. AreItems m (items_of rest)) (sym limit) limits.0, limits.1);
    }
