-- The functions of whole lists: constants, variables, and what `combine` gives at two roots.
use Rattle.std.proofs.Common.{◌≡◌, ℕ, ◌+◌, ◌-◌, ◌<◌, Bool, true, false, cond, ◌&&◌, List, [], ◌∷◌, length, refl, sym, subst, ◌∙◌, arith}
use Rattle.plai_bdd.specs.Assignment.{Assignment}
use Rattle.plai_bdd.specs.declared.node.Node.{Node}
use Rattle.plai_bdd.specs.declared.node.Node.TheVariants.{Leaf, Branch}
use Rattle.plai_bdd.specs.declared.change.Connective.{Connective}
use Rattle.plai_bdd.specs.declared.change.Change.{Change}
use Rattle.plai_bdd.specs.declared.change.Change.TheVariants.{Keep}
use Rattle.plai_bdd.specs.Tree.{Tree, Tip, Fork}
use Rattle.plai_bdd.specs.Change.{can_place, AllSlots, IsPlaceable, combined}
use Rattle.plai_bdd.specs.Nodes.{tree_at, root_of, holds, IsCanonical, IsFunction}
use Rattle.plai_bdd.specs.Table.{IsSource, Adds, least_of, function_of}
use Rattle.plai_bdd.proofs.Tables.{IsTable-empty}
use Rattle.plai_bdd.proofs.Adding.{Adds-as, Adds-leaf, Adds-join}
use Rattle.plai_bdd.proofs.Canonical.{rooted, finished}
use Rattle.plai_bdd.proofs.Depends.{AllSlots-placeable, keep_places}

pub AllSlots-of : (P : ℕ → Type 0) → ((s : ℕ) → P s) → (t : Tree) → AllSlots P t
AllSlots-of P f (Tip b) = tt
AllSlots-of P f (Fork s l h) = (f s, AllSlots-of P f l, AllSlots-of P f h)

pub keeps : (t : Tree) → AllSlots (can_place Keep) t
keeps t = AllSlots-of (can_place Keep) (λ s. tt) t

pub constant_is : (b : Bool) → IsFunction (Leaf b ∷ []) (λ _. b)
constant_is b = finished (Leaf b ∷ []) 0 (λ _. b) (Adds-leaf b [] 0 IsTable-empty)

pub variable_is : (s : ℕ) → s < 64 → IsFunction (Leaf false ∷ Leaf true ∷ Branch s 0 1 ∷ []) (λ at. at s)
variable_is s h =
    let low : Adds [] 0 (Leaf false ∷ []) (s + 1) (λ _. false) = Adds-leaf false [] (s + 1) IsTable-empty in
    let high : Adds (Leaf false ∷ []) 1 (Leaf false ∷ Leaf true ∷ []) (s + 1) (λ _. true) = Adds-leaf true (Leaf false ∷ []) (s + 1) low.table in
    let both : Adds [] 2 (Leaf false ∷ Leaf true ∷ Branch s 0 1 ∷ []) s (λ at. at s) = Adds-join low high h (λ at. own (at s)) in
    finished _ 2 (λ at. at s) (Adds-as (omega arith) (λ at. refl) both)
  where
    own : (b : Bool) → b ≡ cond b true false
    own true = refl
    own false = refl

-- the root of a canonical list
pub root_source : (change : Change) (t : List Node) → IsCanonical t → AllSlots (can_place change) (root_of t) → IsSource change t (length t - 1)
root_source change t c f = record {
  table = (rooted t c).table;
  inside = omega (arith, (rooted t c).some);
  reduced = c.reduced;
  fits = f;
}

pub combined_is : (connective : Connective) (change : Change) (left right t : List Node) (i j place : ℕ)
    → Adds [] place t (least_of change left right i j) (function_of connective change left right i j)
    → i ≡ length left - 1 → j ≡ length right - 1 → IsFunction t (combined connective change (root_of left) (root_of right))
combined_is connective change left right t i j place a ei ej =
    finished t place _ (Adds-as (omega arith) (λ at. (λ x. combined connective change (tree_at left (ei x)) (tree_at right (ej x)) at)) a)

pub same_twice : (b : Bool) → (b && b) ≡ b
same_twice true = refl
same_twice false = refl

pub IsFunction-as : {t : List Node} {f g : Assignment → Bool} → ((at : Assignment) → f at ≡ g at) → IsFunction t f → IsFunction t g
IsFunction-as same h = record { canonical = h.canonical; answers = λ at. h.answers at ∙ same at }

-- the list behind a slice
pub some_of : (items seen : List Node) → IsCanonical items → seen ≡ items → 0 < length seen
some_of items seen c e = subst (λ l. 0 < length l) (sym e) (rooted items c).some

pub source_of : (change : Change) (items now seen : List Node) → IsCanonical items → items ≡ now → seen ≡ items → IsPlaceable change (holds now)
    → IsSource change seen (length seen - 1)
source_of change items now seen c e f fits =
    let canonical : IsCanonical seen = subst IsCanonical (sym f) c in
    root_source change seen canonical (AllSlots-placeable change seen canonical (subst (λ l. IsPlaceable change (holds l)) (sym e ∙ sym f) fits))

pub kept_source : (items now seen : List Node) → IsCanonical items → items ≡ now → seen ≡ items → IsSource Keep seen (length seen - 1)
kept_source items now seen c e f = source_of Keep items now seen c e f (keep_places (holds now))
