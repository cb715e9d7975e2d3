-- Functions of the first slots, and their models.
use Rattle.std.proofs.Common.{◌≡◌, ◌≢◌, ℕ, ◌^◌, ◌<◌, ◌≤◌, Bool, true, false, cond, nat_lt, IsTrue, List, ◌⊎◌, sym, ap, ◌∙◌, arith}
use Rattle.std.proofs.lemmas.Bool.{ne_eqb}
use Rattle.std.proofs.lemmas.Bool.Decides.{nat_tests}
use Rattle.plai_base.specs.Mask.{all_true}
use Rattle.plai_base.specs.Sets.{has}
use Rattle.plai_base.proofs.Sets.{same_tests, has-kept}
use Rattle.plai_base.proofs.Bits.{top_lt}
use Rattle.plai_bdd.specs.declared.node.Node.{Node}
use Rattle.plai_bdd.specs.Assignment.{Assignment, IsFree, with_slot}
use Rattle.plai_bdd.specs.Nodes.{holds, is_model, IsCanonical, IsFunction, IsOver}
use Rattle.plai_bdd.proofs.Depends.{holds-below}
use Rattle.plai_pos_laws.specs.Assignments.{IsPositive}
use Rattle.plai_pos_laws.proofs.Parts.{value_kept}
use Rattle.plai_pos.specs.Values.{models_of, IsDiagram, IsDiagramOf, IsPositiveBelow}

-- where the function is true, it is true at each assignment that has the same first slots
abbrev pub TrueAlike : ℕ → (Assignment → Bool) → Type 0
TrueAlike n f = (at other : Assignment) → ((slot : ℕ) → slot < n → at slot ≡ other slot) → IsTrue (f at) → IsTrue (f other)

pub other_slot : (at : Assignment) (slot k : ℕ) (answer : Bool) → k ≢ slot → with_slot at slot answer k ≡ at k
other_slot at slot k answer ne = ap (λ b. cond b answer (at k)) (ne_eqb k slot ne)

free_from : (n : ℕ) (f : Assignment → Bool) → TrueAlike n f → (slot : ℕ) → n ≤ slot → IsFree f slot
free_from n f h slot le at answer =
    same_tests (f (with_slot at slot answer)) (f at)
    (h (with_slot at slot answer) at (λ k l. other_slot at slot k answer (λ e. omega arith)))
    (h at (with_slot at slot answer) (λ k l. sym (other_slot at slot k answer (λ e. omega arith))))

pub over_of : (n : ℕ) (nodes : List Node) → TrueAlike n (holds nodes) → IsOver n nodes
over_of n nodes h = free_from n (holds nodes) h

pub alike_of : (n : ℕ) (nodes : List Node) → IsCanonical nodes → IsOver n nodes → TrueAlike n (holds nodes)
alike_of n nodes c over at other same t = sym (holds-below nodes n c over at other same) ∙ t

-- a diagram's function
pub positive_function : (v : ℕ) (nodes : List Node) → IsDiagram v nodes → IsPositiveBelow v (holds nodes)
positive_function v nodes d = record { over = holds-below nodes v d.canonical d.over; top = d.top }

pub alike_as : (n : ℕ) (nodes : List Node) (f : Assignment → Bool) → IsFunction nodes f → TrueAlike n f → TrueAlike n (holds nodes)
alike_as n nodes f h a at other same t = h.answers other ∙ a at other same (sym (h.answers at) ∙ t)

-- a diagram, by its models
pub diagram_of : (n : ℕ) (xs : List ℕ) (nodes : List Node) → IsCanonical nodes → TrueAlike n (holds nodes) → models_of n nodes ≡ xs → IsPositive n xs
    → IsDiagramOf n xs nodes
diagram_of n xs nodes c a e p = record {
  diagram = record {
    canonical = c;
    over = over_of n nodes a;
    top = sym (has-kept (2 ^ n) (is_model nodes) (all_true n) (top_lt n)) ∙ ap (λ l. has l (all_true n)) e ∙ p.has_top;
  };
  models = e;
}

pub positive_of : (n : ℕ) (nodes : List Node) → is_model nodes (all_true n) ≡ true → IsPositive n (models_of n nodes)
positive_of n nodes top = value_kept n (is_model nodes) top

-- one assignment below a slot, and another from it on
abbrev pub spliced : ℕ → Assignment → Assignment → Assignment
spliced n low high slot = cond (nat_lt slot n) (low slot) (high slot)

pub spliced_low : (n : ℕ) (low high : Assignment) (slot : ℕ) → slot < n → spliced n low high slot ≡ low slot
spliced_low n low high slot l = let e : nat_lt slot n ≡ true = grind (arith, nat_tests) in ap (λ b. cond b (low slot) (high slot)) e

pub spliced_high : (n : ℕ) (low high : Assignment) (slot : ℕ) → n ≤ slot → spliced n low high slot ≡ high slot
spliced_high n low high slot l = let e : nat_lt slot n ≡ false = grind (arith, nat_tests) in ap (λ b. cond b (low slot) (high slot)) e

pub below_or_from : (a b : ℕ) → (a < b) ⊎ (b ≤ a)
below_or_from a b = grind arith
