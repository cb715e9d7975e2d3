use Rattle.std.proofs.Common.{◌≡◌, ℕ, ◌-◌, List, [], length, arith, subst, sym, ◌∙◌}
use Rattle.plai_bdd.specs.declared.change.Connective.{Connective}
use Rattle.plai_bdd.specs.declared.change.Change.{Change}
use Rattle.plai_bdd.specs.Change.{combined}
use Rattle.plai_bdd.specs.Nodes.{IsFunction, root_of}
use Rattle.plai_bdd.specs.Table.{Adds, IsTable, least_of, function_of, nodes_of}
use Rattle.plai_bdd.specs.declared.node.Node.{Node}
use Rattle.plai_bdd.proofs.Functions.{some_of, source_of, combined_is}
use Rattle.plai_bdd.proofs.Noted.{memo_blank}
use Rattle.plai_bdd.proofs.Tables.{IsTable-empty}
use Rattle.plai_bdd.proofs.bdd.Bdd.combined.Goals as goal

pub overflow_sub-pair : goal.overflow_sub-pair
overflow_sub-pair c = let h = some_of _ _ c.self.invariant c.as_slice-left.ensures.value in omega arith

pub overflow_sub-pair-2 : goal.overflow_sub-pair-2
overflow_sub-pair-2 c = let h = some_of _ _ c.other.invariant c.as_slice-right.ensures.value in omega arith

pub combine-requires-clause-left_is : goal.combine-requires-clause-left_is
combine-requires-clause-left_is c = source_of c.args.change c.self.inside.nodes.items c.args.self.now c.as_slice-left.result.now c.self.invariant
    c.self.view_is c.as_slice-left.ensures.value c.requires.left

pub combine-requires-clause-right_is : goal.combine-requires-clause-right_is
combine-requires-clause-right_is c = source_of c.args.change c.other.inside.nodes.items c.args.other.now c.as_slice-right.result.now c.other.invariant
    c.other.view_is c.as_slice-right.ensures.value c.requires.right

given : (connective : Connective) (change : Change) (self other self_inside other_inside left right start table nodes : List Node) (root : ℕ) → start ≡ []
    → Adds start root table (least_of change left right (length left - 1) (length right - 1))
    (function_of connective change left right (length left - 1) (length right - 1))
    → nodes ≡ table → left ≡ self_inside → self_inside ≡ self → right ≡ other_inside → other_inside ≡ other
    → IsFunction nodes (combined connective change (root_of self) (root_of other))
given connective change self other self_inside other_inside left right start table nodes root e added f l1 l2 r1 r2 =
    let from : Adds [] root table (least_of change left right (length left - 1) (length right - 1))
    (function_of connective change left right (length left - 1) (length right - 1)) =
    subst (λ l. Adds l root table (least_of change left right (length left - 1) (length right - 1))
    (function_of connective change left right (length left - 1) (length right - 1))) e added in
    let done = combined_is connective change left right table (length left - 1) (length right - 1) root from (omega arith) (omega arith) in
    let P : List Node → Type 0 = λ l. IsFunction l (combined connective change (root_of left) (root_of right)) in
    let Q : List Node → Type 0 = λ l. IsFunction nodes (combined connective change (root_of l) (root_of right)) in
    let R : List Node → Type 0 = λ r. IsFunction nodes (combined connective change (root_of self) (root_of r)) in
    subst R (r1 ∙ r2) (subst Q (l1 ∙ l2) (subst P (sym f) done))

pub invariant_of-result : goal.invariant_of-result
invariant_of-result c =
    (given c.args.connective c.args.change c.args.self.now c.args.other.now _ _ c.as_slice-left.result.now c.as_slice-right.result.now
    (nodes_of c.in_ok-table.table) _ _ c.in_ok-_root._root c.in_ok-table.ensures
    c.in_ok-_root.ensures.added c.in_ok-nodes.ensures c.as_slice-left.ensures.value c.self.view_is
    c.as_slice-right.ensures.value c.other.view_is).canonical

pub returns : goal.returns
returns c =
    given c.args.connective c.args.change c.args.self.now c.args.other.now _ _ c.as_slice-left.result.now c.as_slice-right.result.now
    (nodes_of c.in_ok-table.table) _ _ c.in_ok-_root._root c.in_ok-table.ensures
    c.in_ok-_root.ensures.added c.in_ok-nodes.ensures c.as_slice-left.ensures.value c.self.view_is
    c.as_slice-right.ensures.value c.other.view_is

pub combine-requires-clause-table_is : goal.combine-requires-clause-table_is
combine-requires-clause-table_is c = subst IsTable (sym c.in_ok-table.ensures) IsTable-empty

pub combine-requires-clause-memo_is : goal.combine-requires-clause-memo_is
combine-requires-clause-memo_is c = memo_blank _ _ _ _ _ _ c.in_ok-memo.ensures
