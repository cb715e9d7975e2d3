use Rattle.std.proofs.Common.{◌≡◌, ◌+◌, ◌-◌, ◌*◌, ◌%◌, ◌^◌, ◌++◌, List, ℕ, OnOk, false, true, slice_index_or, sym, ap, ◌∙◌, arith, subst}
use Rattle.std.proofs.lemmas.Nat.{one_shl}
use Rattle.plai_terms.specs.Shape.{shape, shape_text, entry, depends}
use Rattle.plai_terms.proofs.Tables.{halved, shape_none, shape_skips, shape_splits, node_written}
use Rattle.plai_terms.proofs.shape.+write_shape.Goals as goal

pub returns-then-count-eq0 : goal.returns-then-count-eq0
returns-then-count-eq0 t c =
    subst (λ (w : List ℕ). OnOk c.write_constant.result (c.write_constant.new.out.items ≡ c.args.out.now.items ++ w))
    (ap shape_text (sym (shape_none c.args.count c.args.slot (entry c.args.flags.now c.args.first c.args.step) _ c.if-count-eq0.true
    (let e : c.args.first ≡ c.args.first + c.args.step * 0 = omega arith in ap (λ p. slice_index_or c.args.flags.now p false) e))))
    c.write_constant.ensures

pub depends-requires-clause-half : goal.depends-requires-clause-half
depends-requires-clause-half t c =
    let e : 1 * 2 ^ (c.args.count - 1) % 18446744073709551616 ≡ 2 ^ (c.args.count - 1) = one_shl (c.args.count - 1) 64 (omega arith) in
    let h = halved c.args.step c.args.count (omega arith) in
    rw e (omega (arith, h))

pub write_shape-requires : goal.write_shape-requires
write_shape-requires t c =
    let h = halved c.args.step c.args.count (omega arith) in
    (omega arith, (omega arith, (omega (arith, h), omega arith)))

pub returns-then-not-depends : goal.returns-then-not-depends
returns-then-not-depends t c =
    let e : 1 * 2 ^ (c.args.count - 1) % 18446744073709551616 ≡ 2 ^ (c.args.count - 1) = one_shl (c.args.count - 1) 64 (omega arith) in
    let no : depends (2 ^ (c.args.count - 1)) (entry c.args.flags.now c.args.first c.args.step) ≡ false =
    ap (λ k. depends k (entry c.args.flags.now c.args.first c.args.step)) (sym e) ∙ sym c.depends.ensures ∙ c.if-not-depends.true in
    subst (λ (w : List ℕ). OnOk c.write_shape.result (c.write_shape.new.out.items ≡ c.args.out.now.items ++ w))
    (ap shape_text (sym (shape_skips c.args.flags.now c.args.first c.args.step c.args.count c.args.slot (omega arith) no)))
    c.write_shape.ensures

pub write_shape-requires-2 : goal.write_shape-requires-2
write_shape-requires-2 t c =
    let h = halved c.args.step c.args.count (omega arith) in
    (omega arith, (omega arith, (omega (arith, h), omega arith)))

pub write_shape-requires-3 : goal.write_shape-requires-3
write_shape-requires-3 t c =
    let h = halved c.args.step c.args.count (omega arith) in
    (omega arith, (omega arith, (omega (arith, h), omega arith)))

pub returns : goal.returns
returns t c =
    let e : 1 * 2 ^ (c.args.count - 1) % 18446744073709551616 ≡ 2 ^ (c.args.count - 1) = one_shl (c.args.count - 1) 64 (omega arith) in
    let yes : depends (2 ^ (c.args.count - 1)) (entry c.args.flags.now c.args.first c.args.step) ≡ true =
    ap (λ k. depends k (entry c.args.flags.now c.args.first c.args.step)) (sym e) ∙ sym c.depends.ensures ∙ c.if-not-depends.false in
    node_written _ (shape (c.args.count - 1) (c.args.slot + 1) (entry c.args.flags.now (c.args.first + c.args.step) (2 * c.args.step)))
    (shape (c.args.count - 1) (c.args.slot + 1) (entry c.args.flags.now c.args.first (2 * c.args.step))) c.args.slot
    c.args.out.now.items c.open_node.new.out.items c.write_shape-2.new.out.items c.push.new.self.items c.write_shape-3.new.out.items c.push-2.new.self.items
    (shape_splits c.args.flags.now c.args.first c.args.step c.args.count c.args.slot (omega arith) yes)
    c.in_ok-open_node.ensures c.in_ok-write_shape.ensures c.in_ok-push.ensures.items c.in_ok-write_shape-2.ensures c.in_ok-push-2.ensures.items
