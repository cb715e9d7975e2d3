use Rattle.std.proofs.Common.{◌≡◌, ◌-◌, length, reverse, ap, sym, ◌∙◌}
use Rattle.plai_values.specs.Values.{functor_value}
use Rattle.plai_values.proofs.Stacks.{uppermost, lowermost, rest_taken}
use Rattle.plai_values.proofs.arithmetic.take_value.Goals as goal

pub returns : goal.returns
returns c taken others k e =
    let stack = c.args.values.now.items in
    let kept = c.saturating_sub-kept.result in
    let is : kept ≡ length stack - length taken =
    c.saturating_sub-kept.ensures ∙ ap (λ n. n - c.args.count) (c.len.ensures ∙ sym c.deref.ensures.len ∙ ap length c.deref.ensures.value)
    ∙ ap (λ n. length stack - n) (sym k) in (
      c.functor_value-value.ensures
          ∙ ap (λ xs. functor_value c.args.name.now (reverse xs)) (rest_taken kept stack c.deref.result.now c.deref.ensures.value)
          ∙ ap (functor_value c.args.name.now) (uppermost stack taken others kept is e),
      ap reverse c.truncate.ensures.items ∙ lowermost stack taken others kept is e,
    )
