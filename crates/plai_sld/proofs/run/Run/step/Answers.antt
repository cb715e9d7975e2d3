use Rattle.std.proofs.Common.{◌≡◌, ◌++◌, take, reverse, ap, subst, ◌∙◌}
use Rattle.plai_sld.specs.declared.run.Next.TheVariants.{Goes}
use Rattle.plai_sld.specs.declared.stepped.Stepped.TheVariants.{Moved}
use Rattle.plai_sld.specs.Nexts.{IsNext}
use Rattle.plai_sld.specs.Stacks.{items_of}
use Rattle.plai_sld.specs.Steps.{Answers}
use Rattle.plai_sld.proofs.Found.{goes_on}
use Rattle.plai_sld.proofs.Reached.{state_after, step_after}
use Rattle.plai_sld.proofs.run.Run.step.Goals as goal

goes : (c : goal.After-self-1) → IsNext c.args.program.now (items_of c.self.inside.stack.items) c.self.inside.stack.items c.self.inside.next c.args.choice
    (Goes c.in-Goes.count c.in-Goes.top c.in-Goes.next)
goes c =
    goes_on c.args.program.now c.deref.result.now c.self.inside.stack.items c.self.inside.next c.args.choice c.in-Goes.count c.in-Goes.top c.in-Goes.next
    c.in_ok-stepped.field-0 c.deref.ensures.value c.in-Goes.is c.in_ok-stepped.ensures

replaced : (c : goal.After-self-1) → c.replace_top.new.stack.items ≡ take c.in-Goes.count c.self.inside.stack.items ++ reverse c.in-Goes.top
replaced c = c.in_ok-replace_top-in-Goes.ensures.ok ∙ ap (λ ws. take c.in-Goes.count c.self.inside.stack.items ++ reverse ws) c.into_vec.ensures

pub invariant_of-self-in-Goes : goal.invariant_of-self-in-Goes
invariant_of-self-in-Goes c =
    state_after c.args.program.now c.is_program.ensures.well_formed c.self.inside.stack.items c.replace_top.new.stack.items c.self.inside.next c.args.choice
    c.in-Goes.count c.in-Goes.top c.in-Goes.next c.self.invariant.0 (goes c).0
    (goes c).2 (replaced c)

pub returns-in_ok-replace_top-in-Goes-clause-ok : goal.returns-in_ok-replace_top-in-Goes-clause-ok
returns-in_ok-replace_top-in-Goes-clause-ok c =
    subst (λ before. Answers c.args.program.now before c.args.choice Moved (record { items = items_of c.replace_top.new.stack.items; next = c.in-Goes.next }))
    c.self.view_is
    (record {
      answer = (goes c).1;
      state = step_after c.args.program.now c.is_program.ensures.well_formed c.self.inside.stack.items c.replace_top.new.stack.items c.self.inside.next
          c.args.choice c.in-Goes.count c.in-Goes.top c.in-Goes.next c.self.invariant.0 (goes c).0
          (goes c).2 (replaced c);
    })
