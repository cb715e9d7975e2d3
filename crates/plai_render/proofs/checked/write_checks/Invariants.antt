use Rattle.std.proofs.Common.{◌≡◌, ◌≤◌, ◌++◌, drop}
use Rattle.plai_render.specs.Block.{checks_text_behind, checks_text}
use Rattle.plai_render.proofs.checked.write_checks.Given as goal

-- what is written and what is left
abbrev pub invariant-loop-check : goal.invariant-loop-check
invariant-loop-check l = record {
  few : l.number ≤ l.check-index;
  text : l.out.items ++ checks_text_behind l.before l.number (drop l.check-index l.checks) l.left ≡ l.fn.out.items ++ checks_text l.checks l.verdicts;
}
