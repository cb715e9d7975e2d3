use Rattle.std.proofs.Common.{◌≡◌, ◌+◌, ◌≤◌, ◌^◌, length}
use Rattle.std.specs.Prelude.{All, IfOk, Result}
use Rattle.plai_clauses.specs.declared.edit_cause.EditCause.{EditCause}
use Rattle.plai_script.specs.declared.edit.Edit.{Edit}
use Rattle.plai_script.specs.Scripts.{script_of, script_of_tokens}
use Rattle.plai_script.specs.Readable.{IsReadableEdit}
use Rattle.plai_script.specs.Answering.{behind}
use Rattle.plai_script.proofs.script.read_script.Given as goal

abbrev pub invariant-loop-items : goal.invariant-loop-items
invariant-loop-items l = record {
  same : script_of l.text ≡ behind l.items.items (script_of_tokens l.number l.lexer);
  readable : All (λ (item : Result Edit EditCause). IfOk item IsReadableEdit) l.items.items;
  from : 1 ≤ l.number;
  room : l.number + length l.lexer.tokens ≤ 2 ^ 31;
}

abbrev pub decreases-loop-items : goal.decreases-loop-items
decreases-loop-items l = length l.lexer.tokens
