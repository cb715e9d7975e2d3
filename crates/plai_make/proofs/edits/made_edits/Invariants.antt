use Rattle.std.proofs.Common.{◌≡◌, ◌<◌, ◌+◌, ◌*◌, ◌^◌, All, IfOk, flat_map}
use Rattle.std.specs.List.{range_with_len}
use Rattle.plai_script.specs.Readable.{IsReadableEdit}
use Rattle.plai_make.specs.Draws.{state_at}
use Rattle.plai_make.specs.Programs.{drawn_pair}
use Rattle.plai_make.proofs.edits.made_edits.Given as goal

abbrev pub invariant-loop : goal.invariant-loop
invariant-loop l = record {
  few : l.state < 2 ^ 31;
  value : l.state ≡ state_at l.count (2 * l.count + 2 * l.counter);
  edits : l.edits.items ≡ flat_map (drawn_pair l.count) (range_with_len 0 l.counter);
  readable : All (λ edit. IfOk edit IsReadableEdit) l.edits.items;
}
