use Rattle.std.proofs.Common.{◌≡◌, map, take}
use Rattle.plai_render.specs.Texts.{text_of}
use Rattle.plai_render.proofs.block.texts.Given as goal

abbrev pub invariant-loop-row : goal.invariant-loop-row
invariant-loop-row l = l.texts.items ≡ map text_of (take l.row-index l.rows)
