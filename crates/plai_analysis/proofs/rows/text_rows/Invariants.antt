use Rattle.std.proofs.Common.{map, take}
use Rattle.plai_assert.specs.Rows.{plain}
use Rattle.plai_render.specs.Texts.{AreTextsOf}
use Rattle.plai_analysis.proofs.rows.text_rows.Given as goal

-- the rows so far as text
abbrev pub invariant-loop-row : goal.invariant-loop-row
invariant-loop-row g l = AreTextsOf (map (plain g.D.Domain.value_of) (take l.row-index l.rows)) l.texts.items
