-- The code of a state, by which proofs tell states apart: that of the pair of its fields.
use Rattle.std.specs.Prelude.{ℕ, List, refl}
use Rattle.std.specs.Coded.{Coded, code_by, coded×, coded_list, coded_ℕ}
use Rattle.plai_sld.specs.declared.item.Item.{Item}
use Rattle.plai_sld.specs.contracts.item.Item as item
use Rattle.plai_sld.specs.Runs.{RunState}

abbrev pub state_code : Coded RunState
state_code =
    code_by (List Item × ℕ) (coded× (coded_list item.the_row.coded) coded_ℕ) (λ s. (s.items, s.next))
    (λ p. record { items = p.0; next = p.1 }) (λ _. refl)
