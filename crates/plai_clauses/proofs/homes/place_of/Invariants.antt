use Rattle.std.proofs.Common.{◌≡◌, ◌+◌, drop, map}
use Rattle.plai_clauses.specs.Program.{place_of}
use Rattle.plai_clauses.proofs.homes.place_of.Given as goal

abbrev pub invariant-loop-item : goal.invariant-loop-item
invariant-loop-item g l =
    (l.place ≡ l.item-index) × (place_of l.name l.number (map g.T.Homed.home l.items)
    ≡ l.place + place_of l.name l.left (map g.T.Homed.home (drop l.item-index l.items)))
