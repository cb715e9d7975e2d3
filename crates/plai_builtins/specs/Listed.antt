-- Small lists of at most three actions.
use Rattle.std.specs.Prelude.{List, [], ◌∷◌, ◌++◌, length, take}
use Rattle.plai_domain.specs.declared.action.Action.{Action}
use Rattle.plai_domain.specs.declared.action.Action.TheVariants.{Fail}
use Rattle.plai_builtins.specs.declared.actions.Actions.{Actions}

-- those that count, in turn
abbrev pub listed : Actions → List Action
listed a = take a.count a.items

-- the small list of these actions, with `Fail` behind them
abbrev pub small : List Action → Actions
small xs = record { count = length xs; items = take 3 (xs ++ Fail ∷ Fail ∷ Fail ∷ []) }
