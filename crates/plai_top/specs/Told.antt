-- Facts for objects of the outside that tell their content.
use Rattle.std.specs.Prelude.{ℕ, List, IfSome}
use Rattle.std.specs.declared.option.Option.{Option}
use Rattle.plai_base.specs.Texts.{TextMap}

-- a fact for a library and a script that both tell
abbrev pub IfBothTold : Option TextMap → Option (List ℕ) → (TextMap → List ℕ → Type 0) → Type 0
IfBothTold files left P = IfSome files (λ map. IfSome left (λ text. P map text))
