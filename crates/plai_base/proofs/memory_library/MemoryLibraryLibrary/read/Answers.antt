use Rattle.std.proofs.Common.{◌≡◌, Bool, false, ◌||◌, IsTrue, List, ℕ, Some, is_none, refl, sym, ◌∙◌, rules}
use Rattle.std.proofs.lemmas.Bool.{false≢true}
use Rattle.std.specs.declared.option.Option.{Option}
use Rattle.plai_base.proofs.memory_library.MemoryLibraryLibrary.read.Goals as goal

-- a read that isn't listed, of a name that is there
none_fails : (listed : Bool) (found : Option (List ℕ)) (text : List ℕ) → listed ≡ false → found ≡ Some text → IsTrue (listed || is_none found) → ⊥
none_fails listed found text unlisted is fails =
    let passes : (listed || is_none found) ≡ false = rw (unlisted, is) refl in
    false≢true (sym passes ∙ fails)

pub returns-in-Some-clause-fails : goal.returns-in-Some-clause-fails
returns-in-Some-clause-fails c = (
  λ failed. absurd (c.append_text.ensures.not_failed failed),
  λ fails. absurd (none_fails _ _ _ (search rules) (rw c.as_slice.ensures.value at c.in-Some.ensures) fails),
)
