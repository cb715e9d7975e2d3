-- How a call ends: its answer, and what the sink took, beside an outcome.
use Rattle.std.specs.Prelude.{ℕ, ◌≡◌, ◌≢◌, ◌⊎◌, List, [], take}
use Rattle.std.specs.Io.KnownBytes.{Appends, Keeps}
use Rattle.std.specs.declared.option.Option.{Option}
use Rattle.plai_base.specs.Texts.{TextMap}
use Rattle.plai_words.specs.declared.types.Settings.{Settings}
use Rattle.plai_top.specs.Commands.{IsMake}
use Rattle.plai_top.specs.Outcome.{Outcome, IsByWords, IsEarly, IsOutcome, AreFirstBlocks, line, IsMadeOutcome, AreOne}

-- a prefix of the bytes was taken
abbrev pub TookPrefix : Option (List ℕ) → Option (List ℕ) → List ℕ → Type 0
TookPrefix before after bytes = (n : ℕ) × Appends before after (take n bytes)

-- the outcome came, all of it
abbrev pub Comes : ℕ → Option (List ℕ) → Option (List ℕ) → Outcome → Type 0
Comes result before after outcome = (result ≡ outcome.status) × Appends before after outcome.bytes

-- the outcome came; or a read failed, and nothing was written; or a write failed, and there was something to
-- write; or memory ran out
abbrev pub EndsBy : ℕ → Option (List ℕ) → Option (List ℕ) → Outcome → Type 0
EndsBy result before after outcome =
    Comes result before after outcome
    ⊎ ((result ≡ 5) × Keeps before after)
    ⊎ ((result ≡ 6) × (outcome.bytes ≢ []) × TookPrefix before after outcome.bytes)
    ⊎ ((result ≡ 7) × TookPrefix before after outcome.bytes)

-- a read or a write failed, or memory ran out
abbrev pub IsFault : ℕ → Type 0
IsFault result = (result ≡ 5) ⊎ (result ≡ 6) ⊎ (result ≡ 7)

-- the answer is a fault's, or one of these outcomes came
abbrev pub IsFaultOrComes : (Outcome → Type 0) → ℕ → Option (List ℕ) → Option (List ℕ) → Type 0
IsFaultOrComes Among result before after = IsFault result ⊎ ((outcome : Outcome) × Among outcome × Comes result before after outcome)

-- whichever of these the outcome is, the call ended by it, or by one that differs from it in stops alone
abbrev pub EndsByEach : List (List ℕ) → (Outcome → Type 0) → ℕ → Option (List ℕ) → Option (List ℕ) → Type 0
EndsByEach words Among result before after =
    (outcome : Outcome) → Among outcome → (other : Outcome) × Among other × AreOne words outcome other × EndsBy result before after other

-- where a write failed, a prefix of a line of a refusal or of the first blocks was taken, and these have bytes; where memory ran
-- out, all of the first blocks, or nothing
pub record EndsWithin (words : List (List ℕ)) (files : TextMap) (script : List ℕ) (result : ℕ) (before after : Option (List ℕ)) : Type 0 where
  pub cut : result ≡ 6
      → (text : List ℕ) × (IsOutcome words files script (line text) ⊎ AreFirstBlocks words files script text) × (text ≢ []) × TookPrefix before after text
  pub short : result ≡ 7 → (text : List ℕ) × AreFirstBlocks words files script text × Appends before after text

-- a call for a made program ended by an outcome of that, or by a fault behind a part of it
abbrev pub EndsMade : List (List ℕ) → ℕ → Option (List ℕ) → Option (List ℕ) → Type 0
EndsMade words result before after = (settings : Settings) (count : ℕ) → IsMake words settings count
    → IsFaultOrComes (IsMadeOutcome settings count) result before after × EndsByEach words (IsMadeOutcome settings count) result before after

-- what the words decide came, unless memory ran out
abbrev pub EndsByWords : List (List ℕ) → ℕ → Type 0
EndsByWords words result = (outcome : Outcome) → IsByWords words outcome → (result ≡ outcome.status) ⊎ (result ≡ 7)

-- the call ended by what the words and the files decide, and a read failed only in the library
abbrev pub EndsEarly : List (List ℕ) → TextMap → ℕ → Option (List ℕ) → Option (List ℕ) → Type 0 → Type 0
EndsEarly words files result before after LibraryFailed = (outcome : Outcome) → IsEarly words files outcome
    → EndsBy result before after outcome × (result ≡ 5 → LibraryFailed)

-- a status at which nothing is written
abbrev pub IsSilent : ℕ → Type 0
IsSilent result = (result ≡ 2) ⊎ (result ≡ 4) ⊎ (result ≡ 5)

-- a status that is decided before the analysis
abbrev pub IsBeforeWork : ℕ → Type 0
IsBeforeWork result = IsSilent result ⊎ (result ≡ 3)

-- the statuses
abbrev pub IsStatus : ℕ → Type 0
IsStatus result = (result ≡ 0) ⊎ (result ≡ 1) ⊎ (result ≡ 2) ⊎ (result ≡ 3) ⊎ (result ≡ 4) ⊎ IsFault result

-- the statuses of a call for a made program, which reads nothing: all was done, or a write failed or memory ran out
abbrev pub IsMadeStatus : ℕ → Type 0
IsMadeStatus result = (result ≡ 0) ⊎ (result ≡ 1) ⊎ (result ≡ 6) ⊎ (result ≡ 7)
