-- What the words ask for: an analysis of at most 64 files, or of a made program.
use Rattle.std.specs.Prelude.{◌≡◌, ◌≤◌, ℕ, List, Bool, true, is_none, Some, length}
use Rattle.plai_words.specs.Command.{settings_of}
use Rattle.plai_words.specs.declared.types.Settings.{Settings}
use Rattle.plai_top.specs.declared.command.Command.{Command}
use Rattle.plai_top.specs.declared.command.Command.TheVariants.{Files, Make}

-- the most files of a command
abbrev pub most_files : ℕ
most_files = 64

-- a command over files
abbrev pub is_over_files : Settings → Bool
is_over_files settings = is_none settings.make

-- the words form a command over files, with these settings
pub record IsCommand (words : List (List ℕ)) (settings : Settings) : Type 0 where
  pub formed : settings_of words ≡ Some settings
  pub over : is_over_files settings ≡ true
  pub few : length settings.files ≤ most_files

-- the words ask for a made program of so many predicates, with these settings
pub record IsMake (words : List (List ℕ)) (settings : Settings) (count : ℕ) : Type 0 where
  pub formed : settings_of words ≡ Some settings
  pub make : settings.make ≡ Some count

-- the words ask for a made program
abbrev pub AskForMade : List (List ℕ) → Type 0
AskForMade words = (settings : Settings) × (count : ℕ) × IsMake words settings count

-- the words form this command
abbrev pub IsCommandOf : List (List ℕ) → Command → Type 0
IsCommandOf words (Files settings) = IsCommand words settings
IsCommandOf words (Make settings count) = IsMake words settings count

-- the depth is one, and there are 64 files at most, or 2,000 predicates
abbrev pub IsFitCommand : Command → Type 0
IsFitCommand (Files settings) = (1 ≤ settings.depth) × (settings.depth ≤ 8) × (length settings.files ≤ most_files)
IsFitCommand (Make settings count) = (1 ≤ settings.depth) × (settings.depth ≤ 8) × (1 ≤ count) × (count ≤ 2000)
