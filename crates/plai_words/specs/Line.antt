-- The command line as clap is told of it: four options, each with one value and used at most once, and files.
-- Clap's promise (`is_simple_and_free`, `fault_of`, `matches_of`) decides each list of words but those with a
-- word of one dash with more behind it before the first `--` (`has_bundle`): of these it speaks by the word's
-- characters, and that a word of a list is UTF-8 is no fact that a contract sees.
use Rattle.std.specs.Prelude.{ℕ, List, [], ◌∷◌, Some, true, codes}
use Rattle.clap.specs.Words.{App, Rule, new_rule}
use Rattle.clap.specs.Simple.{new_shape}
use Rattle.clap.specs.declared.builder.action.ArgAction.TheVariants.{Append}
use Rattle.plai_words.specs.Options.{Key, Domain, Depth, Rows, Make}

-- the name of an option, without its dashes
abbrev pub name_of : Key → List ℕ
name_of Domain = codes "domain"
name_of Depth = codes "depth"
name_of Rows = codes "rows"
name_of Make = codes "make"

-- an option of this name
abbrev pub option_rule : List ℕ → Rule
option_rule name = record (new_rule name) { long = Some name }

-- the name of the files
abbrev pub files_id : List ℕ
files_id = codes "files"

-- the files
abbrev pub files_rule : Rule
files_rule = record (new_rule files_id) { action = Some Append }

-- the command line
abbrev pub line : App
line = record {
  top = record (new_shape (codes "plai")) {
    no_binary_name = true;
    disable_help_flag = true;
    rules = option_rule (name_of Domain) ∷ option_rule (name_of Depth) ∷ option_rule (name_of Rows) ∷ option_rule (name_of Make) ∷ files_rule ∷ [];
  };
  subs = [];
}
