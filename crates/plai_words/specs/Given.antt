-- What the words of a command line say: the values of each option and the files, each in order (POSIX.1-2017, Base Definitions, 12.2).
use Rattle.std.specs.Prelude.{ℕ, List, [], ◌∷◌, ◌++◌, Option, None, Some, option_map, codes, if◌then◌else◌}
use Rattle.std.specs.Str.{bytes_eq}
use Rattle.plai_words.specs.declared.types.DomainName.{DomainName}
use Rattle.plai_words.specs.declared.types.DomainName.TheVariants.{Ground, Share, Depth}
use Rattle.plai_words.specs.Numbers.{number}
use Rattle.plai_words.specs.Options.{Key, Domain as KeyDomain, Depth as KeyDepth, Rows as KeyRows, Make as KeyMake}
use Rattle.plai_words.specs.Options.{is_dashed, is_option, is_end, named, attached}

-- the values of each option, and the files
pub record Given : Type 0 where
  pub domains : List DomainName
  pub depths : List ℕ
  pub rows : List ℕ
  pub makes : List ℕ
  pub files : List (List ℕ)

-- no value and no file
abbrev pub nothing : Given
nothing = record { domains = []; depths = []; rows = []; makes = []; files = [] }

-- what one part of the words says, and then another
abbrev pub joined : Given → Given → Given
joined a b = record {
  domains = a.domains ++ b.domains;
  depths = a.depths ++ b.depths;
  rows = a.rows ++ b.rows;
  makes = a.makes ++ b.makes;
  files = a.files ++ b.files;
}

abbrev pub both : Option Given → Option Given → Option Given
both None b = None
both (Some a) None = None
both (Some a) (Some b) = Some (joined a b)

-- the domain of this name
unfoldable pub domain_named : List ℕ → Option DomainName
domain_named text =
    if bytes_eq text (codes "ground") then Some Ground
    else if bytes_eq text (codes "share") then Some Share
    else if bytes_eq text (codes "depth") then Some Depth
    else None

-- an option with its value
abbrev pub said : Key → List ℕ → Option Given
said KeyDomain text = option_map (λ domain. record nothing { domains = domain ∷ [] }) (domain_named text)
said KeyDepth text = option_map (λ n. record nothing { depths = n ∷ [] }) (number 8 text)
said KeyRows text = option_map (λ n. record nothing { rows = n ∷ [] }) (number 200000 text)
said KeyMake text = option_map (λ n. record nothing { makes = n ∷ [] }) (number 2000 text)

-- a file
abbrev pub file : List ℕ → Given
file word = record nothing { files = word ∷ [] }

-- the name of an option, whose value is the next word, or an option with its value
abbrev pub option_said : Option Key → Option (Key × List ℕ) → (Option Key → Option Given) → Option Given
option_said (Some key) value after = after (Some key)
option_said None (Some p) after = both (said p.0 p.1) (after None)
option_said None None after = None

-- a word for which no option waits
abbrev pub word_said : List ℕ → List (List ℕ) → (Option Key → Option Given) → Option Given
word_said word rest after =
    if is_end word then Some (record nothing { files = rest })
    else if is_option word then option_said (named word) (attached word) after
    else both (Some (file word)) (after None)

-- what the words say, where an option may wait for its value
unfoldable pub given : List (List ℕ) → Option Key → Option Given
given [] None = Some nothing
given [] (Some key) = None
given (word ∷ rest) None = word_said word rest (given rest)
given (word ∷ rest) (Some key) =
    if is_dashed word then None else both (said key word) (given rest None)
