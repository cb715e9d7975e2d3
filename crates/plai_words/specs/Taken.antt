-- What clap took of the words: the text of each option, and the files; and the settings that they come to.
use Rattle.std.specs.Prelude.{ℕ, List, [], ◌∷◌, Option, None, Some, option_map, option_and_then, option_to_list, unwrap_or}
use Rattle.clap.specs.Words.{Row, all_of, first_of}
use Rattle.plai_words.specs.Options.{Key, Domain, Depth, Rows, Make}
use Rattle.plai_words.specs.declared.types.DomainName.{DomainName}
use Rattle.plai_words.specs.declared.types.Settings.{Settings}
use Rattle.plai_words.specs.Numbers.{number}
use Rattle.plai_words.specs.Given.{Given, domain_named}
use Rattle.plai_words.specs.Command.{completed}
use Rattle.plai_words.specs.Line.{name_of, files_id}

pub record Taken : Type 0 where
  pub values : Key → Option (List ℕ)
  pub files : List (List ℕ)

-- no value, or that of a text, where it has one
abbrev pub read_once : {A : Type 0} → (List ℕ → Option A) → Option (List ℕ) → Option (List A)
read_once read None = Some []
read_once read (Some text) = option_map (λ x. x ∷ []) (read text)

-- all parts, where each is there
abbrev pub given_by : Option (List DomainName) → Option (List ℕ) → Option (List ℕ) → Option (List ℕ) → List (List ℕ) → Option Given
given_by None p r m fs = None
given_by (Some d) None r m fs = None
given_by (Some d) (Some p) None m fs = None
given_by (Some d) (Some p) (Some r) None fs = None
given_by (Some d) (Some p) (Some r) (Some m) fs = Some (record { domains = d; depths = p; rows = r; makes = m; files = fs })

-- what the texts say
abbrev pub taken_given : Taken → Option Given
taken_given t = given_by
    (read_once domain_named (t.values Domain)) (read_once (number 8) (t.values Depth))
    (read_once (number 200000) (t.values Rows)) (read_once (number 2000) (t.values Make)) t.files

-- what stands once or not at all
abbrev pub noted : Option DomainName → Option ℕ → Option ℕ → Option ℕ → List (List ℕ) → Given
noted d p r m fs = record {
  domains = option_to_list d;
  depths = option_to_list p;
  rows = option_to_list r;
  makes = option_to_list m;
  files = fs;
}

-- the texts among what clap found
abbrev pub taken_in : List Row → Taken
taken_in rows = record {
  values = λ key. first_of (name_of key) rows;
  files = unwrap_or (all_of files_id rows) [];
}

-- the settings that what clap found comes to
unfoldable pub settings_in : List Row → Option Settings
settings_in rows = option_and_then completed (taken_given (taken_in rows))
