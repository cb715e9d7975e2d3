-- The line of a term that refuses the files or the script: the file's name, the term's number and the cause. Names and atoms are written
-- as in ISO/IEC 13211-1:1995, 6.4.2 and 7.10.5.
use Rattle.std.specs.Prelude.{ℕ, List, [], ◌∷◌, ◌++◌, decimal, codes}
use Rattle.plai_terms.specs.Atom.{quoted_text}
use Rattle.plai_lex.specs.declared.fail.LexCause.{LexCause}
use Rattle.plai_lex.specs.declared.fail.LexCause.TheVariants.{BadCharacter, OpenQuote, OpenComment, BadEscape, NumberTooLarge}
use Rattle.plai_render.specs.Refused.{clause_cause_text}
use Rattle.plai_sources.specs.declared.cause.LoadCause.{LoadCause}
use Rattle.plai_sources.specs.declared.cause.LoadCause.TheVariants as load_cause
use Rattle.plai_script.specs.Scripts.{ScriptRefusal}

-- why the text has no token at a place
abbrev pub lexical_text : LexCause → List ℕ
lexical_text BadCharacter = codes "bad_character "
lexical_text OpenQuote = codes "open_quote "
lexical_text OpenComment = codes "open_comment "
lexical_text BadEscape = codes "bad_escape "
lexical_text NumberTooLarge = codes "number_too_large "

-- why a term is refused
abbrev pub cause_text : LoadCause → List ℕ
cause_text (load_cause.Lex cause at) = lexical_text cause ++ decimal at
cause_text load_cause.Syntax = codes "syntax"
cause_text load_cause.TooDeep = codes "too_deep"
cause_text load_cause.TermArity = codes "term_arity"
cause_text (load_cause.Clause cause) = clause_cause_text cause
cause_text load_cause.BadDirective = codes "bad_directive"
cause_text load_cause.BadOperator = codes "bad_operator"
cause_text load_cause.NoModule = codes "no_module"
cause_text load_cause.DuplicateModule = codes "duplicate_module"
cause_text load_cause.UnknownModule = codes "unknown_module"
cause_text load_cause.NotExported = codes "not_exported"
cause_text load_cause.ImportClash = codes "import_clash"
cause_text load_cause.BadProperty = codes "bad_property"
cause_text load_cause.TooManyItems = codes "too_many_items"

-- `refused F T CAUSE`, the file's name always in quotes, and the end of the line
abbrev pub refusal_text : List ℕ → ℕ → LoadCause → List ℕ
refusal_text name term cause =
    codes "refused " ++ quoted_text name ++ codes " " ++ decimal term ++ codes " " ++ cause_text cause ++ 10 ∷ []

-- `refused script T CAUSE`, the cause with the place that has no token, and the end of the line
abbrev pub script_refusal_text : ScriptRefusal → List ℕ
script_refusal_text refusal =
    codes "refused script " ++ decimal refusal.term ++ codes " " ++ (lexical_text refusal.cause ++ decimal refusal.at) ++ 10 ∷ []
