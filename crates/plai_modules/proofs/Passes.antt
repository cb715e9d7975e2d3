-- The two passes over all files.
use Rattle.std.proofs.Common.{◌≡◌, ℕ, ◌+◌, ◌<◌, ◌≤◌, List, [], ◌∷◌, ◌++◌, map, length, get_or, drop, ap, sym, ◌∙◌, subst, refl}
use Rattle.std.proofs.lemmas.List.{drop_all, append-nil, append_assoc}
use Rattle.std.specs.Prelude.{Result, Ok, Err}
use Rattle.plai_clauses.specs.Program.{ProgramView}
use Rattle.plai_sources.specs.declared.items.FileItems.{FileItems}
use Rattle.plai_sources.specs.declared.cause.ItemsFail.{ItemsFail}
use Rattle.plai_sources.specs.declared.cause.ItemsFail.TheVariants as items_fail
use Rattle.plai_sources.specs.Items as source
use Rattle.plai_sources.specs.Answering.{AnswersFile}
use Rattle.plai_modules.specs.Steps.{and_then}
use Rattle.plai_modules.specs.Outcomes.{Answers, Leaves, fail_in}
use Rattle.plai_modules.specs.Loading.{Refusal, in_file, in_front, files_from, linked, linked_from, program_of, loaded}
use Rattle.plai_modules.specs.declared.fail.LoadFail.{LoadFail}
use Rattle.plai_modules.specs.declared.fail.LoadFail.TheVariants.{Memory, Refused}
use Rattle.plai_modules.specs.declared.named_text.NamedText.{NamedText}
use Rattle.plai_modules.proofs.Stepping.{rest_of}

-- the second pass

module _ (files : List FileItems) (i : ℕ) (program : ProgramView)
    (held : program_of files ≡ linked_from files (i + 1) program (drop i files)) where
  turn : (file : FileItems) → i < length files → file ≡ get_or files i file
      → program_of files ≡ and_then (in_file (i + 1) (linked files program file)) (λ behind. linked_from files (i + 1 + 1) behind (drop (i + 1) files))
  turn file h e = held ∙ ap (linked_from files (i + 1) program) (rest_of files i file h e)

  pub link_more : (file : FileItems) (behind : ProgramView) → i < length files → file ≡ get_or files i file
      → linked files program file ≡ Ok behind → program_of files ≡ linked_from files (i + 1 + 1) behind (drop (i + 1) files)
  link_more file behind h e s = turn file h e ∙ ap (λ r. and_then (in_file (i + 1) r) (λ p. linked_from files (i + 1 + 1) p (drop (i + 1) files))) s

  pub link_fails : (file : FileItems) (behind : ProgramView) (fail : ItemsFail) → i < length files → file ≡ get_or files i file
      → Leaves (linked files program file) behind (Err fail) → Answers (program_of files) (Err (fail_in (i + 1) fail))
  link_fails file behind items_fail.Memory h e s = tt
  link_fails file behind (items_fail.Refused term cause) h e s =
      turn file h e ∙ ap (λ r. and_then (in_file (i + 1) r) (λ p. linked_from files (i + 1 + 1) p (drop (i + 1) files))) s

  pub link_all : length files ≤ i → program_of files ≡ Ok program
  link_all h = held ∙ ap (linked_from files (i + 1) program) (drop_all i files h)

-- the first pass

abbrev pub behind : {A : Type 0} → List A → Result (List A) Refusal → Result (List A) Refusal
behind before (Ok xs) = Ok (before ++ xs)
behind before (Err refusal) = Err refusal

behind-in_front : {A : Type 0} (before : List A) (x : A) (rest : Result (List A) Refusal) → behind before (in_front x rest) ≡ behind (before ++ x ∷ []) rest
behind-in_front before x (Ok xs) = ap Ok (sym (append_assoc before (x ∷ []) xs))
behind-in_front before x (Err refusal) = refl

abbrev pub texts_of : List NamedText → List (List ℕ)
texts_of = map (λ file. file.text)

module _ (files : List NamedText) (i there : ℕ) (read : List FileItems) (all : Result (List FileItems) Refusal)
    (held : all ≡ behind read (files_from (i + 1) there (texts_of (drop i files)))) where
  turn_of : (file : NamedText) → i < length files → file ≡ get_or files i file
      → all ≡ behind read (and_then (in_file (i + 1) (source.items_of file.text there))
      (λ items. in_front items (files_from (i + 1 + 1) items.count (texts_of (drop (i + 1) files)))))
  turn_of file h e = held ∙ ap (λ fs. behind read (files_from (i + 1) there (texts_of fs))) (rest_of files i file h e)

  pub read_more : (file : NamedText) (items : FileItems) → i < length files → file ≡ get_or files i file → source.items_of file.text there ≡ Ok items
      → all ≡ behind (read ++ items ∷ []) (files_from (i + 1 + 1) items.count (texts_of (drop (i + 1) files)))
  read_more file items h e s =
      turn_of file h e
      ∙ ap (λ r. behind read (and_then (in_file (i + 1) r) (λ f. in_front f (files_from (i + 1 + 1) f.count (texts_of (drop (i + 1) files)))))) s
      ∙ behind-in_front read items (files_from (i + 1 + 1) items.count (texts_of (drop (i + 1) files)))

  pub read_fails : (file : NamedText) (fail : ItemsFail) → i < length files → file ≡ get_or files i file
      → AnswersFile (source.items_of file.text there) (Err fail)
      → Answers all (Err (fail_in (i + 1) fail))
  read_fails file items_fail.Memory h e s = tt
  read_fails file (items_fail.Refused term cause) h e s =
      turn_of file h e
      ∙ ap (λ r. behind read (and_then (in_file (i + 1) r) (λ f. in_front f (files_from (i + 1 + 1) f.count (texts_of (drop (i + 1) files)))))) s

  pub read_all : length files ≤ i → all ≡ Ok read
  read_all h = held ∙ ap (λ fs. behind read (files_from (i + 1) there (texts_of fs))) (drop_all i files h) ∙ ap Ok (append-nil read)

-- both

pub load_fails : (texts : List (List ℕ)) (fail : LoadFail) → Answers (files_from 1 0 texts) (Err fail) → Answers (loaded texts) (Err fail)
unfolding loaded
load_fails texts Memory h = tt
load_fails texts (Refused file term cause) h = ap (λ r. and_then r program_of) h

pub load_links : (texts : List (List ℕ)) (files : List FileItems) (answer : Result ProgramView LoadFail) → files_from 1 0 texts ≡ Ok files
    → Answers (program_of files) answer → Answers (loaded texts) answer
unfolding loaded
load_links texts files answer e h = subst (λ (r : Result ProgramView Refusal). Answers r answer) (sym (ap (λ r. and_then r program_of) e)) h
