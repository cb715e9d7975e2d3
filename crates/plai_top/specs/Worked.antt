-- The work of a call, as it is told, and what is analysed in it.
use Rattle.std.specs.Prelude.{◌≡◌, ◌⊎◌, ℕ, List, ◌∷◌, Option, Some, Result, Ok}
use Rattle.plai_base.specs.Texts.{TextMap}
use Rattle.plai_domain.specs.Plain.{PlainDomain}
use Rattle.plai_clauses.specs.Program.{ProgramView}
use Rattle.plai_clauses.specs.declared.edit_cause.EditCause.{EditCause}
use Rattle.plai_make.specs.Programs.{made_program, made_edits}
use Rattle.plai_script.specs.declared.edit.Edit.{Edit}
use Rattle.plai_session.specs.Programs.{behind}
use Rattle.plai_words.specs.Command.{settings_of}
use Rattle.plai_words.specs.declared.types.Settings.{Settings}
use Rattle.plai_top.specs.Commands.{IsMake}
use Rattle.plai_top.specs.Outcome.{IsAsked}
use Rattle.plai_top.specs.Tasks.{domain_of, form_of, task_of}
use Rattle.plai_top.specs.Told.{IfBothTold}
use Rattle.plai_top.specs.Working.{Span, IsIdle, AllWorked, FirstWorked}
use Rattle.plai_top.specs.declared.form.Form.{Form}

-- What is analysed under the words. Where library and script tell, it is what these ask for; where the words ask for a made
-- program, it is that.
pub record Analysis (words : List (List ℕ)) (files : Option TextMap) (script : Option (List ℕ)) : Type 0 where
  pub settings : Settings
  pub program : ProgramView
  pub items : List (Result Edit EditCause)
  pub formed : settings_of words ≡ Some settings
  pub asked : IfBothTold files script (λ map text. IsAsked words map text settings program items)
  pub made : (count : ℕ) → IsMake words settings count → (program ≡ made_program count) × (items ≡ made_edits count)

-- a fact for its form, its domain, its limit, its program and what the edits make of it
abbrev pub OfAnalysis : {words : List (List ℕ)} {files : Option TextMap} {script : Option (List ℕ)}
    → (Form → PlainDomain → ℕ → List (Result ProgramView EditCause) → Type 0) → Analysis words files script → Type 0
OfAnalysis P what = P (form_of what.settings) (domain_of (task_of what.settings)) what.settings.rows (Ok what.program ∷ behind what.program what.items)

-- At 0 and 1 the work is that of all blocks. At 6 and 7 it is that of the first ones, as far as it came, or there is none.
pub record HasWorked (words : List (List ℕ)) (files : Option TextMap) (script : Option (List ℕ)) (result : ℕ) (before after : Option (List ℕ))
    (span : Span) : Type 0 where
  pub all : (result ≡ 0) ⊎ (result ≡ 1)
      → (what : Analysis words files script) × OfAnalysis (λ form p limit givens. AllWorked form p limit givens before after span result) what
  pub first : (result ≡ 6) ⊎ (result ≡ 7)
      → IsIdle span ⊎ ((what : Analysis words files script) × OfAnalysis (λ form p limit givens. FirstWorked form p limit givens before after span) what)
