-- What loading made of the files of a command.
use Rattle.std.specs.Prelude.{◌≡◌, ◌≢◌, ℕ, List, [], Ok, Err}
use Rattle.plai_base.specs.Texts.{TextMap}
use Rattle.plai_modules.specs.Loading.{Refusal, loaded}
use Rattle.plai_words.specs.declared.types.Settings.{Settings}
use Rattle.plai_top.specs.Files.{HasProgram}
use Rattle.plai_top.specs.Outcome.{refused_by, IsEarly}
use Rattle.plai_top.specs.Tasks.{task_of}
use Rattle.plai_top.specs.declared.task.Task.{Task}
use Rattle.plai_top.specs.declared.loading.Loading.{Loading}
use Rattle.plai_top.specs.declared.loading.Loading.TheVariants.{Program, Refused}

-- files of these names and texts make this: a program, or the line of a refusal
abbrev pub IsLoading : List (List ℕ) → List (List ℕ) → Loading → Type 0
IsLoading names texts (Program program) = loaded texts ≡ Ok program
IsLoading names texts (Refused line) =
    (refusal : Refusal) × (loaded texts ≡ Err refusal) × (refused_by names refusal ≡ record { status = 3; bytes = line.items })

-- the words and the files make this, for that analysis
abbrev pub IsPrepared : List (List ℕ) → TextMap → Task → Loading → Type 0
IsPrepared words files task (Program program) =
    (settings : Settings) × (task_of settings ≡ task) × HasProgram words files settings program
IsPrepared words files task (Refused line) = IsEarly words files (record { status = 3; bytes = line.items })

-- the line of a refusal has bytes
abbrev pub HasLine : Loading → Type 0
HasLine (Program program) = Unit {0}
HasLine (Refused line) = line.items ≢ []
