-- What the libraries in memory hold.
use Rattle.std.specs.Prelude.{ℕ, List, Bool, ◌||◌, is_none}
use Rattle.plai_base.specs.Calls.{next_call, is_listed}
use Rattle.plai_base.specs.Memory.{lookup}
use Rattle.plai_base.specs.Texts.{TextMap}
use Rattle.plai_base.specs.declared.memory_library.MemoryLibrary.{MemoryLibrary}
use Rattle.plai_base.specs.declared.memory_library.HonestLibrary.{HonestLibrary}

-- the text of each name
abbrev pub library_files : MemoryLibrary → TextMap
library_files library = lookup library.files.items

-- the numbers of the reads that fail
abbrev pub library_failing : MemoryLibrary → List ℕ
library_failing library = library.failing.items

-- how many reads there were
abbrev pub library_calls : MemoryLibrary → ℕ
library_calls library = library.calls

-- how often a read has failed
abbrev pub library_faults : MemoryLibrary → ℕ
library_faults library = library.faults

-- whether the next read fails
abbrev pub library_fails : MemoryLibrary → List ℕ → Bool
library_fails library name =
    is_listed (library_failing library) (next_call (library_calls library)) || is_none (library_files library name)

-- the text of each name
abbrev pub honest_files : HonestLibrary → TextMap
honest_files library = lookup library.files.items
