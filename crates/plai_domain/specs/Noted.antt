-- What is noted of the work.
use Rattle.std.specs.Prelude.{List, [], ◌∷◌, ◌++◌, Option, Some, None}
use Rattle.plai_domain.specs.declared.work.WorkEntry.{WorkEntry}

-- the entries after one more, where they are told
abbrev pub noted : WorkEntry → Option (List WorkEntry) → Option (List WorkEntry)
noted entry None = None
noted entry (Some entries) = Some (entries ++ entry ∷ [])
