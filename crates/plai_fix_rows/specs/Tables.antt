-- What the rows of a table over a domain's own values keep of rows under work.
use Rattle.std.specs.Prelude.{List, map}
use Rattle.std.specs.Option.{option_map}
use Rattle.plai_theory.specs.Domain.{Name}
use Rattle.plai_terms.specs.declared.abs.Abs.{Abs}
use Rattle.plai_terms.specs.declared.pred_key.PredKey.{PredKey}
use Rattle.plai_domain.specs.declared.key.Key.{Key}
use Rattle.plai_domain.specs.Plain.{PlainDomain}
use Rattle.plai_eval.specs.Meaning.{as_domain}
use Rattle.plai_eval.specs.Evaluation.{Source}
use Rattle.plai_table.specs.Rows.{TableRow}
use Rattle.plai_arcs.specs.declared.arcs.Arcs.{Arcs}
use Rattle.plai_arcs.specs.Arcs.{is_dirty, is_call}
use Rattle.plai_fix_laws.specs.WorkStates.{KeptRow, Keeping, kept_source}

-- the name that a key stands for
abbrev pub key_name : {V : Type 0} → (V → Abs) → Key V → Name PredKey Abs
key_name value_of key = record { pred = key.pred; call = value_of key.call }

abbrev pub kept_row : {V : Type 0} → (V → Abs) → (p : PlainDomain) → TableRow V → KeptRow (as_domain p)
kept_row value_of p r = record { name = key_name value_of r.name; answer = option_map value_of r.answer; live = r.live }

abbrev pub kept_rows : {V : Type 0} → (V → Abs) → (p : PlainDomain) → List (TableRow V) → List (KeptRow (as_domain p))
kept_rows value_of p rows = map (kept_row value_of p) rows

-- the answers of kept rows
abbrev pub answers_of : (p : PlainDomain) → List (KeptRow (as_domain p)) → Source
answers_of p kept name = kept_source (as_domain p) kept name.pred name.call

-- the rows of a table, with the dirty pairs and the calls of its arcs
abbrev pub state_of : {V : Type 0} → (V → Abs) → (p : PlainDomain) → List (TableRow V) → Arcs → Keeping (as_domain p)
state_of value_of p rows arcs = record { rows = kept_rows value_of p rows; dirty = is_dirty arcs; calls = is_call arcs }
