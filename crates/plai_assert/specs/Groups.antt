-- Rows that are found by their predicates.
use Rattle.std.specs.Prelude.{◌≡◌, Bool, List, [], filter, map, unwrap_or}
use Rattle.std.specs.Map.{lookup}
use Rattle.plai_terms.specs.declared.pred_key.PredKey.{PredKey}
use Rattle.plai_terms.specs.declared.abs.Abs.{Abs}
use Rattle.plai_domain.specs.Plain.{PlainDomain}
use Rattle.plai_clauses.specs.declared.check.Check.{Check}
use Rattle.plai_clauses.specs.Program.{same_pred}
use Rattle.plai_assert.specs.declared.verdict.Verdict.{Verdict}
use Rattle.plai_assert.specs.declared.row.Row.{Row}
use Rattle.plai_assert.specs.Rows.{plain}
use Rattle.plai_assert.specs.Verdicts.{verdict_of_kind}

module _ {V : Type 0} where
  -- the row is the predicate's
  abbrev pub is_of : PredKey → Row V → Bool
  is_of pred row = same_pred pred row.name.now.pred

  -- the rows of the predicate, none where it has no entry
  abbrev pub group_of : List (PredKey × List (Row V)) → PredKey → List (Row V)
  group_of entries pred = unwrap_or (lookup (same_pred pred) entries) []

  -- each predicate has its rows among these, in order
  abbrev pub AreGroupsOf : List (PredKey × List (Row V)) → List (Row V) → Type 0
  AreGroupsOf entries rows = (pred : PredKey) → group_of entries pred ≡ filter (is_of pred) rows

  -- the verdict on an assertion by the rows of its predicate
  abbrev pub verdict_among : (V → Abs) → PlainDomain → List (PredKey × List (Row V)) → Check → Verdict
  verdict_among value_of p entries check = verdict_of_kind check.kind p check (map (plain value_of) (group_of entries check.pred))
