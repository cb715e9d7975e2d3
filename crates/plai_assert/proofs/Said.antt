-- What a verdict says of each row of its predicate.
use Rattle.std.proofs.Common.{◌≡◌, ◌∙◌, Bool, true, false, not, List, Option, Some, refl, sym, ap, subst, inl, inr}
use Rattle.std.specs.List.{list_all}
use Rattle.plai_theory.specs.Words.{IsIn}
use Rattle.plai_theory.proofs.Options.{by_test}
use Rattle.plai_terms.specs.declared.plain_row.PlainRow.{PlainRow}
use Rattle.plai_assert.specs.declared.verdict.Verdict.TheVariants.{Checked, False, Check as Unknown}
use Rattle.plai_assert.specs.Verdicts.{verdict_by}

-- what is checked holds of all
pub all_hold : (holds fails : PlainRow → Bool) (rows : List PlainRow) → verdict_by holds fails rows ≡ Checked → list_all holds rows ≡ true
all_hold holds fails rows h =
    by_test (list_all holds rows)
    (λ t. t)
    (λ t. by_test (list_all fails rows)
    (λ u. let no' : False ≡ Checked = rw (t, u) at h in cc)
    (λ u. let no' : Unknown ≡ Checked = rw (t, u) at h in cc))

-- what is false fails of all
pub all_fail : (holds fails : PlainRow → Bool) (rows : List PlainRow) → verdict_by holds fails rows ≡ False → list_all fails rows ≡ true
all_fail holds fails rows h =
    by_test (list_all holds rows)
    (λ t. let no' : Checked ≡ False = rw t at h in cc)
    (λ t. by_test (list_all fails rows)
    (λ u. u)
    (λ u. let no' : Unknown ≡ False = rw (t, u) at h in cc))
