-- Facts on the terms of a made program.
use Rattle.std.proofs.Common.{◌≡◌, ℕ, true, false, List, ◌∷◌, [], rules}
use Rattle.plai_terms.specs.Readable.{is_wide}
use Rattle.plai_terms.specs.Term.{has_variables_below}
use Rattle.plai_terms.specs.declared.term.Term.{Term, Var, Compound, the_lemmas}
use Rattle.plai_domain.specs.Instances.{all_below}
use Rattle.plai_make.specs.Clauses.{fact_args}

pub fact_numbered : (name : List ℕ) → has_variables_below 1 (Compound name fact_args) ≡ true
fact_numbered name = search (rules, the_lemmas)

pub fact_narrow : (name : List ℕ) → is_wide (Compound name fact_args) ≡ false
fact_narrow name = search (rules, the_lemmas)

pub fact_below : all_below 1 fact_args ≡ true
fact_below = search (rules, the_lemmas)

pub head_below : all_below 3 (Var 0 ∷ Var 1 ∷ []) ≡ true
head_below = search (rules, the_lemmas)

pub first_below : all_below 3 (Var 0 ∷ Var 2 ∷ []) ≡ true
first_below = search (rules, the_lemmas)

pub second_below : all_below 3 (Var 2 ∷ Var 1 ∷ []) ≡ true
second_below = search (rules, the_lemmas)
