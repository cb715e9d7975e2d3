-- What the kept tree says of the answer.
use Rattle.std.proofs.Common.{◌≡◌, ℕ, ℤ, ◌+◌, ◌≤◌, ◌<◌, ◌^◌, Bool, true, false, cond, List, [], ◌∷◌, map, length, refl, ap, sym, ◌∙◌, subst, arith, rules}
use Rattle.std.specs.Prelude.{Option, Some, None, ◌&&◌, option_map, Result, Ok, Err, not, nat_lt, nat_le}
use Rattle.std.specs.List.{list_all}
use Rattle.std.proofs.lemmas.Bool.Decides.{nat_tests}
use Rattle.plai_terms.specs.declared.term.Term.{Term, Var, Int, Atom, Compound, the_lemmas}
use Rattle.plai_terms.specs.declared.read_term.ReadTerm.{ReadTerm}
use Rattle.plai_terms.specs.Term.{depth_of, has_variables_below}
use Rattle.plai_terms.specs.Readable.{is_wide, IsReadable}
use Rattle.plai_lex.specs.declared.token.Token.{Token}
use Rattle.plai_reader.specs.declared.fail.ReadTermFail.{ReadTermFail}
use Rattle.plai_reader.specs.declared.fail.ReadTermFail.TheVariants.{Syntax, TooDeep, ArityTooLarge}
use Rattle.plai_reader.specs.declared.tree.Tree.{Tree}
use Rattle.plai_reader.specs.declared.tree.Tree.TheVariants.{Whole, Wide, Deep}
use Rattle.plai_reader.specs.Level.{Builder, terms}
use Rattle.plai_reader.specs.Operators.{Table}
use Rattle.plai_reader.specs.declared.variables.Variables.{Variables}
use Rattle.plai_reader.specs.Variables.{no_variables, after_token, after_tokens, variables_of}
use Rattle.plai_reader.specs.Reading.{read_of, tree_of_tokens}
use Rattle.plai_reader.specs.Limits.{answer, answer_of, kept, kept_trees}
use Rattle.plai_reader.proofs.Keeping.{kept-Var, kept-Int, kept-Atom, kept-Compound}
use Rattle.plai_reader.proofs.Numbers.{after_token-grows}
use Rattle.plai_reader.proofs.Maps.{Keeps, read-map}

-- the answer for what is kept of a term
abbrev pub kept_answer : Option Tree → ℕ → Result ReadTerm ReadTermFail
kept_answer None n = Err Syntax
kept_answer (Some (Whole t d)) n = Ok (record { term = t; variables = n })
kept_answer (Some (Wide d)) n = Err ArityTooLarge
kept_answer (Some Deep) n = Err TooDeep

turned : (d : ℕ) → nat_lt 2000 d ≡ not (nat_le d 2000)
turned d =
    let goal : Bool → Type 0 = λ b. nat_le d 2000 ≡ b → nat_lt 2000 d ≡ not b in
    let split : goal (nat_le d 2000) = elim (nat_le d 2000) as goal [ true ↦ λ e. grind (arith, nat_tests) | false ↦ λ e. grind (arith, nat_tests) ] in
    split refl

-- for both tests
answer_cases : (t : Term) (n d : ℕ) (shallow wide : Bool)
    → cond (not shallow) (Err TooDeep) (cond wide (Err ArityTooLarge) (Ok (record { term = t; variables = n })))
    ≡ kept_answer (Some (cond shallow (cond wide (Wide d) (Whole t d)) Deep)) n
answer_cases t n d true true = refl
answer_cases t n d true false = refl
answer_cases t n d false wide = refl

answer-kept : (v : Option Term) (n : ℕ) → answer v n ≡ kept_answer (option_map kept v) n
answer-kept None n = refl
answer-kept (Some t) n =
    ap (λ b. cond b (Err TooDeep) (cond (is_wide t) (Err ArityTooLarge) (Ok (record { term = t; variables = n })))) (turned (depth_of t))
    ∙ answer_cases t n (depth_of t) (nat_le (depth_of t) 2000) (is_wide t)

keeps : (limit : ℕ) → Keeps limit terms kept_trees kept
keeps limit = record {
  variable = λ n p. kept-Var n;
  integer = kept-Int;
  atom = kept-Atom;
  compound = kept-Compound;
}

pub answer_of-kept : (table : Table) (ts : List Token) → answer_of table ts ≡ kept_answer (read_of kept_trees table ts) (variables_of ts)
unfolding answer_of
answer_of-kept table ts =
    answer-kept (tree_of_tokens table ts) (variables_of ts)
    ∙ ap (λ v. kept_answer v (variables_of ts)) (sym (read-map (variables_of ts) terms kept_trees kept (keeps (variables_of ts)) table ts (omega arith)))

-- the answer for the tree that was kept
pub answer_at : (table : Table) (ts : List Token) (tree : Tree) (n : ℕ) → (read_of kept_trees table ts ≡ Some tree) × (variables_of ts ≡ n)
    → answer_of table ts ≡ kept_answer (Some tree) n
answer_at table ts tree n h = answer_of-kept table ts ∙ ap (λ v. kept_answer v (variables_of ts)) h.0 ∙ ap (kept_answer (Some tree)) h.1

-- terms whose variables are below the limit
pub record Numbered (limit : ℕ) : Type 0 where
  pub term : Term
  pub below : has_variables_below limit term ≡ true

module _ (limit : ℕ) where
  has_variables_below-Var : (n : ℕ) → has_variables_below limit (Var n) ≡ nat_lt n limit
  has_variables_below-Var n = search (rules, the_lemmas)

  has_variables_below-Int : (n : ℤ) → has_variables_below limit (Int n) ≡ true
  has_variables_below-Int n = search (rules, the_lemmas)

  has_variables_below-Atom : (name : List ℕ) → has_variables_below limit (Atom name) ≡ true
  has_variables_below-Atom name = search (rules, the_lemmas)

  has_variables_below-Compound : (name : List ℕ) (args : List Term)
      → has_variables_below limit (Compound name args) ≡ list_all (λ b. b) (map (has_variables_below limit) args)
  has_variables_below-Compound name args = search (rules, the_lemmas)

  all_below : (cs : List (Numbered limit)) → list_all (λ b. b) (map (has_variables_below limit) (map (λ c. c.term) cs)) ≡ true
  all_below [] = refl
  all_below (c ∷ cs) =
      ap (λ b. b && list_all (λ b. b) (map (has_variables_below limit) (map (λ c. c.term) cs))) c.below ∙ all_below cs

  abbrev variable : (n : ℕ) (b : Bool) → nat_lt n limit ≡ b → Numbered limit
  variable n true e = record { term = Var n; below = has_variables_below-Var n ∙ e }
  variable n false e = record { term = Atom []; below = has_variables_below-Atom [] }

  abbrev numbered : Builder (Numbered limit)
  numbered = record {
    variable = λ n. variable n (nat_lt n limit) refl;
    integer = λ n. record { term = Int n; below = has_variables_below-Int n };
    atom = λ name. record { term = Atom name; below = has_variables_below-Atom name };
    compound = λ name cs. record {
      term = Compound name (map (λ c. c.term) cs);
      below =
          has_variables_below-Compound name (map (λ c. c.term) cs) ∙ all_below cs;
    };
  }

  variable-term : (n : ℕ) (b : Bool) (e : nat_lt n limit ≡ b) → b ≡ true → (variable n b e).term ≡ Var n
  variable-term n true e t = refl
  variable-term n false e t = absurd (cc)

  below_test : (n : ℕ) → n < limit → nat_lt n limit ≡ true
  below_test n p = grind (arith, nat_tests)

  keeps_terms : Keeps limit numbered terms (λ c. c.term)
  keeps_terms = record {
    variable = λ n p. variable-term n (nat_lt n limit) refl (below_test n p);
    integer = λ n. refl;
    atom = λ name. refl;
    compound = λ name cs. refl;
  }

  term_below : (v : Option (Numbered limit)) (t : Term) → option_map (λ c. c.term) v ≡ Some t → has_variables_below limit t ≡ true
  term_below None t e = absurd (cc)
  term_below (Some c) t e = let same : c.term ≡ t = cc in ap (has_variables_below limit) (sym same) ∙ c.below

-- The variables of a term that is read are numbered below how many there are.
numbered-below : (table : Table) (ts : List Token) (t : Term) → tree_of_tokens table ts ≡ Some t → has_variables_below (variables_of ts) t ≡ true
numbered-below table ts t e =
    term_below (variables_of ts) (read_of (numbered (variables_of ts)) table ts) t
    (sym (read-map (variables_of ts) (numbered (variables_of ts)) terms (λ c. c.term) (keeps_terms (variables_of ts)) table ts (omega arith)) ∙ e)

-- There are no more variables than tokens.
after_tokens-length : (vs : Variables) (ts : List Token) → (after_tokens vs ts).count ≤ vs.count + length ts
after_tokens-length vs [] = omega arith
after_tokens-length vs (x ∷ xs) =
    let p = (after_token-grows vs x.kind).1 in
    let q = after_tokens-length (after_token vs x.kind) xs in
    omega arith

answer_readable : (v : Option Term) (n : ℕ) (r : ReadTerm) → ((t : Term) → v ≡ Some t → has_variables_below n t ≡ true) → n < 2 ^ 31
    → answer v n ≡ Ok r → IsReadable r
answer_readable None n r below few e = absurd (cc)
answer_readable (Some t) n r below few e = readable_cases (nat_lt 2000 (depth_of t)) (is_wide t) refl e
  where
    readable_cases : (deep wide : Bool) → is_wide t ≡ wide
        → cond deep (Err TooDeep) (cond wide (Err ArityTooLarge) (Ok (record { term = t; variables = n }))) ≡ Ok r → IsReadable r
    readable_cases true wide w e = absurd (cc)
    readable_cases false true w e = absurd (cc)
    readable_cases false false w e =
        let read : ReadTerm = record { term = t; variables = n } in
        let same : read ≡ r = cc in
        subst IsReadable same (record { numbered = below t refl; few_variables = few; few_arguments = w })

pub answer_of-readable : (table : Table) (ts : List Token) (r : ReadTerm) → length ts < 2 ^ 31 → answer_of table ts ≡ Ok r → IsReadable r
unfolding answer_of
answer_of-readable table ts r few e =
    let p = after_tokens-length no_variables ts in
    answer_readable (tree_of_tokens table ts) (variables_of ts) r (λ t. numbered-below table ts t) (omega arith) e
