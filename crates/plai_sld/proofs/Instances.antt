-- What a local substitution does to the instance of a body under way, and what the actions of a builtin do to its state.
use Rattle.std.proofs.Common.{◌≡◌, ◌⊎◌, inl, inr, ℕ, zero, suc, ◌+◌, ◌<◌, ◌≤◌, true, List, [], ◌∷◌, map, length, refl, sym, ap, subst, ◌∙◌, arith}
use Rattle.std.proofs.lemmas.List.{length-map}
use Rattle.plai_theory.specs.Words.{IsIn}
use Rattle.plai_theory.specs.Domain.{Step}
use Rattle.plai_theory.specs.LeastTable.{Row}
use Rattle.plai_terms.specs.Term.{occurs}
use Rattle.plai_terms.specs.declared.term.Term.{Term, Var}
use Rattle.plai_terms.specs.declared.pred_key.PredKey.{PredKey}
use Rattle.plai_terms.specs.Substitution.{under, then_also, occurs_in, AreBelow, IsLocal}
use Rattle.plai_terms.proofs.Under.{under_Var, under_same, under_same_all, under_under, under_under_all, occurs-Var_same, decided, source, source_in}
use Rattle.plai_domain.specs.declared.action.Action.{Action}
use Rattle.plai_domain.specs.Plain.{StateView, PlainDomain}
use Rattle.plai_domain.specs.Instances.{acts_within}
use Rattle.plai_domain.specs.Soundness.{numbers, Speaks, IsFrom, ActsTruly}
use Rattle.plai_clauses.specs.declared.clause.Clause.{Clause}
use Rattle.plai_clauses.specs.declared.clause.Literal.{Literal}
use Rattle.plai_clauses.specs.Program.{ProgramView, clauses_of}
use Rattle.plai_clauses.specs.WellFormed.{IsWellFormed}
use Rattle.plai_builtins.specs.InTurn.{AllowedInTurn}
use Rattle.plai_eval.specs.Meaning.{as_domain, Calling, Acting, actions_then}
use Rattle.plai_sld.proofs.Local.{local_same, rests_local, local_then}
use Rattle.plai_sld.proofs.Actions.{allows_local}
use Rattle.plai_sld.proofs.Formed.{head_is, head_below, args_are, body_below}
use Rattle.plai_sld.proofs.Advance.{instance_later, terms_later}
use Rattle.plai_sld.proofs.Going.{IsGoing, going_do}

numbers_same : (i j : ℕ → Term) (m a n : ℕ) → a + n ≤ m → ((v : ℕ) → v < m → i v ≡ j v) → map i (numbers a n) ≡ map j (numbers a n)
numbers_same i j m a zero le h = refl
numbers_same i j m a (suc n) le h =
    let p : i a ≡ j a = h a (omega arith) in
    let q : map i (numbers (suc a) n) ≡ map j (numbers (suc a) n) = numbers_same i j m (suc a) n (omega arith) h in
    cc

module _ (d : PlainDomain) (g : ProgramView) (formed : IsWellFormed g) (p : PredKey) (c : Clause) (inside : IsIn c (clauses_of g p)) where
  -- a state describes each instance that agrees on the clause's variables
  pub describes_same : (st : StateView) (i j : ℕ → Term) → ((v : ℕ) → v < c.variables → i v ≡ j v) → Speaks d c.head c.variables st i
      → Speaks d c.head c.variables st j
  describes_same st i j h e =
      let heads = under_same_all i j c.head (λ v o. h v (head_below g formed p c inside v o)) in
      let all = numbers_same i j c.variables 0 c.variables (omega arith) h in
      subst (λ vs. d.describes_instance st (map (under j) c.head) vs) all (subst (λ hs. d.describes_instance st hs (map i (numbers 0 c.variables))) heads e)

  -- the arguments of a literal in an instance
  pub args_below : (x : Literal) → IsIn x c.body → (n : ℕ) (i : ℕ → Term) → IsFrom c.variables n i → AreBelow n (map (under i) x.args)
  args_below x part n i below w o =
      let (v, a, b) = source_in i w x.args o in
      below v (body_below g formed p c inside x part v a) w b

  module _ (i f : ℕ → Term) (at from : ℕ) (was ts : List Term) (below : IsFrom c.variables at i) (le : from ≤ at) (step : IsLocal f at ts)
      (confined : (v w : ℕ) → v < c.variables → occurs w (i v) ≡ true → (occurs_in w was ≡ true) ⊎ (from ≤ w))
      (args_confined : (w : ℕ) → occurs_in w ts ≡ true → (occurs_in w was ≡ true) ⊎ (from ≤ w)) where
    pub confined_later : (v w : ℕ) → v < c.variables → occurs w (then_also i f v) ≡ true → (occurs_in w was ≡ true) ⊎ (from ≤ w)
    confined_later v w lt o =
        let (u, a, b) = source f w (i v) o in
        let u_lt : u < at = below v lt u a in
        elim (decided (occurs_in u ts)) [
          | inl e ↦
              elim (step.brings u w u_lt e b) [
                | inl q ↦ args_confined w q
                | inr q ↦ inr (omega arith)
              ]
          | inr e ↦
              let same : w ≡ u = occurs-Var_same w u (ap (occurs w) (sym (step.moves u u_lt e)) ∙ b) in
              confined v w lt (ap (λ x. occurs x (i v)) same ∙ a)
        ]

-- a composition of what actions allow is local to the arguments
pub allowed_local : (d : PlainDomain) (xs : List Action) (n : ℕ) (ts : List Term) (f : ℕ → Term) → ((x : Action) → IsIn x xs → acts_within (length ts) x)
    → AreBelow n ts → AllowedInTurn n xs ts f → IsLocal f n ts
allowed_local d [] n ts f within below h = rests_local f n ts h
allowed_local d (x ∷ xs) n ts f within below (first, others, m, allows, le, later, rest, same) =
    local_same (then_also first others) f n ts same
    (local_then first others n m ts below le later (allows_local x n ts first (within x (inl refl)) allows)
    (allowed_local d xs m (map (under first) ts) others
    (λ y j. subst (λ k. acts_within k y) (sym (length-map ts (under first))) (within y (inr j)))
    (terms_later d n m first later ts below) rest))

module _ (d : PlainDomain) (g : ProgramView) (formed : IsWellFormed g) (sound : ActsTruly d) (rows : List (Row (as_domain d))) (r : Row (as_domain d))
    (c : Clause)
    (inside : IsIn c (clauses_of g r.name.pred)) (b : Literal) (part : IsIn b c.body) (steps : List (Step Calling Acting)) where
  abbrev Refined : (ℕ → Term) → Type 0
  Refined j = (after : StateView) × Speaks d c.head c.variables after j × IsGoing (as_domain d) rows r c steps after

  -- the actions of a builtin's literal lead from a state that describes the instance to one that describes it behind the meaning
  pub refined : (xs : List Action) → ((x : Action) → IsIn x xs → acts_within (length b.args) x) → (st : StateView) (i : ℕ → Term) (n : ℕ) (f : ℕ → Term)
      → Speaks d c.head c.variables st i → IsFrom c.variables n i → AllowedInTurn n xs (map (under i) b.args) f
      → IsGoing (as_domain d) rows r c (actions_then b.args xs steps) st → Refined (then_also i f)
  refined [] within st i n f e below h going = (
    st,
    describes_same d g formed r.name.pred c inside st i (then_also i f)
        (λ v lt. sym (under_same f Var (i v) (λ u o. h u (below v lt u o)) ∙ under_Var (i v))) e,
    going,
  )
  refined (x ∷ xs) within st i n f e below (first, others, m, allows, le, later, rest, same) going =
      let (next, is, e') = sound.refine c.head c.variables st i b.args (head_is g formed r.name.pred c inside) (args_are g formed r.name.pred c inside b part)
      n first x (within x (inl refl)) e below allows in
      let rest' : AllowedInTurn m xs (map (under (then_also i first)) b.args) others =
      subst (λ ts. AllowedInTurn m xs ts others) (under_under_all i first b.args) rest in
      let (after, e'', going') =
      refined xs (λ y j. within y (inr j)) next (then_also i first) m others e' (instance_later d c n m i first later below) rest'
      (going_do (as_domain d) rows r c (record { args = b.args; action = x }) (actions_then b.args xs steps) st next is going) in (
        after,
        describes_same d g formed r.name.pred c inside after (then_also (then_also i first) others) (then_also i f)
            (λ v lt. under_under first others (i v) ∙ sym (under_same f (then_also first others) (i v) (λ u o. same u (below v lt u o)))) e'',
        going',
      )
