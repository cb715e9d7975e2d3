-- A domain with one value, and the program p :- q. q :- p. q. with the entry p: the definitions are met, and the least table has both rows with an answer.
use Rattle.std.proofs.Common.{◌≡◌, ℕ, zero, suc, ◌<◌, true, lit<, nat_eq, eqb-true, List, [], ◌∷◌, Some, refl, ap, subst, inl, inr, arith}
use Rattle.std.proofs.lemmas.Bool.Decides.{nat_tests}
use Rattle.plai_theory.specs.Words.{IsIn, given, UpTo}
use Rattle.plai_theory.specs.Domain.{Step, Goal, Domain, Program, IsLawful}
use Rattle.plai_theory.specs.Evaluation.{NameOf, name_of, join_of, best_of, state_behind, calls_along, answer_of, calls_of}
use Rattle.plai_theory.specs.Stages.{stage, Reaches, AtEntry, ByCall}
use Rattle.plai_theory.specs.LeastTable.{Row, IsLeastTable}
use Rattle.plai_theory.specs.Tables.{source_of, HasName, IsClosed}
use Rattle.plai_theory.specs.LegalWork.{WorkRow, Made, Evaluated, Grew, present_source, next_answer, no_work, IsLegalLog, after_all, LogEntry}
use Rattle.plai_theory.proofs.Invariant.{IsExcepted}
use Rattle.plai_theory.proofs.Tables.{closed_is_least}
use Rattle.plai_theory.proofs.Rounds.{below_at}

abbrev goals : ℕ → List (Step ℕ ⊥)
goals zero = Goal 1 ∷ []
goals (suc zero) = Goal 0 ∷ []
goals (suc (suc n)) = []

abbrev one : Domain
one =
    record {
      Value = Unit {0};
      State = Unit {0};
      Pred = ℕ;
      Clause = ℕ;
      Literal = ℕ;
      Action = ⊥;
      leq = λ p a b. Unit {0};
      below = λ c s t. Unit {0};
      join = λ a b. tt;
      body = goals;
      callee = λ l. l;
      enter = λ c v. Some tt;
      call = λ l s. tt;
      back = λ l s a. Some tt;
      refine = λ x s. Some tt;
      exit = λ c s. tt;
      same_name = λ x y. nat_eq x.pred y.pred;
    }

abbrev clauses_of : ℕ → List ℕ
clauses_of zero = 0 ∷ []
clauses_of (suc zero) = 1 ∷ 2 ∷ []
clauses_of (suc (suc n)) = []

abbrev program : Program one
program = record { clauses = clauses_of; entries = name_of one 0 tt ∷ [] }

lawful : IsLawful one program
lawful =
    record {
      trans = λ h k. tt;
      antisym = λ h k. refl;
      left = λ h. tt;
      right = λ h. tt;
      join_first = λ h k. tt;
      join_second = λ h k. tt;
      join_least = λ h k. tt;
      enter = λ p c v w i h. tt;
      exit = λ p c s t i h. tt;
      call = λ p c l s t i j h. tt;
      back = λ p c l s t a b i j h k. tt;
      refine = λ p c x s t i j h. tt;
      entries = λ p v i. tt;
      same_true = λ x y e. (let k : x.pred ≡ y.pred = eqb-true x.pred y.pred e in λ i. record { pred = k i; call = tt });
      same_refl = λ x. nat_eq_refl x.pred;
    }
  where
    nat_eq_refl : (n : ℕ) → nat_eq n n ≡ true
    nat_eq_refl n = grind (arith, nat_tests)

abbrev first : Row one
first = record { name = name_of one 0 tt; answer = Some tt }

abbrev second : Row one
second = record { name = name_of one 1 tt; answer = Some tt }

abbrev table : List (Row one)
table = first ∷ second ∷ []

at_rows : (P : Row one → Type 0) → P first → P second → (r : Row one) → IsIn r table → P r
at_rows P a b r (inl e) = subst P e a
at_rows P a b r (inr (inl e)) = subst P e b
at_rows P a b r (inr (inr i)) = absurd i

at_one : (P : ℕ → Type 0) (n c : ℕ) → P n → IsIn c (n ∷ []) → P c
at_one P n c a (inl e) = subst P e a
at_one P n c a (inr i) = absurd i

at_two : (P : ℕ → Type 0) (n m c : ℕ) → P n → P m → IsIn c (n ∷ m ∷ []) → P c
at_two P n m c a b (inl e) = subst P e a
at_two P n m c a b (inr i) = at_one P m c b i

pub closed : IsClosed one program table
unfolding calls_of calls_along answer_of state_behind
closed =
    record {
      distinct = ((λ q i e. by_name q i (ap (λ (x : NameOf one). x.pred) e)), ((λ q i. absurd i), tt));
      entries = λ x i. at_entry x i;
      calls = at_rows (λ r. (c : ℕ) → IsIn c (clauses_of r.name.pred) → (x : NameOf one) → IsIn x (calls_of one (source_of one table) c r.name.call)
          → HasName one table x)
          (λ c i. at_one (λ c. (x : NameOf one) → IsIn x (calls_of one (source_of one table) c tt) → HasName one table x) 0 c calls_second i)
          (λ c i. at_two (λ c. (x : NameOf one) → IsIn x (calls_of one (source_of one table) c tt) → HasName one table x) 1 2 c calls_first
          (λ x j. absurd j) i);
      answers = at_rows (λ r. (c : ℕ) → IsIn c (clauses_of r.name.pred)
          → UpTo (one.leq r.name.pred) (answer_of one (source_of one table) c r.name.call) r.answer)
          (λ c i. at_one (λ c. UpTo (one.leq 0) (answer_of one (source_of one table) c tt) (Some tt)) 0 c tt i)
          (λ c i. at_two (λ c. UpTo (one.leq 1) (answer_of one (source_of one table) c tt) (Some tt)) 1 2 c tt tt i);
    }
  where
    by_name : (q : Row one) → IsIn q (second ∷ []) → 0 ≡ q.name.pred → ⊥
    by_name q (inl e) f = let k : 1 ≡ q.name.pred = ap (λ (r : Row one). r.name.pred) e in omega arith
    by_name q (inr i) f = i

    at_entry : (x : NameOf one) → IsIn x (name_of one 0 tt ∷ []) → HasName one table x
    at_entry x (inl e) = (first, inl refl, e)
    at_entry x (inr i) = absurd i

    calls_second : (x : NameOf one) → IsIn x (name_of one 1 tt ∷ []) → HasName one table x
    calls_second x (inl e) = (second, inr (inl refl), e)
    calls_second x (inr i) = absurd i

    calls_first : (x : NameOf one) → IsIn x (name_of one 0 tt ∷ []) → HasName one table x
    calls_first x (inl e) = (first, inl refl, e)
    calls_first x (inr i) = absurd i

pub least : IsLeastTable one program (λ x y. x.pred < y.pred) table
unfolding stage best_of join_of answer_of state_behind calls_of calls_along
least =
    closed_is_least one program lawful table closed (λ x y. x.pred < y.pred)
    (before_second, ((λ q i. absurd i), tt)) (
      2,
      λ p v is. below_at one program lawful table 2
          (at_rows (λ r. UpTo (one.leq r.name.pred) r.answer (stage one program 2 r.name.pred r.name.call)) tt tt) p v,
    )
    (at_rows (λ r. (k : ℕ) × Reaches one program (source_of one table) k r.name) (0, AtEntry (inl refl))
    (1, ByCall first.name 0 (AtEntry (inl refl)) (inl refl) (inl refl)))
  where
    before_second : (q : Row one) → IsIn q (second ∷ []) → 0 < q.name.pred
    before_second q (inl e) = let k : 1 ≡ q.name.pred = ap (λ (r : Row one). r.name.pred) e in omega arith
    before_second q (inr i) = absurd i

-- A legal log of that program: what is evaluated before its callee has an answer is evaluated again.
abbrev p0 : NameOf one
p0 = name_of one 0 tt

abbrev q1 : NameOf one
q1 = name_of one 1 tt

abbrev log : List (LogEntry one)
log =
    Made p0 ∷ Evaluated p0 0 ∷ Made q1 ∷ Evaluated q1 0 ∷ Evaluated q1 1 ∷ Grew q1 (Some tt) ∷ Evaluated p0 0
    ∷ Grew p0 (Some tt) ∷ Evaluated q1 0 ∷ []

none_due : (rows : List (WorkRow one)) (y : NameOf one) (j : ℕ) → next_answer one program rows y j ≡ present_source one rows y.pred y.call
    → (x : NameOf one) (i : ℕ) → IsExcepted one (Some (y, j)) x i → next_answer one program rows x i ≡ present_source one rows x.pred x.call
none_due rows y j h x i e =
    subst (λ (z : NameOf one × ℕ). next_answer one program rows z.0 z.1 ≡ present_source one rows z.0.pred z.0.call) (ap (given (y, j) (λ z. z)) e) h

pub legal : IsLegalLog one program 10 (no_work one) log
unfolding calls_of calls_along answer_of state_behind join_of
legal = (
  ((λ x i e. cc), inl (inl refl), refl, lit< tt),
  (
    ((λ x i e. cc), (_, refl, refl, refl), (0, refl)),
    (
      (
        none_due (after_all one program (no_work one) (Made p0 ∷ Evaluated p0 0 ∷ [])).rows p0 0 refl,
        inr (p0, record { row = _; number = 0; clause = 0; there = refl; is_live = refl; is_clause = refl; names = inl refl }),
        refl,
        lit< tt,
      ),
      (
        ((λ x i e. cc), (_, refl, refl, refl), (1, refl)),
        (
          (
            none_due (after_all one program (no_work one) (Made p0 ∷ Evaluated p0 0 ∷ Made q1 ∷ Evaluated q1 0 ∷ [])).rows q1 0 refl,
            (_, refl, refl, refl),
            (2, refl),
          ),
          (
            (1, refl, refl, (λ e. cc)),
            (
              ((λ x i e. cc), (_, refl, refl, refl), (0, refl)),
              (
                (0, refl, refl, (λ e. cc)),
                (
                  ((λ x i e. cc), (_, refl, refl, refl), (1, refl)),
                  tt,
                ),
              ),
            ),
          ),
        ),
      ),
    ),
  ),
)
