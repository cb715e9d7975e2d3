-- The definitions at a small program, p(X) :- q(X). q(a). with the entry p(X), under a domain that tells nothing: the
-- least table has the rows of p and q, each with an answer.
use Rattle.std.proofs.Common.{◌≡◌, ℕ, true, false, lit≤, rules, List, [], ◌∷◌, map, length, Some, sym, refl, ap, ◌∙◌, subst, inl, inr}
use Rattle.std.proofs.lemmas.List.Elements.{All-from_recursion}
use Rattle.plai_theory.specs.Words.{IsIn, UpTo}
use Rattle.plai_theory.specs.Domain.{Domain, Program}
use Rattle.plai_theory.specs.Evaluation.{NameOf, name_of, state_behind, calls_along, answer_of, calls_of, join_of, best_of}
use Rattle.plai_theory.specs.Stages.{stage, Reaches, AtEntry, ByCall}
use Rattle.plai_theory.specs.LeastTable.{Row}
use Rattle.plai_theory.specs.Tables.{source_of, HasName, IsClosed}
use Rattle.plai_theory.proofs.Rounds.{below_at}
use Rattle.plai_theory.proofs.Tables.{closed_is_least}
use Rattle.plai_terms.specs.declared.term.Term.{Var, Atom, the_lemmas}
use Rattle.plai_domain.specs.Instances.{all_below, speaks_within}
use Rattle.plai_terms.specs.declared.abs.Abs.{Abs}
use Rattle.plai_terms.specs.declared.abs.Abs.TheVariants.{Nothing, Pos}
use Rattle.plai_terms.specs.declared.pred_key.PredKey.{PredKey}
use Rattle.plai_terms.specs.declared.plain_row.PlainRow.{PlainRow}
use Rattle.plai_domain.specs.Plain.{StateView, PlainDomain, forms_none}
use Rattle.plai_domain.specs.Outcomes.{SomeTooLarge}
use Rattle.plai_domain.specs.Laws.{IsLawful}
use Rattle.plai_clauses.specs.Builtins.{builtins}
use Rattle.plai_clauses.specs.declared.clause.Clause.{Clause}
use Rattle.plai_clauses.specs.declared.clause.Literal.{Literal}
use Rattle.plai_clauses.specs.declared.clause.Target.TheVariants.{Pred}
use Rattle.plai_clauses.specs.declared.entry.Entry as entries
use Rattle.plai_clauses.specs.Program.{ProgramView, same_pred, one_module}
use Rattle.plai_clauses.specs.WellFormed.{IsLiteral, IsWellFormedClause, IsWellFormedEntry, IsWellFormed}
use Rattle.plai_clauses.proofs.OneModule.{one_module_well_formed}
use Rattle.plai_eval.specs.Meaning.{as_domain, as_program}
use Rattle.plai_eval.specs.LeastTable.{row_of, before, IsLeastTable}
use Rattle.plai_eval.proofs.Lawful.{lawful_at}

abbrev any : ℕ → Abs
any n = Pos n []

abbrev state_with : ℕ → ℕ → StateView
state_with n v = record { arity = n; variables = v; abs = Nothing }

abbrev silent : PlainDomain
silent = record {
  describe = λ n pre. any n;
  enter = λ call head variables. forms_none (Some (state_with (length head) variables));
  call = λ state args. forms_none (any (length args));
  back = λ state args answer. forms_none (Some state);
  refine = λ state args action. forms_none (Some state);
  exit = λ state head. any (length head);
  join = λ a b. a;
  Leq = λ n a b. (a ≡ any n) × (b ≡ any n);
  Below = λ n v s t. (s ≡ state_with n v) × (t ≡ state_with n v);
  entails = λ a property. false;
  excludes = λ a property. false;
  rank = λ a. 0;
  describes = λ a terms. Unit {0};
  describes_instance = λ state head variables. Unit {0};
}

no_sets : SomeTooLarge [] → ⊥
no_sets over = cc

silent_lawful : IsLawful silent
silent_lawful =
    record {
      ordered = record {
        trans = λ n a b c h k. (h.0, k.1);
        antisym = λ n a b h k. h.0 ∙ sym k.0;
        left = λ n a b h. (h.0, h.0);
        right = λ n a b h. (h.1, h.1);
        join_first = λ n a b h k. h;
        join_second = λ n a b h k. (k.0, h.0);
        join_least = λ n a b c h k. h;
        describe = λ n pre few within. (refl, refl);
      };
      monotone = record {
        enter = λ n v head a b h le. (ap (λ k. state_with k v) h.arity, ap (λ k. state_with k v) h.arity);
        call = λ n v args s t h le. (refl, refl);
        back = λ n v args s t a b h le k. le;
        refine = λ n v args action s t h w le. le;
        exit = λ n v head s t h le. (ap any h.arity, ap any h.arity);
      };
      ranked = record { falls = λ n a b le apart. absurd (apart (le.0 ∙ sym le.1)) };
      forms_more = record {
        enter = λ n v head a b h le over. absurd (no_sets over);
        call = λ n v args s t h le over. absurd (no_sets over);
        back = λ n v args s t a b h le k over. absurd (no_sets over);
        refine = λ n v args action s t h w le over. absurd (no_sets over);
      };
      shaped = record { arity = λ n v s t h. ap (λ (x : StateView). x.arity) h.0; variables = λ n v s t h. ap (λ (x : StateView). x.variables) h.0 };
    }

-- m:p/1 and m:q/1
abbrev p : PredKey
p = record { «module» = 109 ∷ []; name = 112 ∷ []; arity = 1 }

abbrev q : PredKey
q = record { «module» = 109 ∷ []; name = 113 ∷ []; arity = 1 }

abbrev calls_q : Literal
calls_q = record { name = 113 ∷ []; args = Var 0 ∷ []; target = Pred q }

abbrev rule : Clause
rule = record { name = 112 ∷ []; head = Var 0 ∷ []; variables = 1; body = calls_q ∷ [] }

abbrev fact : Clause
fact = record { name = 113 ∷ []; head = Atom (97 ∷ []) ∷ []; variables = 0; body = [] }

abbrev asks_p : entries.Entry
asks_p = record { «module» = 109 ∷ []; pred = p; pre = [] }

abbrev program : ProgramView
program = one_module (109 ∷ []) (rule ∷ fact ∷ []) (asks_p ∷ [])

abbrev first : PlainRow
first = record { name = record { pred = p; call = any 1 }; answer = any 1 }

abbrev second : PlainRow
second = record { name = record { pred = q; call = any 1 }; answer = any 1 }

at_one : {A : Type 0} (P : A → Type 0) (a x : A) → P a → IsIn x (a ∷ []) → P x
at_one P a x h (inl e) = subst P e h
at_one P a x h (inr i) = absurd i

at_two : {A : Type 0} (P : A → Type 0) (a b x : A) → P a → P b → IsIn x (a ∷ b ∷ []) → P x
at_two P a b x h k (inl e) = subst P e h
at_two P a b x h k (inr i) = at_one P b x k i

-- the rule's variable is below 1, and the fact has none
rule_below : all_below 1 (Var 0 ∷ []) ≡ true
rule_below = search (rules, the_lemmas)

fact_below : all_below 0 (Atom (97 ∷ []) ∷ []) ≡ true
fact_below = search (rules, the_lemmas)

well_formed : IsWellFormed program
unfolding builtins
well_formed = one_module_well_formed (109 ∷ []) (rule ∷ fact ∷ []) (asks_p ∷ [])
    (λ c. at_two IsWellFormedClause rule fact c
    (record {
      head = record { arity = refl; few = lit≤ tt; slots = lit≤ tt; below = rule_below };
      body = λ l. at_one (IsLiteral 1 1) calls_q l
          (record { args = record { few = lit≤ tt; slots = lit≤ tt; below = rule_below }; target = (refl, refl, refl) });
    })
    (record {
      head = record { arity = refl; few = lit≤ tt; slots = lit≤ tt; below = fact_below };
      body = λ l i. absurd i;
    }))
    (λ e. at_one IsWellFormedEntry asks_p e (record { few = lit≤ tt; pre = All-from_recursion (speaks_within 1) [] tt }))

abbrev table : List PlainRow
table = first ∷ second ∷ []

abbrev rows : List (Row (as_domain silent))
rows = map (row_of silent) table

at_rows : (P : Row (as_domain silent) → Type 0) → P (row_of silent first) → P (row_of silent second) → (r : Row (as_domain silent)) → IsIn r rows → P r
at_rows P h k r = at_two P (row_of silent first) (row_of silent second) r h k

-- p and q are different
apart : p ≡ q → ⊥
apart e = let k : false ≡ true = subst (λ (x : PredKey). same_pred p x ≡ true) e refl in cc

by_name : (r : Row (as_domain silent)) → IsIn r (row_of silent second ∷ []) → p ≡ r.name.pred → ⊥
by_name r (inl e) f = apart (f ∙ ap (λ (x : Row (as_domain silent)). x.name.pred) (sym e))
by_name r (inr i) f = i

abbrev d : Domain
d = as_domain silent

abbrev g : Program d
g = as_program silent program

has_first : (x : NameOf d) → name_of d p (any 1) ≡ x → HasName d rows x
has_first x e = (row_of silent first, inl refl, e)

has_second : (x : NameOf d) → name_of d q (any 1) ≡ x → HasName d rows x
has_second x e = (row_of silent second, inr (inl refl), e)

of_entry : (x : NameOf d) → IsIn x (name_of d p (any 1) ∷ []) → HasName d rows x
of_entry x (inl e) = has_first x e
of_entry x (inr i) = absurd i

of_call : (x : NameOf d) → IsIn x (name_of d q (any 1) ∷ []) → HasName d rows x
of_call x (inl e) = has_second x e
of_call x (inr i) = absurd i

closed : IsClosed d g rows
unfolding calls_of calls_along answer_of state_behind
closed =
    record {
      distinct = ((λ r i e. by_name r i (ap (λ (x : NameOf d). x.pred) e)), ((λ r i e. i), tt));
      entries = of_entry;
      calls = at_rows (λ r. (c : Clause) → IsIn c (g.clauses r.name.pred) → (x : NameOf d) → IsIn x (calls_of d (source_of d rows) c r.name.call)
          → HasName d rows x)
          (λ c. at_one (λ c. (x : NameOf d) → IsIn x (calls_of d (source_of d rows) c (any 1)) → HasName d rows x) rule c of_call)
          (λ c. at_one (λ c. (x : NameOf d) → IsIn x (calls_of d (source_of d rows) c (any 1)) → HasName d rows x) fact c (λ x i. absurd i));
      answers = at_rows (λ r. (c : Clause) → IsIn c (g.clauses r.name.pred) → UpTo (d.leq r.name.pred) (answer_of d (source_of d rows) c r.name.call) r.answer)
          (λ c. at_one (λ c. UpTo (d.leq p) (answer_of d (source_of d rows) c (any 1)) (Some (any 1))) rule c (refl, refl))
          (λ c. at_one (λ c. UpTo (d.leq q) (answer_of d (source_of d rows) c (any 1)) (Some (any 1))) fact c (refl, refl));
    }

behind : (r : Row d) → IsIn r (row_of silent second ∷ []) → before silent (name_of d p (any 1)) r.name
behind r = at_one (λ (r : Row d). before silent (name_of d p (any 1)) r.name) (row_of silent second) r refl

pub least : IsLeastTable silent program table
unfolding stage best_of join_of answer_of state_behind calls_of calls_along
least =
    closed_is_least d g (lawful_at silent silent_lawful program well_formed) rows closed (before silent)
    (behind, ((λ r i. absurd i), tt)) (
      2,
      λ k v is. below_at d g (lawful_at silent silent_lawful program well_formed) rows 2
          (at_rows (λ r. UpTo (d.leq r.name.pred) r.answer (stage d g 2 r.name.pred r.name.call)) (refl, refl) (refl, refl)) k v,
    )
    (at_rows (λ r. (k : ℕ) × Reaches d g (source_of d rows) k r.name) (0, AtEntry (inl refl))
    (1, ByCall (name_of d p (any 1)) rule (AtEntry (inl refl)) (inl refl) (inl refl)))
