-- Under terms cut at a depth, the calls of names that are asked for behind work on a program are patterns over its signature,
-- also where the work begins with rows that an edit keeps of another program's table.
use Rattle.std.proofs.Common.{◌≡◌, ℕ, zero, suc, true, List, [], ◌∷◌, Option, Some, None, refl, sym, subst, arith}
use Rattle.plai_theory.specs.Words.{IsIn}
use Rattle.plai_theory.specs.Domain.{Name, Program}
use Rattle.plai_theory.specs.Domain as theory
use Rattle.plai_theory.specs.LeastTable.{Row}
use Rattle.plai_theory.specs.LegalWork.{WorkRow}
use Rattle.plai_theory.specs.Tables.{source_of}
use Rattle.plai_theory.proofs.Rounds.{map_in}
use Rattle.plai_terms.specs.declared.term.Term.{Term}
use Rattle.plai_terms.specs.declared.skeleton.Skeleton.{Skeleton}
use Rattle.plai_terms.specs.declared.abs.Abs.{Abs}
use Rattle.plai_terms.specs.declared.pred_key.PredKey.{PredKey}
use Rattle.plai_clauses.specs.Program.{ProgramView, entries_of}
use Rattle.plai_eval.specs.Meaning.{row_name, as_domain, as_program}
use Rattle.plai_eval.specs.LeastTable as order
use Rattle.plai_eval.proofs.Names.{same_name-refl}
use Rattle.plai_eval.proofs.One.{strict}
use Rattle.plai_eval.proofs.Lawful.{lawful_at}
use Rattle.plai_fix_rows.specs.Told.{PlainRow, work_over}
use Rattle.plai_analysis.specs.Starts.{IsStart}
use Rattle.plai_analysis.specs.Causes.{IsAskedFor}
use Rattle.plai_depth_laws.specs.DepthK.{skeletons_of, depth_k}
use Rattle.plai_depth_laws.specs.Operations.{describe_of, pulled, join_of}
use Rattle.plai_depth_laws.proofs.States.{join_first, join_second, join_of_least}
use Rattle.plai_depth_laws.proofs.Laws.{trans, antisym, left, right, lawful_from_one}
use Rattle.plai_depth_symbols.specs.Symbols.{Symbol, signature_of}
use Rattle.plai_depth_symbols.specs.Patterns.{IsPatternOver}
use Rattle.plai_depth_symbols.specs.Kept.{IsKept, AnswersSo}
use Rattle.plai_depth_symbols.proofs.Symbols.{AllOver, over-Any}
use Rattle.plai_depth_symbols.proofs.Moves.{describe_over, join_over}
use Rattle.plai_depth_symbols.proofs.Program.{pattern_over, skeletons_over, operations_over, names_equal}
use Rattle.plai_depth_symbols.proofs.Kept.{least_kept, source_kept, calls_kept}
use Rattle.plai_depth_symbols.proofs.KeptRows.{answer_over, called_over}
use Rattle.plai_depth_symbols.proofs.Works.{AreKeptWorks, demanded_kept, log_kept, opening_kept}

-- the program without clauses and entries
abbrev nothing : (k : ℕ) → Program (as_domain (depth_k k))
nothing k = record { clauses = λ pred. []; entries = [] }

nothing_lawful : (k : ℕ) (program : ProgramView) → theory.IsLawful (as_domain (depth_k k)) (nothing k)
nothing_lawful k program =
    record {
      trans = λ h i. trans h i;
      antisym = λ h i. antisym h i;
      left = λ h. left h;
      right = λ h. right h;
      join_first = λ h g. record { first_is = h.first_is; second_is = refl; order = join_first h.order.first g.order.first };
      join_second = λ h g. record { first_is = g.first_is; second_is = refl; order = join_second h.order.first g.order.first };
      join_least = λ h g. record { first_is = refl; second_is = h.second_is; order = join_of_least h.order g.order };
      enter = λ pred clause v w i h. absurd i;
      exit = λ pred clause s t i h. absurd i;
      call = λ pred clause l s t i j h. absurd i;
      back = λ pred clause l s t a b i j h le. absurd i;
      refine = λ pred clause x s t i j h. absurd i;
      entries = λ pred v i. absurd i;
      same_true = names_equal k program;
      same_refl = λ x. same_name-refl (row_name x);
    }

-- ---- at depth 0 what a clause calls and answers is `any`

any_pulled : (signature : List Symbol) (terms : List Term) (ss : List Skeleton) → AllOver signature (pulled 0 terms ss)
any_pulled signature [] ss = tt
any_pulled signature (t ∷ terms) ss = (over-Any signature, any_pulled signature terms ss)

at_zero : (signature : List Symbol) (program : ProgramView) → IsKept (as_domain (depth_k 0)) (as_program (depth_k 0) program)
    (λ pred call. IsPatternOver signature call) (λ clause state. Unit {0}) (λ pred answer. IsPatternOver signature answer)
at_zero signature program = record {
  entries = λ pred call i.
      map_in (λ (n : Name PredKey Abs). IsPatternOver signature n.call)
      (λ entry. record { pred = entry.pred; call = (depth_k 0).describe entry.pred.arity entry.pre })
      (entries_of program) (record { pred = pred; call = call }) i
      (λ entry j. pattern_over signature (describe_of entry.pred.arity entry.pre) (describe_over signature entry.pred.arity entry.pre));
  enter = λ pred clause call s i h e. tt;
  call = λ pred clause l s i j h. pattern_over signature (pulled 0 l.args (skeletons_of s.abs)) (any_pulled signature l.args (skeletons_of s.abs));
  back = λ pred clause l s t a i j h m e. tt;
  refine = λ pred clause x s t i j h e. tt;
  exit = λ pred clause s i h. pattern_over signature (pulled 0 clause.head (skeletons_of s.abs)) (any_pulled signature clause.head (skeletons_of s.abs));
  join = λ pred a b h m.
      pattern_over signature (join_of (skeletons_of a) (skeletons_of b))
      (join_over signature (skeletons_of a) (skeletons_of b) (skeletons_over signature a h));
}

-- ---- where work begins

-- the call of each live row is over the signature, and where a row's call is, so are its answer and what its clauses called
abbrev AreOver : (k : ℕ) → ProgramView → List (WorkRow (as_domain (depth_k k))) → Type 0
AreOver k program rows =
    AreKeptWorks (as_domain (depth_k k)) (as_program (depth_k k) program) (λ pred call. IsPatternOver (signature_of program) call)
    (λ pred answer. IsPatternOver (signature_of program) answer) rows

start_over : (k : ℕ) (program : ProgramView) (was : Option ProgramView) (opened : List PlainRow) → IsStart (depth_k k) was program opened
    → AreOver k program (work_over (depth_k k) opened).rows
start_over k program None opened start =
    subst (λ (rows : List PlainRow). AreOver k program (work_over (depth_k k) rows).rows) (sym start) (λ x r f. absurd cc)
start_over zero program (Some was) opened start =
    opening_kept (as_domain (depth_k 0)) (as_program (depth_k 0) was) (as_program (depth_k 0) program) _ _ start.table (work_over (depth_k 0) opened).rows
    start.opening
    (λ x remains h a e. answers x.pred x.call a h e)
    (λ x remains h c i y j. calls_kept (as_domain (depth_k 0)) (as_program (depth_k 0) was) _ _ _ kept (source_of (as_domain (depth_k 0)) start.table) answers
    x.pred c i x.call h y j)
  where
    kept : IsKept (as_domain (depth_k 0)) (as_program (depth_k 0) was) (λ pred call. IsPatternOver (signature_of program) call) (λ clause state. Unit {0})
        (λ pred answer. IsPatternOver (signature_of program) answer)
    kept = at_zero (signature_of program) was

    answers : AnswersSo (as_domain (depth_k 0)) (λ pred call. IsPatternOver (signature_of program) call)
        (λ pred answer. IsPatternOver (signature_of program) answer) (source_of (as_domain (depth_k 0)) start.table)
    answers =
        source_kept (as_domain (depth_k 0)) (as_program (depth_k 0) was) _ _ _ kept (names_equal 0 program) start.table
        (least_kept (as_domain (depth_k 0)) (as_program (depth_k 0) was) _ _ _ kept (order.before (depth_k 0)) start.table start.least)
start_over (suc k) program (Some was) opened start =
    opening_kept (as_domain (depth_k (suc k))) (as_program (depth_k (suc k)) was) (as_program (depth_k (suc k)) program) _ _ start.table
    (work_over (depth_k (suc k)) opened).rows start.opening
    (answer_over (as_domain (depth_k (suc k))) (as_program (depth_k (suc k)) was) (as_program (depth_k (suc k)) program)
    (lawful_at (depth_k (suc k)) (lawful_from_one (suc k) (omega arith)) was start.well_formed) _ _ _ (operations_over (suc k) program)
    (order.before (depth_k (suc k))) (strict (depth_k (suc k))) start.table start.least.0 start.least.1)
    (called_over (as_domain (depth_k (suc k))) (as_program (depth_k (suc k)) was) (as_program (depth_k (suc k)) program)
    (lawful_at (depth_k (suc k)) (lawful_from_one (suc k) (omega arith)) was start.well_formed) _ _ _ (operations_over (suc k) program)
    (order.before (depth_k (suc k))) (strict (depth_k (suc k))) start.table start.least.0 start.least.1)

-- Theorem: the call of each name that is asked for is a pattern over the program's signature.
pub asked_for_over : (k : ℕ) (program : ProgramView) (limit : ℕ) (x : Name PredKey Abs) → IsAskedFor (depth_k k) program limit x
    → IsPatternOver (signature_of program) x.call
asked_for_over k program limit x (rows, worked, demanded) =
    demanded_kept (as_domain (depth_k k)) (nothing k) (nothing_lawful k program) (as_program (depth_k k) program) _ _ _ (operations_over k program) rows
    (subst (AreOver k program) (sym worked.leads)
    (log_kept (as_domain (depth_k k)) (nothing k) (nothing_lawful k program) (as_program (depth_k k) program) _ _ _ (operations_over k program) limit
    (work_over (depth_k k) worked.opened) worked.log (start_over k program worked.was worked.opened worked.start) worked.legal))
    x demanded
