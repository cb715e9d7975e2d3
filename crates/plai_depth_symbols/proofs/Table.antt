-- Rows of the least table under terms cut at a depth, as they are printed.
use Rattle.std.proofs.Common.{◌≡◌, ◌⊎◌, ℕ, List, [], ◌∷◌, map, Some, refl, ap, inl, inr}
use Rattle.plai_theory.specs.Words.{IsIn}
use Rattle.plai_terms.specs.declared.abs.Abs.{Abs}
use Rattle.plai_terms.specs.declared.abs.Abs.TheVariants.{Nothing, Pos, Groups, Terms}
use Rattle.plai_terms.specs.declared.plain_row.PlainRow.{PlainRow}
use Rattle.plai_clauses.specs.Program.{ProgramView}
use Rattle.plai_eval.specs.LeastTable.{answer_in, row_of, before, IsLeastTable}
use Rattle.plai_depth_laws.specs.DepthK.{depth_k}
use Rattle.plai_depth_symbols.specs.Symbols.{Symbol, signature_of}
use Rattle.plai_depth_symbols.specs.Patterns.{IsPatternOver}
use Rattle.plai_depth_symbols.proofs.Program.{least_over}

in_map : {A B : Type 0} (f : A → B) (x : A) (xs : List A) → IsIn x xs → IsIn (f x) (map f xs)
in_map f x [] i = absurd i
in_map f x (y ∷ xs) (inl e) = inl (ap f e)
in_map f x (y ∷ xs) (inr i) = inr (in_map f x xs i)

answer_over : (signature : List Symbol) (a : Abs) → ((b : Abs) → answer_in a ≡ Some b → IsPatternOver signature b) → (a ≡ Nothing) ⊎ IsPatternOver signature a
answer_over signature Nothing h = inl refl
answer_over signature (Pos n masks) h = inr (h (Pos n masks) refl)
answer_over signature (Groups n groups free) h = inr (h (Groups n groups free) refl)
answer_over signature (Terms skeletons) h = inr (h (Terms skeletons) refl)

-- Theorem: calls and answers of the least table are patterns over the signature of the program.
pub table_over : (k : ℕ) (program : ProgramView) (table : List PlainRow) → IsLeastTable (depth_k k) program table → (row : PlainRow) → IsIn row table
    → IsPatternOver (signature_of program) row.name.call × ((row.answer ≡ Nothing) ⊎ IsPatternOver (signature_of program) row.answer)
table_over k program table least row i =
    let (call, answer) = least_over k program (before (depth_k k)) (map (row_of (depth_k k)) table) least (row_of (depth_k k) row)
    (in_map (row_of (depth_k k)) row table i) in
    (call, answer_over (signature_of program) row.answer answer)
