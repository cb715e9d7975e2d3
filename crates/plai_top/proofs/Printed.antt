-- Each row of a table has its line in the table's block.
use Rattle.std.proofs.Common.{◌≡◌, ℕ, List, [], ◌∷◌, ◌++◌, map, flat_map, codes, decimal, append_assoc, sym, ap, ◌∙◌, subst, inl, inr}
use Rattle.plai_theory.specs.Words.{IsIn}
use Rattle.plai_terms.specs.declared.plain_row.PlainRow.{PlainRow}
use Rattle.plai_render.specs.declared.text_row.TextRow.{TextRow}
use Rattle.plai_clauses.specs.declared.check.Check.{Check}
use Rattle.plai_assert.specs.declared.verdict.Verdict.{Verdict}
use Rattle.plai_render.specs.Block.{pred_text, row_text, checks_text, block_text}
use Rattle.plai_render.specs.Texts.{text_of}
use Rattle.plai_top.specs.Headline.{IsPrinted}

-- the row's line stands in the block
abbrev HasLine : List ℕ → PlainRow → Type 0
HasLine block row = (before after : List ℕ) × (block ≡ before ++ 10 ∷ row_text (text_of row) ++ after)

abbrev end_of_line : List ℕ
end_of_line = 10 ∷ []

-- a row's line without its end
abbrev line : TextRow → List ℕ
line row = codes "row " ++ pred_text row.pred ++ codes " call " ++ row.call ++ codes " answer " ++ row.answer

abbrev lines : List PlainRow → List ℕ
lines rows = flat_map row_text (map text_of rows)

-- the line stands first
first_line : (head text behind rest : List ℕ) → (head ++ end_of_line) ++ (text ++ behind) ++ rest ≡ (head ++ 10 ∷ text) ++ (behind ++ rest)
first_line head text behind rest =
    ap (λ l. l ++ rest) (sym (append_assoc (head ++ end_of_line) text behind))
    ∙ append_assoc (head ++ end_of_line ++ text) behind rest
    ∙ ap (λ l. l ++ (behind ++ rest)) (append_assoc head end_of_line text)

-- the line stands behind another one
other_line : (head text behind rest : List ℕ)
    → (head ++ end_of_line) ++ ((text ++ end_of_line) ++ behind) ++ rest ≡ ((head ++ end_of_line ++ text) ++ end_of_line) ++ behind ++ rest
other_line head text behind rest =
    ap (λ l. l ++ rest)
    (sym (append_assoc (head ++ end_of_line) (text ++ end_of_line) behind) ∙ ap (λ l. l ++ behind) (sym (append_assoc (head ++ end_of_line) text end_of_line)))

has_line : (rows : List PlainRow) (row : PlainRow) → IsIn row rows → (head rest : List ℕ) → HasLine ((head ++ end_of_line) ++ lines rows ++ rest) row
has_line [] row h head rest = absurd h
has_line (x ∷ xs) row (inl same) head rest =
    subst (HasLine ((head ++ end_of_line) ++ lines (x ∷ xs) ++ rest)) same (head, lines xs ++ rest, first_line head (row_text (text_of x)) (lines xs) rest)
has_line (x ∷ xs) row (inr h) head rest =
    let (before, after, is) = has_line xs row h (head ++ end_of_line ++ line (text_of x)) rest in
    (before, after, other_line head (line (text_of x)) (lines xs) rest ∙ is)

pub row_is_printed : (rows : List PlainRow) (row : PlainRow) → IsIn row rows → (number : ℕ) (checks : List Check) (verdicts : List Verdict)
    → IsPrinted rows (block_text number rows checks verdicts) row
row_is_printed rows row h number checks verdicts =
    let head : List ℕ = codes "edit " ++ decimal number in
    let told : List ℕ = checks_text checks verdicts in
    let block : (head ++ end_of_line) ++ lines rows ++ told ++ codes "end" ++ end_of_line
    ≡ (head ++ end_of_line) ++ lines rows ++ (told ++ (codes "end" ++ end_of_line)) =
    append_assoc ((head ++ end_of_line) ++ lines rows ++ told) (codes "end") end_of_line
    ∙ append_assoc ((head ++ end_of_line) ++ lines rows) told (codes "end" ++ end_of_line) in
    let (before, after, is) = has_line rows row h head (told ++ (codes "end" ++ end_of_line)) in
    record { inside = h; before = before; after = after; line = block ∙ is }
