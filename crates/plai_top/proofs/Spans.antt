-- Spans of work, and the work of one block more.
use Rattle.std.proofs.Common.{◌≡◌, ℕ, ◌+◌, List, [], ◌∷◌, ◌++◌, Result, length, refl, ◌∙◌, subst, arith}
use Rattle.std.specs.declared.option.Option.{Option}
use Rattle.plai_domain.specs.Plain.{PlainDomain}
use Rattle.plai_domain.specs.declared.work.WorkEntry.{WorkEntry}
use Rattle.plai_clauses.specs.Program.{ProgramView}
use Rattle.plai_clauses.specs.declared.edit_cause.EditCause.{EditCause}
use Rattle.plai_top.specs.Blocks.{Block}
use Rattle.plai_top.specs.Working.{Span, between, kept_behind, kept_behind_all, IsIdle, AreJoined, IsWorked, AreWorked, none_worked, one_worked}

-- the span up to a later count is that up to an earlier one and then the rest
pub joined : (first second third : Option (List WorkEntry)) (x y z : ℕ)
    → AreJoined (between first second x y) (between second third y z) (between first third x z)
joined first second third x y z = record { begins = refl; meets = refl; ends = refl; within = omega arith }

-- nothing, and then a span
abbrev pub idle_before : Span → Span
idle_before span = record { before = span.before; after = span.before; steps = 0 }

pub is_idle_before : (span : Span) → IsIdle (idle_before span)
is_idle_before span = record { nothing = refl; none = refl }

pub idle_joined : (span : Span) → AreJoined (idle_before span) span span
idle_joined span = record { begins = refl; meets = refl; ends = refl; within = omega arith }

abbrev idle_behind : Span → Span
idle_behind span = record { before = span.after; after = span.after; steps = 0 }

module _ (p : PlainDomain) (limit : ℕ) where
  pub worked_more : (was : Option ProgramView) (number : ℕ) (givens : List (Result ProgramView EditCause)) (blocks : List Block) (span : Span)
      → AreWorked p limit was number givens blocks span
      → (given : Result ProgramView EditCause) (block : Block) (last : Span)
      → IsWorked p limit (kept_behind_all was givens blocks) (number + length blocks) given block last
      → (whole : Span) → AreJoined span last whole → AreWorked p limit was number (givens ++ given ∷ []) (blocks ++ block ∷ []) whole
  worked_more was number givens blocks span (none_worked _ _ _ idle) given block last is whole join =
      let e : number + 0 ≡ number = omega arith in
      one_worked was number given block [] [] last (idle_behind last) whole (subst (λ n. IsWorked p limit was n given block last) e is)
      (none_worked (kept_behind was given block) (number + 1) (idle_behind last) (record { nothing = refl; none = refl }))
      (record {
        begins = join.meets ∙ idle.nothing ∙ join.begins;
        meets = refl;
        ends = join.ends;
        within = omega (arith, join.within, idle.none);
      })
  worked_more was number givens blocks span (one_worked _ _ g b gs bs first rest _ one are own) given block last is whole join =
      let tail : Span = record { before = rest.before; after = last.after; steps = rest.steps + last.steps } in
      let e : number + length (b ∷ bs) ≡ (number + 1) + length bs = omega arith in
      one_worked was number g b (gs ++ given ∷ []) (bs ++ block ∷ []) first tail whole one
      (worked_more (kept_behind was g b) (number + 1) gs bs rest are given block last
      (subst (λ n. IsWorked p limit (kept_behind_all (kept_behind was g b) gs bs) n given block last) e is) tail
      (record { begins = refl; meets = join.meets ∙ own.ends; ends = refl; within = omega arith }))
      (record { begins = own.begins ∙ join.begins; meets = own.meets; ends = join.ends; within = omega (arith, join.within, own.within) })

  -- the program whose table is kept behind one block more
  pub kept_more : (was : Option ProgramView) (number : ℕ) (givens : List (Result ProgramView EditCause)) (blocks : List Block) (span : Span)
      → AreWorked p limit was number givens blocks span → (given : Result ProgramView EditCause) (block : Block)
      → kept_behind_all was (givens ++ given ∷ []) (blocks ++ block ∷ []) ≡ kept_behind (kept_behind_all was givens blocks) given block
  kept_more was number givens blocks span (none_worked _ _ _ idle) given block = refl
  kept_more was number givens blocks span (one_worked _ _ g b gs bs first rest _ one are own) given block =
      kept_more (kept_behind was g b) (number + 1) gs bs rest are given block
