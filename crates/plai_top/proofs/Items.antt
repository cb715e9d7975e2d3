-- The blocks of items that are carried out one by one, and the first block.
use Rattle.std.proofs.Common.{◌≡◌, ℕ, ◌+◌, Bool, true, ◌&&◌, cond, ◌<◌, ◌≤◌, List, [], ◌∷◌, None, Result, Ok, Err, IfOk, length, drop, get_or, sym, ◌∙◌, ap, subst}
use Rattle.std.proofs.lemmas.List.{drop_more, drop_all}
use Rattle.std.specs.declared.option.Option.{Option}
use Rattle.plai_domain.specs.Plain.{PlainDomain}
use Rattle.plai_clauses.specs.Program.{ProgramView}
use Rattle.plai_clauses.specs.WellFormed.{IsWellFormed}
use Rattle.plai_clauses.specs.declared.edit_cause.EditCause.{EditCause}
use Rattle.plai_script.specs.declared.edit.Edit.{Edit}
use Rattle.plai_session.specs.Programs.{judged, kept, behind}
use Rattle.plai_top.specs.Working.{Span, kept_by, AreJoined, WorksBlocks}
use Rattle.plai_top.specs.Writing.{WritesBlock, Wrote, WritesBlocks}
use Rattle.plai_top.specs.declared.form.Form.{Form}
use Rattle.plai_top.specs.declared.stop.Stop.{Stop}
use Rattle.plai_top.proofs.Spans.{idle_before, is_idle_before, idle_joined}
use Rattle.plai_top.proofs.Written.{nothing_more, nothing_written, wrote_more, wrote_stops, works_stop, wrote_all, works_all}

-- what is left to be written behind items
abbrev pub Both : Form → PlainDomain → ℕ → List (Result ProgramView EditCause) → Option (List ℕ) → Option (List ℕ) → Span → Result ℕ Stop → Type 0
Both form p limit givens before after span result =
    WritesBlocks form p limit givens before after result × WorksBlocks form p limit givens before after span result

module _ (form : Form) (p : PlainDomain) (limit : ℕ) (givens : List (Result ProgramView EditCause)) (before now : Option (List ℕ)) (span : Span)
    (program : ProgramView) (items : List (Result Edit EditCause)) (i : ℕ) (item : Result Edit EditCause) (was : Option ProgramView) (number : ℕ)
    (are_tables : Bool) (within : i < length items) (is : item ≡ get_or items i item)
    (wrote : Wrote form p limit givens before now span (behind program (drop i items)) was number are_tables) where
  -- the next item is the first that is left
  next_left : behind program (drop i items) ≡ judged program item ∷ behind (kept program (judged program item)) (drop (i + 1) items)
  next_left = ap (behind program) (drop_more items i item within ∙ ap (λ x. x ∷ drop (i + 1) items) (sym is))

  kept_well : (given : Result ProgramView EditCause) (changed : ProgramView) → changed ≡ kept program given → IsWellFormed changed → IfOk given IsWellFormed
  kept_well (Ok own) changed same well = subst IsWellFormed same well
  kept_well (Err cause) changed same well = tt

  at_next : Wrote form p limit givens before now span (judged program item ∷ behind (kept program (judged program item)) (drop (i + 1) items)) was
      number are_tables
  at_next = subst (λ l. Wrote form p limit givens before now span l was number are_tables) next_left wrote

  pub item_more : (next : Option (List ℕ)) (last whole : Span) (shows : Bool) (changed : ProgramView) → AreJoined span last whole
      → WritesBlock form p limit was number (judged program item) last now next (Ok shows) → changed ≡ kept program (judged program item)
      → IsWellFormed changed → (keeps : Option ProgramView) → keeps ≡ kept_by was (judged program item) shows
      → Wrote form p limit givens before next whole (behind changed (drop (i + 1) items)) keeps (number + 1) (are_tables && shows)
  item_more next last whole shows changed joined writes same well keeps is_kept =
      subst (λ g. Wrote form p limit givens before next whole (behind g (drop (i + 1) items)) keeps (number + 1) (are_tables && shows)) (sym same)
      (wrote_more p limit form givens before now span (judged program item) (behind (kept program (judged program item)) (drop (i + 1) items)) was number
      are_tables at_next (kept_well (judged program item) changed same well) next last whole shows writes joined keeps is_kept)

  pub item_stops : (next : Option (List ℕ)) (last whole : Span) (stop : Stop) → AreJoined span last whole
      → WritesBlock form p limit was number (judged program item) last now next (Err stop) → Both form p limit givens before next whole (Err stop)
  item_stops next last whole stop joined writes = (
    wrote_stops p limit form givens before now span (judged program item) (behind (kept program (judged program item)) (drop (i + 1) items)) was number
        are_tables at_next next last stop writes,
    works_stop p limit form givens before now span (judged program item) (behind (kept program (judged program item)) (drop (i + 1) items)) was number
        are_tables at_next next last whole stop writes joined,
  )

module _ (form : Form) (p : PlainDomain) (limit : ℕ) (givens : List (Result ProgramView EditCause)) (before now : Option (List ℕ)) (span : Span)
    (program : ProgramView) (items : List (Result Edit EditCause)) where
  pub items_end : (i : ℕ) (was : Option ProgramView) (number : ℕ) (are_tables : Bool)
      → Wrote form p limit givens before now span (behind program (drop i items)) was number are_tables
      → length items ≤ i → Both form p limit givens before now span (Ok (cond are_tables 0 1))
  items_end i was number are_tables wrote past =
      let none_left : Wrote form p limit givens before now span [] was number are_tables =
      subst (λ l. Wrote form p limit givens before now span (behind program l) was number are_tables) (drop_all i items past) wrote in (
        wrote_all p limit form givens before now span was number are_tables none_left,
        works_all p limit form givens before now span was number are_tables none_left,
      )

-- the same domain and limit
pub block_for : {D : Type 0} (form : Form) (plain : D → PlainDomain) (own domain : D) (most limit : ℕ) (was : Option ProgramView) (number : ℕ)
    (given : Result ProgramView EditCause) (span : Span) (now next : Option (List ℕ)) (result : Result Bool Stop)
    → own ≡ domain → most ≡ limit → WritesBlock form (plain own) most was number given span now next result
    → WritesBlock form (plain domain) limit was number given span now next result
block_for form plain own domain most limit was number given span now next result same also writes =
    subst (λ n. WritesBlock form (plain domain) n was number given span now next result) also
    (subst (λ d. WritesBlock form (plain d) most was number given span now next result) same writes)

-- ---- the first block

module _ (form : Form) (p : PlainDomain) (limit : ℕ) (given : Result ProgramView EditCause) (left : List (Result ProgramView EditCause))
    (before now : Option (List ℕ)) (span : Span) where
  unstarted : Wrote form p limit (given ∷ left) before before (idle_before span) (given ∷ left) None 0 true
  unstarted = nothing_written p limit form (given ∷ left) before (nothing_more before) (idle_before span) (is_idle_before span)

  pub first_written : (shows : Bool) → IfOk given IsWellFormed → WritesBlock form p limit None 0 given span before now (Ok shows)
      → (keeps : Option ProgramView) → keeps ≡ kept_by None given shows → Wrote form p limit (given ∷ left) before now span left keeps 1 shows
  first_written shows well writes keeps same =
      wrote_more p limit form (given ∷ left) before before (idle_before span) given left None 0 true unstarted well now span span shows writes
      (idle_joined span) keeps same

  pub first_stops : (stop : Stop) → WritesBlock form p limit None 0 given span before now (Err stop)
      → Both form p limit (given ∷ left) before now span (Err stop)
  first_stops stop writes = (
    wrote_stops p limit form (given ∷ left) before before (idle_before span) given left None 0 true unstarted now span stop writes,
    works_stop p limit form (given ∷ left) before before (idle_before span) given left None 0 true unstarted now span span stop writes (idle_joined span),
  )
