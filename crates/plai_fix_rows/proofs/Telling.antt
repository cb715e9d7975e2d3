-- Logs as they are told, with one more entry, and what holds of them made less.
use Rattle.std.proofs.Common.{◌≡◌, ℕ, ◌+◌, ◌≤◌, List, [], ◌∷◌, ◌++◌, Option, Some, None, sym, refl, ap, ◌∙◌, append_assoc, arith}
use Rattle.std.proofs.lemmas.List.{append-nil}
use Rattle.plai_theory.specs.LegalWork.{LogEntry}
use Rattle.plai_domain.specs.declared.work.WorkEntry.{WorkEntry}
use Rattle.plai_domain.specs.Noted.{noted}
use Rattle.plai_domain.specs.Plain.{PlainDomain}
use Rattle.plai_clauses.specs.Program.{ProgramView}
use Rattle.plai_eval.specs.Meaning.{as_domain}
use Rattle.plai_fix_rows.specs.Told.{entry_told, log_told, told_after, entry_cost, log_cost, HasLog}

module _ (p : PlainDomain) where
  log_push : (log : List (LogEntry (as_domain p))) (e : LogEntry (as_domain p)) → log_told p (log ++ e ∷ []) ≡ log_told p log ++ entry_told p e
  log_push [] e = append-nil (entry_told p e)
  log_push (b ∷ log) e = ap (λ (rest : List WorkEntry). entry_told p b ++ rest) (log_push log e)
      ∙ sym (append_assoc (entry_told p b) (log_told p log) (entry_told p e))

  told_push : (begun : Option (List WorkEntry)) (log : List (LogEntry (as_domain p))) (e : LogEntry (as_domain p)) (w : WorkEntry) → entry_told p e ≡ w ∷ []
      → told_after p begun (log ++ e ∷ []) ≡ noted w (told_after p begun log)
  told_push None log e w is = refl
  told_push (Some begun) log e w is =
      ap (λ (rest : List WorkEntry). Some (begun ++ rest)) (log_push log e ∙ ap (λ (rest : List WorkEntry). log_told p log ++ rest) is)
      ∙ ap Some (sym (append_assoc begun (log_told p log) (w ∷ [])))

  cost_push : (program : ProgramView) (log : List (LogEntry (as_domain p))) (e : LogEntry (as_domain p))
      → log_cost p program (log ++ e ∷ []) ≡ log_cost p program log + entry_cost p program e
  cost_push program [] e = omega arith
  cost_push program (b ∷ log) e = let k : log_cost p program (log ++ e ∷ []) ≡ log_cost p program log + entry_cost p program e = cost_push program log e in
      omega arith

  module _ (program : ProgramView) (begun told : Option (List WorkEntry)) (steps : ℕ) (Is Next : List (LogEntry (as_domain p)) → Type 0)
      (has : HasLog p program begun told steps Is) where
    -- one more entry is noted
    pub has_more : (new : Option (List WorkEntry)) (later : ℕ) (e : LogEntry (as_domain p)) (w : WorkEntry) → entry_told p e ≡ w ∷ [] → new ≡ noted w told
        → later ≤ steps + entry_cost p program e → Next (has.log ++ e ∷ []) → HasLog p program begun new later Next
    has_more new later e w is noted_is few next =
        record {
          log = has.log ++ e ∷ [];
          is = next;
          is_told = noted_is ∙ ap (noted w) has.is_told ∙ sym (told_push begun has.log e w is);
          within = let c = cost_push program has.log e in let h = has.within in omega arith;
        }

    -- something else holds of the log, and fewer steps are counted
    pub has_less : (later : ℕ) → later ≤ steps → (Is has.log → Next has.log) → HasLog p program begun told later Next
    has_less later few next = record { log = has.log; is = next has.is; is_told = has.is_told; within = let h = has.within in omega arith }
