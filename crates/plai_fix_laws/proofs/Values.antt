-- What is kept of work: names and answers are values, and evaluations are those of the work.
use Rattle.std.proofs.Common.{◌≡◌, ℕ, List, Option, Some, None, sym, refl, ◌∙◌, subst}
use Rattle.plai_theory.specs.Words.{HasSome, item, UpTo}
use Rattle.plai_theory.specs.Domain.{Domain, Program, IsLawful}
use Rattle.plai_theory.specs.Evaluation.{NameOf, answer_of, calls_of}
use Rattle.plai_theory.specs.LegalWork.{WorkRow, Work, LogEntry, present_source, after_all}
use Rattle.plai_theory.specs.Limits.{Limits}
use Rattle.plai_theory.proofs.Eval.{same_answer, same_called}
use Rattle.plai_fix_laws.specs.WorkStates.{KeptRow, Keeping, IsNamed, KeepsRow, AtBoth, kept_source}
use Rattle.plai_fix_laws.specs.Logs.{AreValues, IsLogged}
use Rattle.plai_fix_laws.proofs.Places.{found_at, one_place, same_source}
use Rattle.plai_fix_laws.proofs.ValueLogs.{rows_valued, log_values}

module _ (d : Domain) (g : Program d) (laws : IsLawful d g) (limits : Limits d) (limit : ℕ) (start : Work d) (log : List (LogEntry d)) (k : Keeping d)
    (open_pair : Option (ℕ × ℕ))
    (logged : IsLogged d g limits limit start log k open_pair) where
  abbrev rows : List (WorkRow d)
  rows = (after_all d g start log).rows

  pub values : AreValues d rows
  values = log_values d g laws limit start log logged.values logged.legal

  pub kept_answers : (p : d.Pred) (v : d.Value) → kept_source d k.rows p v ≡ present_source d rows p v
  kept_answers = same_source d g laws k.rows rows (KeepsRow d g k open_pair) logged.keeps.each (λ a kept r h. (h.name, h.answer))

  pub kept_answer_of : (c : d.Clause) (v : d.Value) → answer_of d (kept_source d k.rows) c v ≡ answer_of d (present_source d rows) c v
  kept_answer_of c v = same_answer d (kept_source d k.rows) (present_source d rows) c v (λ p w i. kept_answers p w)

  pub kept_calls_of : (c : d.Clause) (v : d.Value) → calls_of d (kept_source d k.rows) c v ≡ calls_of d (present_source d rows) c v
  kept_calls_of c v = same_called d (kept_source d k.rows) (present_source d rows) c v (λ p w i. kept_answers p w)

  pub answer_is_value : (p : d.Pred) (v a : d.Value) → d.leq p v v → kept_source d k.rows p v ≡ Some a → d.leq p a a
  answer_is_value p v a is e =
      let s : present_source d rows p v ≡ Some a = sym (kept_answers p v) ∙ e in
      let h : UpTo (d.leq p) (present_source d rows p v) (present_source d rows p v) = rows_valued d g laws rows values p v is in
      let u : UpTo (d.leq p) (Some a) (Some a) = subst (λ (o : Option d.Value). UpTo (d.leq p) o o) s h in u

  -- the row under work of a named row
  named_row : (n : ℕ) (x : NameOf d) → IsNamed d k.rows n x → (r : WorkRow d) × (item rows n ≡ Some r) × (r.name ≡ x)
  named_row n x named = at_row (item k.rows n) (item rows n) (logged.keeps.each n) named
    where
      at_row : (o : Option (KeptRow d)) (u : Option (WorkRow d)) → AtBoth (KeepsRow d g k open_pair n) o u → HasSome (λ (z : KeptRow d). z.name ≡ x) o
          → (r : WorkRow d) × (u ≡ Some r) × (r.name ≡ x)
      at_row None u h m = absurd m
      at_row (Some kept) None h m = absurd h
      at_row (Some kept) (Some r) h m = (r, refl, sym h.name ∙ m)

  pub name_is_value : (n : ℕ) (x : NameOf d) → IsNamed d k.rows n x → d.leq x.pred x.call x.call
  name_is_value n x named =
      let (r, f, same) = named_row n x named in
      subst (λ (y : NameOf d). d.leq y.pred y.call y.call) same (values.names r.name r (found_at d g laws rows logged.keeps.own n r f))

  -- each name has at most one row
  pub one_row : (i j : ℕ) (y : NameOf d) → IsNamed d k.rows i y → IsNamed d k.rows j y → i ≡ j
  one_row i j y a b =
      let (q, e, m) = named_row i y a in
      let (r, f, n) = named_row j y b in
      one_place d g laws rows logged.keeps.own i j q r e f (m ∙ sym n)
