-- Rows that a pending pair calls, woken one after another.
use Rattle.std.proofs.Common.{◌≡◌, ◌⊎◌, ℕ, ◌≤◌, Bool, true, false, not, ◌||◌, nat_eq, eqb-true, List, Option, IsSome, sym, refl}
use Rattle.std.proofs.Common.{ap, ◌∙◌, subst, arith, inl, inr}
use Rattle.std.proofs.lemmas.Bool.{eq-eqb}
use Rattle.plai_theory.specs.Words.{IsIn, item}
use Rattle.plai_theory.specs.Domain.{Domain, Program, Name}
use Rattle.plai_terms.specs.declared.abs.Abs.{Abs}
use Rattle.plai_terms.specs.declared.pred_key.PredKey.{PredKey}
use Rattle.plai_domain.specs.declared.work.WorkEntry.{WorkEntry}
use Rattle.plai_domain.specs.Plain.{PlainDomain}
use Rattle.plai_domain.specs.Laws as domain
use Rattle.plai_clauses.specs.Program.{ProgramView}
use Rattle.plai_clauses.specs.WellFormed.{IsWellFormed}
use Rattle.plai_eval.specs.Meaning.{as_domain, as_program}
use Rattle.plai_fix_laws.specs.WorkStates.{KeptRow, Keeping, Extends, IsNamed, is_live, kept_live, no_pair, with_pair}
use Rattle.plai_fix_rows.specs.Told.{Origin}
use Rattle.plai_fix_rows.specs.Solving.{Rouses, IsAwake, IsWoken, IsAsleep, IsAtWork, IsAtWaking, IsMeeting}
use Rattle.plai_fix_laws.proofs.Pairs.{one_name}
use Rattle.plai_fix_laws.proofs.Wakings.{wakes_lives, woken_live}
use Rattle.plai_fix_rows.proofs.Meetings.{awaits_with, wakes_told, called_demanded, starts_waking}

or_false : (p : Bool) → (p || false) ≡ p
or_false true = refl
or_false false = refl

or_cases : {P : Type 0} (p q : Bool) → (p || q) ≡ true → (p ≡ true → P) → (q ≡ true → P) → P
or_cases true q e h k = h refl
or_cases false q e h k = k e

-- a live row stays live, and a met limit met
pub live_on : (d : Domain) (limit : ℕ) (kept new : List (KeptRow d)) (row : ℕ) → Extends d kept new
    → (is_live d kept row ≡ true) ⊎ (limit ≤ kept_live d kept) → (is_live d new row ≡ true) ⊎ (limit ≤ kept_live d new)
live_on d limit kept new row extends (inl l) = inl (extends.lives row l)
live_on d limit kept new row extends (inr m) = inr (let l = extends.live in omega arith)

module _ (p : PlainDomain) (laws : domain.IsLawful p) (program : ProgramView) (good : IsWellFormed program) (limit : ℕ)
    (begun : Origin) (told : Option (List WorkEntry)) (steps : ℕ) (k : Keeping (as_domain p)) (pending unmet : ℕ → ℕ → Bool) where
  abbrev d : Domain
  d = as_domain p

  abbrev g : Program d
  g = as_program p program

  -- one more called row is roused
  module _ (n m : ℕ) (ready next : ℕ → Bool) (clean : k.dirty n m ≡ false) (j : ℕ) (calls : k.calls n m j ≡ true)
      (one_more : (i : ℕ) → next i ≡ (ready i || nat_eq i j)) where
    ready_next : {A : Type 0} (i : ℕ) → next i ≡ true → (ready i ≡ true → A) → (i ≡ j → A) → A
    ready_next i e h own = or_cases (ready i) (nat_eq i j) (sym (one_more i) ∙ e) h (λ t. own (eqb-true i j t))

    pub roused_next : (full live : Bool) (new : Keeping d) (later : Option (List WorkEntry)) (more : ℕ → ℕ → Bool)
        → IsMeeting p program limit begun told steps k pending unmet n m ready full → (x : Name PredKey Abs) → IsNamed d k.rows j x → IsSome (item k.rows j)
        → Rouses p program limit j k told pending new later more live
        → IsMeeting p program limit begun later steps new more unmet n m next (full || not live)
    roused_next full live new later more meeting x named some (IsAwake awake) =
        record {
          waking = meeting.waking;
          done = λ i e f. ready_next i e (λ t. meeting.done i t (sym (or_false full) ∙ f)) (λ s. ap (is_live d k.rows) s ∙ awake);
          left = λ f. meeting.left (sym (or_false full) ∙ f);
        }
    roused_next false live new later more meeting x named some (IsWoken made others y is asleep room wakes awaits) =
        let pair : with_pair n m pending n m ≡ true = rw (eq-eqb n n refl, eq-eqb m m refl) refl in
        record {
          waking = wakes_told p laws program good limit begun told steps k (with_pair n m pending) (with_pair n m others) unmet meeting.waking j y is
              (called_demanded p laws program good limit begun told steps k (with_pair n m pending) unmet meeting.waking n m
              (meeting.waking.is.pairs n m pair) clean j calls y is)
              asleep room made wakes (awaits_with n m j _ pending others awaits);
          done = λ i e f. ready_next i e (λ t. wakes_lives d k made j wakes i (meeting.done i t refl))
              (λ s. ap (is_live d made.rows) s ∙ subst (λ ks. is_live d ks j ≡ true) (sym wakes.rows) (woken_live d k.rows j some));
          left = λ f. cc;
        }
    roused_next true live new later more meeting x named some (IsWoken made others y is asleep room wakes awaits) =
        let left = meeting.left refl in let no_room : limit ≤ kept_live d k.rows = left.0 in absurd (omega arith)
    roused_next false live new later more meeting x named some (IsAsleep asleep met) =
        record { waking = meeting.waking; done = λ i e f. cc; left = λ f. (met, j, calls, asleep) }
    roused_next true live new later more meeting x named some (IsAsleep asleep met) =
        record { waking = meeting.waking; done = λ i e f. cc; left = λ f. meeting.left refl }

  -- none is roused yet
  pub starts_meeting : (n m : ℕ) (ready : ℕ → Bool) → ((j : ℕ) → ready j ≡ false) → IsAtWaking p program limit begun told steps k (with_pair n m pending) unmet
      → IsMeeting p program limit begun told steps k pending unmet n m ready false
  starts_meeting n m ready none waking =
      record { waking = waking; done = λ j e f. let l : true ≡ false = sym e ∙ none j in cc; left = λ e. cc }

  -- a called row is one of the table
  pub called_of : (n m : ℕ) (ready : ℕ → Bool) (full : Bool) → IsMeeting p program limit begun told steps k pending unmet n m ready full → (j : ℕ)
      → k.calls n m j ≡ true → IsSome (item k.rows j)
  called_of n m ready full meeting j calls = (meeting.waking.is.logged.keeps.calls_rows n m j calls).1

  -- an entry's row is roused
  pub roused_entry : (row : ℕ) (x : Name PredKey Abs) → IsNamed d k.rows row x → IsIn x g.entries → IsAtWork p program limit begun told steps k unmet
      → (live : Bool) (new : Keeping d) (later : Option (List WorkEntry)) (more : ℕ → ℕ → Bool) → Rouses p program limit row k told no_pair new later more live
      → IsAtWaking p program limit begun later steps new more unmet
  roused_entry row x named inside at_work live new later more (IsAwake awake) = starts_waking p laws program good limit begun told steps k unmet at_work
  roused_entry row x named inside at_work live new later more (IsWoken made others y is asleep room wakes awaits) =
      let waking = starts_waking p laws program good limit begun told steps k unmet at_work in
      wakes_told p laws program good limit begun told steps k no_pair others unmet waking row y is
      (inl (subst (λ z. IsIn z g.entries) (one_name d k.rows row x y named is) inside)) asleep room made wakes awaits
  roused_entry row x named inside at_work live new later more (IsAsleep asleep met) = starts_waking p laws program good limit begun told steps k unmet at_work

  -- the row is live then, or the limit is met
  pub roused_live : (row : ℕ) (live : Bool) (new : Keeping d) (later : Option (List WorkEntry)) (more : ℕ → ℕ → Bool) → IsSome (item k.rows row)
      → Rouses p program limit row k told pending new later more live → (is_live d new.rows row ≡ true) ⊎ (limit ≤ kept_live d new.rows)
  roused_live row live new later more some (IsAwake awake) = inl awake
  roused_live row live new later more some (IsWoken made others y is asleep room wakes awaits) =
      inl (subst (λ ks. is_live d ks row ≡ true) (sym wakes.rows) (woken_live d k.rows row some))
  roused_live row live new later more some (IsAsleep asleep met) = inr met
