-- Rows that are woken for pending pairs and entries, as it is told.
use Rattle.std.proofs.Common.{◌≡◌, ◌⊎◌, ℕ, zero, suc, ◌<◌, length, Bool, true, false, ◌&&◌, ◌||◌, nat_eq, List, [], ◌∷◌, ◌++◌}
use Rattle.std.proofs.Common.{Option, Some, None, IsSome, sym, refl, ◌∙◌, subst, inl, inr, arith}
use Rattle.plai_theory.specs.Words.{item}
use Rattle.plai_theory.specs.Domain.{Domain, Program, Name, IsLawful}
use Rattle.plai_theory.specs.LegalWork.{WorkRow, Woke, IsDemanded, IsLegalLog, live_count, after_all}
use Rattle.plai_terms.specs.declared.abs.Abs.{Abs}
use Rattle.plai_terms.specs.declared.pred_key.PredKey.{PredKey}
use Rattle.plai_domain.specs.declared.work.WorkEntry.{WorkEntry}
use Rattle.plai_domain.specs.declared.work.WorkEntry.TheVariants as entries
use Rattle.plai_domain.specs.Noted.{noted}
use Rattle.plai_domain.specs.Plain.{PlainDomain}
use Rattle.plai_domain.specs.Laws as domain
use Rattle.plai_clauses.specs.Program.{ProgramView, clauses_of}
use Rattle.plai_clauses.specs.WellFormed.{IsWellFormed}
use Rattle.plai_eval.specs.Meaning.{row_name, as_domain, as_limits, as_program}
use Rattle.plai_eval.proofs.Lawful.{lawful_at}
use Rattle.plai_fix_laws.specs.WorkStates.{KeptRow, Keeping, KeepsRow, IsNamed, clause_at, is_live, kept_live, no_pair, with_pair}
use Rattle.plai_fix_laws.specs.Changes.{Wakes}
use Rattle.plai_fix_laws.specs.Queues.{Awaits}
use Rattle.plai_fix_laws.specs.Logs.{IsWorking, IsWaking}
use Rattle.plai_fix_rows.specs.Told.{start_of, Origin, HasLog}
use Rattle.plai_fix_rows.specs.Solving.{IsAtWork, IsAtWaking, IsMeeting}
use Rattle.plai_fix_laws.proofs.Places.{found_at, have}
use Rattle.plai_fix_laws.proofs.Steps.{some_not}
use Rattle.plai_fix_laws.proofs.Linked.{row_under, same_live, live_at, named_row}
use Rattle.plai_fix_laws.proofs.Woken.{begins_waking, ends_waking, wakes_row, meets_pair, drops_pair, leaves_pair}
use Rattle.plai_fix_rows.proofs.Telling.{has_more, has_less}

-- a row's clauses are pending beside another pair
pub awaits_with : (n m row last : ℕ) (pending more : ℕ → ℕ → Bool) → Awaits row last pending more → Awaits row last (with_pair n m pending) (with_pair n m more)
awaits_with n m row last pending more awaits =
    record {
      kept = λ a b. kept a b (nat_eq a n && nat_eq b m);
      own = λ b h l. or_right (nat_eq row n && nat_eq b m) (more row b) (awaits.own b h l);
      only = λ a b. only a b (nat_eq a n && nat_eq b m);
    }
  where
    or_right : (p q : Bool) → q ≡ true → (p || q) ≡ true
    or_right true q e = refl
    or_right false q e = e

    kept : (a b : ℕ) (t : Bool) → (t || pending a b) ≡ true → (t || more a b) ≡ true
    kept a b true e = refl
    kept a b false e = awaits.kept a b e

    only : (a b : ℕ) (t : Bool) → (t || more a b) ≡ true → ((t || pending a b) ≡ true) ⊎ (a ≡ row)
    only a b true e = inl refl
    only a b false e = awaits.only a b e

module _ (p : PlainDomain) (laws : domain.IsLawful p) (program : ProgramView) (good : IsWellFormed program) (limit : ℕ)
    (begun : Origin) (told : Option (List WorkEntry)) (steps : ℕ) (k : Keeping (as_domain p)) where
  abbrev d : Domain
  d = as_domain p

  abbrev g : Program d
  g = as_program p program

  lawful : IsLawful d g
  lawful = lawful_at p laws program good

  pub waking_legal : (pending unmet : ℕ → ℕ → Bool) → IsAtWaking p program limit begun told steps k pending unmet
      → HasLog p program begun.told told 0 (IsLegalLog d g limit (start_of p begun))
  waking_legal pending unmet waking =
      has_less p program begun.told told steps (λ log. IsWaking d g (as_limits p) limit (start_of p begun) log k pending unmet)
      (IsLegalLog d g limit (start_of p begun)) waking 0 (omega arith) (λ w. w.logged.legal)

  pub starts_waking : (unmet : ℕ → ℕ → Bool) → IsAtWork p program limit begun told steps k unmet
      → IsAtWaking p program limit begun told steps k no_pair unmet
  starts_waking unmet at_work =
      has_less p program begun.told told steps (λ log. IsWorking d g (as_limits p) limit (start_of p begun) log k None None unmet)
      (λ log. IsWaking d g (as_limits p) limit (start_of p begun) log k no_pair unmet) at_work steps (omega arith)
      (λ w. begins_waking d g (as_limits p) limit (start_of p begun) at_work.log k unmet w)

  pub stops_waking : (unmet : ℕ → ℕ → Bool) → IsAtWaking p program limit begun told steps k no_pair unmet
      → IsAtWork p program limit begun told steps k unmet
  stops_waking unmet waking =
      has_less p program begun.told told steps (λ log. IsWaking d g (as_limits p) limit (start_of p begun) log k no_pair unmet)
      (λ log. IsWorking d g (as_limits p) limit (start_of p begun) log k None None unmet) waking steps (omega arith)
      (λ w. ends_waking d g (as_limits p) limit (start_of p begun) waking.log k unmet w)

  pub drops_told : (pending unmet : ℕ → ℕ → Bool) (n m : ℕ) → IsAtWaking p program limit begun told steps k (with_pair n m pending) unmet
      → k.dirty n m ≡ true → IsAtWaking p program limit begun told steps k pending unmet
  drops_told pending unmet n m waking dirty =
      has_less p program begun.told told steps (λ log. IsWaking d g (as_limits p) limit (start_of p begun) log k (with_pair n m pending) unmet)
      (λ log. IsWaking d g (as_limits p) limit (start_of p begun) log k pending unmet) waking steps (omega arith)
      (λ w. drops_pair d g lawful (as_limits p) limit (start_of p begun) waking.log k pending unmet n m w dirty)

  -- what a pair calls is met
  module _ (pending unmet : ℕ → ℕ → Bool) (n m : ℕ) (ready : ℕ → Bool) (whole : (j : ℕ) → k.calls n m j ≡ ready j) where
    pub meets_told : IsMeeting p program limit begun told steps k pending unmet n m ready false
        → IsAtWaking p program limit begun told steps k pending unmet
    meets_told meeting =
        has_less p program begun.told told steps (λ log. IsWaking d g (as_limits p) limit (start_of p begun) log k (with_pair n m pending) unmet)
        (λ log. IsWaking d g (as_limits p) limit (start_of p begun) log k pending unmet) meeting.waking steps (omega arith)
        (λ w. meets_pair d g lawful (as_limits p) limit (start_of p begun) meeting.waking.log k pending unmet n m w
        (λ j e. meeting.done j (sym (whole j) ∙ e) refl))

    pub leaves_told : IsMeeting p program limit begun told steps k pending unmet n m ready true → (marked : ℕ → ℕ → Bool)
        → ((a b : ℕ) → marked a b ≡ ((nat_eq a n && nat_eq b m) || unmet a b)) → IsAtWaking p program limit begun told steps k pending marked
    leaves_told meeting marked marks =
        let (no_room, j, calls, asleep) = meeting.left refl in
        has_less p program begun.told told steps (λ log. IsWaking d g (as_limits p) limit (start_of p begun) log k (with_pair n m pending) unmet)
        (λ log. IsWaking d g (as_limits p) limit (start_of p begun) log k pending marked) meeting.waking steps (omega arith)
        (λ w. leaves_pair d g lawful (as_limits p) limit (start_of p begun) meeting.waking.log k pending unmet n m w marked no_room j calls asleep marks)

  -- a row is woken for its name
  module _ (pending more unmet : ℕ → ℕ → Bool) (waking : IsAtWaking p program limit begun told steps k pending unmet) (row : ℕ)
      (x : Name PredKey Abs) (named : IsNamed d k.rows row x) (demanded : IsDemanded d g (after_all d g (start_of p begun) waking.log).rows x)
      (asleep : is_live d k.rows row ≡ false) (room : kept_live d k.rows < limit) (new : Keeping d) (wakes : Wakes d k new row)
      (awaits : Awaits row (length (clauses_of program x.pred)) pending more) where
    abbrev rows : List (WorkRow d)
    rows = (after_all d g (start_of p begun) waking.log).rows

    pub wakes_told : IsAtWaking p program limit begun (noted (entries.Woke (row_name x)) told) steps new more unmet
    wakes_told =
        let (r, place, same, dirties) = named_row d g lawful k None rows waking.is.logged.keeps row x named in
        let s : live_count d rows ≡ kept_live d k.rows = same_live d g lawful k None rows waking.is.logged.keeps in
        has_more p program begun.told told steps (λ log. IsWaking d g (as_limits p) limit (start_of p begun) log k pending unmet)
        (λ log. IsWaking d g (as_limits p) limit (start_of p begun) log new more unmet) waking
        (noted (entries.Woke (row_name x)) told) steps (Woke x) (entries.Woke (row_name x)) refl refl (omega arith)
        (subst (λ (y : Name PredKey Abs). IsWaking d g (as_limits p) limit (start_of p begun) (waking.log ++ Woke y ∷ []) new more unmet) same
        (wakes_row d g lawful (as_limits p) limit (start_of p begun) waking.log k new pending more unmet waking.is row r place
        (sym (live_at d g lawful k None rows waking.is.logged.keeps row r place) ∙ asleep)
        (subst (IsDemanded d g rows) (sym same) demanded) (omega arith) wakes
        (subst (λ (y : Name PredKey Abs). Awaits row (length (clauses_of program y.pred)) pending more) (sym same) awaits)))

  -- the name of a row that a clean pair of a live row calls is demanded
  pub called_demanded : (pending unmet : ℕ → ℕ → Bool) (waking : IsAtWaking p program limit begun told steps k pending unmet) (n m : ℕ)
      → is_live d k.rows n ≡ true → k.dirty n m ≡ false → (j : ℕ) → k.calls n m j ≡ true → (x : Name PredKey Abs) → IsNamed d k.rows j x
      → IsDemanded d g (after_all d g (start_of p begun) waking.log).rows x
  called_demanded pending unmet waking n m live clean j calls x named =
      let keeps = waking.is.logged.keeps in
      let rows : List (WorkRow d) = (after_all d g (start_of p begun) waking.log).rows in
      let (u, v) = keeps.calls_rows n m j calls in
      let (kept, e) = have (item k.rows n) u in
      let (r, f, h) = row_under d g lawful k None rows keeps n kept e in
      at m r f h (sym (live_at d g lawful k None rows keeps n r f) ∙ live) clean calls (h.calls_clauses m j calls)
    where
      at : (m : ℕ) (r : WorkRow d) → item (after_all d g (start_of p begun) waking.log).rows n ≡ Some r
          → {kept : KeptRow d} → KeepsRow d g k None n kept r → r.live ≡ true → k.dirty n m ≡ false
          → k.calls n m j ≡ true → IsSome (clause_at d g r.name.pred m) → IsDemanded d g (after_all d g (start_of p begun) waking.log).rows x
      at zero r f h l c t s = let z : IsSome {T = d.Clause} None = s in cc
      at (suc i) r f h l c t s =
          let (b, is) = have (item (g.clauses r.name.pred) i) s in
          inr (
            r.name,
            record {
              row = r;
              number = i;
              clause = b;
              there = found_at d g lawful (after_all d g (start_of p begun) waking.log).rows waking.is.logged.keeps.own n r f;
              is_live = l;
              is_clause = is;
              names = (h.calls i b is (sym (h.dirty i b is) ∙ c) (some_not (n, i)) j x named).0 t;
            },
          )
