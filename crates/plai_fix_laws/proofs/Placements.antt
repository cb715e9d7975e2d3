-- Rows made for the names that a pair called, and for entries, and where the pair is closed.
use Rattle.std.proofs.Common.{
  ◌≡◌,
  ◌⊎◌,
  ◌↔◌,
  ℕ,
  suc,
  ◌<◌,
  ◌≤◌,
  Bool,
  true,
  false,
  nat_eq,
  eqb-true,
  ◌&&◌,
  ◌||◌,
  List,
  [],
  ◌∷◌,
  ◌++◌,
  Option,
  Some,
  None,
  sym,
  refl,
  ap,
}
use Rattle.std.proofs.Common.{◌∙◌, subst, inl, inr, arith}
use Rattle.plai_theory.specs.Words.{IsIn, item}
use Rattle.plai_theory.specs.Domain.{Domain, Program, IsLawful}
use Rattle.plai_theory.specs.Evaluation.{NameOf}
use Rattle.plai_theory.specs.LegalWork.{WorkRow, Work, LogEntry, Made, find, new_row, live_count, after_all, IsEnd}
use Rattle.plai_theory.specs.Limits.{Limits}
use Rattle.plai_theory.specs.Claims.{IsStoppedLog}
use Rattle.plai_theory.proofs.Rows.{find_name}
use Rattle.plai_theory.proofs.Walk.{after_push}
use Rattle.plai_fix_laws.specs.WorkStates.{KeptRow, Keeping, Keeps, IsNamed, IsMetBut, IsClean, is_live, kept_live, no_pair, with_pair, HasLiveRow}
use Rattle.plai_fix_laws.specs.Changes.{SetsCalls, Makes}
use Rattle.plai_fix_laws.specs.Logs.{IsLogged, IsWorking, IsWaking}
use Rattle.plai_fix_laws.specs.Pairs.{HasCalled, Links, IsWaiting}
use Rattle.plai_fix_laws.proofs.Places.{push_before, place_of, found_at, there, has_some}
use Rattle.plai_fix_laws.proofs.Steps.{row_at}
use Rattle.plai_fix_laws.proofs.Grown.{makes_row, sets}
use Rattle.plai_fix_laws.proofs.Woken.{met_but}
use Rattle.plai_fix_laws.proofs.Waiting.{waits_no_more, waits_for_ever}
use Rattle.plai_fix_laws.proofs.Values.{one_row}
use Rattle.plai_fix_laws.proofs.Ends.{ends, stops_at_entry}
use Rattle.plai_fix_laws.proofs.Pairs.{is_named, links_right}
use Rattle.plai_fix_laws.proofs.Linked.{absent_find, named_find, same_live, live_at}

module _ (d : Domain) (g : Program d) (laws : IsLawful d g) (limits : Limits d) (limit : ℕ) (start : Work d) (log : List (LogEntry d)) where
  abbrev rows : List (WorkRow d)
  rows = (after_all d g start log).rows

  -- Theorem: a called name without a row gets one.
  pub makes_called : (k new : Keeping d) (unmet : ℕ → ℕ → Bool) (n i : ℕ) (called : List (NameOf d))
      → IsWaiting d g limits limit start log k (Some (n, i)) unmet n i called → (y : NameOf d) → IsIn y called
      → ((j : ℕ) → IsNamed d k.rows j y → ⊥) → kept_live d k.rows < limit → Makes d g k new y
      → IsWaiting d g limits limit start (log ++ Made y ∷ []) new (Some (n, i)) unmet n i called
  makes_called k new unmet n i called waiting y inside absent room makes =
      let r = waiting.pair.row in
      let keeps = waiting.working.logged.keeps in
      let same : live_count d rows ≡ kept_live d k.rows = same_live d g laws k (Some (n, i)) rows keeps in
      record {
        working = makes_row d g laws limits limit start log k new (Some (n, i)) (Some (n, i)) unmet waiting.working (λ p e. e) y
            (inr (
              r.name,
              record {
                row = r;
                number = i;
                clause = waiting.pair.clause;
                there = found_at d g laws rows keeps.own n r waiting.pair.at;
                is_live = waiting.pair.live;
                is_clause = waiting.pair.is_clause;
                names = subst (IsIn y) (sym waiting.pair.calls) inside;
              },
            ))
            (absent_find d g laws k (Some (n, i)) rows keeps y absent) (omega arith) makes;
        pair =
            record {
              row = r;
              at = ap (λ (w : Work d). item w.rows n) (after_push d g limit start log (Made y)) ∙ push_before rows (new_row d y) r n waiting.pair.at;
              live = waiting.pair.live;
              clause = waiting.pair.clause;
              is_clause = waiting.pair.is_clause;
              calls = waiting.pair.calls;
            };
      }

  -- Theorem: an entry's name without a row gets one.
  pub makes_entry : (k new : Keeping d) (unmet : ℕ → ℕ → Bool) → IsWorking d g limits limit start log k None None unmet → (y : NameOf d)
      → IsIn y g.entries
      → ((j : ℕ) → IsNamed d k.rows j y → ⊥) → kept_live d k.rows < limit → Makes d g k new y
      → IsWorking d g limits limit start (log ++ Made y ∷ []) new None None unmet
  makes_entry k new unmet working y inside absent room makes =
      let same : live_count d rows ≡ kept_live d k.rows = same_live d g laws k None rows working.logged.keeps in
      makes_row d g laws limits limit start log k new None None unmet working (λ p e. e) y (inl inside)
      (absent_find d g laws k None rows working.logged.keeps y absent) (omega arith) makes

  -- the calls of the pair are the rows of the names that have one
  closes : (k new : Keeping d) (unmet : ℕ → ℕ → Bool) (n i : ℕ) (called : List (NameOf d)) (found : ℕ → Bool) (full : Bool)
      → IsWaiting d g limits limit start log k (Some (n, i)) unmet n i called
      → SetsCalls d k new n i found → Links d k.rows called found [] full → IsLogged d g limits limit start log new None
  closes k new unmet n i called found full waiting set linked =
      sets d g laws limits limit start log k new n i waiting.working.logged waiting.pair.row waiting.pair.at
      waiting.pair.clause waiting.pair.is_clause found set
      (λ j t. let (y, inside, named) = linked.sound j t in is_named d k.rows j y named)
      (λ j y named. subst (λ ns. (found j ≡ true) ↔ IsIn y ns) (sym waiting.pair.calls)
      (links_right d k.rows called [] found full linked (one_row d g laws limits limit start log k (Some (n, i)) waiting.working.logged)
      (λ z e. absurd e) j y named))

  -- Theorem: where each called name has a row, the pair waits no more, but that the row may be dormant.
  pub meets : (k : Keeping d) (open_pair : Option (ℕ × ℕ)) (unmet : ℕ → ℕ → Bool) (n i : ℕ) (called : List (NameOf d)) (found : ℕ → Bool)
      → IsWaiting d g limits limit start log k open_pair unmet n i called
      → Links d k.rows called found [] false → IsMetBut d g (with_pair n (suc i) no_pair) unmet rows
  meets k open_pair unmet n i called found waiting linked =
      waits_no_more d g laws rows n i unmet waiting.working.met waiting.pair.row waiting.pair.at
      (λ y inside. at y (linked.whole y (subst (IsIn y) waiting.pair.calls inside)))
    where
      at : (y : NameOf d) → ((j : ℕ) × (found j ≡ true) × IsNamed d k.rows j y) ⊎ (⊥ ⊎ ((false ≡ true) × ((j : ℕ) → IsNamed d k.rows j y → ⊥)))
          → (q : WorkRow d) × (find d rows y ≡ Some q)
      at y (inl (j, t, named)) = let (q, f, place) = named_find d g laws k open_pair rows waiting.working.logged.keeps j y named in (q, f)
      at y (inr (inl e)) = absurd e
      at y (inr (inr h)) = let l : false ≡ true = h.0 in cc

  -- the pair is of a live row
  pending_pair : (k : Keeping d) (open_pair : Option (ℕ × ℕ)) (n i : ℕ) (called : List (NameOf d)) → Keeps d g k open_pair rows
      → HasCalled d g rows n i called → (a m : ℕ) → with_pair n (suc i) no_pair a m ≡ true → is_live d k.rows a ≡ true
  pending_pair k open_pair n i called keeps pair a m e =
      ap (is_live d k.rows) (eqb-true a n (first (nat_eq a n) (nat_eq m (suc i)) (or_no (nat_eq a n && nat_eq m (suc i)) e)))
      ∙ live_at d g laws k open_pair rows keeps n pair.row pair.at ∙ pair.live
    where
      first : (p q : Bool) → (p && q) ≡ true → p ≡ true
      first true q e = refl
      first false q e = cc

      or_no : (p : Bool) → (p || false) ≡ true → p ≡ true
      or_no true e = refl
      or_no false e = cc

  pub ends_met : (k : Keeping d) (unmet : ℕ → ℕ → Bool) (n i : ℕ) (called : List (NameOf d)) (found : ℕ → Bool)
      → IsWaiting d g limits limit start log k None unmet n i called
      → Links d k.rows called found [] false → IsWaking d g limits limit start log k (with_pair n (suc i) no_pair) unmet
  ends_met k unmet n i called found waiting linked =
      record {
        logged = waiting.working.logged;
        none_due = waiting.working.none_due;
        met = meets k None unmet n i called found waiting linked;
        full = waiting.working.full;
        pairs = pending_pair k None n i called waiting.working.logged.keeps waiting.pair;
      }

  pub closes_met : (k new : Keeping d) (unmet : ℕ → ℕ → Bool) (n i : ℕ) (called : List (NameOf d)) (found : ℕ → Bool)
      → IsWaiting d g limits limit start log k (Some (n, i)) unmet n i called
      → SetsCalls d k new n i found → Links d k.rows called found [] false → IsWaking d g limits limit start log new (with_pair n (suc i) no_pair) unmet
  closes_met k new unmet n i called found waiting set linked =
      let logged = closes k new unmet n i called found false waiting set linked in
      record {
        logged = logged;
        none_due = waiting.working.none_due;
        met = meets k (Some (n, i)) unmet n i called found waiting linked;
        full = waiting.working.full;
        pairs = pending_pair new None n i called logged.keeps waiting.pair;
      }

  -- Theorem: where one has none and the limit is met, the pair is marked as unmet.
  pub closes_unmet : (k new : Keeping d) (unmet marked : ℕ → ℕ → Bool) (n i : ℕ) (called : List (NameOf d)) (found : ℕ → Bool)
      → IsWaiting d g limits limit start log k (Some (n, i)) unmet n i called
      → SetsCalls d k new n i found → Links d k.rows called found [] true → limit ≤ kept_live d k.rows
      → ((a m : ℕ) → marked a m ≡ ((nat_eq a n && nat_eq m (suc i)) || unmet a m))
      → IsWaking d g limits limit start log new (with_pair n (suc i) no_pair) marked
  closes_unmet k new unmet marked n i called found waiting set linked no_room marks =
      let r = waiting.pair.row in
      let keeps = waiting.working.logged.keeps in
      let same : live_count d rows ≡ kept_live d k.rows = same_live d g laws k (Some (n, i)) rows keeps in
      let (y, inside, absent) = linked.missing refl in
      let (met, full) = waits_for_ever d g laws limit rows n i unmet marked waiting.working.met waiting.working.full marks r waiting.pair.at waiting.pair.live
      (there (item (g.clauses r.name.pred) i) waiting.pair.clause waiting.pair.is_clause) (omega arith) y (subst (IsIn y) (sym waiting.pair.calls) inside)
      (λ q e. let l : None ≡ Some q = sym (absent_find d g laws k (Some (n, i)) rows keeps y absent) ∙ e in cc) in
      let logged = closes k new unmet n i called found true waiting set linked in
      record {
        logged = logged;
        none_due = waiting.working.none_due;
        met = met_but d g (with_pair n (suc i) no_pair) marked rows met;
        full = full;
        pairs = pending_pair new None n i called logged.keeps waiting.pair;
      }

  -- Theorem: where no pair of a live row is dirty and none is unmet, and each entry has a live row, the log ends.
  pub ends_here : (k : Keeping d) (unmet : ℕ → ℕ → Bool) → IsWorking d g limits limit start log k None None unmet → IsClean d k
      → ((n m : ℕ) → unmet n m ≡ false)
      → ((x : NameOf d) → IsIn x g.entries → HasLiveRow d k.rows x) → IsEnd d g (after_all d g start log)
  ends_here k unmet working clean free entries =
      ends d g laws limits limit start log k unmet working clean free
      (λ x i.
      let (j, named, live) = entries x i in
      let (q, f, place) = named_find d g laws k None rows working.logged.keeps j x named in
      (q, f, sym (live_at d g laws k None rows working.logged.keeps j q place) ∙ live))

  -- Theorem: where no pair of a live row is dirty, an entry has no live row and the limit is met, the log stops there.
  pub stops_entry : (k : Keeping d) (unmet : ℕ → ℕ → Bool) → IsWorking d g limits limit start log k None None unmet → IsClean d k
      → (x : NameOf d) → IsIn x g.entries
      → (HasLiveRow d k.rows x → ⊥) → limit ≤ kept_live d k.rows → IsStoppedLog d g limit start log x × (live_count d rows ≡ limit)
  stops_entry k unmet working clean x i absent no_room =
      let keeps = working.logged.keeps in
      let same : live_count d rows ≡ kept_live d k.rows = same_live d g laws k None rows keeps in
      stops_at_entry d g laws limits limit start log k unmet working clean x i (omega arith) (λ q e. asleep q e q.live refl)
    where
      asleep : (q : WorkRow d) → find d rows x ≡ Some q → (b : Bool) → q.live ≡ b → b ≡ false
      asleep q e false l = refl
      asleep q e true l =
          let (j, place) = place_of d g laws rows x q e in
          let (kept, f, h) = row_at d g laws k None rows working.logged.keeps j q place in
          absurd (absent (
            j,
            has_some (λ (z : KeptRow d). z.name ≡ x) (item k.rows j) kept f (h.name ∙ find_name d g laws rows x q e),
            live_at d g laws k None rows working.logged.keeps j q place ∙ l,
          ))
