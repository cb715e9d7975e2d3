-- Where legal work begins, ends and stops.
use Rattle.std.proofs.Common.{◌≡◌, ℕ, zero, suc, ◌≤◌, Bool, true, false, cond, ◌+◌, List, [], ◌∷◌, Some, None, IsSome, sym, refl, ◌∙◌, subst, inl, inr, arith}
use Rattle.plai_theory.specs.Words.{IsIn, item}
use Rattle.plai_theory.specs.Domain.{Domain, Program, IsLawful}
use Rattle.plai_theory.specs.Evaluation.{NameOf}
use Rattle.plai_theory.specs.LegalWork.{WorkRow, Work, LogEntry, find, IsDemanded, live_count, no_work, after_all, IsEnd}
use Rattle.plai_theory.specs.Limits.{Limits}
use Rattle.plai_theory.specs.Claims.{IsStoppedLog}
use Rattle.plai_theory.proofs.Rows.{find_name}
use Rattle.plai_fix_laws.specs.WorkStates.{Keeping, AtBoth, KeepsRow, IsClean}
use Rattle.plai_fix_laws.specs.Logs.{Opens, IsWorking}
use Rattle.plai_fix_laws.proofs.Places.{place_of, found_at, have}
use Rattle.plai_fix_laws.proofs.Steps.{row_at}
use Rattle.plai_fix_laws.proofs.Linked.{live_at}

-- no rows are an opening
pub nothing_opens : (d : Domain) (g : Program d) (k : Keeping d) → k.rows ≡ [] → ((n m : ℕ) → k.dirty n m ≡ false)
    → ((n m j : ℕ) → k.calls n m j ≡ false) → Opens d g (no_work d) k
nothing_opens d g k none clean silent =
    record {
      last = refl;
      keeps =
          record {
            own = tt;
            each = λ a. subst (λ rs. AtBoth (KeepsRow d g k None a) (item rs a) (item [] a)) (sym none) tt;
            dirty_rows = λ n m e. let l : true ≡ false = sym e ∙ clean n m in cc;
            calls_rows = λ n m j e. let l : true ≡ false = sym e ∙ silent n m j in cc;
          };
      values = record { names = λ x r e. cc; answers = λ x r e. cc; calls = λ x r e. cc };
      dormant = λ n r e. cc;
      met = λ n r e. cc;
    }

dead : (b : Bool) (n : ℕ) → b ≡ false → cond b 1 0 + n ≡ n
dead true n e = cc
dead false n e = omega arith

none_live : (d : Domain) (rows : List (WorkRow d)) → ((n : ℕ) (r : WorkRow d) → item rows n ≡ Some r → r.live ≡ false) → live_count d rows ≡ 0
none_live d [] h = refl
none_live d (r ∷ rows) h =
    dead r.live (live_count d rows) (h zero r refl) ∙ none_live d rows (λ n. h (suc n))

-- Theorem: work begins at each opening.
pub begins : (d : Domain) (g : Program d) (limits : Limits d) (limit : ℕ) (start : Work d) (k : Keeping d) (unmet : ℕ → ℕ → Bool) → Opens d g start k
    → ((n m : ℕ) → unmet n m ≡ false) → IsWorking d g limits limit start [] k None None unmet
begins d g limits limit start k unmet opens free =
    record {
      logged =
          record {
            legal = tt;
            fits = tt;
            keeps = opens.keeps;
            few = let n = none_live d start.rows opens.dormant in omega arith;
            values = opens.values;
          };
      none_due = λ x i e. let l : None ≡ Some (x, i) = sym opens.last ∙ e in cc;
      met = record {
        met = λ n r e i c s clean shut free' y inside.
            let (q, f) = opens.met n r e i c s clean y inside in
            (q, f, λ l. let a : true ≡ false = sym l ∙ opens.dormant n r e in cc);
      };
      full =
          record {
            full = λ n m e. let l : true ≡ false = sym e ∙ free n m in cc;
            pairs = λ n m e. let l : true ≡ false = sym e ∙ free n m in cc;
            missing = λ n r e i clean mark. let l : true ≡ false = sym mark ∙ free n (suc i) in cc;
          };
    }

module _ (d : Domain) (g : Program d) (laws : IsLawful d g) (limits : Limits d) (limit : ℕ) (start : Work d) (log : List (LogEntry d)) (k : Keeping d)
    (unmet : ℕ → ℕ → Bool)
    (working : IsWorking d g limits limit start log k None None unmet) (clean : IsClean d k) where
  abbrev rows : List (WorkRow d)
  rows = (after_all d g start log).rows

  is_clean : (n : ℕ) (r : WorkRow d) → item rows n ≡ Some r → r.live ≡ true → (i : ℕ) (c : d.Clause) → item (g.clauses r.name.pred) i ≡ Some c
      → r.dirty i ≡ false
  is_clean n r at live i c s =
      let (kept, e, h) = row_at d g laws k None rows working.logged.keeps n r at in
      sym (h.dirty i c s) ∙ clean n (suc i) (live_at d g laws k None rows working.logged.keeps n r at ∙ live)

  -- Theorem: where no pair of a live row is dirty and none is unmet, and each entry has a live row, the log ends.
  pub ends : ((n m : ℕ) → unmet n m ≡ false) → ((x : NameOf d) → IsIn x g.entries → (q : WorkRow d) × (find d rows x ≡ Some q) × (q.live ≡ true))
      → IsEnd d g (after_all d g start log)
  ends free entries =
      record {
        none_due = working.none_due;
        clean = λ x r e live i c s.
            let (n, at) = place_of d g laws rows x r e in
            is_clean n r at live i c (subst (λ (y : NameOf d). item (g.clauses y.pred) i ≡ Some c) (sym (find_name d g laws rows x r e)) s);
        met = met;
      }
    where
      met : (x : NameOf d) → IsDemanded d g rows x → (r : WorkRow d) × (find d rows x ≡ Some r) × (r.live ≡ true)
      met x (inl i) = entries x i
      met x (inr (m, rec)) =
          let (n, at) = place_of d g laws rows m rec.row rec.there in
          let s : item (g.clauses rec.row.name.pred) rec.number ≡ Some rec.clause =
          subst (λ (y : NameOf d). item (g.clauses y.pred) rec.number ≡ Some rec.clause) (sym (find_name d g laws rows m rec.row rec.there))
          rec.is_clause in
          let (q, f, l) = working.met.met n rec.row at rec.number rec.clause s (is_clean n rec.row at rec.is_live rec.number rec.clause s) (λ p. cc)
          (free n (suc rec.number)) x rec.names in
          (q, f, l rec.is_live)

  -- Theorem: where no pair of a live row is dirty and one is unmet, the limit is met and the log stops at a demanded name that is no live row.
  pub stops : (n m : ℕ) → unmet n m ≡ true → (x : NameOf d) × IsStoppedLog d g limit start log x × (live_count d rows ≡ limit)
  stops n zero mark = let (r, at, live, real) = working.full.pairs n zero mark in let h : IsSome {T = d.Clause} None = real in cc
  stops n (suc i) mark =
      let (r, at, live, real) = working.full.pairs n (suc i) mark in
      let (c, s) = have (item (g.clauses r.name.pred) i) real in
      let (y, inside, dead) = working.full.missing n r at i (is_clean n r at live i c s) mark in
      let few = working.logged.few in
      let no_room = working.full.full n (suc i) mark in (
        y,
        record {
          legal = working.logged.legal;
          none_due = working.none_due;
          demanded = inr (
            r.name,
            record {
              row = r;
              number = i;
              clause = c;
              there = found_at d g laws rows working.logged.keeps.own n r at;
              is_live = live;
              is_clause = s;
              names = inside;
            },
          );
          not_live = dead;
        },
        omega arith,
      )

  -- the same at an entry
  pub stops_at_entry : (x : NameOf d) → IsIn x g.entries → limit ≤ live_count d rows → ((q : WorkRow d) → find d rows x ≡ Some q → q.live ≡ false)
      → IsStoppedLog d g limit start log x × (live_count d rows ≡ limit)
  stops_at_entry x i no_room dead =
      let few = working.logged.few in (record { legal = working.logged.legal; none_due = working.none_due; demanded = inl i; not_live = dead }, omega arith)
