-- Evaluations that are over: monotony, and what tables and logs say of it.
use Rattle.std.proofs.Common.{◌≡◌, ◌⊎◌, ℕ, zero, ◌+◌, ◌≤◌, true, false, List, [], ◌∷◌, ◌++◌, map, nat_eq, eqb-true, Option, Some, None, sym, refl, ◌∙◌, subst}
use Rattle.std.proofs.Common.{inl, inr, arith}
use Rattle.plai_theory.specs.Words.{IsIn, UpTo, item, HasSome}
use Rattle.plai_theory.specs.Domain.{Step, Goal, Do, Domain, Program, IsLawful}
use Rattle.plai_theory.specs.Evaluation.{Source, NameOf, name_of, calls_along, calls_of}
use Rattle.plai_theory.specs.Stages.{stage, Reaches, AtEntry, IsFromBelow, IsSettled}
use Rattle.plai_theory.specs.LeastTable.{Row, Order, IsSnapshot, IsStrictOrder}
use Rattle.plai_theory.specs.Tables.{source_of, HasName}
use Rattle.plai_theory.specs.LegalWork.{WorkRow, Work, Made, Woke, Evaluated, Grew, find, present_source, new_row, mentions, after_waking, after_evaluating}
use Rattle.plai_theory.specs.LegalWork.{after_growing, calls_now, next_answer, after, IsLegal, IsLegalLog, after_all, IsEnd, LogEntry}
use Rattle.plai_theory.specs.Edits.{IsOpening}
use Rattle.plai_theory.specs.Limits.{Limits, AreUpwardClosed, IsOverAlong, IsOverAt, IsOver, Fits, AllFit, CleanFit}
use Rattle.plai_theory.proofs.Options.{in_given, by_test}
use Rattle.plai_theory.proofs.Eval.{Meets, IsPart, Agree}
use Rattle.plai_theory.proofs.Stages.{stage_le, stage_below, reach_below, reach_more}
use Rattle.plai_theory.proofs.Least.{IsReached, reached_calls, closed_reach}
use Rattle.plai_theory.proofs.Near.{IsNear, below_stage, reach_stage}
use Rattle.plai_theory.proofs.Same.{table_value}
use Rattle.plai_theory.proofs.Rounds.{below_at}
use Rattle.plai_theory.proofs.Edits.{old_item, opened_agree}
use Rattle.plai_theory.proofs.Rows.{item_in, in_item, by_map, find_name}
use Rattle.plai_theory.proofs.Logs.{step, need_met, reached_needed, end_settled, done, log_keeps}
use Rattle.plai_theory.proofs.Growth.{grow_agrees}
use Rattle.plai_theory.proofs.Invariant.{Inv, by_push, present_push, present_kept}

has_up_to : {A : Type 0} (R : A → A → Type 0) (P Q : A → Type 0) (o u : Option A) → UpTo R o u → ((x y : A) → o ≡ Some x → u ≡ Some y → R x y → P x → Q y)
    → HasSome P o → HasSome Q u
has_up_to R P Q None u h k z = absurd z
has_up_to R P Q (Some x) None h k z = absurd h
has_up_to R P Q (Some x) (Some y) h k z = k x y refl refl h z

has_same : {A : Type 0} (P Q : A → Type 0) (o : Option A) → ((x : A) → o ≡ Some x → P x → Q x) → HasSome P o → HasSome Q o
has_same P Q None k z = absurd z
has_same P Q (Some x) k z = k x refl z

either : {A B C D : Type 0} → (A → C) → (B → D) → A ⊎ B → C ⊎ D
either f g (inl a) = inl (f a)
either f g (inr b) = inr (g b)

module _ (d : Domain) (g : Program d) (laws : IsLawful d g) (limits : Limits d) (mono : AreUpwardClosed d g limits) (s t : Source d) (q : d.Pred)
    (c : d.Clause) (inside : IsIn c (g.clauses q)) where
  along_le : (steps : List (Step d.Literal d.Action)) → IsPart d steps c → (a b : d.State) → d.below c a b
      → Meets d s t (calls_along d s steps a) (calls_along d t steps b) → IsOverAlong d limits s steps a → IsOverAlong d limits t steps b
  unfolding calls_along
  along_le [] part a b h m o = absurd o
  along_le (Do x ∷ rest) part a b h m o =
      either (mono.refine q c x a b inside (part _ (inl refl)) h)
      (has_up_to (d.below c) _ _ (d.refine x a) (d.refine x b) (laws.refine q c x a b inside (part _ (inl refl)) h) (λ a' b' ea eb k.
      along_le rest (λ y i. part y (inr i)) a' b' k (λ p v w i j le. m p v w (in_given _ (d.refine x a) _ a' ea i) (in_given _ (d.refine x b) _ b' eb j) le)))
      o
  along_le (Goal l ∷ rest) part a b h m o =
      let at : IsIn (Goal l) (d.body c) = part _ (inl refl) in
      either (mono.call q c l a b inside at h)
      (has_up_to (d.leq (d.callee l)) _ _ (s (d.callee l) (d.call l a)) (t (d.callee l) (d.call l b))
      (m (d.callee l) (d.call l a) (d.call l b) (inl refl) (inl refl) (laws.call q c l a b inside at h)) (λ x y ex ey xy.
      either (mono.back q c l a b x y inside at h xy)
      (has_up_to (d.below c) _ _ (d.back l a x) (d.back l b y) (laws.back q c l a b x y inside at h xy) (λ a' b' ea eb k.
      along_le rest (λ z i. part z (inr i)) a' b' k
      (λ p v w i j le. m p v w (inr (in_given _ (s (d.callee l) (d.call l a)) _ x ex (in_given _ (d.back l a x) _ a' ea i)))
      (inr (in_given _ (t (d.callee l) (d.call l b)) _ y ey (in_given _ (d.back l b y) _ b' eb j))) le)))))
      o

  pub over_le : (v w : d.Value) → d.leq q v w → Meets d s t (calls_of d s c v) (calls_of d t c w) → IsOverAt d limits s c v → IsOverAt d limits t c w
  unfolding calls_of
  over_le v w h m o =
      either (mono.enter q c v w inside h)
      (has_up_to (d.below c) _ _ (d.enter c v) (d.enter c w) (laws.enter q c v w inside h) (λ a b ea eb k.
      along_le (d.body c) (λ x i. i) a b k (λ r x y i j le. m r x y (in_given _ (d.enter c v) _ a ea i) (in_given _ (d.enter c w) _ b eb j) le)))
      o

module _ (d : Domain) (limits : Limits d) (s t : Source d) where
  along_same : (steps : List (Step d.Literal d.Action)) (a : d.State) → Agree d s t (calls_along d t steps a) → IsOverAlong d limits s steps a
      → IsOverAlong d limits t steps a
  unfolding calls_along
  along_same [] a m o = o
  along_same (Do x ∷ rest) a m o =
      either (λ z. z) (has_same _ _ (d.refine x a) (λ b e. along_same rest b (λ p v i. m p v (in_given _ (d.refine x a) _ b e i)))) o
  along_same (Goal l ∷ rest) a m o =
      either (λ z. z)
      (λ z. has_same _ _ (t (d.callee l) (d.call l a)) (λ y ey. either (λ u. u) (has_same _ _ (d.back l a y) (λ b e.
      along_same rest b (λ p v i. m p v (inr (in_given _ (t (d.callee l) (d.call l a)) _ y ey (in_given _ (d.back l a y) _ b e i)))))))
      (subst (λ (u : Option d.Value). HasSome (λ answer. limits.back l a answer ⊎ HasSome (λ next. IsOverAlong d limits s rest next) (d.back l a answer)) u)
      (m (d.callee l) (d.call l a) (inl refl)) z))
      o

  pub over_same : (c : d.Clause) (v : d.Value) → Agree d s t (calls_of d t c v) → IsOverAt d limits s c v → IsOverAt d limits t c v
  unfolding calls_of
  over_same c v m o = either (λ z. z) (has_same _ _ (d.enter c v) (λ a e. along_same (d.body c) a (λ q x i. m q x (in_given _ (d.enter c v) _ a e i)))) o

module _ (d : Domain) (g : Program d) (laws : IsLawful d g) (limits : Limits d) (mono : AreUpwardClosed d g limits) where
  -- Theorem: an evaluation that is over under a source from below, at a name that is near, shows that the program is over.
  pub near_over : (s : Source d) → IsFromBelow d g s → (x : NameOf d) → IsNear d g x → (c : d.Clause) → IsIn c (g.clauses x.pred)
      → IsOverAt d limits s c x.call → IsOver d g limits
  near_over s low x near c i o =
      let n : ℕ = near.number + (low.0 + near.steps) in
      let (w, r, le) = reach_stage d g laws near.number n (omega arith) near.reached in
      record {
        number = n;
        name = name_of d x.pred w;
        reached = reach_more d g (stage d g n) n (omega arith) r;
        clause = c;
        is_clause = i;
        over = over_le d g laws limits mono s (stage d g n) x.pred c i x.call w (laws.trans near.le le)
            (λ q u z l k uz. below_stage d g laws s low n (omega arith) q u z uz) o;
      }

  -- Theorem: where the program is over, so is an evaluation at a name that a settled source from below reaches.
  pub over_settled : (s : Source d) → IsFromBelow d g s → IsSettled d g s → IsOver d g limits
      → (x : NameOf d) × IsReached d g s x.pred x.call × ((c : d.Clause) × IsIn c (g.clauses x.pred) × IsOverAt d limits s c x.call)
  over_settled s low settled over =
      let n : ℕ = over.number in
      let under : (p : d.Pred) (v w : d.Value) → IsReached d g s p w → d.leq p v w → UpTo (d.leq p) (stage d g n p v) (s p w) =
      stage_below d g laws s (IsReached d g s) (closed_reach d g laws s low settled) n in
      let (w, r, le) = reach_below d g laws (stage d g n) s (IsReached d g s) (reached_calls d g s) (λ p v i. (zero, AtEntry i)) under over.reached in (
        name_of d over.name.pred w,
        r,
        (
          over.clause,
          over.is_clause,
          over_le d g laws limits mono (stage d g n) s over.name.pred over.clause over.is_clause over.name.call w le
              (λ q u z l k uz. under q u z (reached_calls d g s over.name.pred w r over.clause over.is_clause q z k) uz) over.over,
        ),
      )

-- what a row's pairs have to be under a source, where they aren't dirty: not over
abbrev pub RowFits : (d : Domain) → Program d → Limits d → Source d → NameOf d → WorkRow d → Type 0
RowFits d g limits s x r = (i : ℕ) (c : d.Clause) → item (g.clauses x.pred) i ≡ Some c → r.dirty i ≡ false → IsOverAt d limits s c x.call → ⊥

module _ (d : Domain) (g : Program d) (laws : IsLawful d g) (limits : Limits d) where
  fit_made : (rows : List (WorkRow d)) → CleanFit d g limits rows → (x : NameOf d) → CleanFit d g limits (rows ++ new_row d x ∷ [])
  fit_made rows fit x y r e =
      by_push d g laws (RowFits d g limits (present_source d (rows ++ new_row d x ∷ []))) rows x y r e
      (λ f i c j t o. fit y r f i c j t (over_same d limits (present_source d (rows ++ new_row d x ∷ [])) (present_source d rows) c y.call
      (λ p v k. present_push d g laws rows x p v) o))
      (λ i c j t o. let b : true ≡ false = t in cc)

  -- a change that leaves names and answers, and after which each row fits
  fit_changed : (f : WorkRow d → WorkRow d) (keeps : (r : WorkRow d) → (f r).name ≡ r.name) (answers : (r : WorkRow d) → (f r).answer ≡ r.answer)
      (rows : List (WorkRow d)) → ((x : NameOf d) (r : WorkRow d) → find d rows x ≡ Some r → RowFits d g limits (present_source d rows) x (f r))
      → CleanFit d g limits (map f rows)
  fit_changed f keeps answers rows fit y r e =
      by_map d g laws f keeps (RowFits d g limits (present_source d (map f rows)) y) rows y r e
      (λ q h i c j t o. fit y q h i c j t (over_same d limits (present_source d (map f rows)) (present_source d rows) c y.call
      (λ p v k. present_kept d g laws f keeps answers rows p v) o))

  fit_evaluated : (rows : List (WorkRow d)) → CleanFit d g limits rows → (x : NameOf d) (i : ℕ) (names : List (NameOf d))
      → ((c : d.Clause) → item (g.clauses x.pred) i ≡ Some c → IsOverAt d limits (present_source d rows) c x.call → ⊥)
      → CleanFit d g limits (map (after_evaluating d x i names) rows)
  fit_evaluated rows fit x i names now =
      fit_changed (after_evaluating d x i names) (λ r. refl) (λ r. refl) rows (λ y r f k c e t o.
      by_test (d.same_name r.name x)
      (λ z. by_test (nat_eq i k)
      (λ u. let ex : x ≡ y = sym (laws.same_true r.name x z) ∙ find_name d g laws rows y r f in
      now c (subst (λ (a : NameOf d). item (g.clauses a.pred) i ≡ Some c) (sym ex) (rw (eqb-true i k u) e))
      (subst (λ (a : NameOf d). IsOverAt d limits (present_source d rows) c a.call) (sym ex) o))
      (λ u. fit y r f k c e (rw (z, u) at t) o))
      (λ z. fit y r f k c e (rw z at t) o))

  fit_grew : (rows : List (WorkRow d)) (x : NameOf d) (i : ℕ) → Inv d g rows (Some (x, i)) → CleanFit d g limits rows
      → CleanFit d g limits (map (after_growing d x (next_answer d g rows x i)) rows)
  fit_grew rows x i inv fit y r e =
      by_map d g laws (after_growing d x (next_answer d g rows x i)) (λ r. refl)
      (RowFits d g limits (present_source d (map (after_growing d x (next_answer d g rows x i)) rows)) y) rows y r e (λ q f k c t u o.
      by_test (mentions d x (q.calls k)) (λ m. let b : true ≡ false = rw m at u in cc)
      (λ m. let dirty : q.dirty k ≡ false = rw m at u in
      fit y q f k c t dirty (over_same d limits (present_source d (map (after_growing d x (next_answer d g rows x i)) rows)) (present_source d rows) c y.call
      (grow_agrees d g laws rows x i inv y q f k c t dirty m) o)))

  fit_step : (limit : ℕ) (w : Work d) (e : LogEntry d) → Inv d g w.rows w.last → CleanFit d g limits w.rows → IsLegal d g limit w e → Fits d g limits w e
      → CleanFit d g limits (after d g w e).rows
  fit_step limit w (Made x) inv fit legal fits = fit_made w.rows fit x
  fit_step limit w (Woke x) inv fit legal fits = fit_changed (after_waking d x) (λ r. refl) (λ r. refl) w.rows fit
  fit_step limit w (Evaluated x i) inv fit legal fits = fit_evaluated w.rows fit x i (calls_now d g w.rows x i) fits
  fit_step limit w (Grew x a) inv fit (i, l, is, grows) fits =
      subst (λ (o : Option d.Value). CleanFit d g limits (map (after_growing d x o) w.rows)) (sym is)
      (fit_grew w.rows x i (subst (λ (o : Option (NameOf d × ℕ)). Inv d g w.rows o) l inv) fit)

  pub fit_log : (limit : ℕ) (w : Work d) (es : List (LogEntry d)) → Inv d g w.rows w.last → CleanFit d g limits w.rows → IsLegalLog d g limit w es
      → AllFit d g limits w es → CleanFit d g limits (after_all d g w es).rows
  fit_log limit w [] inv fit legal fits = fit
  fit_log limit w (e ∷ es) inv fit legal fits =
      fit_log limit (after d g w e) es (step d g laws limit w e inv legal.0) (fit_step limit w e inv fit legal.0 fits.0) legal.1 fits.1

  -- Theorem: where work ends and no evaluation of a clean pair is over, the program isn't.
  pub end_not_over : AreUpwardClosed d g limits → (w : Work d) → Inv d g w.rows w.last → IsEnd d g w → CleanFit d g limits w.rows → IsOver d g limits → ⊥
  end_not_over mono w inv end fit over =
      let (x, (k, r), (c, i, o)) = over_settled d g laws limits mono (present_source d w.rows) (done d g laws w inv end).low
      (end_settled d g laws w inv end) over in
      let (q, f, live) = need_met d g laws w inv end x (reached_needed d g laws w inv end r) in
      let (n, e) = in_item (g.clauses x.pred) c i in
      fit x q f n c e (end.clean x q f live n c e) o

module _ (d : Domain) (old : Program d) (new : Program d) (laws : IsLawful d old) (laws' : IsLawful d new) (limits : Limits d)
    (mono : AreUpwardClosed d old limits) (before : Order d) (order : IsStrictOrder d before) (rows : List (Row d)) (N : ℕ)
    (least : (n : ℕ) → N ≤ n → IsSnapshot d old before n rows) where
  table_below : IsFromBelow d old (source_of d rows)
  table_below = (
    N,
    λ p v is. below_at d old laws rows N (λ r i.
        rw (((least N (omega arith)).sound r i).1) (stage_le d old laws N N (omega arith) r.name.pred r.name.call r.name.call
        (table_value d old laws before order rows N least r.name (r, i, refl)))) p v,
  )

  table_near : (x : NameOf d) → HasName d rows x → IsNear d old x
  table_near x (r, i, e) =
      record {
        number = N;
        steps = N;
        above = x.call;
        reached = subst (λ (y : NameOf d). Reaches d old (stage d old N) N y) e ((least N (omega arith)).sound r i).0;
        le = table_value d old laws before order rows N least x (r, i, e);
      }

  -- Theorem: where the old program isn't over, work opened with the kept rows has no clean pair that is.
  pub opened_fit : (IsOver d old limits → ⊥) → (opened : List (WorkRow d)) → IsOpening d old new rows opened → CleanFit d new limits opened
  opened_fit fine opened o x r f i c e t over =
      let k : item (old.clauses x.pred) i ≡ Some c = old_item d old new laws laws' before order rows N least opened o x r f i c e t in
      let j : IsIn c (old.clauses x.pred) = item_in (old.clauses x.pred) i c k in
      fine (near_over d old laws limits mono (source_of d rows) table_below x (table_near x (o.kept x r f).0) c j
      (over_same d limits (present_source d opened) (source_of d rows) c x.call
      (opened_agree d old new laws laws' before order rows N least opened o x (o.kept x r f) c j) over))

module _ (d : Domain) (g : Program d) (laws : IsLawful d g) (limits : Limits d) (mono : AreUpwardClosed d g limits) where
  -- Theorem: an evaluation of a live row that is over shows that the program is.
  pub over_cause : (limit : ℕ) (open' : Work d) → Inv d g open'.rows open'.last → (es : List (LogEntry d)) → IsLegalLog d g limit open' es
      → (x : NameOf d) (r : WorkRow d) → find d (after_all d g open' es).rows x ≡ Some r → r.live ≡ true → (c : d.Clause) → IsIn c (g.clauses x.pred)
      → IsOverAt d limits (present_source d (after_all d g open' es).rows) c x.call → IsOver d g limits
  over_cause limit open' inv0 es legal x r f live c i over =
      let inv : Inv d g (after_all d g open' es).rows (after_all d g open' es).last = log_keeps d g laws limit open' es inv0 legal in
      near_over d g laws limits mono (present_source d (after_all d g open' es).rows) inv.low x (inv.near_live x r f live) c i over

  -- Theorem: a log that ends, whose evaluations are not over, shows that the program isn't.
  pub log_not_over : (limit : ℕ) (open' : Work d) → Inv d g open'.rows open'.last → CleanFit d g limits open'.rows → (es : List (LogEntry d))
      → IsLegalLog d g limit open' es → AllFit d g limits open' es → IsEnd d g (after_all d g open' es) → IsOver d g limits → ⊥
  log_not_over limit open' inv0 fit0 es legal fits end =
      end_not_over d g laws limits mono (after_all d g open' es) (log_keeps d g laws limit open' es inv0 legal) end
      (fit_log d g laws limits limit open' es inv0 fit0 legal fits)

pub nothing_fits : (d : Domain) (g : Program d) {limits : Limits d} → AreUpwardClosed d g limits → CleanFit d g limits []
nothing_fits d g mono x r f i c e t o = cc
