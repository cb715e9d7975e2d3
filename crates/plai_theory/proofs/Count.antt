-- Rows against the limit: what a stop shows, and that a table that ends has no more rows than the limit.
use Rattle.std.proofs.Common.{◌≡◌, ℕ, suc, ◌+◌, ◌≤◌, true, false, List, [], ◌∷◌, map, length, Some, None, sym, refl, ap, ◌∙◌, subst, inl, inr, arith, le_refl}
use Rattle.std.proofs.lemmas.List.{length-map}
use Rattle.plai_theory.specs.Words.{IsIn, AreDistinct}
use Rattle.plai_theory.specs.Domain.{Domain, Program, IsLawful}
use Rattle.plai_theory.specs.Evaluation.{Source, NameOf, name_of}
use Rattle.plai_theory.specs.Stages.{Reaches, IsSettled, stage, IsFromBelow}
use Rattle.plai_theory.specs.LeastTable.{Row, Order, IsLeastTable, IsSnapshot, IsStrictOrder}
use Rattle.plai_theory.specs.Tables.{IsClosed, source_of, HasName, IsDistinct}
use Rattle.plai_theory.specs.Rounds.{IsMade}
use Rattle.plai_theory.specs.LegalWork.{WorkRow, Work, find, present_source, live_count, NoneDue, IsDemanded, IsLegalLog, after_all, IsEnd, LogEntry, IsNeeded}
use Rattle.plai_theory.specs.Count.{HaveOwnNames}
use Rattle.plai_theory.proofs.Stages.{reach_from}
use Rattle.plai_theory.proofs.Least.{settled}
use Rattle.plai_theory.proofs.Tables.{reach_below_row, closed_at, reach_rows}
use Rattle.plai_theory.proofs.Rounds.{from_below, made_low}
use Rattle.plai_theory.proofs.Same.{least_closed, distinct_from_ordered}
use Rattle.plai_theory.proofs.Near.{IsNear}
use Rattle.plai_theory.proofs.Invariant.{Inv, settle, near_demanded}
use Rattle.plai_theory.proofs.Logs.{log_keeps, need_met, reached_needed, end_settled, done}
use Rattle.plai_theory.proofs.LiveNames.{live_names, count_live, live_found, live_distinct, live_length, distinct_within}
use Rattle.plai_theory.proofs.WithinLimit.{limit_log}

module _ (d : Domain) (g : Program d) (laws : IsLawful d g) where
  -- Theorem: where work ends with at most `limit` live rows, the least table has at most so many rows.
  pub rows_within : (before : Order d) (w : Work d) → Inv d g w.rows w.last → IsEnd d g w → (limit : ℕ) → live_count d w.rows ≤ limit
      → (names : List (NameOf d)) → AreDistinct names → (N : ℕ) (rows : List (Row d)) → ((n : ℕ) → N ≤ n → IsSnapshot d g before n rows)
      → ((x : NameOf d) → IsIn x names → HasName d rows x) → length names ≤ limit
  rows_within before w inv end limit room names distinct N rows least within =
      let low : IsFromBelow d g (present_source d w.rows) = (done d g laws w inv end).low in
      let n : ℕ = low.0 + N in
      let k : length names ≤ live_count d w.rows = count_live d g laws w.rows names distinct (λ x i.
      let (r, j, e) = within x i in
      need_met d g laws w inv end x (subst (λ (a : NameOf d). IsNeeded d g w.rows a) e
      (reached_needed d g laws w inv end
      (reach_from d g (stage d g n) (present_source d w.rows) (settled d g laws (present_source d w.rows) low (end_settled d g laws w inv end) n (omega arith))
      ((least n (omega arith)).sound r j).0)))) in
      omega arith

  -- Theorem: where a name is demanded that is no live row, it and the live rows are so many distinct names, each at or below one that a stage reaches.
  pub stop_shows : (rows : List (WorkRow d)) → Inv d g rows None → HaveOwnNames d rows → (x : NameOf d) → IsDemanded d g rows x
      → ((r : WorkRow d) → find d rows x ≡ Some r → r.live ≡ false)
      → (names : List (NameOf d)) × (length names ≡ suc (live_count d rows)) × AreDistinct names × ((y : NameOf d) → IsIn y names → IsNear d g y)
  stop_shows rows inv own x dem asleep = (
    x ∷ live_names d rows,
    ap suc (live_length d g laws rows),
    (λ i. (let (r, f, l) = live_found d g laws rows own x i in let c : true ≡ false = sym l ∙ asleep r f in cc), live_distinct d g laws rows own),
    near,
  )
    where
      near : (y : NameOf d) → IsIn y (x ∷ live_names d rows) → IsNear d g y
      near y (inl e) = subst (λ (a : NameOf d). IsNear d g a) e (near_demanded d g laws rows inv x dem)
      near y (inr i) = let (r, f, l) = live_found d g laws rows own y i in inv.near_live y r f l

  -- Theorem: a name that is near lies at or below a row's name of the least table.
  pub near_row : (before : Order d) → IsStrictOrder d before → (N : ℕ) (rows : List (Row d)) → ((n : ℕ) → N ≤ n → IsSnapshot d g before n rows)
      → (x : NameOf d) → IsNear d g x → (w : d.Value) × HasName d rows (name_of d x.pred w) × d.leq x.pred x.call w
  near_row before order N rows least x near =
      let (w, has, le) = reach_below_row d g laws rows (least_closed d g laws before order rows N least) near.number near.steps (name_of d x.pred near.above)
      near.reached in
      (w, has, laws.trans near.le le)

  -- the rows of the least table are reached under every settled source from below
  pub table_reached : (s : Source d) (low : IsFromBelow d g s) → IsSettled d g s → (before : Order d) (N : ℕ) (rows : List (Row d))
      → ((n : ℕ) → N ≤ n → IsSnapshot d g before n rows) → (x : NameOf d) → HasName d rows x → (k : ℕ) × Reaches d g s k x
  table_reached s low done before N rows least x (r, j, e) = (
    low.0 + N,
    subst (λ (a : NameOf d). Reaches d g s (low.0 + N) a) e
        (reach_from d g (stage d g (low.0 + N)) s (settled d g laws s low done (low.0 + N) (omega arith)) ((least (low.0 + N) (omega arith)).sound r j).0),
  )

-- the names of distinct rows are distinct
name_in : (d : Domain) (rows : List (Row d)) (x : NameOf d) → IsIn x (map (λ r. r.name) rows) → HasName d rows x
name_in d [] x i = absurd i
name_in d (r ∷ rows) x (inl e) = (r, inl refl, e)
name_in d (r ∷ rows) x (inr i) = let (q, j, e) = name_in d rows x i in (q, inr j, e)

names_distinct : (d : Domain) (rows : List (Row d)) → IsDistinct d rows → AreDistinct (map (λ (r : Row d). r.name) rows)
names_distinct d [] h = tt
names_distinct d (r ∷ rows) h = ((λ i. let (q, j, e) = name_in d rows r.name i in h.0 q j (sym e)), names_distinct d rows h.1)

module _ (d : Domain) (g : Program d) (laws : IsLawful d g) (before : Order d) (order : IsStrictOrder d before) (rows : List (Row d))
    (least : IsLeastTable d g before rows) where
  -- Theorem: a log that ends shows that the least table has at most `limit` rows.
  pub end_within : (limit : ℕ) (open' : Work d) → Inv d g open'.rows open'.last → HaveOwnNames d open'.rows → live_count d open'.rows ≤ limit
      → (es : List (LogEntry d)) → IsLegalLog d g limit open' es → IsEnd d g (after_all d g open' es) → length rows ≤ limit
  end_within limit open' inv0 own room es legal end =
      let w : Work d = after_all d g open' es in
      let k : length (map (λ (r : Row d). r.name) rows) ≤ limit =
      rows_within d g laws before (after_all d g open' es) (log_keeps d g laws limit open' es inv0 legal) end limit
      (limit_log d g laws limit open' es own room legal).0 (map (λ r. r.name) rows)
      (names_distinct d rows (distinct_from_ordered d before order rows (least.1 least.0 (le_refl _)).ordered)) least.0 rows least.1 (name_in d rows) in
      rw length-map at k

  -- Theorem: where a name is demanded that is no live row, more names than there are live rows lie at or below those of the least table.
  pub stop_cause : (limit : ℕ) (open' : Work d) → Inv d g open'.rows open'.last → HaveOwnNames d open'.rows → live_count d open'.rows ≤ limit
      → (es : List (LogEntry d)) → IsLegalLog d g limit open' es → NoneDue d g (after_all d g open' es) → (x : NameOf d)
      → IsDemanded d g (after_all d g open' es).rows x → ((r : WorkRow d) → find d (after_all d g open' es).rows x ≡ Some r → r.live ≡ false)
      → (names : List (NameOf d)) × (length names ≡ suc (live_count d (after_all d g open' es).rows)) × AreDistinct names
      × ((y : NameOf d) → IsIn y names → (v : d.Value) × HasName d rows (name_of d y.pred v) × d.leq y.pred y.call v)
  stop_cause limit open' inv0 own room es legal none x dem asleep =
      let w : Work d = after_all d g open' es in
      let inv : Inv d g (after_all d g open' es).rows (after_all d g open' es).last = log_keeps d g laws limit open' es inv0 legal in
      let (names, long, distinct, near) = stop_shows d g laws (after_all d g open' es).rows (settle d g laws (after_all d g open' es) inv none)
      (limit_log d g laws limit open' es own room legal).1 x dem asleep in
      (names, long, distinct, λ y i. near_row d g laws before order least.0 rows least.1 y (near y i))

  -- Theorem: rounds that make a closed table have at least as many rows as the least table.
  pub rounds_within : (made : List (Row d)) → IsMade d g made → IsClosed d g made → length rows ≤ length made
  rounds_within made m closed =
      let k : length (map (λ (r : Row d). r.name) rows) ≤ length (map (λ (r : Row d). r.name) made) =
      distinct_within d g laws (map (λ (r : Row d). r.name) made) (map (λ (r : Row d). r.name) rows)
      (names_distinct d rows (distinct_from_ordered d before order rows (least.1 least.0 (le_refl _)).ordered)) (λ x i.
      let (n, r) = table_reached d g laws (source_of d made) (from_below d g laws made (made_low d g laws m))
      (λ k x r c i. (closed_at d g laws made closed).answers x.pred x.call (reach_rows d g laws made closed r) c i)
      before least.0 rows least.1 x (name_in d rows x i) in
      in_names made x (reach_rows d g laws made closed r)) in
      rw (length-map, length-map) at k
    where
      in_names : (others : List (Row d)) (x : NameOf d) → HasName d others x → IsIn x (map (λ (r : Row d). r.name) others)
      in_names [] x (r, i, e) = i
      in_names (q ∷ others) x (r, inl f, e) = inl (ap (λ (a : Row d). a.name) f ∙ e)
      in_names (q ∷ others) x (r, inr i, e) = inr (in_names others x (r, i, e))

  -- Theorem: each row that rounds make lies at or below a row of the least table.
  pub rounds_below : (made : List (Row d)) → IsMade d g made → (r : Row d) → IsIn r made
      → (v : d.Value) × HasName d rows (name_of d r.name.pred v) × d.leq r.name.pred r.name.call v
  rounds_below made m r i = near_row d g laws before order least.0 rows least.1 r.name ((made_low d g laws m).each r i).near
