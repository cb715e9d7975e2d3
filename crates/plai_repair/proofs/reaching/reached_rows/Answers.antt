use Rattle.std.proofs.Common.{◌≡◌, ◌∙◌, ◌⊎◌, inl, inr, ℕ, true, subst}
use Rattle.plai_theory.specs.Words.{IsIn}
use Rattle.plai_arcs.specs.Arcs.{is_call}
use Rattle.plai_repair.specs.Lost.{AreLost}
use Rattle.plai_repair.specs.Gathering.{turned}
use Rattle.plai_repair.specs.Reached.{entry_at}
use Rattle.plai_repair.proofs.Spread.{spreads_all}
use Rattle.plai_repair.proofs.Reaches.{all_reached}
use Rattle.plai_repair.proofs.reaching.reached_rows.Goals as goal

pub returns : goal.returns
returns g c =
    let long = c.in_ok-gather_entries.ensures.long ∙ c.in_ok-gathered.ensures.size ∙ c.len.ensures.len in
    let entry = entry_at c.args.table.now.rows in
    let marks = c.spread_called.new.gathered.marks.items in
    all_reached entry (is_call c.args.arcs.now) _ marks
    (subst (λ (n : ℕ). AreLost (λ j. entry j ≡ true) (turned (is_call c.args.arcs.now)) n marks) long
    (spreads_all (turned (is_call c.args.arcs.now)) c.gather_entries.new.gathered.rows.items c.in_ok-spread_called.ensures
    (λ j i. at j (c.in_ok-gather_entries.ensures.sound j i))
    (λ j t. c.in_ok-gather_entries.ensures.whole j t)))
  where
    at : (j : ℕ) → IsIn j c.in_ok-gathered.gathered.rows.items ⊎ (entry_at c.args.table.now.rows j ≡ true) → entry_at c.args.table.now.rows j ≡ true
    at j (inl i) = absurd (subst (IsIn j) c.in_ok-gathered.ensures.rows i)
    at j (inr t) = t
