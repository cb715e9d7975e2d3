use Rattle.std.proofs.Common.{◌<◌, ◌∙◌, ◌⊎◌, inl, inr, ℕ, sym, subst}
use Rattle.plai_theory.specs.Words.{IsIn}
use Rattle.plai_arcs.specs.Arcs.{is_call}
use Rattle.plai_repair.specs.Lost.{LosesAt, AreLost}
use Rattle.plai_repair.proofs.Spread.{spreads_all}
use Rattle.plai_repair.proofs.gathering.lost_rows.Goals as goal

pub spread-requires-clause-within : goal.spread-requires-clause-within
spread-requires-clause-within g c =
    λ r k q t. let long = c.in_ok-gather_lost.ensures.long ∙ c.in_ok-gathered.ensures.size ∙ c.len.ensures.len in
    subst (λ (n : ℕ). r < n) (sym long) (c.requires.within r k q t)

pub returns : goal.returns
returns g c =
    let long = c.in_ok-gather_lost.ensures.long ∙ c.in_ok-gathered.ensures.size ∙ c.len.ensures.len in
    let loses = LosesAt c.args.before.now c.args.after.now c.args.table.now.rows in
    subst (λ (n : ℕ). AreLost loses (is_call c.args.arcs.now) n c.spread.new.gathered.marks.items) long
    (spreads_all (is_call c.args.arcs.now) c.gather_lost.new.gathered.rows.items c.in_ok-spread.ensures
    (λ j i. at j (c.in_ok-gather_lost.ensures.sound j i))
    (λ j l. c.in_ok-gather_lost.ensures.whole j l))
  where
    at : (j : ℕ) → IsIn j c.in_ok-gathered.gathered.rows.items ⊎ LosesAt c.args.before.now c.args.after.now c.args.table.now.rows j
        → LosesAt c.args.before.now c.args.after.now c.args.table.now.rows j
    at j (inl i) = absurd (subst (IsIn j) c.in_ok-gathered.ensures.rows i)
    at j (inr l) = l
