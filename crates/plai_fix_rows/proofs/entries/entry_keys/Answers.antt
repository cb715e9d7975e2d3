use Rattle.std.proofs.Common.{◌≡◌, ◌≤◌, All, ◌+◌, map, take, sym, ap, ◌∙◌, subst, arith}
use Rattle.std.proofs.lemmas.List.{take_all}
use Rattle.plai_theory.specs.Words.{IsIn}
use Rattle.plai_terms.specs.declared.pred_key.PredKey.{PredKey}
use Rattle.plai_domain.specs.declared.key.Key.{Key}
use Rattle.plai_domain.specs.Instances.{speaks_within}
use Rattle.plai_domain.specs.Conditions.{most_arguments}
use Rattle.plai_fix_rows.specs.Tables.{key_name}
use Rattle.plai_fix_rows.proofs.EntryKeys.{in_at, entry_pair, entries_more, key_is}
use Rattle.plai_fix_rows.proofs.entries.entry_keys.Goals as goal

pub describe-requires-clause-few : goal.describe-requires-clause-few
describe-requires-clause-few g c =
    let entry = c.entry-item.result in
    let i : IsIn entry c.entries-entry-items.result.now = in_at _ c.loop-entry.entry-index entry c.loop-entry-test.true c.entry-item.is in
    let few : entry.pred.arity ≤ most_arguments = (c.requires.entries entry (subst (IsIn entry) c.entries-entry-items.ensures i)).few in
    subst (λ (k : PredKey). k.arity ≤ most_arguments) (sym c.in_ok-pred.ensures) few

pub describe-requires-clause-within : goal.describe-requires-clause-within
describe-requires-clause-within g c =
    let entry = c.entry-item.result in
    let i : IsIn entry c.entries-entry-items.result.now = in_at _ c.loop-entry.entry-index entry c.loop-entry-test.true c.entry-item.is in
    let pre : All (speaks_within entry.pred.arity) entry.pre = (c.requires.entries entry (subst (IsIn entry) c.entries-entry-items.ensures i)).pre in
    subst (λ (k : PredKey). All (speaks_within k.arity) c.as_slice.result.now) (sym c.in_ok-pred.ensures)
    (subst (All (speaks_within entry.pred.arity)) (sym c.as_slice.ensures) pre)

pub loop-entry-preserved : goal.loop-entry-preserved
loop-entry-preserved g c =
    let p = g.D.Domain.plain c.args.task.now.domain.now in
    let value_of = g.D.Domain.value_of in
    let entry = c.entry-item.result in
    let key : Key g.row.D-Value.Denot = record { pred = c.in_ok-pred.pred; call = c.in_ok-call.call } in
    let is : key_name value_of key ≡ entry_pair p entry = key_is p entry c.in_ok-pred.pred
    (value_of c.in_ok-call.call) c.as_slice.result.now c.in_ok-pred.ensures c.as_slice.ensures c.in_ok-call.ensures in
    subst (λ items. map (key_name value_of) items ≡ map (entry_pair p) (take (c.loop-entry.entry-index + 1) c.entries-entry-items.result.now))
    (sym c.in_ok-push.ensures.items)
    (entries_more value_of p c.loop-entry.keys.items key c.entries-entry-items.result.now c.loop-entry.entry-index entry c.loop-entry-test.true
    c.entry-item.is c.loop-entry.invariant is)

pub returns : goal.returns
returns g c =
    let p = g.D.Domain.plain c.args.task.now.domain.now in
    c.loop-entry.invariant
    ∙ ap (map (entry_pair p)) (take_all c.loop-entry.entry-index c.entries-entry-items.result.now (omega arith) ∙ c.entries-entry-items.ensures)
