use Rattle.std.proofs.Common.{◌≡◌, ◌+◌, nat_eq, List, [], None, map, vec_len, MatchOption, ap, subst, rules}
use Rattle.std.specs.List.{list_any}
use Rattle.plai_theory.specs.Domain.{Name}
use Rattle.plai_terms.specs.declared.abs.Abs.{Abs}
use Rattle.plai_terms.specs.declared.pred_key.PredKey.{PredKey}
use Rattle.plai_eval.specs.Meaning.{as_domain}
use Rattle.plai_fix_rows.specs.Tables.{key_name, kept_rows, state_of}
use Rattle.plai_fix_rows.specs.Solving.{IsPlacing}
use Rattle.plai_fix_rows.proofs.Parts.{err_any}
use Rattle.plai_fix_laws.proofs.Extended.{extends_then}
use Rattle.plai_fix_rows.proofs.Placed.{adds_then}
use Rattle.plai_fix_rows.proofs.Popped.{popped_last, popped_none}
use Rattle.plai_fix_rows.proofs.placing.place_all.Goals as goal

pub returns-in_err-full-clause-told : goal.returns-in_err-full-clause-told
returns-in_err-full-clause-told g c =
    let p = g.D.Domain.plain c.args.task.now.domain.now in
    let value_of = g.D.Domain.value_of in
    let now = state_of value_of p c.loop-name.table.rows c.loop-name.arcs in
    let names = popped_last (key_name value_of) c.loop-name.missing.items c.pop.new.self.items c.in-Some.name c.in-Some.ensures.items in
    err_any _ c.from_residual.result
    (λ begun cost unmet n i called placing.
    c.in_err-full.ensures.told begun cost unmet n i called (map (key_name value_of) c.pop.new.self.items)
    (subst (λ (ns : List (Name PredKey Abs)). IsPlacing p c.args.task.now.program.now c.args.task.now.limit begun
    (g.W.Work.entries c.loop-name.work) cost now unmet n i called
    (λ j. list_any (nat_eq j) c.loop-name.rows.items) ns c.loop-name.full) names (c.loop-name.invariant.placing begun cost unmet n i called placing)))

pub loop-name-preserved : goal.loop-name-preserved
loop-name-preserved g c =
    let p = g.D.Domain.plain c.args.task.now.domain.now in
    let value_of = g.D.Domain.value_of in
    let old = state_of value_of p c.args.table.now.rows c.args.arcs.now in
    let now = state_of value_of p c.loop-name.table.rows c.loop-name.arcs in
    let new = state_of value_of p c.place_next.new.table.rows c.place_next.new.arcs in
    let names = popped_last (key_name value_of) c.loop-name.missing.items c.pop.new.self.items c.in-Some.name c.in-Some.ensures.items in
    record {
      placing = λ begun cost unmet n i called placing.
          c.in_ok-full.ensures.placing begun cost unmet n i called (map (key_name value_of) c.pop.new.self.items)
          (subst (λ (ns : List (Name PredKey Abs)). IsPlacing p c.args.task.now.program.now c.args.task.now.limit begun
          (g.W.Work.entries c.loop-name.work) cost now unmet n i called
          (λ j. list_any (nat_eq j) c.loop-name.rows.items) ns c.loop-name.full) names (c.loop-name.invariant.placing begun cost unmet n i called placing));
      of_rows = c.in_ok-full.ensures.of_rows;
      adds = adds_then (as_domain p) c.args.task.now.limit old now new c.loop-name.invariant.adds c.in_ok-full.ensures.adds;
      extends = extends_then (as_domain p) (kept_rows value_of p c.args.table.now.rows) (kept_rows value_of p c.loop-name.table.rows)
          (kept_rows value_of p c.place_next.new.table.rows)
          c.loop-name.invariant.extends c.in_ok-full.ensures.extends;
      queued = λ q. c.in_ok-full.ensures.queued (c.loop-name.invariant.queued q);
    }

pub returns-clause-placing : goal.returns-clause-placing
returns-clause-placing g c =
    let p = g.D.Domain.plain c.args.task.now.domain.now in
    let value_of = g.D.Domain.value_of in
    let now = state_of value_of p c.loop-name.table.rows c.loop-name.arcs in
    let none : c.pop.result ≡ None = search rules in
    let length_is : (vec_len c.loop-name.missing ≡ 0) × (vec_len c.pop.new.self ≡ 0) =
    subst (λ o. MatchOption o ((vec_len c.loop-name.missing ≡ 0) × (vec_len c.pop.new.self ≡ 0))
    (λ _. vec_len c.pop.new.self + 1 ≡ vec_len c.loop-name.missing)) none c.pop.ensures.cases in
    let empty : c.loop-name.missing.items ≡ [] =
    popped_none c.loop-name.missing.items c.pop.new.self.items (vec_len c.loop-name.missing) c.pop.result none length_is.0 c.pop.ensures.items
    c.pop.ensures.rest in
    λ begun cost unmet n i called placing.
    subst (λ (ns : List (Name PredKey Abs)). IsPlacing p c.args.task.now.program.now c.args.task.now.limit begun
    (g.W.Work.entries c.loop-name.work) cost now unmet n i called
    (λ j. list_any (nat_eq j) c.loop-name.rows.items) ns c.loop-name.full) (ap (map (key_name value_of)) empty)
    (c.loop-name.invariant.placing begun cost unmet n i called placing)
