use Rattle.std.proofs.Common.{◌≡◌, ◌+◌, ◌∷◌, [], ◌++◌, None, map, vec_len, MatchOption, sym, ap, subst, rules}
use Rattle.plai_theory.specs.Words.{IsIn}
use Rattle.plai_eval.specs.Meaning.{as_domain, as_program}
use Rattle.plai_fix_rows.specs.Tables.{key_name, kept_rows}
use Rattle.plai_fix_laws.proofs.LookedUp.{in_left, in_last}
use Rattle.plai_fix_rows.proofs.OpenedRows.{AreOpening, opening_none, opening_more}
use Rattle.plai_fix_rows.proofs.Popped.{popped_last, popped_none}
use Rattle.plai_fix_rows.proofs.entries.place_entries.Goals as goal

pub place_entry-requires-clause-entry : goal.place_entry-requires-clause-entry
place_entry-requires-clause-entry g c =
    let value_of = g.D.Domain.value_of in
    let y = key_name value_of c.in-Some.key in
    let left = map (key_name value_of) c.pop.new.self.items in
    let names : map (key_name value_of) c.loop-key.keys.items ≡ left ++ y ∷ [] =
    popped_last (key_name value_of) c.loop-key.keys.items c.pop.new.self.items c.in-Some.key c.in-Some.ensures.items in
    c.loop-key.invariant.inside y (subst (IsIn y) (sym names) (in_last left y))

pub loop-key-preserved : goal.loop-key-preserved
loop-key-preserved g c =
    let p = g.D.Domain.plain c.args.task.now.domain.now in
    let value_of = g.D.Domain.value_of in
    let program = c.args.task.now.program.now in
    let limit = c.args.task.now.limit in
    let y = key_name value_of c.in-Some.key in
    let left = map (key_name value_of) c.pop.new.self.items in
    let names : map (key_name value_of) c.loop-key.keys.items ≡ left ++ y ∷ [] =
    popped_last (key_name value_of) c.loop-key.keys.items c.pop.new.self.items c.in-Some.key c.in-Some.ensures.items in
    record {
      at_work = λ begun cost w. c.in_ok-place_entry.ensures.at_work begun cost (c.loop-key.invariant.at_work begun cost w);
      of_rows = c.in_ok-place_entry.ensures.of_rows;
      opening = opening_more (as_domain p) (as_program p program) limit (kept_rows value_of p c.loop-key.table.rows)
          (kept_rows value_of p c.place_entry.new.table.rows) y left c.in_ok-place_entry.ensures.extends c.in_ok-place_entry.ensures.live
          (subst (AreOpening (as_domain p) (as_program p program) limit (kept_rows value_of p c.loop-key.table.rows)) names c.loop-key.invariant.opening);
      inside = λ x i. c.loop-key.invariant.inside x (subst (IsIn x) (sym names) (in_left left (y ∷ []) x i));
      queued = λ q. c.in_ok-place_entry.ensures.queued (c.loop-key.invariant.queued q);
    }

pub returns-clause-opened : goal.returns-clause-opened
returns-clause-opened g c =
    let p = g.D.Domain.plain c.args.task.now.domain.now in
    let value_of = g.D.Domain.value_of in
    let none : c.pop.result ≡ None = search rules in
    let length_is : (vec_len c.loop-key.keys ≡ 0) × (vec_len c.pop.new.self ≡ 0) =
    subst (λ o. MatchOption o ((vec_len c.loop-key.keys ≡ 0) × (vec_len c.pop.new.self ≡ 0))
    (λ _. vec_len c.pop.new.self + 1 ≡ vec_len c.loop-key.keys)) none c.pop.ensures.cases in
    let empty : c.loop-key.keys.items ≡ [] =
    popped_none c.loop-key.keys.items c.pop.new.self.items (vec_len c.loop-key.keys) c.pop.result none length_is.0 c.pop.ensures.items c.pop.ensures.rest in
    opening_none (as_domain p) (as_program p c.args.task.now.program.now) c.args.task.now.limit (kept_rows value_of p c.loop-key.table.rows)
    (map (key_name value_of) c.loop-key.keys.items)
    (ap (map (key_name value_of)) empty) c.loop-key.invariant.opening
