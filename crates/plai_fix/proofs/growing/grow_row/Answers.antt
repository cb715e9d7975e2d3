use Rattle.std.proofs.Common.{◌≡◌, ◌||◌, Bool, Some, heap_items, sym, ap, ◌∙◌, subst}
use Rattle.std.specs.List.{list_any}
use Rattle.plai_domain.specs.declared.key.Key.{Key}
use Rattle.plai_domain.specs.declared.work.WorkEntry.TheVariants as entries
use Rattle.plai_domain.specs.Names.{name_of}
use Rattle.plai_domain.specs.Noted.{noted}
use Rattle.plai_arcs.specs.Arcs.{is_dirty, is_call}
use Rattle.plai_arcs.specs.Links.{is_pair}
use Rattle.plai_eval.specs.Meaning.{as_domain}
use Rattle.plai_fix_rows.specs.Tables.{state_of}
use Rattle.plai_fix_laws.proofs.Extended.{answers_live}
use Rattle.plai_fix_rows.proofs.Makings.{answers}
use Rattle.plai_fix_rows.proofs.Parts.{one_name}
use Rattle.plai_fix_rows.proofs.Queued.{queued_more}
use Rattle.plai_fix.proofs.growing.grow_row.Goals as goal

pub returns-clause-answers : goal.returns-clause-answers
returns-clause-answers g c =
    let p = g.D.Domain.plain c.args.task.now.domain.now in
    answers _ g.D.Domain.value_of p c.args.task.now.program.now c.args.table.now.rows (is_dirty c.args.arcs.now) (is_dirty c.mark_pairs.new.arcs)
    (is_call c.args.arcs.now) (is_call c.mark_pairs.new.arcs)
    c.in_ok-mark_pairs.ensures.calls c.args.answer c.args.row
    (λ r k. c.in_ok-mark_pairs.ensures.dirty r k ∙ ap (λ (b : Bool). b || is_dirty c.args.arcs.now r k)
    (ap (list_any (is_pair r k)) c.deref.ensures.value ∙ sym (c.in_ok-callers.ensures r k)))
    c.raise.new.self.rows c.raise.ensures.rows

pub returns-clause-noted : goal.returns-clause-noted
returns-clause-noted g c = λ name e.
    subst (λ (z : Key g.row.D-Value.Denot). g.W.Work.entries c.note_grew.new.self ≡ noted
    (entries.Grew (name_of g.D.Domain.value_of z) (g.D.Domain.value_of c.args.answer)) (g.W.Work.entries c.args.work.now))
    (one_name c.args.table.now.rows c.args.row _ name c.row.ensures e) c.in_ok-note_grew.ensures.ok

pub returns-clause-queued : goal.returns-clause-queued
returns-clause-queued g c =
    let p = g.D.Domain.plain c.args.task.now.domain.now in
    let value_of = g.D.Domain.value_of in
    let old = state_of value_of p c.args.table.now.rows c.args.arcs.now in
    let new = state_of value_of p c.raise.new.self.rows c.mark_pairs.new.arcs in
    λ queued.
    queued_more (as_domain p) old new c.in_ok-callers.callers.items (heap_items c.args.queue.now) (heap_items c.push_rows.new.queue) queued
    (λ n l. sym (answers_live (as_domain p) old new c.args.row (Some (value_of c.args.answer)) (returns-clause-answers g c) n) ∙ l)
    (λ r k. c.in_ok-mark_pairs.ensures.dirty r k ∙ ap (λ (b : Bool). b || is_dirty c.args.arcs.now r k) (ap (list_any (is_pair r k)) c.deref.ensures.value))
    (λ n m t. c.in_ok-push_rows.ensures.rows n m (ap (list_any (is_pair n m)) c.deref-2.ensures.value ∙ t)) c.in_ok-push_rows.ensures.others
