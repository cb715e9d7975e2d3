use Rattle.std.proofs.Common.{◌≡◌, map, sym, ap, ◌∙◌, rules}
use Rattle.std.proofs.lemmas.Iterator.Adapters.{YieldsList-from_vec}
use Rattle.std.proofs.lemmas.Iterator.Consumers.{YieldsList-end}
use Rattle.plai_eval.specs.Meaning.{as_domain}
use Rattle.plai_fix_rows.specs.Tables.{key_name, kept_rows}
use Rattle.plai_fix_laws.proofs.LookedUp.{looks_none, looks_push, looks_all, map_same}
use Rattle.plai_fix.proofs.looking.look_up_all.Goals as goal

pub loop-name-init : goal.loop-name-init
loop-name-init g c =
    let value_of = g.D.Domain.value_of in
    let p = g.D.Domain.plain c.args.domain.now in
    record {
      can = tt;
      finite = tt;
      looks = looks_none (as_domain p) (kept_rows value_of p c.args.table.now.rows) _ _ c.requires.rows (ap (map (key_name value_of)) c.requires.missing);
    }

pub loop-name-preserved : goal.loop-name-preserved
loop-name-preserved g c =
    let value_of = g.D.Domain.value_of in
    let p = g.D.Domain.plain c.args.domain.now in
    record {
      can = tt;
      finite = tt;
      looks = looks_push (as_domain p) (kept_rows value_of p c.args.table.now.rows) (key_name value_of) c.loop-name.yielded c.in-Some.name _ _
          (c.in_ok-look_up.ensures (map (key_name value_of) c.loop-name.yielded) c.loop-name.invariant.looks);
    }

pub returns : goal.returns
returns g c =
    let value_of = g.D.Domain.value_of in
    let p = g.D.Domain.plain c.args.domain.now in
    let h = c.into_iter-name-iterator.ensures.into_iter_gives in
    let end = YieldsList-end (YieldsList-from_vec {s = c.into_iter-name-iterator.result} c.args.names.items h.0 (search (rules, h.1))) c.loop-name.yielded
    c.loop-name.name-iterator c.loop-name.yielded_by c.next.result c.next.new.self c.in-None.is c.next.ensures.steps in
    let whole : c.loop-name.yielded ≡ c.args.names.items = sym (map_same c.loop-name.yielded) ∙ end.0 in
    looks_all (as_domain p) (kept_rows value_of p c.args.table.now.rows) (key_name value_of) c.loop-name.yielded c.args.names.items _ _ whole
    c.loop-name.invariant.looks
