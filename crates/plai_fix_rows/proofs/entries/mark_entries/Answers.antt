use Rattle.std.proofs.Common.{◌≡◌, ◌+◌, List, ◌∷◌, [], ◌++◌, map, take, sym, ap, ◌∙◌, subst, arith}
use Rattle.std.proofs.lemmas.List.{take_all}
use Rattle.plai_theory.specs.Domain.{Name}
use Rattle.plai_theory.specs.Words.{IsIn}
use Rattle.plai_terms.specs.declared.abs.Abs.{Abs}
use Rattle.plai_terms.specs.declared.pred_key.PredKey.{PredKey}
use Rattle.plai_eval.specs.Meaning.{as_domain}
use Rattle.plai_fix_laws.specs.WorkStates.{IsNamed}
use Rattle.plai_fix_rows.specs.Tables.{key_name, kept_rows}
use Rattle.plai_fix_rows.specs.Marks.{AreMarkedAs}
use Rattle.plai_fix_rows.proofs.EntryKeys.{names_more}
use Rattle.plai_fix_rows.proofs.EntryMarks.{all_found, one_absent}
use Rattle.plai_fix_rows.proofs.entries.mark_entries.Goals as goal

pub mark_entry-found-requires : goal.mark_entry-found-requires
mark_entry-found-requires g c =
    let p = g.D.Domain.plain c.args.domain.now in
    λ i j y a b.
    c.requires i j y (subst (λ ks. IsNamed (as_domain p) ks i y) c.loop-key.invariant.same a)
    (subst (λ ks. IsNamed (as_domain p) ks j y) c.loop-key.invariant.same b)

pub loop-key-preserved : goal.loop-key-preserved
loop-key-preserved g c =
    let p = g.D.Domain.plain c.args.domain.now in
    let value_of = g.D.Domain.value_of in
    let old = kept_rows value_of p c.args.table.now.rows in
    let now = kept_rows value_of p c.loop-key.table.rows in
    let names = map (key_name value_of) (take c.loop-key.key-index c.args.keys.now) in
    let y = key_name value_of c.key-item.result in
    let more : map (key_name value_of) (take (c.loop-key.key-index + 1) c.args.keys.now) ≡ names ++ y ∷ [] =
    names_more (key_name value_of) c.args.keys.now c.loop-key.key-index c.key-item.result c.loop-key-test.true c.key-item.is in
    record {
      same = c.mark_entry-found.ensures.same ∙ c.loop-key.invariant.same;
      marked = subst (λ (ns : List (Name PredKey Abs)). AreMarkedAs value_of ns c.mark_entry-found.new.table.rows) (sym more)
          (c.mark_entry-found.ensures.marked names c.loop-key.invariant.marked);
      found = λ t x i.
          all_found p old now c.loop-key.invariant.same names y c.loop-key.all c.mark_entry-found.result c.loop-key.invariant.found
          c.mark_entry-found.ensures.found t x (subst (IsIn x) more i);
      absent = λ t.
          let (x, i, none) = one_absent p old now c.loop-key.invariant.same names y c.loop-key.all c.mark_entry-found.result c.loop-key.invariant.absent
          c.mark_entry-found.ensures.absent t in
          (x, subst (IsIn x) (sym more) i, none);
    }

pub returns-clause-marked : goal.returns-clause-marked
returns-clause-marked g c =
    let value_of = g.D.Domain.value_of in
    let whole : take c.loop-key.key-index c.args.keys.now ≡ c.args.keys.now = take_all c.loop-key.key-index c.args.keys.now (omega arith) in
    subst (λ (ns : List (Name PredKey Abs)). AreMarkedAs value_of ns c.loop-key.table.rows) (ap (map (key_name value_of)) whole) c.loop-key.invariant.marked
