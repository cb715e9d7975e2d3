use Rattle.std.proofs.Common.{map, ap, ◌∙◌}
use Rattle.plai_clauses.specs.Builtins.{builtins, first_of_key}
use Rattle.plai_clauses.proofs.builtin.Builtin.named.Goals as goal

pub returns : goal.returns
unfolding builtins
returns c =
    c.first_of_key.ensures
    ∙ ap (λ name. first_of_key (map (λ row. (row.0.now, row.1, row.2)) c.as_slice.result.now) name c.args.arity) c.as_slice-2.ensures
    ∙ ap (λ rows. first_of_key (map (λ row. (row.0.now, row.1, row.2)) rows) c.args.name.now c.args.arity) c.as_slice.ensures
