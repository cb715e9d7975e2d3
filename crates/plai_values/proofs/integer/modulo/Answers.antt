use Rattle.std.proofs.Common.{rules}
use Rattle.plai_values.proofs.integer.modulo.Goals as goal
use Rattle.plai_values.proofs.Divided as d

pub returns-then-rest-eq0 : goal.returns-then-rest-eq0
returns-then-rest-eq0 c = d.modulo_zero c.args.left c.args.right c.in_ok-rest.rest (search rules) (search rules) c.in_ok-rest.ensures c.if-rest-eq0.true

pub returns-then-rest-right : goal.returns-then-rest-right
returns-then-rest-right c = d.modulo_same c.args.left c.args.right c.in_ok-rest.rest (search rules) (search rules) c.in_ok-rest.ensures c.if-rest-eq0.false
    c.if-rest-right.true

pub returns-else-rest-right : goal.returns-else-rest-right
returns-else-rest-right c = d.modulo_other c.args.left c.args.right c.in_ok-rest.rest (search rules) (search rules) c.in_ok-rest.ensures c.if-rest-eq0.false
    c.if-rest-right.false (search rules)
