-- What is put behind the literals of a body that is being made, and the answers of a call that does so.
use Rattle.std.specs.Prelude.{◌≡◌, Result, Ok, Err, List, ◌++◌}
use Rattle.plai_clauses.specs.declared.clause.Literal.{Literal}
use Rattle.plai_clauses.specs.declared.cause.ClauseCause.{ClauseCause}
use Rattle.plai_clauses.specs.declared.cause.ClauseFail.{ClauseFail}
use Rattle.plai_clauses.specs.declared.cause.ClauseFail.TheVariants.{Memory, Refused}

-- literals behind others, or the cause why there are none
abbrev pub behind : List Literal → Result (List Literal) ClauseCause → Result (List Literal) ClauseCause
behind before (Err cause) = Err cause
behind before (Ok literals) = Ok (before ++ literals)

-- the literals stand behind those before; or there are none, for this cause; or memory is wanting
abbrev pub Puts : Result (List Literal) ClauseCause → List Literal → List Literal → Result (Unit {0}) ClauseFail → Type 0
Puts answer before after (Ok _) = behind before answer ≡ Ok after
Puts answer before after (Err Memory) = Unit {0}
Puts answer before after (Err (Refused cause)) = answer ≡ Err cause
