-- What holds of an outcome, where less than is known is to hold.
use Rattle.std.proofs.Common.{Result, Ok, Err, OnOk, IfErr}

-- on success
pub on_ok : {A E : Type 0} {P Q : Type 0} (result : Result A E) → (P → Q) → OnOk result P → OnOk result Q
on_ok (Ok a) f h = f h
on_ok (Err e) f h = tt

-- at a stop
pub if_err : {A E : Type 0} (P Q : E → Type 0) (result : Result A E) → ((e : E) → P e → Q e) → IfErr result P → IfErr result Q
if_err P Q (Ok a) f h = tt
if_err P Q (Err e) f h = f e h
