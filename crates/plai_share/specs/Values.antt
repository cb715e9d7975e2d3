-- Values and states as contracts see them: sets of groups and of free slots (Jacobs and Langen 1992).
use Rattle.plai_terms.specs.declared.abs.Abs.{Abs}
use Rattle.plai_domain.specs.Plain.{StateView}
use Rattle.plai_share_laws.specs.Shares.{Shares}
use Rattle.plai_share_laws.specs.Sharing.{abs_of, state_with}
use Rattle.plai_share.specs.declared.sharing.Sharing.{Sharing}
use Rattle.plai_share.specs.declared.value.Value.{Value}
use Rattle.plai_share.specs.declared.value.State.{State}

-- the groups and free slots
abbrev pub shares : Sharing → Shares
shares s = record { slots = s.slots; groups = s.groups.items; free = s.free }

-- the pattern that a value is
abbrev pub value_of : Value → Abs
value_of v = abs_of (shares v.sharing)

-- the arity, the number of variables and the pattern that a state is
abbrev pub state_of : State → StateView
state_of s = state_with s.arity s.variables (shares s.sharing)
