-- What a service replies to asks, one after the other.
use Rattle.std.specs.Prelude.{ℕ, List, [], ◌∷◌}
use Rattle.vub_model.specs.Service.{Meaning}
use Rattle.vub_driver.specs.Machine.{Asked}
use Rattle.vub_talk.specs.declared.ask.Ask.{Ask}

-- what an ask asks of the device
abbrev pub asked_by : Ask → Asked
asked_by a = record { request = a.request; room = a.room }

-- the reply to each, from a value of the service on: the k-th is that of the service after k calls
abbrev pub replies_to : {V : Type 0} → Meaning V → V → List Asked → List (List ℕ)
replies_to m v [] = []
replies_to m v (a ∷ asked) = m.reply_of v a.request a.room ∷ replies_to m (m.after v a.request a.room) asked

-- the value of the service after these calls
abbrev pub value_after : {V : Type 0} → Meaning V → V → List Asked → V
value_after m v [] = v
value_after m v (a ∷ asked) = value_after m (m.after v a.request a.room) asked
