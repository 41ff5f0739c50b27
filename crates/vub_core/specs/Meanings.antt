-- What a service means, by the contract that it meets.
use Rattle.vub_model.specs.Service.{Meaning, meaning}
use Rattle.vub_proto.specs.declared.service.Service.{Ghosts as Service}

abbrev pub meaning_by : {V : Type 0} → Service V → Meaning V
meaning_by s = meaning s.reply_of s.after
