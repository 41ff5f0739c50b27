-- What a contract sees of a shared log and of its parties, and what always holds of them.
use Rattle.std.specs.Prelude.{◌≡◌, ◌^◌, ◌<◌, []}
use Rattle.std.specs.Arc.{arc_value}
use Rattle.vub_log.specs.Plain.{word_count}
use Rattle.vub_log.specs.Notes.{Party, SharedLog}
use Rattle.vub_log.specs.declared.shared.MmapLogReg.TheInside as reg
use Rattle.vub_log.specs.declared.shared.LogSeat.TheInside as seat

abbrev pub shared_view : reg.Inside → SharedLog
shared_view a = record { log = (arc_value a.words).shared.table_id; len = a.len }

abbrev pub seat_view : seat.Inside → Party
seat_view a = record { log = a.seat.table_id; len = a.len; notes = a.seat.me.0 }

-- a seat is of its log's words, and holds no slot of theirs
pub record IsSeat (a : seat.Inside) : Type 0 where
  pub same : a.seat.table_id ≡ (arc_value a.words).shared.table_id
  pub empty : a.seat.me.1 ≡ []
  pub key : (arc_value a.words).shared.key ≡ word_count a.len
  pub words : (arc_value a.words).shared.table_id.words ≡ word_count a.len
  pub some : 0 < a.len
  pub small : a.len < 2 ^ 61
