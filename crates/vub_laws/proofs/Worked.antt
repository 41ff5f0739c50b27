-- The runs that are worked out, by computing them.
use Rattle.std.proofs.Common.{refl}
use Rattle.vub_mem.specs.Place.{covers, byte_at, bytes_at, number_at, poke, write_at, store_at}
use Rattle.vub_queue.specs.Chain.{descriptor_at, read_part, request_of, segments_of, room_of}
use Rattle.vub_queue.specs.Function.{took_of, look_of, walk_of}
use Rattle.vub_queue.specs.Notification.{used_event_covers, wants_notification}
use Rattle.vub_queue.specs.Put.{put_answer, put_guest, room_covers, used_covers, write_reply, write_used}
use Rattle.vub_queue.specs.Take.{head_of}
use Rattle.vub_queue.specs.Walk.{fault_of}
use Rattle.vub_model.specs.Opening.{opening}
use Rattle.vub_model.specs.Wiring.{place_of, queues_of}
use Rattle.vub_model.specs.Work.{looked, put_said}
use Rattle.vub_model.specs.World.{stored}
use Rattle.vub_laws.specs.Worked.{echo, one_worker, ring_from, table_from, one_entry, turns_of_one, plays_of_one, memory_from, two_queues, signals_first, plays_by_number, signals_between, plays_by_signal, WorkFallsToNothing, RepliesAreTheSame}

pub work-falls : WorkFallsToNothing
unfolding opening one_worker one_entry ring_from table_from echo turns_of_one plays_of_one place_of queues_of covers number_at bytes_at byte_at poke write_at store_at descriptor_at read_part request_of segments_of room_of took_of look_of walk_of fault_of head_of put_answer put_guest room_covers used_covers write_reply write_used used_event_covers wants_notification looked put_said stored
work-falls = ((λ e. cc, (λ e. cc, (λ e. cc, (λ e. cc, (refl, (tt, (tt, (tt, (tt, (tt, (refl, (tt, (tt, (tt, tt)))))))))))))), refl)

pub replies-same : RepliesAreTheSame
unfolding opening one_worker two_queues memory_from ring_from table_from echo signals_first plays_by_number signals_between plays_by_signal place_of queues_of covers number_at bytes_at byte_at poke write_at store_at descriptor_at read_part request_of segments_of room_of took_of look_of walk_of fault_of head_of put_answer put_guest room_covers used_covers write_reply write_used used_event_covers wants_notification looked put_said stored
replies-same = (
  (λ e. cc, (λ e. cc, (refl, (tt, (tt, (tt, (tt, (tt, (refl, (tt, (tt, (tt, (tt, (tt, tt)))))))))))))),
  (λ e. cc, (refl, (tt, (tt, (tt, (tt, (tt, (λ e. cc, (refl, (tt, (tt, (tt, (tt, (tt, tt)))))))))))))),
  refl,
  refl,
)
