-- Why a conversation is refused: the tests in their order.
use Rattle.std.specs.Prelude.{ℕ, ◌+◌, ◌*◌, ◌==◌, Bool, not, ◌&&◌, ◌||◌, nat_le, nat_lt, if◌then◌else◌, List, length}
use Rattle.std.specs.Prelude.{Option, Some, None, is_some, option_map, position}
use Rattle.std.specs.List.{list_any}
use Rattle.vub_model.specs.declared.constants.Constants.{Constants}
use Rattle.vub_model.specs.declared.run.SetupFault.{SetupFault}
use Rattle.vub_model.specs.declared.run.SetupFault.TheVariants as refused
use Rattle.vub_model.specs.ValidSetup.{is_greatest_size, or_else}
use Rattle.vub_model.specs.Wiring.{has_bit}
use Rattle.vub_driver.specs.Calls.{is_too_large}
use Rattle.vub_driver.specs.Layouts.{new_fault}
use Rattle.vub_driver.specs.declared.error.DriverError.{DriverError}
use Rattle.vub_driver.specs.declared.error.DriverError.TheVariants.{TooLarge, Outside}
use Rattle.vub_driver.specs.declared.layout.Layout.{Layout}
use Rattle.vub_talk.specs.declared.ask.Ask.{Ask}
use Rattle.vub_talk.specs.declared.fault.TalkFault.{TalkFault}
use Rattle.vub_talk.specs.declared.fault.TalkFault.TheVariants as fault

-- guest memory is the 1048576 bytes from 0x100000 on
abbrev pub is_within : ℕ → ℕ → Bool
is_within at len = nat_le 1048576 at && nat_le (at + len) 2097152

-- the four areas of a layout lie there
unfoldable pub lies_within : Layout → Bool
lies_within l =
    is_within l.desc (16 * l.size)
    && is_within l.avail (6 + 2 * l.size)
    && is_within l.used (6 + 8 * l.size)
    && is_within l.buffers (l.slot * l.size)

-- an ask is too large for the layout, or the layout passes guest memory
unfoldable pub asks_fault : Layout → List Ask → Option DriverError
asks_fault l asks =
    if list_any (λ (a : Ask). is_too_large l (length a.request) a.room) asks then Some TooLarge else
    if not (lies_within l) then Some Outside else None

-- a mask has the bit of queue 0
abbrev pub has_worker : Constants → Bool
has_worker k = list_any (λ mask. has_bit mask 0) k.masks

-- The first test of a set-up that the device fails, as `drive` has them; but a worker with an exit object is refused,
-- since one that stops would leave asks unanswered.
unfoldable pub setup_fault : Constants → Layout → Option SetupFault
setup_fault k l =
    if nat_lt 64 k.queues then Some refused.Queues else
    if nat_lt 64 (length k.masks) then Some refused.Workers else
    if not (is_greatest_size k.max) then Some refused.QueueSize else
    or_else (option_map (λ w. refused.Exit w) (position (λ exit. is_some exit) k.exits))
    (if (k.queues == 0) || nat_lt k.max l.size then Some (refused.Ring 0) else None)

unfoldable pub device_fault : Constants → Layout → Option TalkFault
device_fault k l =
    if not (has_worker k) then Some fault.NoWorker else option_map (λ f. fault.Setup f) (setup_fault k l)

-- the first of two, if there is one
abbrev pub first_of : Option TalkFault → Option TalkFault → Option TalkFault
first_of None later = later
first_of (Some e) later = Some e

-- the first test that fails
abbrev pub talk_fault : Constants → Layout → List Ask → Option TalkFault
talk_fault k l asks =
    first_of (option_map (λ e. fault.Driver e) (new_fault l))
    (first_of (option_map (λ e. fault.Driver e) (asks_fault l asks)) (device_fault k l))
