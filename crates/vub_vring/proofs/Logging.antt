-- Why a log is refused: neither for want of memory nor by a spent generation.
use Rattle.std.proofs.Common.{◌≡◌, ℕ, ◌+◌, Bool, true, false, if◌then◌else◌, not, nat_lt, nat_le, ◌==◌, ◌*◌, List, [], ◌∷◌, Option, Some, None, refl, subst}
use Rattle.std.specs.Prelude.{IfSome}
use Rattle.vub_mem.specs.declared.dirty.Stored.{Stored}
use Rattle.vub_mem.specs.declared.errors.LogError.{LogError}
use Rattle.vub_mem.specs.declared.errors.LogError.TheVariants.{EmptyLog, PastObject, NotPageAligned, TooSmall, Unsupported}
use Rattle.vub_mem.specs.declared.region.Region.{Region}
use Rattle.vub_mem.specs.Faults.{or_else}
use Rattle.vub_mem.specs.Logs.{log_len}
use Rattle.vub_mem.specs.Track.{is_aligned, last_page, track_fault, tracks_fault, log_fault}
use Rattle.vub_vring.specs.Calls.{IsLogSaid}
use Rattle.vub_vring.specs.declared.ops.LogSaid.TheVariants as log_said

abbrev Said : Option LogError → Type 0
Said refusal = IfSome refusal (λ e. IsLogSaid (log_said.Log e))

first : (b : Bool) (e : LogError) (rest : Option LogError) → IsLogSaid (log_said.Log e) → Said rest → Said (if b then Some e else rest)
first true e rest said later = said
first false e rest said later = later

track-said : (size : ℕ) (tracks : Bool) (r : Region) → Said (track_fault size tracks r)
unfolding track_fault
track-said size tracks r =
    first (not tracks) Unsupported (if not (is_aligned r) then Some NotPageAligned else if nat_le (8 * size) (last_page r) then Some TooSmall else None) tt
    (first (not (is_aligned r)) NotPageAligned (if nat_le (8 * size) (last_page r) then Some TooSmall else None) tt
    (first (nat_le (8 * size) (last_page r)) TooSmall None tt tt))

either : (a b : Option LogError) → Said a → Said b → Said (or_else a b)
either None b now later = later
either (Some e) b now later = now

tracks-said : (size : ℕ) (tracks : Bool) (rs : List Region) → Said (tracks_fault size tracks rs)
tracks-said size tracks [] = tt
tracks-said size tracks (r ∷ rs) = either (track_fault size tracks r) (tracks_fault size tracks rs) (track-said size tracks r) (tracks-said size tracks rs)

said : {L : Type 0} (len : L → ℕ) (logs : List (Stored L)) (rs : List Region) (object offset size : ℕ) (tracks : Bool) → Said (log_fault len logs rs object offset size tracks)
unfolding log_fault
said len logs rs object offset size tracks =
    first (size == 0) EmptyLog (if nat_lt (log_len len logs object) (offset + size) then Some PastObject else tracks_fault size tracks rs) tt
    (first (nat_lt (log_len len logs object) (offset + size)) PastObject (tracks_fault size tracks rs) tt (tracks-said size tracks rs))

pub log_refused : {L : Type 0} (len : L → ℕ) (logs : List (Stored L)) (rs : List Region) (object offset size : ℕ) (tracks : Bool) (e : LogError) → log_fault len logs rs object offset size tracks ≡ Some e → IsLogSaid (log_said.Log e)
log_refused len logs rs object offset size tracks e is = subst Said is (said len logs rs object offset size tracks)
