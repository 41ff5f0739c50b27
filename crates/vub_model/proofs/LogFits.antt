-- Regions and logs fit each other wherever a run comes to: the regions stand apart, one with a log begins and ends at a
-- page, and its log is there and has each of its pages.
use Rattle.std.proofs.Common.{◌≡◌, ℕ, ◌+◌, ◌*◌, ◌<◌, ◌≤◌, Bool, true, false, cond, not, eqb, nat_lt, nat_le, List, [], ◌∷◌, length, map, Option, Some, None, refl, arith}
use Rattle.std.specs.List.{AllByRecursion, list_any, insert, remove}
use Rattle.std.proofs.lemmas.Bool.{eqb-false, ltb-false, leb-false}
use Rattle.vub_mem.specs.declared.content.Content.{Content}
use Rattle.vub_mem.specs.declared.dirty.Stored.{Stored}
use Rattle.vub_mem.specs.declared.errors.LogError.{LogError}
use Rattle.vub_mem.specs.declared.errors.LogError.TheVariants.{EmptyLog, PastObject, NotPageAligned, TooSmall, Unsupported}
use Rattle.vub_mem.specs.declared.errors.MemError.{MemError}
use Rattle.vub_mem.specs.declared.errors.MemError.TheVariants as mem_error
use Rattle.vub_mem.specs.declared.region.Region.{Region}
use Rattle.vub_mem.specs.Faults.{or_else}
use Rattle.vub_mem.specs.Logs.{log_len}
use Rattle.vub_mem.specs.Sound.{IsApart, IsLogged}
use Rattle.vub_mem.specs.Table.{region_fault, regions_fault, pairs_fault, table_fault, insert_fault, meets, place_of, unlogged}
use Rattle.vub_mem.specs.Track.{IsTrackable, is_aligned, last_page, track_fault, tracks_fault, log_fault, with_log}
use Rattle.vub_mem.proofs.Finds.{all_insert, all_remove}
use Rattle.vub_mem.proofs.MarkLaws.{logged_keep}
use Rattle.vub_mem.proofs.Pages.{IsPaged}
use Rattle.vub_mem.proofs.Tables.{parts_none, apart as apart_pairs, apart_insert, apart_remove, apart_map, unlogged_all, unlogged_one, logged_with}
use Rattle.vub_log.specs.Plain.{Plain}
use Rattle.vub_model.specs.declared.small.Small.{Small}
use Rattle.vub_model.specs.declared.small.Small.TheVariants.{Claim, Release, Add, Delete, Listen, Unlisten, Bell, Remove, Insert, Set, Info, Table, Log, Device, Answer as Answering}
use Rattle.vub_model.specs.declared.small.TableOp.{TableOp}
use Rattle.vub_model.specs.declared.small.TableOp.TheVariants as table_op
use Rattle.vub_model.specs.Control.{small_after, table_refusal, log_refusal, regions_unless, logged_unless}
use Rattle.vub_model.specs.Logs.{log_at}
use Rattle.vub_model.specs.Plans.{regions_after}
use Rattle.vub_model.specs.Shared.{Shared}
use Rattle.vub_model.specs.Wiring.{Wiring}
use Rattle.vub_model.proofs.LogBits.{len-at}

pub record LogsFit (rs : List Region) (logs : List (Stored Plain)) : Type 0 where
  pub apart : IsApart rs
  pub some : AllByRecursion (λ r. 0 < r.len) rs
  pub paged : AllByRecursion IsPaged rs
  pub logged : AllByRecursion (λ r. IsLogged (λ (log : Plain). log.len) logs r) rs
  -- a log has words for all its bytes
  pub whole : (object : ℕ) → 8 * (log_at logs object).len ≤ 32 * length (log_at logs object).words

-- logs that keep their lengths fit the same regions
pub logs-fit : (rs : List Region) (a b : List (Stored Plain)) → ((o : ℕ) → (log_at b o).len ≡ (log_at a o).len) → ((o : ℕ) → length (log_at b o).words ≡ length (log_at a o).words) → LogsFit rs a → LogsFit rs b
logs-fit rs a b lens words fit = record {
  apart = fit.apart;
  some = fit.some;
  paged = fit.paged;
  logged = logged_keep (λ (log : Plain). log.len) a b rs (λ o. omega (arith, len-at a o, len-at b o, lens o)) fit.logged;
  whole = λ o. omega (arith, fit.whole o, lens o, words o);
}

-- Tests that did not fail

unless : {E : Type 0} (b : Bool) (e : E) (rest : Option E) → cond b (Some e) rest ≡ None → (b ≡ false) × (rest ≡ None)
unless true e rest is = absurd cc
unless false e rest is = (refl, is)

not-none : {E : Type 0} (b : Bool) (e : E) → cond b (Some e) None ≡ None → b ≡ false
not-none true e is = absurd cc
not-none false e is = refl

has-bytes : (cs : List Content) (r : Region) → region_fault cs r ≡ None → 0 < r.len
unfolding region_fault
has-bytes cs r none =
    let empty : eqb r.len 0 ≡ false = (unless (eqb r.len 0) mem_error.Empty _ none).0 in
    let some : r.len ≡ 0 → ⊥ = eqb-false r.len 0 empty in
    omega arith

have-bytes : (cs : List Content) (rs : List Region) → regions_fault cs rs ≡ None → AllByRecursion (λ r. 0 < r.len) (map unlogged rs)
have-bytes cs [] none = tt
have-bytes cs (r ∷ rs) none = let parts = parts_none (region_fault cs r) (regions_fault cs rs) none in (has-bytes cs r parts.0, have-bytes cs rs parts.1)

pub no-logs : (rs : List Region) → AllByRecursion IsPaged (map unlogged rs)
no-logs [] = tt
no-logs (r ∷ rs) = ((λ l is. let h : None ≡ Some l = is in cc), no-logs rs)

pairs-apart : (rs : List Region) → pairs_fault rs ≡ None → IsApart (map unlogged rs)
unfolding pairs_fault
pairs-apart [] none = absurd cc
pairs-apart (r ∷ rs) none = apart_pairs r rs none

-- a new table, of regions without logs
pub fit-replaced : (cs : List Content) (logs : List (Stored Plain)) (new : List Region) → ((o : ℕ) → 8 * (log_at logs o).len ≤ 32 * length (log_at logs o).words) → table_fault cs new ≡ None → LogsFit (map unlogged new) logs
unfolding table_fault
fit-replaced cs logs new whole none =
    let parts = parts_none (regions_fault cs new) (pairs_fault new) none in
    record {
      apart = pairs-apart new parts.1;
      some = have-bytes cs new parts.0;
      paged = no-logs new;
      logged = unlogged_all (λ (log : Plain). log.len) logs new;
      whole = whole;
    }

module _ (rs : List Region) (logs : List (Stored Plain)) (fit : LogsFit rs logs) where
  fit-inserted : (cs : List Content) (r : Region) → insert_fault cs rs r ≡ None → LogsFit (insert rs (place_of rs r) (unlogged r)) logs
  unfolding insert_fault
  fit-inserted cs r none =
      let parts = parts_none (region_fault cs r) (cond (list_any (λ q. meets q r) rs) (Some mem_error.Overlap) None) none in
      let some : 0 < r.len = has-bytes cs r parts.0 in
      record {
        apart = apart_insert rs (unlogged r) some fit.some fit.apart (not-none (list_any (λ q. meets q r) rs) mem_error.Overlap parts.1);
        some = all_insert (λ q. 0 < q.len) rs (place_of rs r) (unlogged r) fit.some some;
        paged = all_insert IsPaged rs (place_of rs r) (unlogged r) fit.paged (no-logs (r ∷ [])).0;
        logged = all_insert (λ q. IsLogged (λ (log : Plain). log.len) logs q) rs (place_of rs r) (unlogged r) fit.logged (unlogged_one (λ (log : Plain). log.len) logs r);
        whole = fit.whole;
      }

  fit-removed : (k : ℕ) → LogsFit (remove rs k) logs
  fit-removed k = record {
    apart = apart_remove rs k fit.apart;
    some = all_remove (λ r. 0 < r.len) rs k fit.some;
    paged = all_remove IsPaged rs k fit.paged;
    logged = all_remove (λ r. IsLogged (λ (log : Plain). log.len) logs r) rs k fit.logged;
    whole = fit.whole;
  }

  fit-table : (cs : List Content) (change : TableOp) (refusal : Option MemError) → table_refusal (record { regions = rs; contents = cs }) change ≡ refusal → LogsFit (regions_unless refusal (regions_after rs change) rs) logs
  fit-table cs change (Some e) is = fit
  fit-table cs (table_op.Replace new) None is = fit-replaced cs logs new fit.whole is
  fit-table cs (table_op.Insert r) None is = fit-inserted cs r is
  fit-table cs (table_op.Remove start len) None is = fit-removed _

  -- a log for each region

  can-track : (size : ℕ) (tracks : Bool) (r : Region) → track_fault size tracks r ≡ None → IsTrackable size r
  unfolding track_fault
  can-track size tracks r none =
      let first = unless (not tracks) Unsupported _ none in
      let second = unless (not (is_aligned r)) NotPageAligned _ first.1 in
      record { below = leb-false (8 * size) (last_page r) (not-none (nat_le (8 * size) (last_page r)) TooSmall second.1); aligned = is-not (is_aligned r) second.0 }
    where
      is-not : (b : Bool) → not b ≡ false → b ≡ true
      is-not true is = refl
      is-not false is = absurd cc

  can-all : (size : ℕ) (tracks : Bool) (qs : List Region) → tracks_fault size tracks qs ≡ None → AllByRecursion (λ r. IsTrackable size r) qs
  can-all size tracks [] none = tt
  can-all size tracks (r ∷ qs) none = let parts = log-parts (track_fault size tracks r) (tracks_fault size tracks qs) none in (can-track size tracks r parts.0, can-all size tracks qs parts.1) where
    log-parts : (a b : Option LogError) → or_else a b ≡ None → (a ≡ None) × (b ≡ None)
    log-parts None b is = (refl, is)
    log-parts (Some e) b is = absurd cc

  all-map : (f : Region → Region) (P Q : Region → Type 0) → ((r : Region) → P r → Q (f r)) → (qs : List Region) → AllByRecursion P qs → AllByRecursion Q (map f qs)
  all-map f P Q gives [] all = tt
  all-map f P Q gives (r ∷ qs) all = (gives r all.0, all-map f P Q gives qs all.1)

  fit-logged : (object offset size : ℕ) (tracks : Bool) → log_fault (λ (log : Plain). log.len) logs rs object offset size tracks ≡ None → LogsFit (map (λ r. with_log object offset r) rs) logs
  unfolding log_fault
  fit-logged object offset size tracks none =
      let first = unless (eqb size 0) EmptyLog _ none in
      let second = unless (nat_lt (log_len (λ (log : Plain). log.len) logs object) (offset + size)) PastObject _ first.1 in
      let within : offset + size ≤ log_len (λ (log : Plain). log.len) logs object = ltb-false (log_len (λ (log : Plain). log.len) logs object) (offset + size) second.0 in
      let can = can-all size tracks rs second.1 in
      record {
        apart = apart_map (λ r. with_log object offset r) rs (λ r. (refl, refl)) fit.apart;
        some = all-map (λ r. with_log object offset r) (λ r. 0 < r.len) (λ r. 0 < r.len) (λ r some. some) rs fit.some;
        paged = all-map (λ r. with_log object offset r) (λ r. IsTrackable size r) IsPaged (λ r its l is. its.aligned) rs can;
        logged = all-map (λ r. with_log object offset r) (λ r. IsTrackable size r) (λ r. IsLogged (λ (log : Plain). log.len) logs r) (λ r its. logged_with (λ (log : Plain). log.len) logs object offset size r its within) rs can;
        whole = fit.whole;
      }

  fit-log : (object offset size : ℕ) (tracks : Bool) (refusal : Option LogError) → log_fault (λ (log : Plain). log.len) logs rs object offset size tracks ≡ refusal → LogsFit (logged_unless refusal object offset rs) logs
  fit-log object offset size tracks (Some e) is = fit
  fit-log object offset size tracks None is = fit-logged object offset size tracks is

-- Control's small steps

pub small-logs : {V : Type 0} (g : Wiring) (h : Shared V) (s : Small) → (small_after g h s).logs ≡ h.logs
small-logs g h (Claim object queue) = refl
small-logs g h (Release object) = refl
small-logs g h (Add worker object token) = refl
small-logs g h (Delete worker object) = refl
small-logs g h (Listen worker object token) = refl
small-logs g h (Unlisten worker object above) = refl
small-logs g h (Bell object) = refl
small-logs g h (Remove worker number) = refl
small-logs g h (Insert worker number) = refl
small-logs g h (Set queue o) = refl
small-logs g h (Info queue desc avail used) = refl
small-logs g h (Table change) = refl
small-logs g h (Log object offset size) = refl
small-logs g h (Device call) = refl
small-logs g h Answering = refl

pub fit-small : {V : Type 0} (g : Wiring) (h : Shared V) → LogsFit h.guest.regions h.logs → (s : Small) → LogsFit (small_after g h s).guest.regions (small_after g h s).logs
fit-small g h fit (Claim object queue) = fit
fit-small g h fit (Release object) = fit
fit-small g h fit (Add worker object token) = fit
fit-small g h fit (Delete worker object) = fit
fit-small g h fit (Listen worker object token) = fit
fit-small g h fit (Unlisten worker object above) = fit
fit-small g h fit (Bell object) = fit
fit-small g h fit (Remove worker number) = fit
fit-small g h fit (Insert worker number) = fit
fit-small g h fit (Set queue o) = fit
fit-small g h fit (Info queue desc avail used) = fit
fit-small g h fit (Table change) = fit-table h.guest.regions h.logs fit h.guest.contents change (table_refusal h.guest change) refl
fit-small g h fit (Log object offset size) = fit-log h.guest.regions h.logs fit object offset size g.tracks (log_refusal g h object offset size) refl
fit-small g h fit (Device call) = fit
fit-small g h fit Answering = fit
