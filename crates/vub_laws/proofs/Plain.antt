-- In every run members ask for IN alone, nothing is hung up, and no bell is a semaphore: it is so at the opening, and no
-- step changes it.
use Rattle.std.proofs.Common.{◌≡◌, ℕ, zero, suc, ◌+◌, ◌<◌, Bool, true, false, cond, not, ◌&&◌, ◌==◌, nat_lt, inl, inr, Option, Some, None, List, [], ◌∷◌, length, map, fold, slice_index_or, slice_set, Result, Ok, Err, refl, sym, ap, ◌∙◌, subst, arith}
use Rattle.std.specs.List.{AllByRecursion}
use Rattle.std.proofs.lemmas.Bool.{cases_eq, cases_lt, cond_both}
use Rattle.std.proofs.lemmas.List.{get_or-set_same, get_or-set_other, set_past}
use Rattle.std.proofs.lemmas.List.FromFn.{length-map-range_with_len, get_or-map-range_with_len}
use Rattle.vub_queue.specs.declared.putting.PutFault.{PutFault}
use Rattle.vub_event.specs.declared.event.Event.{Event}
use Rattle.vub_event.specs.declared.member.Member.{Member}
use Rattle.vub_event.specs.Counter.{greatest_count}
use Rattle.vub_event.specs.HostCalls.{claim_after, release_after, add_after, delete_after, with_change, claimed_by, listener}
use Rattle.vub_event.specs.HostTable.{HostTable, event_at, members_at, with_event, with_members}
use Rattle.vub_event.specs.InterestList.{with_member, without_member}
use Rattle.vub_model.specs.declared.constants.Constants.{Constants}
use Rattle.vub_model.specs.declared.entry.Entry.{Entry}
use Rattle.vub_model.specs.declared.party.Party.{Party}
use Rattle.vub_model.specs.declared.party.Party.TheVariants as party
use Rattle.vub_model.specs.declared.phase.Phase.{Phase}
use Rattle.vub_model.specs.declared.play.Play.{Play}
use Rattle.vub_model.specs.declared.play.Play.TheVariants as play
use Rattle.vub_model.specs.declared.setup.GivenRing.{GivenRing}
use Rattle.vub_model.specs.declared.setup.Guest.{Guest}
use Rattle.vub_model.specs.declared.setup.Guest.TheVariants.{Store, Signal, Harvest}
use Rattle.vub_model.specs.declared.setup.Object.{Object}
use Rattle.vub_model.specs.declared.setup.Setup.{Setup}
use Rattle.vub_model.specs.declared.small.Small.{Small}
use Rattle.vub_model.specs.declared.small.Small.TheVariants.{Claim, Release, Add, Delete, Listen, Unlisten, Bell}
use Rattle.vub_model.specs.declared.small.Small.TheVariants.{Remove, Insert, Set, Info, Table, Log, Device}
use Rattle.vub_model.specs.declared.small.Small.TheVariants.{Answer as Answering}
use Rattle.vub_model.specs.declared.wiring.Opened.{Opened}
use Rattle.vub_model.specs.declared.wiring.Place.{Place}
use Rattle.vub_model.specs.Control.{small_after, can_claim, can_add, can_listen, can_unlisten}
use Rattle.vub_model.specs.Opening.{opening, before_rings, wiring_of, opened_worker, opening_members, exit_member, listed, opening_events, registered, registered_kick, placed, claimed, claimed_event}
use Rattle.vub_model.specs.RunOf.{Turn}
use Rattle.vub_model.specs.Service.{Meaning}
use Rattle.vub_model.specs.Shared.{Shared, ring_at, raised_option, read_option}
use Rattle.vub_model.specs.Wiring.{Wiring, opened_at, no_worker, place_of}
use Rattle.vub_model.specs.Work.{MayWork, after_work, after_take, after_said, put_said, called, used}
use Rattle.vub_model.specs.World.{World, May, after, after_guest, acted, phase_at}
use Rattle.vub_model.proofs.Cases.{work-cases, event-shared, take-leaf, none-leaf}
use Rattle.vub_model.proofs.Registering.{with-all}
use Rattle.vub_model.proofs.Turns.{turn-cases}
use Rattle.vub_laws.specs.Draining.{IsPlain, AsksForIn, is_hung_up, is_semaphore}

-- What no change of a counter or of a claim changes of an event

raised-keeps : (x : Event → Bool) → ((e : Event) (n : ℕ) → x (record e { count = n }) ≡ x e) → (e : Event) (b : Bool) → x (cond {A = Event} b (record e { count = e.count + 1 }) e) ≡ x e
raised-keeps x keeps e true = keeps e (e.count + 1)
raised-keeps x keeps e false = refl

record Keeps (x : Option Event → Bool) : Type 0 where
  raises : (e : Option Event) → x (raised_option e) ≡ x e
  reads : (e : Option Event) → x (read_option e) ≡ x e
  claims : (owner : Option ℕ) (e : Event) → x (Some (claimed_by owner e)) ≡ x (Some e)

hung-up-kept : Keeps is_hung_up
hung-up-kept = record { raises = up; reads = down; claims = λ owner e. refl } where
  up : (e : Option Event) → is_hung_up (raised_option e) ≡ is_hung_up e
  up None = refl
  up (Some e) = raised-keeps (λ e. e.hung_up) (λ e n. refl) e (nat_lt e.count greatest_count)

  down : (e : Option Event) → is_hung_up (read_option e) ≡ is_hung_up e
  down None = refl
  down (Some e) = refl

semaphore-kept : Keeps is_semaphore
semaphore-kept = record { raises = up; reads = down; claims = λ owner e. refl } where
  up : (e : Option Event) → is_semaphore (raised_option e) ≡ is_semaphore e
  up None = refl
  up (Some e) = raised-keeps (λ e. e.semaphore) (λ e n. refl) e (nat_lt e.count greatest_count)

  down : (e : Option Event) → is_semaphore (read_option e) ≡ is_semaphore e
  down None = refl
  down (Some e) = refl

with-kept : (x : Option Event → Bool) (t : HostTable) (o : ℕ) (e : Option Event) → x e ≡ x (event_at t o) → (p : ℕ) → x (event_at (with_event t o e) p) ≡ x (event_at t p)
with-kept x t o e same p =
    elim (cases_eq p o) [
      | inl here ↦
          (let P : ℕ → Type 0 = λ y. x (event_at (with_event t o e) y) ≡ x (event_at t y) in
          subst P (sym here) (elim (cases_lt o (length t.objects)) [
            | inl below ↦ ap x (get_or-set_same t.objects o e None below) ∙ same
            | inr past ↦ ap (λ l. x (slice_index_or l o None)) (set_past t.objects o e past)
          ]))
      | inr other ↦ ap x (get_or-set_other t.objects o p e None other)
    ]

-- Changes of a plain table

module _ (g : Wiring) where
  plain-event : (t : HostTable) (o : ℕ) (e : Option Event) → is_hung_up e ≡ is_hung_up (event_at t o) → is_semaphore e ≡ is_semaphore (event_at t o) → IsPlain g t → IsPlain g (with_event t o e)
  plain-event t o e hung semaphore p = record {
    asks = p.asks;
    none_hung_up = λ x. with-kept is_hung_up t o e hung x ∙ p.none_hung_up x;
    bells = λ k low. with-kept is_semaphore t o e semaphore (opened_at g k).bell ∙ p.bells k low;
  }

  plain-raised : (t : HostTable) (o : ℕ) → IsPlain g t → IsPlain g (with_event t o (raised_option (event_at t o)))
  plain-raised t o p = plain-event t o (raised_option (event_at t o)) (hung-up-kept.raises (event_at t o)) (semaphore-kept.raises (event_at t o)) p

  plain-read : (t : HostTable) (o : ℕ) → IsPlain g t → IsPlain g (with_event t o (read_option (event_at t o)))
  plain-read t o p = plain-event t o (read_option (event_at t o)) (hung-up-kept.reads (event_at t o)) (semaphore-kept.reads (event_at t o)) p

  plain-claimed : (t : HostTable) (o : ℕ) (owner : Option ℕ) (e : Option Event) → event_at t o ≡ e → IsPlain g t → IsPlain g (with_change (claimed_by owner) t o e)
  plain-claimed t o owner None is p = p
  plain-claimed t o owner (Some e) is p =
      plain-event t o (Some (claimed_by owner e)) (hung-up-kept.claims owner e ∙ sym (ap is_hung_up is)) (semaphore-kept.claims owner e ∙ sym (ap is_semaphore is)) p

  set-lists : (lists : List (List Member)) (l x : ℕ) (new : List Member) → AllByRecursion AsksForIn new → AllByRecursion AsksForIn (slice_index_or lists x []) → AllByRecursion AsksForIn (slice_index_or (slice_set lists l new) x [])
  set-lists lists l x new all was =
      elim (cases_eq x l) [
        | inl same ↦
            (let P : ℕ → Type 0 = λ y. AllByRecursion AsksForIn (slice_index_or lists y []) → AllByRecursion AsksForIn (slice_index_or (slice_set lists l new) y []) in
            (subst P (sym same) here) was)
        | inr other ↦ (let P : List Member → Type 0 = λ ms. AllByRecursion AsksForIn ms in subst P (sym (get_or-set_other lists l x new [] other)) was)
      ] where
        here : AllByRecursion AsksForIn (slice_index_or lists l []) → AllByRecursion AsksForIn (slice_index_or (slice_set lists l new) l [])
        here was =
            elim (cases_lt l (length lists)) [
              | inl below ↦ (let P : List Member → Type 0 = λ ms. AllByRecursion AsksForIn ms in subst P (sym (get_or-set_same lists l new [] below)) all)
              | inr past ↦ (let P : List (List Member) → Type 0 = λ ls. AllByRecursion AsksForIn (slice_index_or ls l []) in subst P (sym (set_past lists l new past)) was)
            ]

  plain-members : (t : HostTable) (l : ℕ) (new : List Member) → AllByRecursion AsksForIn new → IsPlain g t → IsPlain g (with_members t l new)
  plain-members t l new all p = record {
    asks = λ x. set-lists t.lists l x new all (p.asks x);
    none_hung_up = p.none_hung_up;
    bells = p.bells;
  }

  fewer-ask : (ms : List Member) (o : ℕ) → AllByRecursion AsksForIn ms → AllByRecursion AsksForIn (without_member ms o)
  fewer-ask [] o all = tt
  fewer-ask (m ∷ ms) o all = by (not (m.object == o)) (fewer-ask ms o all.1) where
    by : (b : Bool) → AllByRecursion AsksForIn (without_member ms o) → AllByRecursion AsksForIn (cond b (m ∷ without_member ms o) (without_member ms o))
    by true rest = (all.0, rest)
    by false rest = rest

  plain-added : (t : HostTable) (l o n : ℕ) → IsPlain g t → IsPlain g (with_members t l (with_member (members_at t l) (listener o n)))
  plain-added t l o n p = plain-members t l (with_member (members_at t l) (listener o n)) (with-all AsksForIn (members_at t l) (listener o n) refl (p.asks l)) p

  plain-without : (t : HostTable) (l o : ℕ) → IsPlain g t → IsPlain g (with_members t l (without_member (members_at t l) o))
  plain-without t l o p = plain-members t l (without_member (members_at t l) o) (fewer-ask (members_at t l) o (p.asks l)) p

  plain-if : (b : Bool) (new old : HostTable) → IsPlain g new → IsPlain g old → IsPlain g (cond b new old)
  plain-if true new old p q = p
  plain-if false new old p q = q

-- Steps

module _ {V : Type 0} (g : Wiring) where
  -- a small step of control
  plain-small : (h : Shared V) (s : Small) → IsPlain g h.table → IsPlain g (small_after g h s).table
  unfolding claim_after release_after add_after delete_after
  plain-small h (Claim o q) p = plain-if g (can_claim h.table o q) _ h.table (plain-claimed g h.table o (Some q) (event_at h.table o) refl p) p
  plain-small h (Release o) p = plain-claimed g h.table o None (event_at h.table o) refl p
  plain-small h (Add k o n) p = plain-if g (can_add h.table (opened_at g k).list o) _ h.table (plain-added g h.table (opened_at g k).list o n p) p
  plain-small h (Delete k o) p = plain-without g h.table (opened_at g k).list o p
  plain-small h (Listen k o n) p = plain-if g (can_listen h.table (opened_at g k).list o) _ h.table (plain-added g h.table (opened_at g k).list o n p) p
  plain-small h (Unlisten k o a) p = plain-if g (can_unlisten h.table (opened_at g k).list o a) _ h.table (plain-without g h.table (opened_at g k).list o p) p
  plain-small h (Bell o) p = plain-raised g h.table o p
  plain-small h (Remove k n) p = p
  plain-small h (Insert k n) p = p
  plain-small h (Set q o) p = p
  plain-small h (Info q desc avail used) p = p
  plain-small h (Table change) p = p
  plain-small h (Log o offset size) p = p
  plain-small h (Device call) p = p
  plain-small h Answering p = p

  plain-acted : (h : Shared V) (action : Guest) → IsPlain g h.table → IsPlain g (acted h action).table
  plain-acted h (Store object offset bytes) p = p
  plain-acted h (Signal object) p = plain-raised g h.table object p
  plain-acted h (Harvest object word) p = p

  -- a step of a worker
  module _ (m : Meaning V) (k : ℕ) (h : Shared V) (p : IsPlain g h.table) where
    abbrev Kept : Shared V → Type 0
    Kept z = IsPlain g z.table

    called-plain : (z : Shared V) (call : Option ℕ) (wanted : Bool) → Kept z → Kept (called z call wanted)
    called-plain z call false kept = kept
    called-plain z None true kept = kept
    called-plain z (Some o) true kept = plain-raised g z.table o kept

    said-plain : (e : Entry) (reply queues : List ℕ) (said : Result Bool PutFault) → Kept (after_said h e reply queues said).shared
    said-plain e reply queues (Ok wanted) = called-plain (used h e reply) (ring_at h e.queue).call wanted p
    said-plain e reply queues (Err fault) = p

    take-plain : (queues : List ℕ) → Kept (after_take h queues).shared
    take-plain [] = p
    take-plain (q ∷ rest) = take-leaf h (λ z. Kept z.shared) q rest (λ c is. p) (λ is. none-leaf h Kept q (λ live. p) (λ not. p)) (λ d is. p)

    plain-work : (phase : Phase) (l : Play) → MayWork g k h phase l → Kept (after_work m g k h phase l).shared
    plain-work =
        work-cases g k h (λ phase l. Kept (after_work m g k h phase l).shared)
        (λ object ready. p)
        (λ object token. event-shared g k h Kept object token p (λ o. plain-read g h.table o p))
        p
        (λ token said. p)
        (λ queues. take-plain queues)
        (λ e queues. p)
        (λ e reply queues. said-plain e reply queues (put_said h e reply))

abbrev PlainWorld : {V : Type 0} → World V → Type 0
PlainWorld w = IsPlain w.wiring w.shared.table

plain-guest : {V : Type 0} (w : World V) (actions : List Guest) → PlainWorld w → PlainWorld (after_guest w actions)
plain-guest w [] p = p
plain-guest w (action ∷ actions) p = plain-acted w.wiring w.shared action p

plain-step : {V : Type 0} (m : Meaning V) (w : World V) (p : Party) (l : Play) → May w p l → PlainWorld w → PlainWorld (after m w p l)
plain-step m w party.Guest play.Guest may plain = plain-guest w w.guest plain
plain-step m w party.Control (play.Control s said) may plain = plain-small w.wiring w.shared s plain
plain-step m w (party.Worker k) l may plain = plain-work w.wiring m k w.shared plain (phase_at w.phases k) l may
plain-step m w p l may plain = absurd may

-- a turn leaves the table plain
pub plain-turn : {V : Type 0} (m : Meaning V) (w : World V) (p : Party) (l : Play) (z : World V) → Turn m w p l z → IsPlain w.wiring w.shared.table → IsPlain z.wiring z.shared.table
plain-turn {V} m w p l z turn plain =
    let K : World V → Type 0 = λ x. PlainWorld x in
    turn-cases m w p z (λ l. PlainWorld z) (λ same. subst K (sym same) plain) (λ l may is. subst K (sym is) (plain-step m w p l may plain)) l turn

-- The opening asks for IN alone, hangs nothing up, and makes plain bells

plain-placed : {V : Type 0} (g : Wiring) (h : Shared V) (kick : ℕ) (place : Option Place) → IsPlain g h.table → IsPlain g (placed g h kick place).table
plain-placed g h kick None p = p
plain-placed g h kick (Some at) p =
    let l = (opened_at g at.worker).list in
    let more = with_member (members_at h.table l) (listed kick at.number) in
    plain-raised g (with_members h.table l more) (opened_at g at.worker).bell (plain-members g h.table l more (with-all AsksForIn (members_at h.table l) (listed kick at.number) refl (p.asks l)) p)

claimed-same : (x : Option Event → Bool) → ((owner : Option ℕ) (e : Event) → x (Some (claimed_by owner e)) ≡ x (Some e)) → (q : ℕ) (e : Option Event) → x (claimed_event q e) ≡ x e
claimed-same x keeps q None = refl
claimed-same x keeps q (Some e) = keeps (Some q) e

plain-kicked : {V : Type 0} (g : Wiring) (h : Shared V) (r : GivenRing) (kick : Option ℕ) → IsPlain g h.table → IsPlain g (registered_kick g h r kick).table
plain-kicked g h r None p = p
plain-kicked {V} g h r (Some kick) p =
    let e = event_at h.table kick in
    let its = plain-event g h.table kick (claimed_event r.queue e) (claimed-same is_hung_up hung-up-kept.claims r.queue e) (claimed-same is_semaphore semaphore-kept.claims r.queue e) p in
    cond_both {A = Shared V} (r.ready && r.enabled) (placed g (claimed h kick r.queue) kick (place_of g r.queue)) (claimed h kick r.queue) (λ x. IsPlain g x.table)
    (λ on. plain-placed g (claimed h kick r.queue) kick (place_of g r.queue) its) (λ off. its)

plain-all : {V : Type 0} (g : Wiring) (given : List GivenRing) (h : Shared V) → IsPlain g h.table → IsPlain g (fold (λ h r. registered g h r) h given).table
plain-all g [] h p = p
plain-all g (r ∷ given) h p = plain-all g given (registered g h r) (plain-kicked g h r r.kick p)

exit-asks : (exit : Option ℕ) (token : ℕ) → AllByRecursion AsksForIn (exit_member exit token)
exit-asks None token = tt
exit-asks (Some x) token = (refl, tt)

opened-asks : (queues : ℕ) (ws : List Opened) (l : ℕ) → AllByRecursion AsksForIn (slice_index_or (map (λ w. opening_members queues w) ws) l [])
opened-asks queues [] l = tt
opened-asks queues (w ∷ ws) zero = with-all AsksForIn (exit_member w.exit queues) (listed w.bell queues) refl (exit-asks w.exit queues)
opened-asks queues (w ∷ ws) (suc l) = opened-asks queues ws l

no-hang : (objects : List Object) (masks : List ℕ) (o : ℕ) → is_hung_up (slice_index_or (opening_events objects masks) o None) ≡ false
no-hang [] [] o = refl
no-hang [] (mask ∷ masks) zero = refl
no-hang [] (mask ∷ masks) (suc o) = no-hang [] masks o
no-hang (x ∷ objects) masks zero = refl
no-hang (x ∷ objects) masks (suc o) = no-hang objects masks o

bells-at : (masks : List ℕ) (k : ℕ) → k < length masks → is_semaphore (slice_index_or (opening_events [] masks) k None) ≡ false
bells-at [] k low = absurd (omega (arith, low))
bells-at (mask ∷ masks) zero low = refl
bells-at (mask ∷ masks) (suc k) low = bells-at masks k (omega (arith, low))

plain-bell : (objects : List Object) (masks : List ℕ) (k : ℕ) → k < length masks → is_semaphore (slice_index_or (opening_events objects masks) (length objects + k) None) ≡ false
plain-bell [] masks k low =
    let here : length {A = Object} [] + k ≡ k = omega arith in
    ap (λ n. is_semaphore (slice_index_or (opening_events [] masks) n None)) here ∙ bells-at masks k low
plain-bell (x ∷ objects) masks k low =
    let up : length (x ∷ objects) + k ≡ suc (length objects + k) = omega arith in
    ap (λ n. is_semaphore (slice_index_or (opening_events (x ∷ objects) masks) n None)) up ∙ plain-bell objects masks k low

pub opening-plain : {V : Type 0} (constants : Constants) (setup : Setup) (v : V) → IsPlain (opening constants setup v).wiring (opening constants setup v).shared.table
unfolding opening
opening-plain constants setup v =
    let count = length setup.objects in
    let g = wiring_of constants count in
    let size : length g.opened ≡ length constants.masks = length-map-range_with_len (λ w. opened_worker count constants.exits w) 0 (length constants.masks) in
    plain-all g setup.rings (before_rings constants setup v) (record {
      asks = λ l. opened-asks constants.queues g.opened l;
      none_hung_up = λ o. no-hang setup.objects constants.masks o;
      bells = λ j low.
          let below : j < length constants.masks = omega (arith, low, size) in
          let is : opened_at g j ≡ opened_worker count constants.exits j = get_or-map-range_with_len (λ w. opened_worker count constants.exits w) 0 (length constants.masks) j j no_worker below (omega arith) in
          ap (λ (w : Opened). is_semaphore (slice_index_or (opening_events setup.objects constants.masks) w.bell None)) is ∙ plain-bell setup.objects constants.masks j below;
    })
