-- The plan of each request fits where it begins, with every queue settled.
use Rattle.std.proofs.Common.{◌≡◌, ℕ, zero, suc, ◌<◌, ◌≤◌, Bool, true, false, cond, not, ◌&&◌, ◌||◌, inl, inr, List, [], ◌∷◌, ◌++◌, length, Option, Some, None, is_some, refl, sym, ap, ◌∙◌, subst, arith, eqb, nat_lt, slice_set, slice_index_or, append_assoc, Result, Ok, Err, nat_le, ◌%◌, ◌^◌}
use Rattle.std.proofs.lemmas.List.{get_or-set_same}
use Rattle.std.proofs.lemmas.Bool.{cases_eq, and_parts, eqb-true, eq-eqb, ltb-true}
use Rattle.vub_mem.specs.declared.region.Region.{Region}
use Rattle.vub_mem.specs.declared.errors.MemError.{MemError}
use Rattle.vub_proto.specs.declared.answer.Answer.{Answer}
use Rattle.vub_proto.specs.declared.answer.Answer.TheVariants as answer
use Rattle.vub_proto.specs.declared.answer.Cause.TheVariants as cause
use Rattle.vub_proto.specs.declared.answer.VhostUserError.TheVariants as error
use Rattle.vub_proto.specs.declared.answer.ListenerError.TheVariants as listener_error
use Rattle.vub_proto.specs.declared.answer.VhostUserError.{VhostUserError}
use Rattle.vub_proto.specs.declared.device_op.DeviceOp.{DeviceOp}
use Rattle.vub_proto.specs.declared.device_op.DeviceOp.TheVariants as device
use Rattle.vub_proto.specs.declared.request.Request.{Request}
use Rattle.vub_proto.specs.declared.request.Request.TheVariants as request
use Rattle.vub_model.specs.declared.ring_op.RingOp.{RingOp}
use Rattle.vub_model.specs.declared.ring_op.RingOp.TheVariants as op
use Rattle.vub_model.specs.declared.session.Session.{Session}
use Rattle.vub_model.specs.declared.small.Small.{Small}
use Rattle.vub_model.specs.declared.small.Small.TheVariants.{Claim, Release, Listen, Unlisten, Set, Info, Device, Answer as Answering}
use Rattle.vub_model.specs.declared.small.TableOp.{TableOp}
use Rattle.vub_model.specs.declared.small.TableOp.TheVariants as table_op
use Rattle.vub_proto.specs.declared.answer.Denied.TheVariants as denied
use Rattle.vub_mem.specs.Mappings.{gpa_of}
use Rattle.vub_model.specs.declared.wiring.Known.{Known}
use Rattle.vub_model.specs.declared.wiring.Opened.{Opened}
use Rattle.vub_model.specs.Plans.{Reply, says, next_of, Plan, answered, done, asks, tested, indexed, when, off_steps, update_steps, release_steps, same_event, each_queue, kick_steps, call_steps, enable_steps, disable_steps, stop_steps, exit_steps, bell_steps, features_steps, reset_steps, info_plan, addr_plan, table_plan, is_listener, listener_refused, no_flag, are_offered, regions_for, mappings_for, region_for, mapping_for, is_size, is_empty, plan_of}
use Rattle.vub_model.specs.Wiring.{Wiring, has_bit, place_of}
use Rattle.vub_model.specs.Frame.{Frame, known_at, claim_at, is_there, known_of}
use Rattle.vub_model.specs.FrameSteps.{known_after, frame_step}
use Rattle.vub_model.specs.Schedule.{Linked, Wired, Settled, NoBell, SetFits, Safe, RequestFits}
use Rattle.vub_model.proofs.Linking.{listen-settled, unlisten-settled, kick_at, unclaimed-other, linked-step, wired-step, known-other, there-within}
use Rattle.vub_model.proofs.Blocks.{At, enter, leave, quiet-is, with-claims, off-block, update-block, set-flags, set-kick}
use Rattle.vub_model.specs.RingRecord.{closed_ring}
use Rattle.std.specs.Result.{is_ok}
use Rattle.vub_queue.specs.Settings.{info_answer}
use native.Mathlib.Nat.{mod-lt}

same-is : (a b : Option ℕ) → same_event a b ≡ true → a ≡ b
same-is None None h = refl
same-is (Some a) (Some b) h = ap (λ i. Some i) (eqb-true a b h)
same-is None (Some b) h = absurd cc
same-is (Some a) None h = absurd cc

same-not : (a b : Option ℕ) → same_event a b ≡ false → a ≡ b → ⊥
same-not None None h e = absurd cc
same-not (Some a) (Some b) h e = let same : a ≡ b = cc in let yes = eq-eqb a b same in absurd cc
same-not None (Some b) h e = absurd cc
same-not (Some a) None h e = absurd cc

and-false : (r : Bool) → r && false ≡ false
and-false true = refl
and-false false = refl

-- what is said where every queue is settled
pub answer-safe : (g : Wiring) (a : Answer) (f : Frame) → Settled g f → Safe g f (says a) (Answering ∷ [])
answer-safe g a f settled = ((refl, tt), λ _. settled)

module _ (g : Wiring) (q : ℕ) where
  module _ (reply : Reply) where
    ready-block : (new : Option ℕ) (r e l : Bool) (f : Frame) (rest : List Small) → At g q new r e l f → (r ≡ false → l ≡ false) → ((z : Frame) → At g q new (r || is_some new) e l z → Safe g z reply rest) → Safe g f reply (when (is_some new && not r) (Set q (op.SetReady true) ∷ []) ++ rest)
    ready-block None true e l f rest at low more = more f at
    ready-block None false e l f rest at low more = more f at
    ready-block (Some o) true e l f rest at low more = more f at
    ready-block (Some o) false e l f rest at low more =
        let down : At g q (Some o) false e false f = (let P : Bool → Type 0 = λ l. At g q (Some o) false e l f in subst P (low refl) at) in
        let fits : SetFits g f q (op.SetReady true) = inr (quiet-is g reply q (Some o) false e f down) in
        ((at.within, fits), λ _. more (frame_step g f (Set q (op.SetReady true))) (set-flags g reply q (op.SetReady true) (Some o) false e l true e f fits refl at))

    release-block : (kick now : Option ℕ) (r e l : Bool) (f : Frame) (rest : List Small) → ((o : ℕ) → kick ≡ Some o → claim_at f o ≡ Some q) → (kick ≡ now → ⊥) → At g q now r e l f → ((z : Frame) → At g q now r e l z → z.known ≡ f.known → Safe g z reply rest) → Safe g f reply (release_steps kick ++ rest)
    release-block None now r e l f rest mine other at more = more f at refl
    release-block (Some o) now r e l f rest mine other at more =
        let none : (p : ℕ) → kick_at f p ≡ Some o → ⊥ = (λ p has.
        let its = sym (at.linked.claimed p o has) ∙ mine o refl in
        let own : p ≡ q = cc in
        let P : ℕ → Type 0 = λ p. kick_at f p ≡ Some o in
        other (sym (subst P own has) ∙ ap (λ (k : Known). k.kick) at.is)) in
        (none, λ _. more (frame_step g f (Release o)) (with-claims g reply q now r e l f (slice_set f.claims o None) at (linked-step g f at.wired at.linked (Release o) reply rest none refl) (wired-step g f at.wired at.linked (Release o))) refl)

    -- Set enabled, Update
    enabled-block : (b : Bool) (k : Known) (f : Frame) (rest : List Small) → At g q k.kick k.ready k.enabled (k.ready && k.enabled) f → ((z : Frame) → At g q k.kick k.ready b (k.ready && b) z → ((p : ℕ) → (p ≡ q → ⊥) → known_at z p ≡ known_at f p) → Safe g z reply rest) → Safe g f reply (Set q (op.SetEnabled b) ∷ (update_steps g q k.kick (k.ready && b) ++ rest))
    enabled-block b k f rest at more =
        let fits = ok b k.enabled k.ready k.kick at in (
          (at.within, fits),
          λ _. update-block g reply q (k.ready && b) k.kick k.ready b (k.ready && k.enabled) (frame_step g f (Set q (op.SetEnabled b))) rest
              (set-flags g reply q (op.SetEnabled b) k.kick k.ready k.enabled (k.ready && k.enabled) k.ready b f fits refl at)
              (λ z last claims known events. more z last (λ p other. ap (λ l. slice_index_or l p (known_of closed_ring)) known ∙ known-other g f at.wired at.linked q (known_after (known_at f q) (op.SetEnabled b)) at.within p other)),
        ) where
          ok : (b e r : Bool) (kick : Option ℕ) → At g q kick r e (r && e) f → SetFits g f q (op.SetEnabled b)
          ok false e r kick at = tt
          ok true true r kick at = inl (ap (λ (k : Known). k.enabled) at.is)
          ok true false r kick at = inr (quiet-is g reply q kick r false f (let P : Bool → Type 0 = λ l. At g q kick r false l f in subst P (and-false r) at))

    disabled-block : (k : Known) (f : Frame) (rest : List Small) → At g q k.kick k.ready k.enabled (k.ready && k.enabled) f → ((z : Frame) → At g q k.kick k.ready false (k.ready && false) z → ((p : ℕ) → (p ≡ q → ⊥) → known_at z p ≡ known_at f p) → Safe g z reply rest) → Safe g f reply (Set q (op.SetEnabled false) ∷ (off_steps (place_of g q) k.kick ++ rest))
    disabled-block k f rest at more = (
      (at.within, tt),
      λ _. off-block g reply q k.kick (place_of g q) refl k.ready false (k.ready && k.enabled) (frame_step g f (Set q (op.SetEnabled false))) rest
          (set-flags g reply q (op.SetEnabled false) k.kick k.ready k.enabled (k.ready && k.enabled) k.ready false f tt refl at)
          (λ z last claims known events. more z (let P : Bool → Type 0 = λ l. At g q k.kick k.ready false l z in subst P (sym (and-false k.ready)) last) (λ p other. ap (λ l. slice_index_or l p (known_of closed_ring)) known ∙ known-other g f at.wired at.linked q (known_after (known_at f q) (op.SetEnabled false)) at.within p other)),
    )

    -- a change that leaves kick and flags
    plain-block : (o : RingOp) (k : Known) (f : Frame) (rest : List Small) → SetFits g f q o → known_after k o ≡ k → At g q k.kick k.ready k.enabled (k.ready && k.enabled) f → ((z : Frame) → At g q k.kick k.ready k.enabled (k.ready && k.enabled) z → ((p : ℕ) → (p ≡ q → ⊥) → known_at z p ≡ known_at f p) → Safe g z reply rest) → Safe g f reply (Set q o ∷ rest)
    plain-block o k f rest fits same at more =
        ((at.within, fits), λ _. more (frame_step g f (Set q o)) (set-flags g reply q o k.kick k.ready k.enabled (k.ready && k.enabled) k.ready k.enabled f fits same at) (λ p other. known-other g f at.wired at.linked q (known_after (known_at f q) o) at.within p other))

  done-safe : (a : Answer) (kick : Option ℕ) (r e : Bool) (f : Frame) → At g q kick r e (r && e) f → Safe g f (says a) (Answering ∷ [])
  done-safe a kick r e f at = answer-safe g a f (leave g (says a) q kick r e f at)

  -- set_vring_kick, from the Set of the kick on
  module _ (a : Answer) (kick new : Option ℕ) (r e : Bool) where
    abbrev reply : Reply
    reply = says a

    abbrev ending : List Small
    ending = when (is_some new && not r) (Set q (op.SetReady true) ∷ []) ++ (update_steps g q new ((r || is_some new) && e) ++ Answering ∷ [])

    end-safe : (l : Bool) (f : Frame) → At g q new r e l f → (r ≡ false → l ≡ false) → Safe g f reply ending
    end-safe l f at low =
        ready-block reply new r e l f (update_steps g q new ((r || is_some new) && e) ++ Answering ∷ []) at low
        (λ z up. update-block g reply q ((r || is_some new) && e) new (r || is_some new) e l z (Answering ∷ []) up (λ y last claims known events. done-safe a new (r || is_some new) e y last))

    middle : (d : Bool) → same_event kick new ≡ d → (f : Frame) → ((o : ℕ) → new ≡ Some o → claim_at f o ≡ Some q) → At g q kick r e (r && e) f → Safe g f reply (when (not d) (off_steps (place_of g q) kick) ++ (Set q (op.SetKick new) ∷ (when (not d) (release_steps kick) ++ ending)))
    middle true is f mine at =
        let same = same-is kick new is in
        let fits : SetFits g f q (op.SetKick new) = inl (ap (λ (k : Known). k.kick) at.is ∙ same) in
        let low : r ≡ false → r && e ≡ false = λ h. ap (λ b. b && e) h in
        ((at.within, fits), λ _. end-safe (r && e) (frame_step g f (Set q (op.SetKick new))) (set-kick g reply q new kick r e (r && e) (r && e) f fits (λ w n o placed has. at.listing w n o placed (same ∙ has)) at) low)
    middle false is f mine at =
        off-block g reply q kick (place_of g q) refl r e (r && e) f (Set q (op.SetKick new) ∷ (release_steps kick ++ ending)) at
        (λ z off claims known events.
        let owned : (o : ℕ) → new ≡ Some o → claim_at z o ≡ Some q = λ o has. ap (λ c. slice_index_or c o None) claims ∙ mine o has in
        let other = same-not kick new is in
        let fits : SetFits g z q (op.SetKick new) = inr (quiet-is g reply q kick r e z off, owned) in
        let kick_now : kick_at z q ≡ kick = ap (λ (k : Known). k.kick) off.is in
        let next = set-kick g reply q new kick r e false false z fits (λ w n o placed has. unclaimed-other g z off.wired off.linked w o q (off.wired.placed q w n placed) (owned o has) (λ was. other (sym kick_now ∙ (was ∙ sym has)))) off in
        ((off.within, fits), λ _. release-block reply kick new r e false (frame_step g z (Set q (op.SetKick new))) ending (λ o has. off.linked.claimed q o (kick_now ∙ has)) other next (λ y at same. end-safe false y at (λ _. refl))))

  kick-safe : (a : Answer) (f : Frame) → Wired g f → Linked g f → Settled g f → q < g.queues → (new : Option ℕ) → RequestFits g f.events (request.SetVringKick q new) → Safe g f (says a) (kick_steps g q (known_at f q) new)
  kick-safe a f wired l settled within None fits =
      let k = known_at f q in
      middle a k.kick None k.ready k.enabled (same_event k.kick None) refl f (λ o has. absurd cc) (enter g (says a) q f wired l settled within k refl)
  kick-safe a f wired l settled within (Some o) fits =
      let k = known_at f q in (
        (settled, fits.0, fits.1),
        λ can.
            let claimed = linked-step g f wired l (Claim o q) (says a) [] (settled, fits.0, fits.1) can in
            middle a k.kick (Some o) k.ready k.enabled (same_event k.kick (Some o)) refl (frame_step g f (Claim o q))
            (λ x has. let e : o ≡ x = cc in let P : ℕ → Type 0 = λ x. claim_at (frame_step g f (Claim o q)) x ≡ Some q in subst P e (get_or-set_same f.claims o (Some q) None (there-within g f wired o fits.0)))
            (with-claims g (says a) q k.kick k.ready k.enabled (k.ready && k.enabled) f (slice_set f.claims o (Some q)) (enter g (says a) q f wired l settled within k refl) claimed (wired-step g f wired l (Claim o q))),
      )

  -- get_vring_base
  stop-safe : (f : Frame) → Wired g f → Linked g f → Settled g f → q < g.queues → Safe g f (next_of q) (stop_steps g q (known_at f q))
  stop-safe f wired l settled within =
      let reply = next_of q in
      let k = known_at f q in
      let at = enter g reply q f wired l settled within k refl in (
        (within, tt),
        λ _. off-block g reply q k.kick (place_of g q) refl false k.enabled (k.ready && k.enabled) (frame_step g f (Set q (op.SetReady false))) (Device (device.StopVring q) ∷ Set q (op.SetKick None) ∷ Set q (op.SetCall None) ∷ (release_steps k.kick ++ Answering ∷ []))
            (set-flags g reply q (op.SetReady false) k.kick k.ready k.enabled (k.ready && k.enabled) false k.enabled f tt refl at)
            (λ z off claims known events.
            let kick_now : kick_at z q ≡ k.kick = ap (λ (k : Known). k.kick) off.is in
            let fits : SetFits g z q (op.SetKick None) = inr (quiet-is g reply q k.kick false k.enabled z off, (λ o has. absurd cc)) in
            let next = set-kick g reply q None k.kick false k.enabled false false z fits (λ w n o placed has. absurd cc) off in
            let last = set-flags g reply q (op.SetCall None) None false k.enabled false false k.enabled (frame_step g z (Set q (op.SetKick None))) tt refl next in (
              leave g reply q k.kick false k.enabled z off,
              λ _. (
                (off.within, fits),
                λ _. (
                  (off.within, tt),
                  λ _.
                      ending k.kick k.enabled (frame_step g (frame_step g z (Set q (op.SetKick None))) (Set q (op.SetCall None))) (λ o has. off.linked.claimed q o (kick_now ∙ has)) last,
                ),
              ),
            )),
      ) where
        ending : (kick : Option ℕ) (e : Bool) (y : Frame) → ((o : ℕ) → kick ≡ Some o → claim_at y o ≡ Some q) → At g q None false e false y → Safe g y (next_of q) (release_steps kick ++ Answering ∷ [])
        ending None e y mine at = ((refl, ap (λ (k : Known). k.ready) at.is), λ _. leave g (next_of q) q None false e y at)
        ending (Some o) e y mine at = release-block (next_of q) (Some o) None false e false y (Answering ∷ []) mine (λ e. cc) at (λ x at same. ((refl, ap (λ (k : Known). k.ready) at.is), λ _. leave g (next_of q) q None false e x at))

  -- set_vring_call
  call-safe : (a : Answer) (f : Frame) → Wired g f → Linked g f → Settled g f → q < g.queues → (new : Option ℕ) → Safe g f (says a) (call_steps g q (known_at f q) new)
  call-safe a f wired l settled within new =
      let k = known_at f q in
      plain-block (says a) (op.SetCall new) k f (when (is_some k.kick && not k.ready) (Set q (op.SetReady true) ∷ update_steps g q k.kick k.enabled) ++ Answering ∷ []) tt refl (enter g (says a) q f wired l settled within k refl)
      (λ z at others. by k.kick k.ready k.enabled z at) where
        by : (kick : Option ℕ) (r e : Bool) (z : Frame) → At g q kick r e (r && e) z → Safe g z (says a) (when (is_some kick && not r) (Set q (op.SetReady true) ∷ update_steps g q kick e) ++ Answering ∷ [])
        by None r e z at = done-safe a None r e z at
        by (Some o) true e z at = done-safe a (Some o) true e z at
        by (Some o) false e z at =
            let fits : SetFits g z q (op.SetReady true) = inr (quiet-is g (says a) q (Some o) false e z at) in (
              (at.within, fits),
              λ _. update-block g (says a) q e (Some o) true e false (frame_step g z (Set q (op.SetReady true))) (Answering ∷ [])
                  (set-flags g (says a) q (op.SetReady true) (Some o) false e false true e z fits refl at)
                  (λ y last claims known events. done-safe a (Some o) true e y last),
            )

  enable-safe : (a : Answer) (f : Frame) → Wired g f → Linked g f → Settled g f → q < g.queues → (b : Bool) → Safe g f (says a) (enable_steps g q (known_at f q) b ++ Answering ∷ [])
  enable-safe a f wired l settled within b =
      let k = known_at f q in
      enabled-block (says a) b k f (Answering ∷ []) (enter g (says a) q f wired l settled within k refl) (λ z at others. done-safe a k.kick k.ready b z at)

  set-safe : (a : Answer) (o : RingOp) (f : Frame) → Wired g f → Linked g f → Settled g f → q < g.queues → SetFits g f q o → known_after (known_at f q) o ≡ known_at f q → Safe g f (says a) (Set q o ∷ Answering ∷ [])
  set-safe a o f wired l settled within fits same =
      let k = known_at f q in
      plain-block (says a) o k f (Answering ∷ []) fits same (enter g (says a) q f wired l settled within k refl) (λ z at others. done-safe a k.kick k.ready k.enabled z at)

-- the plan fits from this frame on
pub record IsFine (g : Wiring) (f : Frame) (p : Plan) : Type 0 where
  pub safe : Safe g f p.reply p.steps

-- Loops over the queues

-- settled, with the kicks and ready flags with which the request began
pub record Good (g : Wiring) (f z : Frame) : Type 0 where
  pub wired : Wired g z
  pub linked : Linked g z
  pub settled : Settled g z
  pub kicks : (p : ℕ) → kick_at z p ≡ kick_at f p
  pub readies : (p : ℕ) → (known_at z p).ready ≡ (known_at f p).ready

module _ (g : Wiring) (reply : Reply) (f : Frame) where
  good-at : (q : ℕ) → q < g.queues → (z : Frame) → Good g f z → At g q (kick_at f q) (known_at f q).ready (known_at z q).enabled ((known_at f q).ready && (known_at z q).enabled) z
  good-at q within z good =
      let P : Option ℕ → Type 0 = λ k. At g q k (known_at z q).ready (known_at z q).enabled ((known_at z q).ready && (known_at z q).enabled) z in
      let R : Bool → Type 0 = λ r. At g q (kick_at f q) r (known_at z q).enabled (r && (known_at z q).enabled) z in
      subst R (good.readies q) (subst P (good.kicks q) (enter g reply q z good.wired good.linked good.settled within (known_at z q) refl))

  good-next : (q : ℕ) (e : Bool) (z y : Frame) → Good g f z → At g q (kick_at f q) (known_at f q).ready e ((known_at f q).ready && e) y → ((p : ℕ) → (p ≡ q → ⊥) → known_at y p ≡ known_at z p) → Good g f y
  good-next q e z y good at others = record {
    wired = at.wired;
    linked = at.linked;
    settled = leave g reply q (kick_at f q) (known_at f q).ready e y at;
    kicks = λ p. elim (cases_eq p q) [
      | inl same ↦ (let P : ℕ → Type 0 = λ p. kick_at y p ≡ kick_at f p in subst P (sym same) (ap (λ (k : Known). k.kick) at.is))
      | inr other ↦ ap (λ (k : Known). k.kick) (others p other) ∙ good.kicks p
    ];
    readies = λ p. elim (cases_eq p q) [
      | inl same ↦ (let P : ℕ → Type 0 = λ p. (known_at y p).ready ≡ (known_at f p).ready in subst P (sym same) (ap (λ (k : Known). k.ready) at.is))
      | inr other ↦ ap (λ (k : Known). k.ready) (others p other) ∙ good.readies p
    ];
  }

  abbrev Block : (ℕ → List Small) → Type 0
  Block steps = (q : ℕ) → q < g.queues → (z : Frame) → Good g f z → (rest : List Small) → ((y : Frame) → Good g f y → Safe g y reply rest) → Safe g z reply (steps q ++ rest)

  loop : (steps : ℕ → List Small) → Block steps → (n : ℕ) → n ≤ g.queues → (z : Frame) → Good g f z → (rest : List Small) → ((y : Frame) → Good g f y → Safe g y reply rest) → Safe g z reply (each_queue steps n ++ rest)
  loop steps block zero low z good rest more = more z good
  loop steps block (suc n) low z good rest more =
      let P : List Small → Type 0 = λ p. Safe g z reply p in
      subst P (sym (append_assoc (each_queue steps n) (steps n) rest)) (loop steps block n (omega arith) z good (steps n ++ rest) (λ y next. block n (omega arith) y next rest more))

  enables : Block (λ q. enable_steps g q (known_at f q) true)
  enables q within z good rest more =
      enabled-block g q reply true (record { kick = kick_at f q; ready = (known_at f q).ready; enabled = (known_at z q).enabled }) z rest (good-at q within z good)
      (λ y at others. more y (good-next q true z y good at others))

  disables : Block (λ q. disable_steps g q (known_at f q))
  disables q within z good rest more =
      disabled-block g q reply (record { kick = kick_at f q; ready = (known_at f q).ready; enabled = (known_at z q).enabled }) z rest (good-at q within z good)
      (λ y at others. more y (good-next q false z y good at others))

  indexes : (b : Bool) → Block (λ q. Set q (op.SetEventIdx b) ∷ [])
  indexes b q within z good rest more =
      let k : Known = record { kick = kick_at f q; ready = (known_at f q).ready; enabled = (known_at z q).enabled } in
      plain-block g q reply (op.SetEventIdx b) k z rest tt refl (good-at q within z good) (λ y at others. more y (good-next q (known_at z q).enabled z y good at others))

module _ (g : Wiring) (f : Frame) (wired : Wired g f) (l : Linked g f) (settled : Settled g f) where
  begun-good : Good g f f
  begun-good = record { wired = wired; linked = l; settled = settled; kicks = λ p. refl; readies = λ p. refl }

  abbrev pub Fine : Plan → Type 0
  Fine p = IsFine g f p

  answered-fine : (a : Answer) (s : Session) → Fine (answered a s)
  answered-fine a s = record { safe = ((refl, tt), λ _. settled) }

  asks-fine : (call : DeviceOp) (s : Session) → Fine (asks call s)
  asks-fine call s = record { safe = (settled, λ _. ((refl, tt), λ _. settled)) }

  tested-fine : (b : Bool) (e : VhostUserError) (s : Session) (p : Plan) → (b ≡ true → Fine p) → Fine (tested b e s p)
  tested-fine true e s p fine = fine refl
  tested-fine false e s p fine = answered-fine (answer.Failed e) s

  indexed-fine : (q : ℕ) (s : Session) (p : Plan) → (q < g.queues → Fine p) → Fine (indexed g q s p)
  indexed-fine q s p fine = tested-fine (nat_lt q g.queues) error.InvalidParam s p (λ is. fine (ltb-true q g.queues is))

  table-fine : (rs : List Region) (change : TableOp) (s : Session) → Fine (table_plan rs change s)
  table-fine rs change s = record { safe = (settled, λ _. (settled, λ _. ((refl, tt), λ _. settled))) }

  info-fine : (q : ℕ) (s : Session) (desc avail used : Result ℕ MemError) → q < g.queues → Fine (info_plan q s desc avail used)
  info-fine q s (Ok desc) (Ok avail) (Ok used) within = tested-fine (is_ok (info_answer desc avail used)) error.InvalidParam s (done (Info q desc avail used ∷ Answering ∷ []) s) (λ _. record { safe = (within, λ _. ((refl, tt), λ _. settled)) })
  info-fine q s (Err e) avail used within = answered-fine (answer.Failed (error.ReqHandlerError (cause.Memory e))) s
  info-fine q s (Ok desc) (Err e) used within = answered-fine (answer.Failed (error.ReqHandlerError (cause.Memory e))) s
  info-fine q s (Ok desc) (Ok avail) (Err e) within = answered-fine (answer.Failed (error.ReqHandlerError (cause.Memory e))) s

  exits-fine : (a : Answer) (ws : List Opened) → Safe g f (says a) (exit_steps ws ++ Answering ∷ [])
  exits-fine a [] = answer-safe g a f settled
  exits-fine a (w ∷ ws) = by w.exit (exits-fine a ws) where
    by : (exit : Option ℕ) → Safe g f (says a) (exit_steps ws ++ Answering ∷ []) → Safe g f (says a) ((bell_steps exit ++ exit_steps ws) ++ Answering ∷ [])
    by None rest = rest
    by (Some x) rest = (tt, λ _. rest)

  features-fine : (bits : ℕ) (s : Session) → Fine (done (features_steps g f bits) s)
  features-fine bits s = record { safe = by (not (has_bit bits 30)) } where
    reply : Reply
    reply = (done (features_steps g f bits) s).reply

    ending : List Small
    ending = each_queue (λ q. Set q (op.SetEventIdx (has_bit bits 29)) ∷ []) g.queues ++ Device (device.SetEventIdx (has_bit bits 29)) ∷ Device (device.AckedFeatures bits) ∷ Answering ∷ []

    last : (z : Frame) → Good g f z → Safe g z (done (features_steps g f bits) s).reply (each_queue (λ q. Set q (op.SetEventIdx (has_bit bits 29)) ∷ []) g.queues ++ Device (device.SetEventIdx (has_bit bits 29)) ∷ Device (device.AckedFeatures bits) ∷ Answering ∷ [])
    last z good = loop g (done (features_steps g f bits) s).reply f (λ q. Set q (op.SetEventIdx (has_bit bits 29)) ∷ []) (indexes g (done (features_steps g f bits) s).reply f (has_bit bits 29)) g.queues (omega arith) z good _ (λ y next. (next.settled, λ _. (next.settled, λ _. ((refl, tt), λ _. next.settled))))

    by : (b : Bool) → Safe g f (done (features_steps g f bits) s).reply (when b (each_queue (λ q. enable_steps g q (known_at f q) true) g.queues) ++ (each_queue (λ q. Set q (op.SetEventIdx (has_bit bits 29)) ∷ []) g.queues ++ Device (device.SetEventIdx (has_bit bits 29)) ∷ Device (device.AckedFeatures bits) ∷ Answering ∷ []))
    by true = loop g _ f (λ q. enable_steps g q (known_at f q) true) (enables g _ f) g.queues (omega arith) f begun-good _ last
    by false = last f begun-good

  reset-fine : (s : Session) → Fine (done (reset_steps g f) s)
  reset-fine s = record { safe = loop g (says answer.Ok) f (λ q. disable_steps g q (known_at f q)) (disables g (says answer.Ok) f) g.queues (omega arith) f begun-good (Device device.ResetDevice ∷ Answering ∷ []) (λ y next. (next.settled, λ _. ((refl, tt), λ _. next.settled))) }

  record IsListening (a d e : Bool) : Type 0 where
    token : a ≡ true
    worker : d ≡ true
    there : e ≡ true

  listen-parts : (a b c d e : Bool) → a && b && c && d && e ≡ true → IsListening a d e
  listen-parts a b c d e h =
      let last = and_parts (a && b && c && d) e h in
      let fourth = and_parts (a && b && c) d last.0 in
      let third = and_parts (a && b) c fourth.0 in
      record { token = (and_parts a b third.0).0; worker = fourth.1; there = last.1 }

  flag-fine : (flag : Option Bool) (s : Session) (p : Plan) → Fine p → Fine (no_flag flag s p)
  flag-fine flag s p fine = tested-fine (not (is_some flag)) (error.InvalidOperation denied.PostcopyNotEnabled) s p (λ _. fine)

  register-fine : (s : Session) (worker object set token : ℕ) → NoBell g object → (b : Bool) → is_listener g f worker object set token ≡ b → Fine (cond b (done (Listen worker object token ∷ Answering ∷ []) s) (listener_refused s))
  register-fine s worker object set token apart true is =
      let parts = listen-parts (nat_lt g.queues token) (nat_le token 65535) (eqb set 1) (nat_lt worker (length g.opened)) (is_there f object) is in
      let below = ltb-true worker (length g.opened) parts.worker in
      record { safe = ((settled, below, ltb-true g.queues token parts.token, apart, parts.there), λ may. ((refl, tt), λ _. listen-settled g f wired l settled worker object token below may)) }
  register-fine s worker object set token apart false is = answered-fine (answer.Listener listener_error.EINVAL) s

  unregister-fine : (s : Session) (worker object set token : ℕ) → (b : Bool) → is_listener g f worker object set token ≡ b → Fine (cond b (done (Unlisten worker object g.queues ∷ Answering ∷ []) s) (listener_refused s))
  unregister-fine s worker object set token true is =
      let parts = listen-parts (nat_lt g.queues token) (nat_le token 65535) (eqb set 1) (nat_lt worker (length g.opened)) (is_there f object) is in
      let below = ltb-true worker (length g.opened) parts.worker in
      record { safe = ((settled, below, refl, parts.there), λ _. ((refl, tt), λ _. unlisten-settled g f wired l settled worker object g.queues below refl)) }
  unregister-fine s worker object set token false is = answered-fine (answer.Listener listener_error.EINVAL) s

  pub begin-fine : (rs : List Region) (s : Session) (r : Request) → RequestFits g f.events r → Fine (plan_of g f rs s r)
  unfolding plan_of
  begin-fine rs s request.SetOwner fits = tested-fine (not s.owned) (error.InvalidOperation denied.AlreadyClaimed) s (answered answer.Ok (record s { owned = true })) (λ _. answered-fine answer.Ok (record s { owned = true }))
  begin-fine rs s request.ResetOwner fits = answered-fine _ _
  begin-fine rs s request.ResetDevice fits = reset-fine _
  begin-fine rs s request.GetFeatures fits = answered-fine _ _
  begin-fine rs s request.GetProtocolFeatures fits = answered-fine _ _
  begin-fine rs s request.GetQueueNum fits = answered-fine _ _
  begin-fine rs s request.GetMaxMemSlots fits = answered-fine _ _
  begin-fine rs s (request.SetFeatures bits) fits = tested-fine (are_offered g.features bits) error.InvalidParam s (done (features_steps g f bits) (record s { features = bits })) (λ _. features-fine bits (record s { features = bits }))
  begin-fine rs s (request.SetProtocolFeatures bits) fits = answered-fine _ _
  begin-fine rs s (request.SetMemTable parts contents flag) fits = flag-fine flag s (table_plan rs (table_op.Replace (regions_for parts contents)) (record s { mappings = mappings_for parts contents })) (table-fine rs (table_op.Replace (regions_for parts contents)) (record s { mappings = mappings_for parts contents }))
  begin-fine rs s (request.AddMemRegion part content flag) fits = flag-fine flag s (table_plan rs (table_op.Insert (region_for part content)) (record s { mappings = s.mappings ++ mapping_for part ∷ [] })) (table-fine rs (table_op.Insert (region_for part content)) (record s { mappings = s.mappings ++ mapping_for part ∷ [] }))
  begin-fine rs s (request.RemoveMemRegion start len) fits = table-fine rs _ _
  begin-fine rs s (request.SetLogBase size offset object) fits = record { safe = (settled, λ _. ((refl, tt), λ _. settled)) }
  begin-fine rs s (request.SetVringNum q n) fits = indexed-fine q s (tested (is_size g n) error.InvalidParam s (done (Set q (op.SetSize n) ∷ Answering ∷ []) s)) (λ within. tested-fine (is_size g n) error.InvalidParam s (done (Set q (op.SetSize n) ∷ Answering ∷ []) s) (λ _. record { safe = set-safe g q answer.Ok (op.SetSize n) f wired l settled within tt refl }))
  begin-fine rs s (request.SetVringAddr q flags desc used avail log) fits = indexed-fine q s (addr_plan q s desc avail used) (λ within. tested-fine (not (is_empty s.mappings)) error.InvalidParam s (info_plan q s (gpa_of s.mappings desc) (gpa_of s.mappings avail) (gpa_of s.mappings used)) (λ _. info-fine q s (gpa_of s.mappings desc) (gpa_of s.mappings avail) (gpa_of s.mappings used) within))
  begin-fine rs s (request.SetVringBase q n) fits = indexed-fine q s (done (Set q (op.SetBase (n % 2 ^ 16)) ∷ Answering ∷ []) s) (λ within. record { safe = set-safe g q answer.Ok (op.SetBase (n % 2 ^ 16)) f wired l settled within (mod-lt n (omega arith)) refl })
  begin-fine rs s (request.GetVringBase q) fits = indexed-fine q s (record { steps = stop_steps g q (known_at f q); reply = next_of q; session = s }) (λ within. record { safe = stop-safe g q f wired l settled within })
  begin-fine rs s (request.SetVringKick q event) fits = indexed-fine q s (done (kick_steps g q (known_at f q) event) s) (λ within. record { safe = kick-safe g q answer.Ok f wired l settled within event fits })
  begin-fine rs s (request.SetVringCall q event) fits = indexed-fine q s (done (call_steps g q (known_at f q) event) s) (λ within. record { safe = call-safe g q answer.Ok f wired l settled within event })
  begin-fine rs s (request.SetVringErr q event) fits = indexed-fine q s (done (Set q (op.SetErr event) ∷ Answering ∷ []) s) (λ within. record { safe = set-safe g q answer.Ok (op.SetErr event) f wired l settled within tt refl })
  begin-fine rs s (request.SetVringEnable q b) fits = tested-fine (has_bit s.features 30) error.InactiveFeature s (indexed g q s (done (enable_steps g q (known_at f q) b ++ Answering ∷ []) s)) (λ _. indexed-fine q s (done (enable_steps g q (known_at f q) b ++ Answering ∷ []) s) (λ within. record { safe = enable-safe g q answer.Ok f wired l settled within b }))
  begin-fine rs s (request.GetConfig offset size flags) fits = asks-fine _ s
  begin-fine rs s (request.SetConfig offset bytes flags) fits = asks-fine _ s
  begin-fine rs s (request.SetBackendReqFd object) fits = asks-fine _ s
  begin-fine rs s (request.SetGpuSocket object) fits = asks-fine _ s
  begin-fine rs s request.CheckDeviceState fits = asks-fine _ s
  begin-fine rs s (request.GetSharedObject uuid) fits = asks-fine _ s
  begin-fine rs s (request.SetDeviceStateFd direction phase object) fits = asks-fine _ s
  begin-fine rs s request.GetShmemConfig fits = asks-fine _ s
  begin-fine rs s request.GetInflightFd fits = answered-fine _ _
  begin-fine rs s (request.SetInflightFd object) fits = answered-fine _ _
  begin-fine rs s (request.RegisterListener worker object set token) fits = register-fine s worker object set token fits.1 (is_listener g f worker object set token) refl
  begin-fine rs s (request.UnregisterListener worker object set token) fits = unregister-fine s worker object set token (is_listener g f worker object set token) refl
  begin-fine rs s request.SendExit fits = record { safe = exits-fine answer.Ok g.opened }
