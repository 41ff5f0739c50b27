-- Steps that are played one after the other.
use Rattle.std.proofs.Common.{◌≡◌, ◌⊎◌, inl, inr, ℕ, ◌<◌, ◌≤◌, Result, Ok, Err, IfOk, Bool, true, false, ◌||◌, List, [], ◌∷◌, ◌++◌, Option, Some, None, refl, sym, ap, ◌∙◌, subst, arith}
use Rattle.std.proofs.lemmas.List.{append_assoc, append-nil}
use Rattle.vub_base.specs.Causes.{Rose}
use Rattle.vub_base.specs.Told.{Told}
use Rattle.vub_proto.specs.declared.answer.Answer.{Answer}
use Rattle.vub_proto.specs.declared.answer.Answer.TheVariants as answer
use Rattle.vub_proto.specs.declared.answer.Cause.TheVariants as cause
use Rattle.vub_proto.specs.declared.answer.VhostUserError.TheVariants as error
use Rattle.vub_proto.specs.declared.device_said.DeviceSaid.{DeviceSaid}
use Rattle.vub_proto.specs.declared.device_said.DeviceSaid.TheVariants as outcome
use Rattle.vub_vring.specs.Calls.{IsCounted}
use Rattle.vub_proto.specs.declared.request.Request.{Request}
use Rattle.vub_model.specs.declared.small.Small.{Small}
use Rattle.vub_model.specs.Control.{rest_after, MayControl, tail_of}
use Rattle.vub_model.specs.DeviceCalls.{Call, Telling, is_refused, moved_by}
use Rattle.vub_model.specs.DeviceCalls as device_calls
use Rattle.vub_model.specs.Plans.{Plan, Reply, says, next_of}
use Rattle.vub_model.specs.Shared.{Shared}
use Rattle.vub_model.specs.Wiring.{Wiring}
use Rattle.vub_vring.specs.PartsState.{PartsState, HasFailed, Lasts}
use Rattle.vub_plan.specs.Halves.{Begun, plan_at, dropped, IsPlanOf}
use Rattle.vub_handler.specs.declared.played.Played.{Played}
use Rattle.vub_loop.specs.Faults.{RowOrFault}
use Rattle.vub_handler.specs.Acting.{IsNamed, HasRefused, IsCausedAnswer, called, CallsBy}
use Rattle.vub_handler.specs.Player.{Player}
use Rattle.vub_handler.specs.declared.played.Progress.{Progress}
use Rattle.vub_handler.specs.declared.played.Progress.TheVariants as progress
use Rattle.vub_handler.specs.Playing.{CameTo, ComesNearer, IsHeld, WaitsAt, left_of, IsKnown, IsPlayRow, IsPlayFault, IsCausedReply, IsDueFrom, IsPlayed}
use Rattle.vub_requests.specs.Handling.{HandledStep, AllNamed, IsNext, LeadTo, AnswersLast, ArePlays, ArePlanned, calls_of, has_refusal, IsCausedBy, PlaysAll, answer_in, Finishes, HandledBy}
use Rattle.vub_requests.specs.declared.unanswered.Unanswered.{Unanswered}
use Rattle.vub_requests.specs.declared.unanswered.Unanswered.TheVariants.{Waits, OutOfMemory}
use Rattle.vub_requests.proofs.Plain.{begun_plain}
use Rattle.vub_requests.proofs.Named.{named-after, rest-named}
use Rattle.vub_requests.proofs.Waiting.{waits-in-flight}

-- Counts

rose-before : (i a b : ℕ) → i ≤ a → Rose a b → Rose i b
rose-before i a b later rose = omega (arith, later, rose)

rose-after : (i a b : ℕ) → a ≤ b → Rose i a → Rose i b
rose-after i a b later rose = omega (arith, later, rose)

-- What leads on

lead-one : (steps : List HandledStep) (s : HandledStep) (before mid now : Player) (was halfway left : Begun) → LeadTo steps before was mid halfway → IsNext mid halfway s → s.player ≡ now → s.left ≡ left → LeadTo (steps ++ s ∷ []) before was now left
lead-one [] s before mid now was halfway left first then player to =
    (let P : Player → Type 0 = λ p. IsNext p was s in let B : Begun → Type 0 = λ b. IsNext mid b s in subst P first.0 (subst B first.1 then), (sym player, sym to))
lead-one (x ∷ steps) s before mid now was halfway left first then player to = (first.0, lead-one steps s x.player mid now x.left halfway left first.1 then player to)

last-one : (steps : List HandledStep) (s : HandledStep) → AnswersLast None steps → AnswersLast s.played.answer (steps ++ s ∷ [])
last-one [] s first = refl
last-one (x ∷ []) s first = (first, refl)
last-one (x ∷ (y ∷ steps)) s first = (first.0, last-one (y ∷ steps) s first.1)

-- Calls of the device

calls-one : (steps : List HandledStep) (s : HandledStep) → calls_of (steps ++ s ∷ []) ≡ calls_of steps ++ called s.played.small s.said
calls-one [] s = append-nil (called s.played.small s.said)
calls-one (x ∷ steps) s = ap (λ cs. called x.played.small x.said ++ cs) (calls-one steps s) ∙ sym (append_assoc (called x.played.small x.said) (calls_of steps) (called s.played.small s.said))

tells-append : {D : Type 0} (t : Telling D) (d : D) (xs ys : List Call) → device_calls.Tells t d xs → device_calls.Tells t (moved_by t d xs) ys → device_calls.Tells t d (xs ++ ys)
tells-append t d [] ys first then = then
tells-append t d (x ∷ xs) ys first then = (first.0, tells-append t (t.moved d x.op) xs ys first.1 then)

moved-append : {D : Type 0} (t : Telling D) (d : D) (xs ys : List Call) → moved_by t d (xs ++ ys) ≡ moved_by t (moved_by t d xs) ys
moved-append t d [] ys = refl
moved-append t d (x ∷ xs) ys = moved-append t (t.moved d x.op) xs ys

abbrev Moves : {D : Type 0} → Telling D → List Call → Option D → Option D → Type 0
Moves t cs old new = Told old new (λ d e. device_calls.Tells t d cs × (e ≡ moved_by t d cs))

moves-append : {D : Type 0} (t : Telling D) (xs ys : List Call) (old mid new : Option D) → Moves t xs old mid → Moves t ys mid new → Moves t (xs ++ ys) old new
moves-append t xs ys None mid new first then = tt
moves-append t xs ys (Some d) None new first then = absurd first
moves-append t xs ys (Some d) (Some e) None first then = absurd then
moves-append {D} t xs ys (Some d) (Some e) (Some f) first then =
    let T : D → Type 0 = λ x. device_calls.Tells t x ys in
    (tells-append t d xs ys first.0 (subst T first.1 then.0), then.1 ∙ ap (λ x. moved_by t x ys) first.1 ∙ sym (moved-append t d xs ys))

moves-none : {D : Type 0} (t : Telling D) (old new : Option D) → new ≡ old → Moves t [] old new
moves-none t None new same = tt
moves-none t (Some d) None same = absurd (cc)
moves-none t (Some d) (Some e) same = (tt, (let is : Some e ≡ Some d = same in cc))

-- Refusals

refused-one : (steps : List HandledStep) (s : HandledStep) → has_refusal (steps ++ s ∷ []) ≡ true → (has_refusal steps ≡ true) ⊎ (s.played.refused ≡ true)
refused-one [] s is = inr (by s.played.refused is) where
  by : (b : Bool) → (b || false) ≡ true → b ≡ true
  by true is = refl
  by false is = is
refused-one (x ∷ steps) s is = by x.played.refused is (refused-one steps s) where
  by : (b : Bool) → (b || has_refusal (steps ++ s ∷ [])) ≡ true → (has_refusal (steps ++ s ∷ []) ≡ true → (has_refusal steps ≡ true) ⊎ (s.played.refused ≡ true)) → ((b || has_refusal steps) ≡ true) ⊎ (s.played.refused ≡ true)
  by true is more = inl refl
  by false is more = more is

-- What is shared

widened : (Sound Sure Rise Rises Row After : Type 0) → (Sure → Sound) → (Rise → Rises) → RowOrFault Sound Rise Row After → RowOrFault Sure Rises Row After
widened Sound Sure Rise Rises Row After sure rises row = record {
  row = elim row.row [ inl made ↦ inl made | inr failed ↦ inr (rises failed.0, failed.1) ];
  sound = λ is. row.sound (sure is);
}

plays-one : {V : Type 0} (Sound Sure Rise Rises RiseAll : Type 0) (steps : List HandledStep) (s : HandledStep) (before mid : Player) (was halfway : Begun) (a b c : Shared V) → (Sound → Sure) → (Rise → RiseAll) → (Rises → RiseAll) → LeadTo steps before was mid halfway → ArePlays Sound Rise steps before was a b
    → RowOrFault Sure Rises (IsPlayRow mid s.player halfway s.left s.played s.said b c) (IsPlayFault mid s.player halfway s.left s.played b c) → ArePlays Sound RiseAll (steps ++ s ∷ []) before was a c
plays-one {V} Sound Sure Rise Rises RiseAll [] s before mid was halfway a b c sure rise rises leads first row =
    let R : Player → Begun → Shared V → Type 0 = λ p w h. RowOrFault Sure Rises (IsPlayRow p s.player w s.left s.played s.said h c) (IsPlayFault p s.player w s.left s.played h c) in
    let P : Player → Type 0 = λ p. R p halfway b in
    let B : Begun → Type 0 = λ w. R before w b in
    let H : Shared V → Type 0 = λ h. R before was h in
    (c, widened Sure Sound Rises RiseAll _ _ sure rises (subst H first (subst B leads.1 (subst P leads.0 row))), refl)
plays-one Sound Sure Rise Rises RiseAll (x ∷ steps) s before mid was halfway a b c sure rise rises leads first row =
    (first.0, widened Sound Sound Rise RiseAll _ _ (λ y. y) rise first.1, plays-one Sound Sure Rise Rises RiseAll steps s x.player mid x.left halfway first.0 b c sure rise rises leads.1 first.2 row)

-- Events and lists that are named stay named

plays-widened : {V : Type 0} (Sound Rise Rises : Type 0) (steps : List HandledStep) (before : Player) (was : Begun) (a b : Shared V) → (Rise → Rises) → ArePlays Sound Rise steps before was a b → ArePlays Sound Rises steps before was a b
plays-widened Sound Rise Rises [] before was a b rise plays = plays
plays-widened Sound Rise Rises (s ∷ steps) before was a b rise plays = (plays.0, widened Sound Sound Rise Rises _ _ (λ y. y) rise plays.1, plays-widened Sound Rise Rises steps s.player s.left plays.0 b rise plays.2)

named-row : {V : Type 0} (before : Player) (was : Begun) (s : HandledStep) (a b : Shared V) → IsNext before was s → AllNamed before.wiring a.table (plan_at a.guest.regions was).steps → IsPlayRow before s.player was s.left s.played s.said a b → AllNamed before.wiring b.table (plan_at b.guest.regions s.left).steps
named-row {V} before was s a b next all row =
    let g = before.wiring in
    let p = plan_at a.guest.regions was in
    let first : p.steps ≡ s.played.small ∷ tail_of p.steps = next.first a.guest.regions in
    let L : List Small → Type 0 = λ l. AllNamed g a.table l in
    let M : List Small → Type 0 = λ l. MayControl a l s.played.small s.said in
    let here : AllNamed g a.table (s.played.small ∷ tail_of p.steps) = subst L first all in
    let may : MayControl a (s.played.small ∷ tail_of p.steps) s.played.small s.said = subst M first row.may in
    let rest = rest-named g a s.played.small s.said (dropped p) here.1 in
    let after = named-after g a s.played.small here.0 may.1 (rest_after g a s.played.small s.said (dropped p)).steps rest in
    let H : Shared V → Type 0 = λ h. AllNamed g h.table (rest_after g a s.played.small s.said (dropped p)).steps in
    let P : Plan → Type 0 = λ q. AllNamed g b.table q.steps in
    subst P (sym row.rest) (subst H (sym row.shared) after)

named-fault : {V : Type 0} (before : Player) (was : Begun) (s : HandledStep) (a b : Shared V) → IsPlayFault before s.player was s.left s.played a b → AllNamed before.wiring b.table (plan_at b.guest.regions s.left).steps
named-fault {V} before was s a b fault =
    let P : Plan → Type 0 = λ q. AllNamed before.wiring a.table q.steps in
    let H : Shared V → Type 0 = λ h. AllNamed before.wiring h.table (plan_at h.guest.regions s.left).steps in
    subst H (sym fault.shared) (subst P (sym fault.rest) (tt, tt))

named-next : {V : Type 0} (Sound Rise : Type 0) (before : Player) (was : Begun) (s : HandledStep) (a b : Shared V) → IsNext before was s → AllNamed before.wiring a.table (plan_at a.guest.regions was).steps → RowOrFault Sound Rise (IsPlayRow before s.player was s.left s.played s.said a b) (IsPlayFault before s.player was s.left s.played a b)
    → AllNamed s.player.wiring b.table (plan_at b.guest.regions s.left).steps
named-next {V} Sound Rise before was s a b next all row =
    let W : Wiring → Type 0 = λ w. AllNamed w b.table (plan_at b.guest.regions s.left).steps in
    subst W (sym next.wiring) (by row.row)
  where
    by : IsPlayRow before s.player was s.left s.played s.said a b ⊎ (Rise × IsPlayFault before s.player was s.left s.played a b) → AllNamed before.wiring b.table (plan_at b.guest.regions s.left).steps
    by (inl r) = named-row before was s a b next all r
    by (inr r) = named-fault before was s a b r.1

named-on : {V : Type 0} (Sound Rise : Type 0) (steps : List HandledStep) (before now : Player) (was left : Begun) (a b : Shared V) → LeadTo steps before was now left → ArePlays Sound Rise steps before was a b → AllNamed before.wiring a.table (plan_at a.guest.regions was).steps → AllNamed now.wiring b.table (plan_at b.guest.regions left).steps
named-on {V} Sound Rise [] before now was left a b leads plays all =
    let H : Shared V → Type 0 = λ h. AllNamed before.wiring h.table (plan_at h.guest.regions was).steps in
    let P : Player → Type 0 = λ p. AllNamed p.wiring b.table (plan_at b.guest.regions was).steps in
    let B : Begun → Type 0 = λ w. AllNamed now.wiring b.table (plan_at b.guest.regions w).steps in
    subst B (sym leads.1) (subst P (sym leads.0) (subst H (sym plays) all))
named-on Sound Rise (s ∷ steps) before now was left a b leads plays all =
    named-on Sound Rise steps s.player now s.left left plays.0 b leads.1 plays.2 (named-next Sound Rise before was s a plays.0 leads.0 all plays.1)

known-next : {V : Type 0} (Sound Rise : Type 0) (before : Player) (was : Begun) (s : HandledStep) (a b : Shared V) → RowOrFault Sound Rise (IsPlayRow before s.player was s.left s.played s.said a b) (IsPlayFault before s.player was s.left s.played a b) → IsKnown a before → IsKnown b s.player
known-next {V} Sound Rise before was s a b row known = by row.row where
  by : IsPlayRow before s.player was s.left s.played s.said a b ⊎ (Rise × IsPlayFault before s.player was s.left s.played a b) → IsKnown b s.player
  by (inl r) = r.known known
  by (inr r) =
      let H : Shared V → Type 0 = λ h. IsKnown h before in
      let P : Player → Type 0 = λ p. IsKnown b p in
      subst P (sym r.1.player) (subst H (sym r.1.shared) known)

planned-more : {V : Type 0} (Sound Sure Rise Rises RiseAll : Type 0) (steps : List HandledStep) (s : HandledStep) (before mid : Player) (was halfway : Begun) (old between new : Option (Shared V)) → (Sound → Sure) → (Rise → RiseAll) → (Rises → RiseAll) → mid.wiring ≡ before.wiring → LeadTo steps before was mid halfway → IsNext mid halfway s → Told old between (ArePlanned Sound Rise steps before mid was)
    → Told between new (λ b c. IsNamed mid.wiring b.table s.played.small → RowOrFault Sure Rises (IsPlayRow mid s.player halfway s.left s.played s.said b c) (IsPlayFault mid s.player halfway s.left s.played b c)) → Told old new (ArePlanned Sound RiseAll (steps ++ s ∷ []) before s.player was)
planned-more Sound Sure Rise Rises RiseAll steps s before mid was halfway None between new sure rise rises wiring leads next first then = tt
planned-more Sound Sure Rise Rises RiseAll steps s before mid was halfway (Some a) None new sure rise rises wiring leads next first then = absurd first
planned-more Sound Sure Rise Rises RiseAll steps s before mid was halfway (Some a) (Some b) None sure rise rises wiring leads next first then = absurd then
planned-more Sound Sure Rise Rises RiseAll steps s before mid was halfway (Some a) (Some b) (Some c) sure rise rises wiring leads next first then =
    λ all.
    let plays = first all in
    let L : List Small → Type 0 = λ l. AllNamed mid.wiring b.table l in
    let here : AllNamed mid.wiring b.table (s.played.small ∷ tail_of (plan_at b.guest.regions halfway).steps) = subst L (next.first b.guest.regions) (named-on Sound Rise steps before mid was halfway a b leads plays.0 all) in
    let row = then here.0 in (
      plays-one Sound Sure Rise Rises RiseAll steps s before mid was halfway a b c sure rise rises leads plays.0 row,
      λ known. known-next Sure Rises mid halfway s b c row (plays.1 known),
    )

-- Causes

caused-map : (F G R S : Type 0) → (F → G) → (R → S) → (x : Answer) → IsCausedAnswer F R x → IsCausedAnswer G S x
caused-map F G R S f r answer.Ok is = tt
caused-map F G R S f r (answer.Number n) is = tt
caused-map F G R S f r (answer.Content bytes) is = tt
caused-map F G R S f r (answer.Object object) is = tt
caused-map F G R S f r (answer.Base index num) is = tt
caused-map F G R S f r (answer.Listener e) is = tt
caused-map F G R S f r (answer.Failed error.InvalidParam) is = tt
caused-map F G R S f r (answer.Failed (error.InvalidOperation d)) is = tt
caused-map F G R S f r (answer.Failed error.InactiveFeature) is = tt
caused-map F G R S f r (answer.Failed (error.ReqHandlerError (cause.Device n))) is = r is
caused-map F G R S f r (answer.Failed (error.ReqHandlerError (cause.Memory e))) is = tt
caused-map F G R S f r (answer.Failed (error.ReqHandlerError (cause.Log e))) is = tt
caused-map F G R S f r (answer.Failed (error.ReqHandlerError cause.Host)) is = f is
caused-map F G R S f r (answer.Failed error.BackendInternalError) is = tt
caused-map F G R S f r (answer.Failed error.Disconnected) is = tt
caused-map F G R S f r (answer.Failed error.PartialMessage) is = tt
caused-map F G R S f r (answer.Failed error.SocketBroken) is = tt
caused-map F G R S f r (answer.Failed error.InvalidMessage) is = tt
caused-map F G R S f r (answer.Failed error.OutOfMemory) is = tt

reply-map : (F G R S : Type 0) → (F → G) → (R → S) → (x : Reply) → IsCausedReply F R x → IsCausedReply G S x
reply-map F G R S f r (says a) is = caused-map F G R S f r a is
reply-map F G R S f r (next_of queue) is = tt

-- an answer that is due from a caused reply is caused
due-caused : (F R : Type 0) (x : Reply) (a : Answer) → IsCausedReply F R x → IsDueFrom x a → IsCausedAnswer F R a
due-caused F R (says x) a is due = subst (λ y. IsCausedAnswer F R y) (sym due) is
due-caused F R (next_of queue) a is due = subst (λ y. IsCausedAnswer F R y) (sym due.1) tt

caused-more : (Fault Refused Later Denied F R : Type 0) → (Fault → F) → (Refused → R) → (Later → F) → (Denied → R) → (was mid left : Reply) (a : Option Answer) → IsCausedBy Fault Refused was mid None → ((x : Answer) → a ≡ Some x → IsDueFrom mid x) → (left ≡ mid) ⊎ IsCausedReply Later Denied left → IsCausedBy F R was left a
caused-more Fault Refused Later Denied F R f r g s was mid left None (inl same) due (inl kept) = inl (kept ∙ same)
caused-more Fault Refused Later Denied F R f r g s was mid left None (inr caused) due (inl kept) = inr (subst (λ x. IsCausedReply F R x) (sym kept) (reply-map Fault F Refused R f r mid caused))
caused-more Fault Refused Later Denied F R f r g s was mid left None first due (inr caused) = inr (reply-map Later F Denied R g s left caused)
caused-more Fault Refused Later Denied F R f r g s was mid left (Some a) (inl same) due then = inl (subst (λ x. IsDueFrom x a) same (due a refl))
caused-more Fault Refused Later Denied F R f r g s was mid left (Some a) (inr caused) due then = inr (due-caused F R mid a (reply-map Fault F Refused R f r mid caused) (due a refl))

-- All of it

lasts-on : {V D : Type 0} (old mid new : PartsState V D) → Lasts old mid → Lasts mid new → Lasts old new
lasts-on old mid new first then = record {
  later = omega (arith, first.later, then.later);
  refusals = omega (arith, first.refusals, then.refusals);
  still = λ s. then.still (first.still s);
  loan = then.loan ∙ first.loan;
  constants = then.constants ∙ first.constants;
}

rises-refused : (before now : ℕ) (said : DeviceSaid) (refused : Bool) → refused ≡ is_refused said → refused ≡ true → IsCounted before now said → Rose before now
rises-refused before now outcome.Done refused is so counted = absurd (cc)
rises-refused before now (outcome.Content bytes) refused is so counted = absurd (cc)
rises-refused before now (outcome.Object object) refused is so counted = absurd (cc)
rises-refused before now (outcome.Number n) refused is so counted = absurd (cc)
rises-refused before now (outcome.Refused n) refused is so counted = counted

told-begin : {V : Type 0} (Sound Rise : Type 0) (before now : Player) (was : Begun) (old new : Option (Shared V)) → now ≡ before → new ≡ old → Told old new (ArePlanned Sound Rise [] before now was)
told-begin Sound Rise before now was None new player same = tt
told-begin Sound Rise before now was (Some a) None player same = absurd (cc)
told-begin {V} Sound Rise before now was (Some a) (Some b) player same =
    λ all.
    let is : b ≡ a = (let both : Some b ≡ Some a = same in cc) in
    let H : Shared V → Type 0 = λ h. IsKnown h before in
    let P : Player → Type 0 = λ p. IsKnown b p in
    (is, λ known. subst P (sym player) (subst H (sym is) known))

told-still : {V : Type 0} (Sound Rise Rises : Type 0) (steps : List HandledStep) (before mid now : Player) (was : Begun) (old between new : Option (Shared V)) → (Rise → Rises) → now ≡ mid → Told old between (ArePlanned Sound Rise steps before mid was) → Told between new (λ b c. c ≡ b) → Told old new (ArePlanned Sound Rises steps before now was)
told-still Sound Rise Rises steps before mid now was None between new rise player first then = tt
told-still Sound Rise Rises steps before mid now was (Some a) None new rise player first then = absurd first
told-still Sound Rise Rises steps before mid now was (Some a) (Some b) None rise player first then = absurd then
told-still {V} Sound Rise Rises steps before mid now was (Some a) (Some b) (Some c) rise player first then =
    let P : Player → Type 0 = λ p. ArePlanned Sound Rises steps before p was a c in
    let H : Shared V → Type 0 = λ h. ArePlanned Sound Rises steps before mid was a h in
    subst P (sym player) (subst H (sym then) (λ all. (plays-widened Sound Rise Rises steps before was a b rise (first all).0, (first all).1)))

still-told : {V : Type 0} (between new : Option (Shared V)) → new ≡ between → Told between new (λ b c. c ≡ b)
still-told None new same = tt
still-told (Some b) None same = absurd (cc)
still-told (Some b) (Some c) same = (let both : Some c ≡ Some b = same in cc)

told-map : {V : Type 0} (a b : Option (Shared V)) (P Q : Shared V → Shared V → Type 0) → ((x y : Shared V) → P x y → Q x y) → Told a b P → Told a b Q
told-map None b P Q so told = tt
told-map (Some x) None P Q so told = told
told-map (Some x) (Some y) P Q so told = so x y told

waits-told : {V : Type 0} (P : Shared V → Shared V → Type 0) (halfway left : Begun) (old between new : Option (Shared V)) → left ≡ halfway → Told old between P → Told between new (λ b c. WaitsAt b (plan_at b.guest.regions halfway).steps × (c ≡ b)) → Told old new (λ a c. WaitsAt c (plan_at c.guest.regions left).steps)
waits-told P halfway left None between new half first then = tt
waits-told P halfway left (Some a) None new half first then = absurd first
waits-told P halfway left (Some a) (Some b) None half first then = absurd then
waits-told {V} P halfway left (Some a) (Some b) (Some c) half first then =
    let B : Begun → Type 0 = λ w. WaitsAt c (plan_at c.guest.regions w).steps in
    let H : Shared V → Type 0 = λ h. WaitsAt h (plan_at h.guest.regions halfway).steps in
    subst B (sym half) (subst H (sym then.1) then.0)

module _ {V D : Type 0} (t : Telling D) where
  -- no step
  pub plays-none : (before now : Player) (was left : Begun) (old new : PartsState V D) → now ≡ before → left ≡ was → new.shared ≡ old.shared → new.device ≡ old.device → Lasts old new → PlaysAll t None before now was left old new
  plays-none before now was left old new player half shared device lasts = record {
    steps = [];
    leads = (player, half);
    answers = refl;
    told = told-begin old.NeverFails (HasFailed old new) before now was old.shared new.shared player shared;
    device = moves-none t old.device new.device device;
    refused = λ is. absurd (cc);
    caused = inl (ap (λ (b : Begun). b.plan.reply) half);
    wiring = ap (λ (p : Player). p.wiring) player;
    lasts = lasts;
  }

  -- one more
  pub plays-more : (p : Played) (said : DeviceSaid) (before mid now : Player) (was halfway left : Begun) (old between new : PartsState V D) → PlaysAll t None before mid was halfway old between → IsPlayed t p said mid now halfway left between new → ((x : Answer) → p.answer ≡ Some x → IsDueFrom halfway.plan.reply x) → now.wiring ≡ mid.wiring → Lasts between new → PlaysAll t p.answer before now was left old new
  plays-more p said before mid now was halfway left old between new first then due wiring lasts =
      let s : HandledStep = record { played = p; said = said; player = now; left = left } in
      let next : IsNext mid halfway s = record { first = then.first; refusal = then.refusal; wiring = wiring } in
      let fail = rose-after old.faults between.faults new.faults lasts.later in
      let fails = rose-before old.faults between.faults new.faults first.lasts.later in
      let refuse = rose-after old.refusals between.refusals new.refusals lasts.refusals in
      let refuses = rose-before old.refusals between.refusals new.refusals first.lasts.refusals in
      record {
        steps = first.steps ++ s ∷ [];
        leads = lead-one first.steps s before mid now was halfway left first.leads next refl refl;
        answers = last-one first.steps s first.answers;
        told = planned-more old.NeverFails between.NeverFails (HasFailed old between) (HasFailed between new) (HasFailed old new) first.steps s before mid was halfway old.shared between.shared new.shared first.lasts.still fail fails first.wiring first.leads next first.told then.row;
        device = subst (λ cs. CallsBy t cs old new) (sym (calls-one first.steps s)) (moves-append t (calls_of first.steps) (called p.small said) old.device between.device new.device first.device then.device);
        refused = λ is. elim (refused-one first.steps s is) [ inl was_so ↦ refuse (first.refused was_so) | inr is_so ↦ refuses (rises-refused between.refusals new.refusals said p.refused then.refusal is_so then.counted) ];
        caused = caused-more (HasFailed old between) (HasRefused old between) (HasFailed between new) (HasRefused between new) (HasFailed old new) (HasRefused old new) fail refuse fails refuses was.plan.reply halfway.plan.reply left.plan.reply p.answer first.caused due then.caused;
        wiring = wiring ∙ first.wiring;
        lasts = lasts-on old between new first.lasts lasts;
      }

  -- nothing after others
  plays-still : (before mid now : Player) (was halfway left : Begun) (old between new : PartsState V D) → PlaysAll t None before mid was halfway old between → now ≡ mid → left ≡ halfway → Told between.shared new.shared (λ b c. c ≡ b) → new.device ≡ between.device → Lasts between new → PlaysAll t None before now was left old new
  plays-still before mid now was halfway left old between new first player half shared device lasts =
      let fail = rose-after old.faults between.faults new.faults lasts.later in
      let refuse = rose-after old.refusals between.refusals new.refusals lasts.refusals in
      let B : Begun → Type 0 = λ w. IsCausedBy (HasFailed old new) (HasRefused old new) was.plan.reply w.plan.reply None in
      let P : Player → Type 0 = λ p. LeadTo first.steps before was p left in
      let L : Begun → Type 0 = λ w. LeadTo first.steps before was mid w in
      record {
        steps = first.steps;
        leads = subst P (sym player) (subst L (sym half) first.leads);
        answers = first.answers;
        told = told-still old.NeverFails (HasFailed old between) (HasFailed old new) first.steps before mid now was old.shared between.shared new.shared fail player first.told shared;
        device = (let E : Option D → Type 0 = λ e. Told old.device e (λ d e. device_calls.Tells t d (calls_of first.steps) × (e ≡ moved_by t d (calls_of first.steps))) in subst E (sym device) first.device);
        refused = λ is. refuse (first.refused is);
        caused = subst B (sym half) (caused-more (HasFailed old between) (HasRefused old between) (HasFailed old between) (HasRefused old between) (HasFailed old new) (HasRefused old new) fail refuse fail refuse was.plan.reply halfway.plan.reply halfway.plan.reply None first.caused (λ x is. absurd (cc)) (inl refl));
        wiring = ap (λ (p : Player). p.wiring) player ∙ first.wiring;
        lasts = lasts-on old between new first.lasts lasts;
      }

  module _ (before mid now : Player) (was halfway left : Begun) (old between new : PartsState V D) (first : PlaysAll t None before mid was halfway old between) where
    due-none : (p : Played) → p.answer ≡ None → (x : Answer) → p.answer ≡ Some x → IsDueFrom halfway.plan.reply x
    due-none p none x is = absurd (let no : None ≡ Some x = sym none ∙ is in cc)

    pub plays-going : (x : Progress) → x ≡ progress.Going → CameTo t x mid now halfway left between new → now.wiring ≡ mid.wiring → Lasts between new → PlaysAll t None before now was left old new
    plays-going x is came wiring lasts =
        let C : Progress → Type 0 = λ y. CameTo t y mid now halfway left between new in
        let A : Option Answer → Type 0 = λ y. PlaysAll t y before now was left old new in
        let going : CameTo t progress.Going mid now halfway left between new = subst C is came in
        subst A going.1 (plays-more going.0 going.2.0 before mid now was halfway left old between new first going.2.1 (due-none going.0 going.1) wiring lasts)

    pub nearer-going : (x : Progress) → x ≡ progress.Going → ComesNearer x halfway left → left_of left < left_of halfway
    nearer-going x is nearer = (let C : Progress → Type 0 = λ y. ComesNearer y halfway left in subst C is nearer)

    due-some : (p : Played) (a : Answer) → p.answer ≡ Some a → IsDueFrom halfway.plan.reply a → (x : Answer) → p.answer ≡ Some x → IsDueFrom halfway.plan.reply x
    due-some p a some due x is =
        let both : Some a ≡ Some x = sym some ∙ is in
        let same : a ≡ x = cc in
        subst (λ y. IsDueFrom halfway.plan.reply y) same due

    pub finishes-done : (x : Progress) (a : Answer) → x ≡ progress.Done a → CameTo t x mid now halfway left between new → ComesNearer x halfway left → now.wiring ≡ mid.wiring → Lasts between new → Finishes t before now was left old new (Ok a)
    finishes-done x a is came nearer wiring lasts =
        let C : Progress → Type 0 = λ y. CameTo t y mid now halfway left between new in
        let N : Progress → Type 0 = λ y. ComesNearer y halfway left in
        let A : Option Answer → Type 0 = λ y. PlaysAll t y before now was left old new in
        let done : CameTo t (progress.Done a) mid now halfway left between new = subst C is came in
        let near : ComesNearer (progress.Done a) halfway left = subst N is nearer in
        record {
          plays = subst A done.1 (plays-more done.0 done.2.0 before mid now was halfway left old between new first done.2.1 (due-some done.0 a done.1 near.1) wiring lasts);
          stays = tt;
        }

    pub finishes-waits : (x : Progress) → x ≡ progress.Waits → CameTo t x mid now halfway left between new → Lasts between new → Finishes t before now was left old new (Err Waits)
    finishes-waits x is came lasts =
        let C : Progress → Type 0 = λ y. CameTo t y mid now halfway left between new in
        let held : IsHeld mid now halfway left between new = subst C is came in
        record {
          plays = plays-still before mid now was halfway left old between new first held.player held.half (told-map between.shared new.shared _ _ (λ b c w. w.1) held.waits) held.device lasts;
          stays = waits-told (ArePlanned old.NeverFails (HasFailed old between) first.steps before mid was) halfway left old.shared between.shared new.shared held.half first.told held.waits;
        }

    pub finishes-err : now ≡ mid → left ≡ halfway → new.shared ≡ between.shared → new.device ≡ between.device → Lasts between new → Finishes t before now was left old new (Err OutOfMemory)
    finishes-err player half shared device lasts = record {
      plays = plays-still before mid now was halfway left old between new first player half (still-told between.shared new.shared shared) device lasts;
      stays = tt;
    }

-- Requests

answer-caused : (F R : Type 0) (was left : Reply) (result : Result Answer Unanswered) → IsCausedBy F R was left (answer_in result) → IsCausedReply F R was → IfOk result (IsCausedAnswer F R)
answer-caused F R was left (Ok a) (inl due) plain = due-caused F R was a plain due
answer-caused F R was left (Ok a) (inr caused) plain = caused
answer-caused F R was left (Err e) caused plain = tt

module _ {V D : Type 0} (t : Telling D) (request : Request) where
  pub handled : (before now : Player) (begun left : Begun) (old new : PartsState V D) (result : Result Answer Unanswered) → IsPlanOf before.wiring before.known before.session request begun → Finishes t before now begun left old new result → HandledBy t request before now old new result
  handled before now begun left old new result plan plays = inl record {
    begun = begun;
    left = left;
    plan = plan;
    plays = plays;
    caused = answer-caused (HasFailed old new) (HasRefused old new) begun.plan.reply left.plan.reply result plays.plays.caused (begun_plain before.wiring before.known before.session request begun plan (HasFailed old new) (HasRefused old new));
    waits = waits-in-flight t request before now old new begun left result plan plays;
  }

  pub unbegun : (held : Player) (state : PartsState V D) → HandledBy t request held held state state (Err OutOfMemory)
  unbegun held state = inr record {
    refused = refl;
    player = refl;
    parts = record {
      shared = refl;
      device = refl;
      faults = refl;
      refusals = refl;
      still = λ s. s;
      loan = refl;
      constants = refl;
    };
  }
