-- What each play of a plan keeps, all of its plays keep; and where its Answer comes, what was kept holds there.
use Rattle.std.proofs.Common.{◌≡◌, inl, inr, false, List, [], ◌∷◌, Some, None, refl, sym, ap, ◌∙◌, subst}
use Rattle.std.specs.Prelude.{option_to_list}
use Rattle.vub_proto.specs.declared.answer.Answer.{Answer}
use Rattle.vub_proto.specs.declared.device_said.DeviceSaid.{DeviceSaid}
use Rattle.vub_model.specs.declared.small.Small.{Small}
use Rattle.vub_model.specs.declared.small.Small.TheVariants.{Claim, Release, Add, Delete, Listen, Unlisten, Bell, Remove, Insert, Set, Info, Table, Log, Device, Answer as Answering}
use Rattle.vub_model.specs.Control.{small_after, waits_now, rest_after, MayControl, answers_by, answer_of, instead, tail_of}
use Rattle.vub_model.specs.Plans.{Plan}
use Rattle.vub_model.specs.Shared.{Shared}
use Rattle.vub_model.specs.Wiring.{Wiring}
use Rattle.vub_plan.specs.Halves.{Begun, plan_at, dropped}
use Rattle.vub_loop.specs.Faults.{RowOrFault}
use Rattle.vub_handler.specs.Player.{Player}
use Rattle.vub_handler.specs.Playing.{IsPlayRow, IsPlayFault, host_answer}
use Rattle.vub_requests.specs.Handling.{HandledStep, IsNext, LeadTo, AnswersLast, ArePlays}

-- The play of a step that gives no answer keeps it.
abbrev pub KeepsPlay : {V : Type 0} → Wiring → (Shared V → Plan → Type 0) → Type 0
KeepsPlay {V} g P =
    (h : Shared V) → (p : Plan) → (s : Small) → (said : DeviceSaid) → P h p → p.steps ≡ s ∷ tail_of p.steps → waits_now h s ≡ false → answers_by h s p ≡ [] → P (small_after g h s) (rest_after g h s said (dropped p))

-- A fault of the host keeps it.
abbrev pub KeepsFault : {V : Type 0} → (Shared V → Plan → Type 0) → Type 0
KeepsFault {V} P = (h : Shared V) → (p : Plan) → P h p → P h (instead host_answer p)

-- where the Answer is the next step
pub record Answered {V : Type 0} (P : Shared V → Plan → Type 0) (x : Answer) (h : Shared V) : Type 0 where
  pub plan : Plan
  pub kept : P h plan
  pub last : plan.steps ≡ Answering ∷ tail_of plan.steps
  pub answer : x ≡ answer_of h plan.reply

none-first : (s : HandledStep) (steps : List HandledStep) → AnswersLast None (s ∷ steps) → s.played.answer ≡ None
none-first s [] is = is
none-first s (t ∷ steps) is = is.0

none-rest : (s : HandledStep) (steps : List HandledStep) → AnswersLast None (s ∷ steps) → AnswersLast None steps
none-rest s [] is = refl
none-rest s (t ∷ steps) is = is.1

-- the answer of a step that gives one
by-answer : {V : Type 0} (g : Wiring) (h : Shared V) (s : Small) (p : Plan) (x : Answer) → x ∷ [] ≡ answers_by h s p → (s ≡ Answering) × (x ≡ answer_of h p.reply)
by-answer g h Answering p x is = (refl, cc)
by-answer g h (Claim object queue) p x is = absurd cc
by-answer g h (Release object) p x is = absurd cc
by-answer g h (Add worker object token) p x is = absurd cc
by-answer g h (Delete worker object) p x is = absurd cc
by-answer g h (Listen worker object token) p x is = absurd cc
by-answer g h (Unlisten worker object above) p x is = absurd cc
by-answer g h (Bell object) p x is = absurd cc
by-answer g h (Remove worker number) p x is = absurd cc
by-answer g h (Insert worker number) p x is = absurd cc
by-answer g h (Set queue o) p x is = absurd cc
by-answer g h (Info queue desc avail used) p x is = absurd cc
by-answer g h (Table change) p x is = absurd cc
by-answer g h (Log object offset size) p x is = absurd cc
by-answer g h (Device call) p x is = absurd cc

module _ {V : Type 0} (g : Wiring) (P : Shared V → Plan → Type 0) (keeps : KeepsPlay g P) (faults : KeepsFault P) (Sound Rise : Type 0) where
  row-on : (before : Player) (was : Begun) (s : HandledStep) (a b : Shared V) → before.wiring ≡ g → IsNext before was s → s.played.answer ≡ None → IsPlayRow before s.player was s.left s.played s.said a b → P a (plan_at a.guest.regions was) → P b (plan_at b.guest.regions s.left)
  row-on before was s a b wiring next none row held =
      let p = plan_at a.guest.regions was in
      let first : p.steps ≡ s.played.small ∷ tail_of p.steps = next.first a.guest.regions in
      let M : List Small → Type 0 = λ l. MayControl a l s.played.small s.said in
      let may : MayControl a (s.played.small ∷ tail_of p.steps) s.played.small s.said = subst M first row.may in
      let silent : answers_by a s.played.small p ≡ [] = sym row.answer ∙ ap option_to_list none in
      let after = keeps a p s.played.small s.said held first may.1 silent in
      let W : Wiring → Type 0 = λ w. P (small_after w a s.played.small) (rest_after w a s.played.small s.said (dropped p)) in
      let H : Shared V → Type 0 = λ h. P h (rest_after before.wiring a s.played.small s.said (dropped p)) in
      subst (P b) (sym row.rest) (subst H (sym row.shared) (subst W (sym wiring) after))

  fault-on : (before : Player) (was : Begun) (s : HandledStep) (a b : Shared V) → IsPlayFault before s.player was s.left s.played a b → P a (plan_at a.guest.regions was) → P b (plan_at b.guest.regions s.left)
  fault-on before was s a b fault held =
      let H : Shared V → Type 0 = λ h. P h (plan_at h.guest.regions s.left) in
      subst H (sym fault.shared) (subst (P a) (sym fault.rest) (faults a (plan_at a.guest.regions was) held))

  play-on : (before : Player) (was : Begun) (s : HandledStep) (a b : Shared V) → before.wiring ≡ g → IsNext before was s → s.played.answer ≡ None → RowOrFault Sound Rise (IsPlayRow before s.player was s.left s.played s.said a b) (IsPlayFault before s.player was s.left s.played a b)
      → P a (plan_at a.guest.regions was) → P b (plan_at b.guest.regions s.left)
  play-on before was s a b wiring next none row held =
      elim row.row [
        | inl made ↦ row-on before was s a b wiring next none made held
        | inr failed ↦ fault-on before was s a b failed.1 held
      ]

  -- plays that give no answer
  pub walk : (steps : List HandledStep) (before now : Player) (was left : Begun) (a b : Shared V) → before.wiring ≡ g → AnswersLast None steps → LeadTo steps before was now left → ArePlays Sound Rise steps before was a b → P a (plan_at a.guest.regions was) → P b (plan_at b.guest.regions left)
  walk [] before now was left a b wiring silent leads plays held =
      let H : Shared V → Type 0 = λ h. P h (plan_at h.guest.regions was) in
      let B : Begun → Type 0 = λ w. P b (plan_at b.guest.regions w) in
      subst B (sym leads.1) (subst H (sym plays) held)
  walk (s ∷ steps) before now was left a b wiring silent leads plays held =
      walk steps s.player now s.left left plays.0 b (leads.0.wiring ∙ wiring) (none-rest s steps silent) leads.1 plays.2
      (play-on before was s a plays.0 wiring leads.0 (none-first s steps silent) plays.1 held)

  answered-row : (before : Player) (was : Begun) (s : HandledStep) (x : Answer) (a b : Shared V) → IsNext before was s → s.played.answer ≡ Some x → IsPlayRow before s.player was s.left s.played s.said a b → P a (plan_at a.guest.regions was) → Answered P x b
  answered-row before was s x a b next some row held =
      let p = plan_at a.guest.regions was in
      let gives : x ∷ [] ≡ answers_by a s.played.small p = sym (ap option_to_list some) ∙ row.answer in
      let is = by-answer before.wiring a s.played.small p x gives in
      let same : b ≡ a = row.shared ∙ ap (λ t. small_after before.wiring a t) is.0 in
      let H : Shared V → Type 0 = λ h. Answered P x h in
      subst H (sym same) record {
        plan = p;
        kept = held;
        last = next.first a.guest.regions ∙ ap (λ t. t ∷ tail_of p.steps) is.0;
        answer = is.1;
      }

  -- plays that end with an answer
  pub walk-to : (steps : List HandledStep) (x : Answer) (before now : Player) (was left : Begun) (a b : Shared V) → before.wiring ≡ g → AnswersLast (Some x) steps → LeadTo steps before was now left → ArePlays Sound Rise steps before was a b → P a (plan_at a.guest.regions was) → Answered P x b
  walk-to [] x before now was left a b wiring gives leads plays held = absurd (let no : Some x ≡ None = gives in cc)
  walk-to (s ∷ []) x before now was left a b wiring gives leads plays held =
      let H : Shared V → Type 0 = λ h. Answered P x h in
      subst H (sym plays.2)
      (elim plays.1.row [
        | inl made ↦ answered-row before was s x a plays.0 leads.0 gives made held
        | inr failed ↦ absurd (let no : None ≡ Some x = sym failed.1.answer ∙ gives in cc)
      ])
  walk-to (s ∷ (t ∷ steps)) x before now was left a b wiring gives leads plays held =
      walk-to (t ∷ steps) x s.player now s.left left plays.0 b (leads.0.wiring ∙ wiring) gives.1 leads.1 plays.2
      (play-on before was s a plays.0 wiring leads.0 gives.0 plays.1 held)
