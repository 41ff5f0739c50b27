-- A play, by what its call of the parts leaves and by what becomes of the request that is under way.
use Rattle.std.proofs.Common.{◌≡◌, Bool, false, ◌⊎◌, inl, inr, if◌then◌else◌, List, [], ◌∷◌, map, Option, Some, None, refl, ap, sym, subst, ◌∙◌}
use Rattle.vub_base.specs.Told.{Told}
use Rattle.vub_mem.specs.declared.errors.MemError.{MemError}
use Rattle.vub_mem.specs.declared.region.Region.{Region}
use Rattle.vub_proto.specs.declared.answer.Answer.{Answer}
use Rattle.vub_proto.specs.declared.device_op.DeviceOp.TheVariants as device
use Rattle.vub_proto.specs.declared.device_said.DeviceSaid.{DeviceSaid}
use Rattle.vub_proto.specs.declared.device_said.DeviceSaid.TheVariants as outcome
use Rattle.vub_model.specs.declared.session.Session.{Session}
use Rattle.vub_model.specs.declared.small.Small.{Small}
use Rattle.vub_model.specs.declared.small.Small.TheVariants.{Claim, Release, Add, Delete, Listen, Unlisten, Bell, Remove, Insert, Set, Info, Table, Log, Device, Answer as Answering}
use Rattle.vub_model.specs.declared.small.TableOp.{TableOp}
use Rattle.vub_model.specs.declared.wiring.Known.{Known}
use Rattle.vub_model.specs.Control.{MayControl, session_by, answers_by, answer_of, is_refusal, tail_of}
use Rattle.vub_model.specs.DeviceCalls.{Telling}
use Rattle.vub_model.specs.Frame.{known_of}
use Rattle.vub_model.specs.Plans.{Plan, Reply}
use Rattle.vub_model.specs.Shared.{Shared}
use Rattle.vub_model.specs.Wiring.{Wiring}
use Rattle.vub_vring.specs.declared.ops.TableSaid.{TableSaid}
use Rattle.vub_vring.specs.declared.ops.TableSaid.TheVariants as change
use Rattle.vub_vring.specs.Calls.{TableCall}
use Rattle.vub_vring.specs.PartsState.{PartsState, HasFailed}
use Rattle.vub_plan.specs.declared.half.Head.{Head}
use Rattle.vub_plan.specs.declared.half.Head.TheVariants as head
use Rattle.vub_plan.specs.declared.half.Stage.TheVariants as stage
use Rattle.vub_plan.specs.declared.half.Turn.{Turn}
use Rattle.vub_plan.specs.declared.half.Turn.TheVariants as turn
use Rattle.vub_plan.specs.Halves.{Begun, with_head, plan_at, dropped, turned, stage_of}
use Rattle.vub_handler.specs.declared.acted.Acted.{Acted}
use Rattle.vub_handler.specs.declared.acted.Acted.TheVariants.{Made}
use Rattle.vub_handler.specs.declared.played.Played.{Played}
use Rattle.vub_loop.specs.Faults.{RowOrFault}
use Rattle.vub_handler.specs.Acting.{IsRowOf, IsFaultOf, HasRefused, IsCaused, table_turn, IsStill, Acts}
use Rattle.vub_handler.specs.Player.{Player}
use Rattle.vub_handler.specs.Playing.{known_by, WaitsAt, IsPlayRow, IsPlayFault, IsCausedReply, IsHeld, PlayedBy}
use Rattle.vub_handler.proofs.PartRows.{table-row, uncalled}
use Rattle.vub_handler.proofs.PlayRows.{known-small, host-known}
use Rattle.vub_handler.proofs.Telling.{told-map, by-row}

-- Plans

plan-none : (b : Begun) (rs : List Region) → b.head ≡ head.None → plan_at rs b ≡ b.plan
plan-none b rs is = ap (λ (h : Head). record b.plan { steps = with_head h rs b.plan.steps }) is

abbrev at_head : Begun → Head → List Region → Plan
at_head b h rs = record b.plan { steps = with_head h rs b.plan.steps }

-- a step that is no Answer leaves the session, and answers nothing
session-plain : {V : Type 0} (h : Shared V) (s : Small) (p : Plan) (x : Session) → stage_of (s ∷ []) ≡ stage.Step → (session_by h s p x ≡ x) × (answers_by h s p ≡ [])
session-plain h (Claim object queue) p x is = (refl, refl)
session-plain h (Release object) p x is = (refl, refl)
session-plain h (Add worker object token) p x is = (refl, refl)
session-plain h (Delete worker object) p x is = (refl, refl)
session-plain h (Listen worker object token) p x is = (refl, refl)
session-plain h (Unlisten worker object above) p x is = (refl, refl)
session-plain h (Bell object) p x is = (refl, refl)
session-plain h (Remove worker number) p x is = (refl, refl)
session-plain h (Insert worker number) p x is = (refl, refl)
session-plain h (Set queue o) p x is = (refl, refl)
session-plain h (Info queue desc avail used) p x is = (refl, refl)
session-plain h (Table change) p x is = (refl, refl)
session-plain h (Log object offset size) p x is = (refl, refl)
session-plain h (Device call) p x is = (refl, refl)
session-plain h Answering p x is = absurd cc

stage-first : (s : Small) (rest : List Small) → stage_of (s ∷ rest) ≡ stage_of (s ∷ [])
stage-first (Claim object queue) rest = refl
stage-first (Release object) rest = refl
stage-first (Add worker object token) rest = refl
stage-first (Delete worker object) rest = refl
stage-first (Listen worker object token) rest = refl
stage-first (Unlisten worker object above) rest = refl
stage-first (Bell object) rest = refl
stage-first (Remove worker number) rest = refl
stage-first (Insert worker number) rest = refl
stage-first (Set queue o) rest = refl
stage-first (Info queue desc avail used) rest = refl
stage-first (Table change) rest = refl
stage-first (Log object offset size) rest = refl
stage-first (Device call) rest = refl
stage-first Answering rest = refl

caused-turn : (Failed Refused : Type 0) (made : Turn) (p : Plan) → IsCaused Failed Refused made → ((turned made p).reply ≡ p.reply) ⊎ IsCausedReply Failed Refused (turned made p).reply
caused-turn Failed Refused turn.Goes p caused = inl refl
caused-turn Failed Refused turn.Skips p caused = inl refl
caused-turn Failed Refused (turn.Instead a) p caused = inr caused
caused-turn Failed Refused (turn.Tells a) p caused = inr caused

map-fault : {Sound Rise Row Fault Row2 Fault2 : Type 0} → (Row → Row2) → (Fault → Fault2) → RowOrFault Sound Rise Row Fault → RowOrFault Sound Rise Row2 Fault2
map-fault {Sound} {Rise} {Row} {Fault} {Row2} {Fault2} row fault r = record { row = by r.row; sound = λ sound. row (r.sound sound) } where
  by : Row ⊎ (Rise × Fault) → Row2 ⊎ (Rise × Fault2)
  by (inl x) = inl (row x)
  by (inr x) = inr (x.0, fault x.1)

abbrev pub played_as : Small → Bool → Option Answer → Played
played_as s refused answer = record { small = s; refused = refused; answer = answer }

-- A step that is no Answer

module _ {V : Type 0} (before now : Player) (was left : Begun) (s : Small) (refused : Bool) (made : Turn) (plain : stage_of (s ∷ []) ≡ stage.Step) (learned : now ≡ record before { known = known_by s before.known }) where
  may-first : (a : Shared V) (steps : List Small) (said : DeviceSaid) → steps ≡ s ∷ tail_of steps → MayControl a (s ∷ tail_of steps) s said → MayControl a steps s said
  may-first a steps said is may = (let P : List Small → Type 0 = λ l. MayControl a l s said in subst P (sym is) may)

  row-played : (a b : Shared V) (said : DeviceSaid) → (plan_at a.guest.regions was).steps ≡ s ∷ tail_of (plan_at a.guest.regions was).steps → plan_at b.guest.regions left ≡ turned made (dropped (plan_at a.guest.regions was)) → IsRowOf before.wiring s said made a b → IsPlayRow before now was left (played_as s refused None) said a b
  row-played a b said first rest row =
      let kept = session-plain a s (plan_at a.guest.regions was) before.session plain in
      record {
        may = may-first a (plan_at a.guest.regions was).steps said first (refl, row.free, row.says);
        shared = row.shared;
        rest = rest ∙ row.rest (dropped (plan_at a.guest.regions was));
        session = ap (λ (p : Player). p.session) learned ∙ sym kept.0;
        answer = sym kept.1;
        known = λ is. ap (λ (p : Player). p.known) learned ∙ ap (known_by s) is ∙ sym (known-small before.wiring a s row.free) ∙ sym (ap (λ (h : Shared V). map known_of h.rings) row.shared);
      }

  fault-played : (a b : Shared V) → plan_at a.guest.regions left ≡ turned made (dropped (plan_at a.guest.regions was)) → IsFaultOf s made a b → IsPlayFault before now was left (played_as s refused None) a b
  fault-played a b rest fault =
      record {
        shared = fault.2;
        rest = rest ∙ ap (λ (t : Turn). turned t (dropped (plan_at a.guest.regions was))) fault.1;
        player = learned ∙ ap (λ (known : List Known). record before { known = known }) (host-known s before.known fault.0);
        answer = refl;
      }

  pub made-played : {D : Type 0} (t : Telling D) (old new : PartsState V D) → ((rs : List Region) → (plan_at rs was).steps ≡ s ∷ tail_of (plan_at rs was).steps) → ((rs after : List Region) → plan_at after left ≡ turned made (dropped (plan_at rs was))) → Acts t before.wiring s (Made made refused) old new → PlayedBy t (Some (played_as s refused None)) before now was left old new
  made-played t old new first rest acts =
      let m = acts.1 in (
        acts.0,
        record {
          first = first;
          row = told-map old.shared new.shared _ _ (λ a b row named. map-fault (row-played a b acts.0 (first a.guest.regions) (rest a.guest.regions b.guest.regions)) (fault-played a b (rest a.guest.regions a.guest.regions)) (row named)) m.row;
          refusal = m.refusal;
          device = m.device;
          counted = m.counted;
          caused = caused-left (HasFailed old new) (HasRefused old new) m.caused;
        },
      )
    where
      reply-left : left.plan.reply ≡ (turned made was.plan).reply
      reply-left = ap (λ (p : Plan). p.reply) (rest [] []) ∙ by made where
        by : (made : Turn) → (turned made (dropped (plan_at [] was))).reply ≡ (turned made was.plan).reply
        by turn.Goes = refl
        by turn.Skips = refl
        by (turn.Instead a) = refl
        by (turn.Tells a) = refl

      caused-left : (Failed Refused : Type 0) → IsCaused Failed Refused made → (left.plan.reply ≡ was.plan.reply) ⊎ IsCausedReply Failed Refused left.plan.reply
      caused-left Failed Refused caused = (let P : Reply → Type 0 = λ r. (r ≡ was.plan.reply) ⊎ IsCausedReply Failed Refused r in subst P (sym reply-left) (caused-turn Failed Refused made was.plan caused))

-- the next of the steps
pub step_played : {V D : Type 0} (t : Telling D) (before now : Player) (was left : Begun) (s : Small) (refused : Bool) (made : Turn) (old new : PartsState V D) → was.head ≡ head.None → was.plan.steps ≡ s ∷ tail_of was.plan.steps → stage_of was.plan.steps ≡ stage.Step → left.head ≡ was.head → left.plan ≡ turned made (dropped was.plan) → now ≡ record before { known = known_by s before.known } → Acts t before.wiring s (Made made refused) old new → PlayedBy t (Some (played_as s refused None)) before now was left old new
step_played t before now was left s refused made old new at first step kept rest learned acts =
    made-played before now was left s refused made (sym (stage-first s (tail_of was.plan.steps)) ∙ ap stage_of (sym first) ∙ step) learned t old new
    (λ rs. (let P : Plan → Type 0 = λ p. p.steps ≡ s ∷ tail_of p.steps in subst P (sym (plan-none was rs at)) first))
    (λ rs after. plan-none left after (kept ∙ at) ∙ rest ∙ ap (λ (p : Plan). turned made (dropped p)) (sym (plan-none was rs at))) acts

-- the device is told of the regions
pub update_played : {V D : Type 0} (t : Telling D) (before : Player) (was left : Begun) (regions : List Region) (refused : Bool) (made : Turn) (old new : PartsState V D) → was.head ≡ head.Update regions → left.head ≡ head.None → left.plan ≡ turned made was.plan → Acts t before.wiring (Device (device.UpdateMemory regions)) (Made made refused) old new → PlayedBy t (Some (played_as (Device (device.UpdateMemory regions)) refused None)) before before was left old new
update_played t before was left regions refused made old new at off rest acts =
    made-played before before was left (Device (device.UpdateMemory regions)) refused made refl refl t old new
    (λ rs. (let P : Plan → Type 0 = λ p. p.steps ≡ Device (device.UpdateMemory regions) ∷ tail_of p.steps in subst P (sym (at-update rs)) refl))
    (λ rs after. plan-none left after off ∙ rest ∙ ap (λ (p : Plan). turned made (dropped p)) (sym (at-update rs))) acts where
      at-update : (rs : List Region) → plan_at rs was ≡ at_head was (head.Update regions) rs
      at-update rs = ap (λ (h : Head). at_head was h rs) at

-- the same, by the equations of what was called
pub update_from : {V D : Type 0} (t : Telling D) (before : Player) (w : Wiring) (was left : Begun) (regions : List Region) (small : Small) (acted : Acted) (refused : Bool) (made : Turn) (p : Played) (old new : PartsState V D) → w ≡ before.wiring → small ≡ Device (device.UpdateMemory regions) → acted ≡ Made made refused → p ≡ played_as small refused None → was.head ≡ head.Update regions → left.head ≡ head.None → left.plan ≡ turned made was.plan → Acts t w small acted old new → PlayedBy t (Some p) before before was left old new
update_from t before w was left regions small acted refused made p old new wiring is acts-is player at off rest acts =
    let W : Wiring → Type 0 = λ w. Acts t w small acted old new in
    let A : Small → Type 0 = λ s. Acts t before.wiring s acted old new in
    let M : Acted → Type 0 = λ a. Acts t before.wiring (Device (device.UpdateMemory regions)) a old new in
    let P : Played → Type 0 = λ p. PlayedBy t (Some p) before before was left old new in
    subst P (sym (player ∙ ap (λ (s : Small). played_as s refused None) is)) (update_played t before was left regions refused made old new at off rest (subst M acts-is (subst A is (subst W wiring acts))))

pub step_from : {V D : Type 0} (t : Telling D) (before now : Player) (w : Wiring) (was left : Begun) (acting first small : Small) (acted : Acted) (refused : Bool) (made : Turn) (p : Played) (old new : PartsState V D) → w ≡ before.wiring → acting ≡ first → was.plan.steps ≡ first ∷ tail_of was.plan.steps → was.plan.steps ≡ small ∷ tail_of was.plan.steps → acted ≡ Made made refused → p ≡ played_as small refused None → was.head ≡ head.None → stage_of was.plan.steps ≡ stage.Step → left.head ≡ was.head → left.plan ≡ turned made (dropped was.plan) → now ≡ record before { known = known_by small before.known } → Acts t w acting acted old new → PlayedBy t (Some p) before now was left old new
step_from t before now w was left acting first small acted refused made p old new wiring lent here is acts-is player at step kept rest learned acts =
    let same : first ≡ small = (let both : first ∷ tail_of was.plan.steps ≡ small ∷ tail_of was.plan.steps = sym here ∙ is in cc) in
    let W : Wiring → Type 0 = λ w. Acts t w acting acted old new in
    let A : Small → Type 0 = λ s. Acts t before.wiring s acted old new in
    let M : Acted → Type 0 = λ a. Acts t before.wiring small a old new in
    let P : Played → Type 0 = λ p. PlayedBy t (Some p) before now was left old new in
    subst P (sym player) (step_played t before now was left small refused made old new at is step kept rest learned (subst M acts-is (subst A (lent ∙ same) (subst W wiring acts))))

-- A step that has to wait, and none

pub waits_held : {V D : Type 0} (before : Player) (was : Begun) (s : Small) (old new : PartsState V D) → ((rs : List Region) → (plan_at rs was).steps ≡ s ∷ tail_of (plan_at rs was).steps) → IsStill s old new → IsHeld before before was was old new
waits_held before was s old new first still =
    record {
      player = refl;
      half = refl;
      waits = told-map old.shared new.shared _ _ (λ a b held. ((let P : List Small → Type 0 = λ l. WaitsAt a l in subst P (sym (first a.guest.regions)) held.0), held.1)) still.waits;
      device = still.device;
      refusals = still.refusals;
    }

pub step_held : {V D : Type 0} (before : Player) (was : Begun) (s : Small) (old new : PartsState V D) → was.head ≡ head.None → was.plan.steps ≡ s ∷ tail_of was.plan.steps → IsStill s old new → IsHeld before before was was old new
step_held before was s old new at first still = waits_held before was s old new (λ rs. (let P : Plan → Type 0 = λ p. p.steps ≡ s ∷ tail_of p.steps in subst P (sym (plan-none was rs at)) first)) still

pub update_held : {V D : Type 0} (before : Player) (was : Begun) (regions : List Region) (old new : PartsState V D) → was.head ≡ head.Update regions → IsStill (Device (device.UpdateMemory regions)) old new → IsHeld before before was was old new
update_held before was regions old new at still =
    waits_held before was (Device (device.UpdateMemory regions)) old new
    (λ rs. (let P : Plan → Type 0 = λ p. p.steps ≡ Device (device.UpdateMemory regions) ∷ tail_of p.steps in subst P (sym (ap (λ (h : Head). at_head was h rs) at)) refl)) still

spent-steps : (steps : List Small) → stage_of steps ≡ stage.Spent → steps ≡ []
spent-steps [] is = refl
spent-steps (s ∷ rest) is = by s (sym (stage-first s rest) ∙ is) where
  by : (s : Small) → stage_of (s ∷ []) ≡ stage.Spent → s ∷ rest ≡ []
  by (Claim object queue) is = absurd cc
  by (Release object) is = absurd cc
  by (Add worker object token) is = absurd cc
  by (Delete worker object) is = absurd cc
  by (Listen worker object token) is = absurd cc
  by (Unlisten worker object above) is = absurd cc
  by (Bell object) is = absurd cc
  by (Remove worker number) is = absurd cc
  by (Insert worker number) is = absurd cc
  by (Set queue o) is = absurd cc
  by (Info queue desc avail used) is = absurd cc
  by (Table change) is = absurd cc
  by (Log object offset size) is = absurd cc
  by (Device call) is = absurd cc
  by Answering is = absurd cc

told-same : {V : Type 0} (held : Option (Shared V)) (P : Shared V → Type 0) → ((h : Shared V) → P h) → Told held held (λ a b. P a × (b ≡ a))
told-same None P all = tt
told-same (Some h) P all = (all h, refl)

-- nothing is left
pub spent_held : {V D : Type 0} (before : Player) (was : Begun) (held : PartsState V D) → was.head ≡ head.None → stage_of was.plan.steps ≡ stage.Spent → IsHeld before before was was held held
spent_held before was held at spent =
    record {
      player = refl;
      half = refl;
      waits = told-same held.shared (λ h. WaitsAt h (plan_at h.guest.regions was).steps) (λ h. (let P : List Small → Type 0 = λ l. WaitsAt h l in subst P (sym (ap (λ (p : Plan). p.steps) (plan-none was h.guest.regions at) ∙ spent-steps was.plan.steps spent)) tt));
      device = refl;
      refusals = refl;
    }

-- The table of guest memory

module _ {V D : Type 0} (t : Telling D) (before : Player) (was left : Begun) (o : TableOp) (old new : PartsState V D) (at : was.head ≡ head.Table o) (uncalled-device : new.device ≡ old.device) where
  at-table : (rs : List Region) → plan_at rs was ≡ at_head was (head.Table o) rs
  at-table rs = ap (λ (h : Head). at_head was h rs) at

  table-row-played : (made : Turn) (a b : Shared V) → plan_at b.guest.regions left ≡ turned made (dropped (plan_at a.guest.regions was)) → IsRowOf before.wiring (Table o) outcome.Done made a b → IsPlayRow before before was left (played_as (Table o) false None) outcome.Done a b
  table-row-played made a b rest row =
      row-played before before was left (Table o) false made refl refl a b outcome.Done
      (let P : Plan → Type 0 = λ p. p.steps ≡ Table o ∷ tail_of p.steps in subst P (sym (at-table a.guest.regions)) refl) rest row

  table-played : (s : TableSaid) (caused : (left.plan.reply ≡ was.plan.reply) ⊎ IsCausedReply (HasFailed old new) (HasRefused old new) left.plan.reply) → ((a b : Shared V) → TableCall o s a b → plan_at b.guest.regions left ≡ turned (table_turn s) (dropped (plan_at a.guest.regions was))) → Told old.shared new.shared (TableCall o s) → PlayedBy t (Some (played_as (Table o) false None)) before before was left old new
  table-played s caused rest told = (
    outcome.Done,
    record {
      first = λ rs. (let P : Plan → Type 0 = λ p. p.steps ≡ Table o ∷ tail_of p.steps in subst P (sym (at-table rs)) refl);
      row = told-map old.shared new.shared _ _ (λ a b call named. by-row old.NeverFails (HasFailed old new) _ (table-row-played (table_turn s) a b (rest a b call) (table-row before.wiring a b s o call))) told;
      refusal = refl;
      device = uncalled t old.device new.device uncalled-device;
      counted = tt;
      caused = caused;
    },
  )

  pub table_accepted : (regions : List Region) → left ≡ record was { head = head.Update regions } → Told old.shared new.shared (TableCall o (change.Regions regions)) → PlayedBy t (Some (played_as (Table o) false None)) before before was left old new
  table_accepted regions is told =
      table-played (change.Regions regions) (inl (ap (λ (b : Begun). b.plan.reply) is))
      (λ a b call. ap (plan_at b.guest.regions) is ∙ ap (λ (rs : List Region). at_head was (head.Update rs) b.guest.regions) call.0.1 ∙ sym (ap dropped (at-table a.guest.regions))) told

  pub table_refused : (e : MemError) → left.head ≡ head.None → left.plan ≡ turned (table_turn (change.Memory e)) was.plan → Told old.shared new.shared (TableCall o (change.Memory e)) → PlayedBy t (Some (played_as (Table o) false None)) before before was left old new
  table_refused e off rest told =
      table-played (change.Memory e) (inr (let P : Plan → Type 0 = λ p. IsCausedReply (HasFailed old new) (HasRefused old new) p.reply in subst P (sym rest) tt))
      (λ a b call. plan-none left b.guest.regions off ∙ rest ∙ sym (ap (λ (p : Plan). turned (table_turn (change.Memory e)) (dropped p)) (at-table a.guest.regions))) told

-- The Answer

pub answer-first : (steps : List Small) → stage_of steps ≡ stage.Answer → steps ≡ Answering ∷ tail_of steps
answer-first [] is = absurd cc
answer-first (s ∷ rest) is = by s (sym (stage-first s rest) ∙ is) where
  by : (s : Small) → stage_of (s ∷ []) ≡ stage.Answer → s ∷ rest ≡ Answering ∷ rest
  by (Claim object queue) is = absurd cc
  by (Release object) is = absurd cc
  by (Add worker object token) is = absurd cc
  by (Delete worker object) is = absurd cc
  by (Listen worker object token) is = absurd cc
  by (Unlisten worker object above) is = absurd cc
  by (Bell object) is = absurd cc
  by (Remove worker number) is = absurd cc
  by (Insert worker number) is = absurd cc
  by (Set queue o) is = absurd cc
  by (Info queue desc avail used) is = absurd cc
  by (Table change) is = absurd cc
  by (Log object offset size) is = absurd cc
  by (Device call) is = absurd cc
  by Answering is = refl

pub answer_played : {V D : Type 0} (t : Telling D) (before now : Player) (was left : Begun) (x : Answer) (old new : PartsState V D) → was.head ≡ head.None → stage_of was.plan.steps ≡ stage.Answer → left.head ≡ was.head → left.plan ≡ dropped was.plan → now ≡ record before { session = if is_refusal x then before.session else was.plan.session } → Told old.shared new.shared (λ h k. (x ≡ answer_of h was.plan.reply) × (k ≡ h)) → new.device ≡ old.device → PlayedBy t (Some (played_as Answering false (Some x))) before now was left old new
answer_played {V} t before now was left x old new at step kept rest settled told device = (
  outcome.Done,
  record {
    first = λ rs. (let P : Plan → Type 0 = λ p. p.steps ≡ Answering ∷ tail_of p.steps in subst P (sym (plan-none was rs at)) (answer-first was.plan.steps step));
    row = told-map old.shared new.shared _ _ (λ a b due named. by-row old.NeverFails (HasFailed old new) _ (row a b due)) told;
    refusal = refl;
    device = uncalled t old.device new.device device;
    counted = tt;
    caused = inl (ap (λ (p : Plan). p.reply) rest);
  },
)
  where
    row : (a b : Shared V) → (x ≡ answer_of a was.plan.reply) × (b ≡ a) → IsPlayRow before now was left (played_as Answering false (Some x)) outcome.Done a b
    row a b due =
        let here : plan_at a.guest.regions was ≡ was.plan = plan-none was a.guest.regions at in
        let is : x ≡ answer_of a (plan_at a.guest.regions was).reply = due.0 in
        record {
          may = (let P : List Small → Type 0 = λ l. MayControl a l Answering outcome.Done in subst P (sym (ap (λ (p : Plan). p.steps) here ∙ answer-first was.plan.steps step)) (refl, refl, refl));
          shared = due.1;
          rest = plan-none left b.guest.regions (kept ∙ at) ∙ rest ∙ sym (ap dropped here);
          session = ap (λ (p : Player). p.session) settled ∙ ap (λ (y : Answer). if is_refusal y then before.session else was.plan.session) is;
          answer = ap (λ (y : Answer). y ∷ []) is;
          known = λ known. ap (λ (p : Player). p.known) settled ∙ known ∙ sym (ap (λ (h : Shared V). map known_of h.rings) due.1);
        }
