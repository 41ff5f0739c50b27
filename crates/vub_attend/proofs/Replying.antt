-- Requests that were replied to, one after the other.
use Rattle.std.proofs.Common.{◌≡◌, ◌⊎◌, inl, inr, ℕ, ◌≤◌, List, [], ◌∷◌, ◌++◌, Option, Some, None, Result, Ok, Err, refl, sym, ap, ◌∙◌, subst, arith}
use Rattle.std.proofs.lemmas.List.{append_assoc, append-nil}
use Rattle.vub_base.specs.Told.{Told}
use Rattle.vub_proto.specs.declared.answer.Answer.{Answer}
use Rattle.vub_proto.specs.declared.request.Request.{Request}
use Rattle.vub_model.specs.DeviceCalls.{Telling}
use Rattle.vub_model.specs.Shared.{Shared}
use Rattle.vub_model.specs.Wiring.{Wiring}
use Rattle.vub_vring.specs.PartsState.{PartsState, Lasts, IsUntouched}
use Rattle.vub_plan.specs.Halves.{Begun}
use Rattle.vub_handler.specs.Player.{Player}
use Rattle.vub_requests.specs.declared.unanswered.Unanswered.{Unanswered}
use Rattle.vub_requests.specs.declared.unanswered.Unanswered.TheVariants.{Waits, OutOfMemory}
use Rattle.vub_requests.specs.Handling.{HandledStep, ArePlays, ArePlanned, PlaysAll, IsLeft, WaitsInFlight, Finishes, Handles, IsUnbegun, HandledBy}
use Rattle.vub_attend.specs.Attending.{NamesThere, IsRefused, RepliesBy, Moment, moment_of, parts_at, Attended, ReplyOn}

-- Plays, where less is known of the host

plays-sure : {V : Type 0} (Sound Sure Rise : Type 0) (steps : List HandledStep) (before : Player) (was : Begun) (a b : Shared V) → (Sure → Sound) → ArePlays Sound Rise steps before was a b → ArePlays Sure Rise steps before was a b
plays-sure Sound Sure Rise [] before was a b sure plays = plays
plays-sure Sound Sure Rise (s ∷ steps) before was a b sure plays = (
  plays.0,
  record {
    row = plays.1.row;
    sound = λ is. plays.1.sound (sure is);
  },
  plays-sure Sound Sure Rise steps s.player s.left plays.0 b sure plays.2,
)

planned-sure : {V : Type 0} (Sound Sure Rise : Type 0) (steps : List HandledStep) (before now : Player) (was : Begun) (old new : Option (Shared V)) → (Sure → Sound) → Told old new (ArePlanned Sound Rise steps before now was) → Told old new (ArePlanned Sure Rise steps before now was)
planned-sure Sound Sure Rise steps before now was None new sure told = tt
planned-sure Sound Sure Rise steps before now was (Some a) None sure told = told
planned-sure Sound Sure Rise steps before now was (Some a) (Some b) sure told = λ all. (plays-sure Sound Sure Rise steps before was a b sure (told all).0, (told all).1)

-- What was replied, as the parts were at a moment

module _ {V D : Type 0} (p old new : PartsState V D) (sure : p.NeverFails → old.NeverFails) where
  lasts-at : Lasts old new → Lasts (parts_at p (moment_of old)) (parts_at p (moment_of new))
  lasts-at lasts = record {
    later = lasts.later;
    refusals = lasts.refusals;
    still = λ is. is;
    loan = refl;
    constants = refl;
  }

  untouched-at : IsUntouched old new → IsUntouched (parts_at p (moment_of old)) (parts_at p (moment_of new))
  untouched-at same = record {
    shared = same.shared;
    device = same.device;
    faults = same.faults;
    refusals = same.refusals;
    still = λ is. is;
    loan = refl;
    constants = refl;
  }

  left-at : (result : Result Answer Unanswered) (left : Begun) → IsLeft result left old new → IsLeft result left (parts_at p (moment_of old)) (parts_at p (moment_of new))
  left-at (Ok a) left is = is
  left-at (Err Waits) left is = is
  left-at (Err OutOfMemory) left is = is

  waits-at : (r : Request) (before : Player) (begun : Begun) (result : Result Answer Unanswered) → WaitsInFlight r before begun old new result → WaitsInFlight r before begun (parts_at p (moment_of old)) (parts_at p (moment_of new)) result
  waits-at r before begun (Ok a) is = is
  waits-at r before begun (Err Waits) is = is
  waits-at r before begun (Err OutOfMemory) is = is

  plays-at : (t : Telling D) (answer : Option Answer) (before now : Player) (was left : Begun) → PlaysAll t answer before now was left old new → PlaysAll t answer before now was left (parts_at p (moment_of old)) (parts_at p (moment_of new))
  plays-at t answer before now was left plays = record {
    steps = plays.steps;
    leads = plays.leads;
    answers = plays.answers;
    told = planned-sure old.NeverFails p.NeverFails _ plays.steps before now was old.shared new.shared sure plays.told;
    device = plays.device;
    refused = plays.refused;
    caused = plays.caused;
    wiring = plays.wiring;
    lasts = lasts-at plays.lasts;
  }

  handles-at : (t : Telling D) (r : Request) (before now : Player) (result : Result Answer Unanswered) → Handles t r before now old new result → Handles t r before now (parts_at p (moment_of old)) (parts_at p (moment_of new)) result
  handles-at t r before now result handles = record {
    begun = handles.begun;
    left = handles.left;
    plan = handles.plan;
    plays = record {
      plays = plays-at t _ before now handles.begun handles.left handles.plays.plays;
      stays = left-at result handles.left handles.plays.stays;
    };
    caused = handles.caused;
    waits = waits-at r before handles.begun result handles.waits;
  }

  handled-at : (t : Telling D) (r : Request) (before now : Player) (result : Result Answer Unanswered) → HandledBy t r before now old new result → HandledBy t r before now (parts_at p (moment_of old)) (parts_at p (moment_of new)) result
  handled-at t r before now result (inl handles) = inl (handles-at t r before now result handles)
  handled-at t r before now result (inr unbegun) = inr record {
    refused = unbegun.refused;
    player = unbegun.player;
    parts = untouched-at unbegun.parts;
  }

  pub replies-at : (t : Telling D) (r : Request) (before now : Player) (result : Result Answer Unanswered) → RepliesBy t r before now old new result → RepliesBy t r before now (parts_at p (moment_of old)) (parts_at p (moment_of new)) result
  replies-at t r before now result (inl (there, handled)) = inl (
    record {
      worker = there.worker;
      objects = there.objects;
    },
    handled-at t r before now result handled,
  )
  replies-at t r before now result (inr refused) = inr record {
    missing = refused.missing;
    answer = refused.answer;
    player = refused.player;
    parts = untouched-at refused.parts;
  }

-- What replies leave

untouched-lasts : {V D : Type 0} (old new : PartsState V D) → IsUntouched old new → Lasts old new
untouched-lasts old new same = record {
  later = omega (arith, same.faults);
  refusals = omega (arith, same.refusals);
  still = same.still;
  loan = same.loan;
  constants = same.constants;
}

pub lasts-on : {V D : Type 0} (old mid new : PartsState V D) → Lasts old mid → Lasts mid new → Lasts old new
lasts-on old mid new first then = record {
  later = omega (arith, first.later, then.later);
  refusals = omega (arith, first.refusals, then.refusals);
  still = λ s. then.still (first.still s);
  loan = then.loan ∙ first.loan;
  constants = then.constants ∙ first.constants;
}

pub lasts-always : {V D : Type 0} (old : PartsState V D) → Lasts old old
lasts-always old = record {
  later = omega arith;
  refusals = omega arith;
  still = λ s. s;
  loan = refl;
  constants = refl;
}

module _ {V D : Type 0} (t : Telling D) (r : Request) (before now : Player) (old new : PartsState V D) (result : Result Answer Unanswered) where
  pub replies-last : RepliesBy t r before now old new result → Lasts old new
  replies-last (inl (there, inl handles)) = handles.plays.plays.lasts
  replies-last (inl (there, inr unbegun)) = untouched-lasts old new unbegun.parts
  replies-last (inr refused) = untouched-lasts old new refused.parts

  pub replies-keep : RepliesBy t r before now old new result → now.wiring ≡ before.wiring
  replies-keep (inl (there, inl handles)) = handles.plays.plays.wiring
  replies-keep (inl (there, inr unbegun)) = ap (λ (p : Player). p.wiring) unbegun.player
  replies-keep (inr refused) = ap (λ (p : Player). p.wiring) refused.player

-- Replies that lead on

module _ {V D : Type 0} (t : Telling D) where
  pub reply-at : (p q : PartsState V D) (xs : List (Attended V D)) (before now : Player) (old new : Moment V D) → (p.NeverFails → q.NeverFails) → ReplyOn t q xs before now old new → ReplyOn t p xs before now old new
  reply-at p q [] before now old new sure replies = replies
  reply-at p q (x ∷ xs) before now old new sure replies = (
    replies-at p (parts_at q old) (parts_at q x.after) sure t x.request before x.player x.result replies.0,
    reply-at p q xs x.player now x.after new sure replies.1,
  )

  pub reply-append : (p : PartsState V D) (xs ys : List (Attended V D)) (before mid now : Player) (old between new : Moment V D) → ReplyOn t p xs before mid old between → ReplyOn t p ys mid now between new → ReplyOn t p (xs ++ ys) before now old new
  reply-append p [] ys before mid now old between new first then =
      let P : Player → Type 0 = λ x. ReplyOn t p ys x now between new in
      let M : Moment V D → Type 0 = λ m. ReplyOn t p ys before now m new in
      subst M first.1 (subst P first.0 then)
  reply-append p (x ∷ xs) ys before mid now old between new first then = (first.0, reply-append p xs ys x.player mid now x.after between new first.1 then)
