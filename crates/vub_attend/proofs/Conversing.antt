-- What a control thread takes of its link and gives to it.
use Rattle.std.proofs.Common.{◌≡◌, ◌⊎◌, inl, inr, ℕ, ◌≤◌, List, [], ◌∷◌, ◌++◌, map, Option, Some, None, Result, Ok, Err, IfErr, IsErrOf, refl, sym, ap, ◌∙◌, subst, arith}
use Rattle.std.proofs.lemmas.List.{append_assoc, append-nil, map-append}
use Rattle.std.specs.List.{AllByRecursion}
use Rattle.vub_base.specs.Causes.{Rose}
use Rattle.vub_base.specs.Told.{Told}
use Rattle.vub_proto.specs.declared.answer.Answer.{Answer}
use Rattle.vub_proto.specs.declared.answer.VhostUserError.{VhostUserError}
use Rattle.vub_proto.specs.declared.answer.VhostUserError.TheVariants as error
use Rattle.vub_proto.specs.declared.request.Request.{Request}
use Rattle.vub_model.specs.DeviceCalls.{Telling}
use Rattle.vub_vring.specs.PartsState.{PartsState, Lasts}
use Rattle.vub_handler.specs.Player.{Player}
use Rattle.vub_requests.specs.declared.unanswered.Unanswered.{Unanswered}
use Rattle.vub_requests.specs.declared.unanswered.Unanswered.TheVariants as unanswered
use Rattle.vub_attend.specs.Links.{Talk, GivesNext, TakesAnswer, IsLinkError}
use Rattle.vub_attend.specs.Attending.{RepliesBy, moment_of, Attended, ReplyOn, IsAnswered, answer_list, answers_of, requests_of, Talks, LacksAnswer, LacksLast, Attends, err_in}
use Rattle.vub_attend.proofs.Replying.{lasts-on, lasts-always, replies-at, replies-last, replies-keep, reply-at, reply-append}

-- The talk

talks-none : (talk after : Option Talk) → after ≡ talk → Talks talk after [] []
talks-none None after same = tt
talks-none (Some a) None same = absurd (cc)
talks-none (Some a) (Some b) same =
    let is : b ≡ a = (let both : Some b ≡ Some a = same in cc) in
    (ap (λ (x : Talk). x.left) (sym is), ap (λ (x : Talk). x.given) is ∙ sym (append-nil a.given))

talks-on : (talk between after : Option Talk) (rs qs : List Request) (us vs : List Answer) → Talks talk between rs us → Talks between after qs vs → Talks talk after (rs ++ qs) (us ++ vs)
talks-on None between after rs qs us vs first then = tt
talks-on (Some a) None after rs qs us vs first then = absurd first
talks-on (Some a) (Some b) None rs qs us vs first then = absurd then
talks-on (Some a) (Some b) (Some c) rs qs us vs first then = (
  first.0 ∙ ap (λ l. rs ++ l) then.0 ∙ sym (append_assoc rs qs c.left),
  then.1 ∙ ap (λ l. l ++ vs) first.1 ∙ append_assoc a.given us vs,
)

talks-next : (talk between : Option Talk) (r : Request) → GivesNext {E = VhostUserError} talk between (Ok r) → Talks talk between (r ∷ []) []
talks-next None between r gives = tt
talks-next (Some a) None r gives = absurd gives
talks-next (Some a) (Some b) r gives = (gives.0, gives.1 ∙ sym (append-nil a.given))

talks-answer : (between after : Option Talk) (a : Answer) → TakesAnswer {T = Unit {0}} {E = VhostUserError} a between after (Ok tt) → Talks between after [] (a ∷ [])
talks-answer None after a takes = tt
talks-answer (Some x) None a takes = absurd takes
talks-answer (Some x) (Some y) a takes = (sym takes.1, takes.0)

answers-append : {V D : Type 0} (xs ys : List (Attended V D)) → answers_of (xs ++ ys) ≡ answers_of xs ++ answers_of ys
answers-append [] ys = refl
answers-append (x ∷ xs) ys = ap (λ l. answer_list x.result ++ l) (answers-append xs ys) ∙ sym (append_assoc (answer_list x.result) (answers_of xs) (answers_of ys))

answered-append : {V D : Type 0} (xs ys : List (Attended V D)) → AllByRecursion IsAnswered xs → AllByRecursion IsAnswered ys → AllByRecursion IsAnswered (xs ++ ys)
answered-append [] ys first then = then
answered-append (x ∷ xs) ys first then = (first.0, answered-append xs ys first.1 then)

-- The thread

module _ {V D : Type 0} (t : Telling D) where
  -- nothing was taken
  pub attends-none : (held : Player) (state : PartsState V D) (ended : Option VhostUserError) (talk after : Option Talk) → after ≡ talk → Attends t ended held held state state talk after
  attends-none held state ended talk after same = record {
    done = [];
    last = [];
    replies = (refl, refl);
    answered = tt;
    lacks = none ended;
    talks = talks-none talk after same;
    wiring = refl;
    lasts = lasts-always state;
  }
    where
      none : (e : Option VhostUserError) → LacksLast {V = V} {D = D} e []
      none None = refl
      none (Some e) = tt

  module _ (before now : Player) (old new : PartsState V D) (talk between after : Option Talk) (r : Request) (gives : GivesNext {E = VhostUserError} talk between (Ok r)) where
    -- a request was taken and its answer given
    pub attends-one : (a : Answer) → RepliesBy t r before now old new (Ok a) → TakesAnswer {T = Unit {0}} {E = VhostUserError} a between after (Ok tt) → Attends t None before now old new talk after
    attends-one a replies takes = record {
      done = record { request = r; result = Ok a; player = now; after = moment_of new } ∷ [];
      last = [];
      replies = (replies-at old old new (λ is. is) t r before now (Ok a) replies, (refl, refl));
      answered = (refl, tt);
      lacks = refl;
      talks = talks-on talk between after (r ∷ []) [] [] (a ∷ []) (talks-next talk between r gives) (talks-answer between after a takes);
      wiring = replies-keep t r before now old new (Ok a) replies;
      lasts = replies-last t r before now old new (Ok a) replies;
    }

    -- a request was taken, and lacks its answer
    pub attends-last : (e : VhostUserError) (result : Result Answer Unanswered) → RepliesBy t r before now old new result → LacksAnswer e result → after ≡ between → Attends t (Some e) before now old new talk after
    attends-last e result replies lacks same = record {
      done = [];
      last = record { request = r; result = result; player = now; after = moment_of new } ∷ [];
      replies = (replies-at old old new (λ is. is) t r before now result replies, (refl, refl));
      answered = tt;
      lacks = lacks;
      talks = talks-on talk between after (r ∷ []) [] [] [] (talks-next talk between r gives) (talks-none between after same);
      wiring = replies-keep t r before now old new result replies;
      lasts = replies-last t r before now old new result replies;
    }

    -- a request was taken, and its answer given or refused
    pub attends-given : (a : Answer) (given : Result (Unit {0}) VhostUserError) → RepliesBy t r before now old new (Ok a) → TakesAnswer a between after given → Attends t (err_in given) before now old new talk after
    attends-given a (Ok u) replies takes = attends-one a replies takes
    attends-given a (Err e) replies same = attends-last e (Ok a) replies tt same

  -- one after the other
  pub attends-on : (ended : Option VhostUserError) (before mid now : Player) (old between new : PartsState V D) (talk talking after : Option Talk) → Attends t None before mid old between talk talking → Attends t ended mid now between new talking after → Attends t ended before now old new talk after
  attends-on ended before mid now old between new talk talking after first then =
      let all : first.done ++ first.last ≡ first.done = ap (λ l. first.done ++ l) first.lacks ∙ append-nil first.done in
      let L : List (Attended V D) → Type 0 = λ l. ReplyOn t old l before mid (moment_of old) (moment_of between) in
      let R : List (Attended V D) → Type 0 = λ l. ReplyOn t old l before now (moment_of old) (moment_of new) in
      let T : List (Attended V D) → Type 0 = λ l. Talks talk talking (requests_of l) (answers_of first.done) in
      let assoc = sym (append_assoc first.done then.done then.last) in
      let later = reply-at t old between (then.done ++ then.last) mid now (moment_of between) (moment_of new) first.lasts.still then.replies in
      let taken = talks-on talk talking after (requests_of first.done) (requests_of (then.done ++ then.last)) (answers_of first.done) (answers_of then.done) (subst T all first.talks) then.talks in
      let Q : List Request → Type 0 = λ l. Talks talk after l (answers_of first.done ++ answers_of then.done) in
      let Q' : List (Attended V D) → Type 0 = λ l. Talks talk after (requests_of l) (answers_of first.done ++ answers_of then.done) in
      let A : List Answer → Type 0 = λ l. Talks talk after (requests_of ((first.done ++ then.done) ++ then.last)) l in
      record {
        done = first.done ++ then.done;
        last = then.last;
        replies = subst R assoc (reply-append t old first.done (then.done ++ then.last) before mid now (moment_of old) (moment_of between) (moment_of new) (subst L all first.replies) later);
        answered = answered-append first.done then.done first.answered then.answered;
        lacks = then.lacks;
        talks = subst A (sym (answers-append first.done then.done)) (subst Q' assoc (subst Q (sym (map-append (λ (x : Attended V D). x.request) first.done (then.done ++ then.last))) taken));
        wiring = then.wiring ∙ first.wiring;
        lasts = lasts-on old between new first.lasts then.lasts;
      }

-- a request that was not replied to lacks its answer by want of memory
pub lacks-memory : (e : Unanswered) → ¬ (IsErrOf {T = Answer} (Err e) unanswered.Waits) → LacksAnswer error.OutOfMemory (Err e)
lacks-memory unanswered.Waits never = absurd (never refl)
lacks-memory unanswered.OutOfMemory never = refl

-- The count of the link's faults

pub error-before : (i a b : ℕ) (e : VhostUserError) → i ≤ a → IsLinkError a b e → IsLinkError i b e
error-before i a b error.Disconnected later is = omega (arith, later, is)
error-before i a b error.PartialMessage later is = omega (arith, later, is)
error-before i a b error.SocketBroken later is = omega (arith, later, is)
error-before i a b error.InvalidMessage later is = omega (arith, later, is)
error-before i a b error.OutOfMemory later is = tt
error-before i a b error.InvalidParam later is = absurd is
error-before i a b (error.InvalidOperation d) later is = absurd is
error-before i a b error.InactiveFeature later is = absurd is
error-before i a b (error.ReqHandlerError c) later is = absurd is
error-before i a b error.BackendInternalError later is = absurd is

pub refused-before : {T : Type 0} (i a b : ℕ) (given : Result T VhostUserError) → i ≤ a → IfErr given (IsLinkError a b) → IfErr given (IsLinkError i b)
refused-before i a b (Ok t) later is = tt
refused-before i a b (Err e) later is = error-before i a b e later is
