use Rattle.std.proofs.Common.{rules, ℕ, sym, subst, ◌∙◌}
use Rattle.vub_talk.specs.Asking.{NumbersOn}
use Rattle.vub_talk.proofs.Asked.{moved-more, numbers-more}
use Rattle.vub_talk.specs.Talking.{Collects}
use Rattle.vub_talk.specs.Talks.{IsSlow, IsTrusted}
use Rattle.vub_talk.proofs.Pushed.{collects_more, trusted_on}
use Rattle.vub_talk.proofs.conversation.Conversation.collect_all.Goals as goal

pub loop-ask-preserved : goal.loop-ask-preserved
loop-ask-preserved c =
    let so = c.loop-ask.invariant in
    let first = c.args.self.now.driver.collected in
    let N : ℕ → Type 0 = λ n. NumbersOn n 1 c.loop-ask.answers c.collect.new.answers in
    record {
      driver = moved-more 0 c.loop-ask._ask 0 1 c.args.self.now.driver c.loop-ask.self.driver c.collect.new.self.driver so.driver c.in_ok-collect.ensures.driver;
      answers = numbers-more first c.loop-ask._ask 1 c.args.answers.now c.loop-ask.answers c.collect.new.answers so.answers (subst N so.driver.collected c.in_ok-collect.ensures.answers);
      replies = collects_more c.loop-ask._ask c.args.self.now.driver c.args.self.now.memory.guest c.args.answers.now c.loop-ask.self.driver c.collect.new.self.driver c.loop-ask.answers c.collect.new.answers so.replies
          (subst (λ m. Collects 1 c.loop-ask.self.driver m.guest c.loop-ask.answers c.collect.new.self.driver c.collect.new.answers) so.memory c.in_ok-collect.ensures.replies);
      memory = c.collect.ensures.memory ∙ so.memory;
    }

pub returns-in_err-collect-clause-trusted : goal.returns-in_err-collect-clause-trusted
returns-in_err-collect-clause-trusted c =
    let so = c.loop-ask.invariant in
    let on : IsTrusted c.args.self.now.driver c.args.self.now.memory.guest → IsTrusted c.loop-ask.self.driver c.loop-ask.self.memory.guest =
    λ trust. subst (λ m. IsTrusted c.loop-ask.self.driver m.guest) (sym so.memory)
    (trusted_on c.loop-ask._ask c.args.self.now.driver c.args.self.now.memory.guest c.args.answers.now c.loop-ask.self.driver c.loop-ask.answers so.replies trust) in
    let mine : IsTrusted c.args.self.now.driver c.args.self.now.memory.guest → IsSlow c.in_err-collect.field-0.0 = λ trust. c.in_err-collect.ensures.trusted (on trust) in
    search rules
