-- Each step that is played brings a request nearer to its end, and its Answer says what is due.
use Rattle.std.proofs.Common.{◌≡◌, ◌≢◌, ◌+◌, ◌≤◌, Bool, false, List, [], ◌∷◌, length, Some, None, refl, ap, subst, ◌∙◌, arith}
use Rattle.vub_mem.specs.declared.errors.MemError.{MemError}
use Rattle.vub_mem.specs.declared.region.Region.{Region}
use Rattle.vub_proto.specs.declared.answer.Answer.{Answer}
use Rattle.vub_model.specs.declared.small.Small.{Small}
use Rattle.vub_model.specs.declared.small.Small.TheVariants.{Answer as Answering}
use Rattle.vub_model.specs.declared.small.TableOp.{TableOp}
use Rattle.vub_model.specs.Control.{tail_of}
use Rattle.vub_model.specs.Plans.{Plan}
use Rattle.vub_vring.specs.declared.ops.TableSaid.TheVariants as change
use Rattle.vub_plan.specs.declared.half.Head.{Head}
use Rattle.vub_plan.specs.declared.half.Head.TheVariants as head
use Rattle.vub_plan.specs.declared.half.Stage.TheVariants as stage
use Rattle.vub_plan.specs.declared.half.Turn.{Turn}
use Rattle.vub_plan.specs.declared.half.Turn.TheVariants as turn
use Rattle.vub_plan.specs.Halves.{Begun, dropped, turned, stage_of}
use Rattle.vub_handler.specs.Acting.{table_turn}
use Rattle.vub_handler.specs.Playing.{head_left, left_of, IsDueFrom, IsMove}
use Rattle.vub_handler.proofs.PlaySteps.{played_as, answer-first}

tail-no-longer : (steps : List Small) → length (tail_of steps) ≤ length steps
tail-no-longer [] = omega (arith)
tail-no-longer (s ∷ rest) = omega (arith)

turned-at-most : (made : Turn) (p : Plan) → length (turned made p).steps ≤ 1 + length p.steps
turned-at-most turn.Goes p = omega (arith)
turned-at-most turn.Skips p = (let one = tail-no-longer p.steps in let two = tail-no-longer (tail_of p.steps) in omega (arith, one, two))
turned-at-most (turn.Instead a) p = omega (arith)
turned-at-most (turn.Tells a) p = omega (arith)

turned-no-longer : (made : Turn) (p : Plan) → p.steps ≢ [] → length (turned made p).steps ≤ length p.steps
turned-no-longer turn.Goes p some = omega (arith)
turned-no-longer turn.Skips p some = (let one = tail-no-longer p.steps in let two = tail-no-longer (tail_of p.steps) in omega (arith, one, two))
turned-no-longer (turn.Instead a) p some = by p.steps some where
  by : (steps : List Small) → steps ≢ [] → 1 ≤ length steps
  by [] some = absurd (some refl)
  by (s ∷ rest) some = omega (arith)
turned-no-longer (turn.Tells a) p some = omega (arith)

length-first : (steps : List Small) (s : Small) → steps ≡ s ∷ tail_of steps → length steps ≡ 1 + length (tail_of steps)
length-first [] s is = absurd (cc)
length-first (x ∷ rest) s is = omega (arith)

left-by : (b : Begun) (h : Head) (p : Plan) → b.head ≡ h → b.plan ≡ p → left_of b ≡ head_left h + length p.steps
left-by b h p at is = ap (λ (k : Head). head_left k + length b.plan.steps) at ∙ ap (λ (q : Plan). head_left h + length q.steps) is

pub accepted_moves : (was left : Begun) (o : TableOp) (s : Small) (regions : List Region) → was.head ≡ head.Table o → left ≡ record was { head = head.Update regions } → IsMove (played_as s false None) was left
accepted_moves was left o s regions at is = record {
  nearer = (let old = left-by was (head.Table o) was.plan at refl in let new : left_of left ≡ 2 + length was.plan.steps = ap left_of is in omega (arith, old, new));
  due = λ x is. absurd (cc);
}

pub refused_moves : (was left : Begun) (o : TableOp) (s : Small) (e : MemError) → was.head ≡ head.Table o → left.head ≡ head.None → left.plan ≡ turned (table_turn (change.Memory e)) was.plan → IsMove (played_as s false None) was left
refused_moves was left o s e at off rest = record {
  nearer = (let old = left-by was (head.Table o) was.plan at refl in let new = left-by left head.None (turned (table_turn (change.Memory e)) was.plan) off rest in let most = turned-at-most (table_turn (change.Memory e)) was.plan in omega (arith, old, new, most));
  due = λ x is. absurd (cc);
}

pub update_moves : (was left : Begun) (regions : List Region) (s : Small) (refused : Bool) (made : Turn) → was.head ≡ head.Update regions → left.head ≡ head.None → left.plan ≡ turned made was.plan → IsMove (played_as s refused None) was left
update_moves was left regions s refused made at off rest = record {
  nearer = (let old = left-by was (head.Update regions) was.plan at refl in let new = left-by left head.None (turned made was.plan) off rest in let most = turned-at-most made was.plan in omega (arith, old, new, most));
  due = λ x is. absurd (cc);
}

pub step_moves : (was left : Begun) (s : Small) (refused : Bool) (made : Turn) → was.head ≡ head.None → tail_of was.plan.steps ≢ [] → was.plan.steps ≡ s ∷ tail_of was.plan.steps → left.head ≡ was.head → left.plan ≡ turned made (dropped was.plan) → IsMove (played_as s refused None) was left
step_moves was left s refused made at more first kept rest = record {
  nearer = (let old = left-by was head.None was.plan at refl in let new = left-by left head.None (turned made (dropped was.plan)) (kept ∙ at) rest in let most = turned-no-longer made (dropped was.plan) more in let one : length was.plan.steps ≡ 1 + length (tail_of was.plan.steps) = length-first was.plan.steps s first in omega (arith, old, new, most, one));
  due = λ x is. absurd (cc);
}

some-is : (x y : Answer) → Some x ≡ Some y → x ≡ y
some-is x y is = cc

pub answer_moves : (was left : Begun) (x : Answer) → was.head ≡ head.None → stage_of was.plan.steps ≡ stage.Answer → left.head ≡ was.head → left.plan ≡ dropped was.plan → IsDueFrom was.plan.reply x → IsMove (played_as Answering false (Some x)) was left
answer_moves was left x at step kept rest due = record {
  nearer = (let old = left-by was head.None was.plan at refl in let new = left-by left head.None (dropped was.plan) (kept ∙ at) rest in let one : length was.plan.steps ≡ 1 + length (tail_of was.plan.steps) = length-first was.plan.steps Answering (answer-first was.plan.steps step) in omega (arith, old, new, one));
  due = λ y is. (let same : Some x ≡ Some y = is in let P : Answer → Type 0 = IsDueFrom was.plan.reply in subst P (some-is x y same) due);
}
