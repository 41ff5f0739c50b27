-- What a conversation comes to.
use Rattle.std.specs.Prelude.{◌≡◌, ◌≤◌, ◌<◌, ◌+◌, ◌-◌, ◌*◌, ℕ, min, List, length, map}
use Rattle.std.specs.List.{range_with_len}
use Rattle.vub_driver.specs.Law.{numbered}
use Rattle.vub_driver.specs.Places.{half_of}
use Rattle.vub_driver.specs.declared.done.Done.{Done}
use Rattle.vub_driver.specs.declared.layout.Layout.{Layout}
use Rattle.vub_model.specs.Service.{Meaning}
use Rattle.vub_talk.specs.Replies.{asked_by, replies_to, value_after}
use Rattle.vub_talk.specs.declared.ask.Ask.{Ask}
use Rattle.vub_talk.specs.declared.talk.Talk.{Talk}

-- There is an answer to each ask, numbered as the asks; and a count of the call for each batch of half of the size, of
-- which the last may be shorter.
pub record IsWhole (l : Layout) (asks : List Ask) (t : Talk) : Type 0 where
  pub numbers : map (λ (d : Done). d.number) t.answers ≡ range_with_len 0 (length asks)
  pub covered : length asks ≤ length t.calls * half_of l
  pub few : length t.calls * half_of l < length asks + half_of l

-- The k-th answer is the reply of the service after k calls, from the value v on; and the service has the value end after
-- all of them.
pub record IsAnswered {V : Type 0} (m : Meaning V) (v end : V) (asks : List Ask) (t : Talk) : Type 0 where
  pub answers : t.answers ≡ numbered 0 (replies_to m v (map (λ a. asked_by a) asks))
  pub value : end ≡ value_after m v (map (λ a. asked_by a) asks)

-- the lengths of so many batches, each of half of the size, but for the last, which has what is left
abbrev pub lengths_of : Layout → List Ask → ℕ → List ℕ
lengths_of l asks count = map (λ batch. min (half_of l) (length asks - batch * half_of l)) (range_with_len 0 count)
