-- What every step of the machine keeps.
use Rattle.std.proofs.Common.{◌≡◌, ◌⊎◌, ℕ, zero, suc, ◌+◌, ◌^◌, ◌<◌, ◌≤◌, true, false, List, [], ◌∷◌, ◌++◌, length, take, get_or, Option, Some, None, refl, ap, ◌∙◌, arith}
use Rattle.std.specs.Int.{w16, to_le_bytes, from_le_bytes}
use Rattle.std.proofs.lemmas.Nat.{from_le_bytes-to_le_bytes_2}
use Rattle.std.proofs.lemmas.List.{get_or_append_left, get_or_push}
use Rattle.vub_mem.specs.declared.region.Region.{Region}
use Rattle.vub_mem.specs.Memory.{Guest}
use Rattle.vub_mem.specs.Place.{bytes_at, number_at}
use Rattle.vub_queue.specs.EntryNumber.{minus}
use Rattle.vub_queue.specs.declared.chain.Chain.{Chain}
use Rattle.vub_driver.specs.Calls.{index_of}
use Rattle.vub_driver.specs.Law.{numbered}
use Rattle.vub_driver.specs.Machine.{Asked, World}
use Rattle.vub_driver.specs.Places.{half_of, place_of, head_of, reply_at, avail_event_at}
use Rattle.vub_driver.specs.declared.layout.Layout.{Layout}
use Rattle.vub_driver.proofs.Fitting.{IsApart}
use Rattle.vub_driver.proofs.Writes.{Lies, Marks, Reads, Fits}

abbrev pub ask_in : List Asked → ℕ → Asked
ask_in asked n = get_or asked n (record { request = []; room = 0 })

abbrev pub reply_in : List (List ℕ) → ℕ → List ℕ
reply_in replies n = get_or replies n []

pub ask_old : (asked : List Asked) (a : Asked) (n : ℕ) → n < length asked → ask_in (asked ++ a ∷ []) n ≡ ask_in asked n
ask_old asked a n h = get_or_append_left asked (a ∷ []) (record { request = []; room = 0 }) n h

pub ask_new : (asked : List Asked) (a : Asked) (n : ℕ) → length asked ≡ n → ask_in (asked ++ a ∷ []) n ≡ a
ask_new asked a n h = get_or_push asked a (record { request = []; room = 0 }) n h

pub reply_old : (replies : List (List ℕ)) (bs : List ℕ) (n : ℕ) → n < length replies → reply_in (replies ++ bs ∷ []) n ≡ reply_in replies n
reply_old replies bs n h = get_or_append_left replies (bs ∷ []) [] n h

pub reply_new : (replies : List (List ℕ)) (bs : List ℕ) → reply_in (replies ++ bs ∷ []) (length replies) ≡ bs
reply_new replies bs = get_or_push replies bs [] (length replies) refl

-- how many entries were taken, where so many were put
abbrev pub taken_by : Option Chain → ℕ → ℕ
taken_by None put = put
taken_by (Some c) put = put + 1

pub taken_low : (held : Option Chain) (put : ℕ) → put ≤ taken_by held put
taken_low None put = omega arith
taken_low (Some c) put = omega arith

-- the entry that is held is the next to put
abbrev pub HeldIs : Layout → ℕ → Asked → Option Chain → Type 0
HeldIs l n asked None = Unit {0}
HeldIs l n asked (Some c) =
    (c.head ≡ head_of l n) × (c.segments ≡ record { addr = reply_at l n; len = asked.room } ∷ []) × (c.room ≡ asked.room)

-- what a driver accepts
pub record IsSmall (l : Layout) (asked : Asked) : Type 0 where
  pub bytes : length asked.request ≤ l.slot
  pub space : asked.room ≤ l.slot
  pub both : length asked.request + asked.room < 2 ^ 32

abbrev pub marks_in : World → Marks
marks_in w = record {
  index = w.driver.submitted;
  requests = w.driver.submitted;
  chains = w.driver.submitted;
  slots = w.driver.submitted;
  taken = length w.taken;
  used = length w.replies;
  elements = length w.replies;
  replies = length w.replies;
  collected = w.driver.collected;
}

pub record Keeps (r : Region) (w : World) : Type 0 where
  pub apart : IsApart w.driver.layout
  pub lies : Lies r w.driver.layout
  pub event_idx : w.driver.event_idx ≡ w.ring.event_idx
  pub tested : w.driver.tested ≡ index_of w.driver.submitted
  pub long : length w.driver.rooms ≡ half_of w.driver.layout
  pub rooms : (n : ℕ) → w.driver.collected ≤ n → n < w.driver.submitted → get_or w.driver.rooms (place_of w.driver.layout n) 0 ≡ (ask_in w.asked n).room
  pub asked : length w.asked ≡ w.driver.submitted
  pub small : (n : ℕ) → n < w.driver.submitted → IsSmall w.driver.layout (ask_in w.asked n)
  pub count : w.driver.collected ≡ length w.answers
  pub first : w.answers ≡ take w.driver.collected (numbered 0 w.replies)
  pub put : w.driver.collected ≤ length w.replies
  pub held : length w.taken ≡ taken_by w.held (length w.replies)
  pub taken : w.taken ≡ take (length w.taken) w.asked
  pub behind : length w.taken ≤ w.driver.submitted
  pub near : w.driver.submitted ≤ w.driver.collected + half_of w.driver.layout
  pub size : w.ring.size ≡ w.driver.layout.size
  pub addresses : w.ring.addresses ≡ Some (record { desc = w.driver.layout.desc; avail = w.driver.layout.avail; used = w.driver.layout.used })
  pub next_avail : w.ring.next_avail ≡ index_of (length w.taken)
  pub next_used : w.ring.next_used ≡ index_of (length w.replies)
  pub reads : Reads w.driver.layout r (ask_in w.asked) (reply_in w.replies) (marks_in w) w.guest
  pub short : (n : ℕ) → w.driver.collected ≤ n → n < length w.replies → length (reply_in w.replies n) ≤ (ask_in w.asked n).room
  pub holding : HeldIs w.driver.layout (length w.replies) (ask_in w.asked (length w.replies)) w.held
  pub event : w.waits ≡ true → (w.ring.event_idx ≡ false) ⊎ (bytes_at w.guest (avail_event_at w.driver.layout) 2 ≡ to_le_bytes w16 (index_of w.driver.submitted))

pub put_low : (r : Region) (w : World) → Keeps r w → length w.replies ≤ length w.taken
put_low r w k = omega (arith, k.held, taken_low w.held (length w.replies))

pub fits_in : (r : Region) (w : World) → Keeps r w → Fits w.driver.layout (ask_in w.asked) (reply_in w.replies) (marks_in w)
fits_in r w k = record {
  requests = λ n from to. (k.small n to).bytes;
  replies = λ n from to.
      let small : IsSmall w.driver.layout (ask_in w.asked n) = k.small n (omega (arith, put_low r w k, k.behind)) in
      omega (arith, k.short n from to, small.space);
}

pub index_small : (n : ℕ) → index_of n < 2 ^ 16
index_small n = omega arith

pub word_is : (g : Guest) (a n : ℕ) → n < 2 ^ 16 → bytes_at g a 2 ≡ to_le_bytes w16 n → number_at w16 g a ≡ n
unfolding number_at
word_is g a n h is = ap (from_le_bytes w16) is ∙ from_le_bytes-to_le_bytes_2 n h

-- counts that are near each other are told apart by their indexes
pub same_index : (a b h : ℕ) → a ≤ b → b ≤ a + h → h ≤ 32768 → index_of a ≡ index_of b → a ≡ b
same_index a b h order near small same = omega arith

pub minus_zero : (a b : ℕ) → a < 2 ^ 16 → b < 2 ^ 16 → minus a b ≡ 0 → a ≡ b
minus_zero a b first second none = omega arith

pub minus_same : (a : ℕ) → a < 2 ^ 16 → minus a a ≡ 0
minus_same a h = omega arith

-- numbered replies, one more and as many
pub length-numbered : (n : ℕ) (rs : List (List ℕ)) → length (numbered n rs) ≡ length rs
length-numbered n [] = refl
length-numbered n (r ∷ rs) = ap suc (length-numbered (n + 1) rs)

pub take_numbered : (n k : ℕ) (rs : List (List ℕ)) → k < length rs → take (k + 1) (numbered n rs) ≡ take k (numbered n rs) ++ record { number = n + k; reply = get_or rs k [] } ∷ []
take_numbered n k [] h = absurd (omega arith)
take_numbered n zero (r ∷ rs) h = (let here : n ≡ n + zero = omega arith in ap (λ i. record { number = i; reply = r } ∷ []) here)
take_numbered n (suc k) (r ∷ rs) h =
    let one : suc k + 1 ≡ suc (k + 1) = omega arith in
    let up : n + 1 + k ≡ n + suc k = omega arith in
    ap (λ j. take j (record { number = n; reply = r } ∷ numbered (n + 1) rs)) one
    ∙ ap (λ ds. record { number = n; reply = r } ∷ ds) (take_numbered (n + 1) k rs (omega arith) ∙ ap (λ i. take k (numbered (n + 1) rs) ++ record { number = i; reply = get_or rs k [] } ∷ []) up)

pub take_grown : (n k : ℕ) (rs : List (List ℕ)) (x : List ℕ) → k ≤ length rs → take k (numbered n (rs ++ x ∷ [])) ≡ take k (numbered n rs)
take_grown n zero rs x h = refl
take_grown n (suc k) [] x h = absurd (omega arith)
take_grown n (suc k) (r ∷ rs) x h = ap (λ ds. record { number = n; reply = r } ∷ ds) (take_grown (n + 1) k rs x (omega arith))
