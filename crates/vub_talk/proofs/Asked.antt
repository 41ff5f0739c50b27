-- A batch with one ask more.
use Rattle.std.proofs.Common.{◌≡◌, ℕ, zero, suc, ◌+◌, ◌-◌, ◌<◌, ◌≤◌, List, [], ◌∷◌, ◌++◌, length, map, refl, sym, ap, ◌∙◌, arith, append-nil, append_assoc}
use Rattle.std.specs.Int.{w16, to_le_bytes}
use Rattle.vub_mem.specs.Memory.{Guest}
use Rattle.vub_mem.specs.Place.{content_of, store_at}
use Rattle.vub_mem.proofs.Contents.{length-with_bytes}
use Rattle.vub_mem.proofs.Frames.{length-write_at, regions-write_at}
use Rattle.vub_driver.specs.Calls.{submit_guest, with_request, with_chain, with_slot, chain_bytes, index_of}
use Rattle.vub_driver.specs.Places.{head_of, request_at, descriptors_at, avail_slot_at, avail_index_at}
use Rattle.vub_driver.specs.State.{State}
use Rattle.vub_driver.specs.Writings.{writes_of}
use Rattle.vub_driver.specs.declared.layout.Layout.{Layout}
use Rattle.std.specs.List.{range_with_len, repeat}
use Rattle.vub_driver.specs.Calls.{state_submitted}
use Rattle.vub_driver.specs.declared.done.Done.{Done}
use Rattle.vub_talk.specs.Asking.{HasMoved, NumbersOn}
use Rattle.vub_talk.specs.Batches.{asks_stored, stores_of}
use Rattle.vub_talk.specs.declared.ask.Ask.{Ask}

pub asks_pushed : (l : Layout) (n : ℕ) (asks : List Ask) (a : Ask) → asks_stored l n (asks ++ a ∷ []) ≡ asks_stored l n asks ++ stores_of (writes_of l (n + length asks) a.request a.room)
asks_pushed l n [] a = (let same : n ≡ n + 0 = omega arith in append-nil (stores_of (writes_of l n a.request a.room)) ∙ ap (λ k. stores_of (writes_of l k a.request a.room)) same)
asks_pushed l n (b ∷ asks) a =
    let up : n + 1 + length asks ≡ n + suc (length asks) = omega arith in
    let first = stores_of (writes_of l n b.request b.room) in
    ap (λ gs. first ++ gs) (asks_pushed l (n + 1) asks a ∙ ap (λ k. asks_stored l (n + 1) asks ++ stores_of (writes_of l k a.request a.room)) up)
    ∙ sym (append_assoc first (asks_stored l (n + 1) asks) (stores_of (writes_of l (n + suc (length asks)) a.request a.room)))

pub moved-none : (s : State) → HasMoved 0 0 s s
moved-none s = record { layout = refl; event_idx = refl; submitted = omega arith; collected = omega arith }

-- A store and a submit leave the length of the content.

pub store_length : (g : Guest) (offset : ℕ) (bs : List ℕ) → offset + length bs ≤ length (content_of g.contents 0) → length (content_of (store_at g 0 offset bs).contents 0) ≡ length (content_of g.contents 0)
unfolding store_at
store_length g offset bs fits = length-with_bytes g.contents 0 offset bs 0 fits

pub submit_length : (l : Layout) (g : Guest) (n : ℕ) (request : List ℕ) (room : ℕ) → length (content_of (submit_guest l g n request room).contents 0) ≡ length (content_of g.contents 0)
unfolding submit_guest
submit_length l g n request room =
    length-write_at (with_slot l g n request room) (avail_index_at l) (to_le_bytes w16 (index_of (n + 1))) 0
    ∙ length-write_at (with_chain l g n request room) (avail_slot_at l n) (to_le_bytes w16 (head_of l n)) 0
    ∙ length-write_at (with_request l g n request) (descriptors_at l n) (chain_bytes l n (length request) room) 0
    ∙ length-write_at g (request_at l n) request 0

pub submit_regions : (l : Layout) (g : Guest) (n : ℕ) (request : List ℕ) (room : ℕ) → (submit_guest l g n request room).regions ≡ g.regions
unfolding submit_guest
submit_regions l g n request room =
    regions-write_at (with_slot l g n request room) (avail_index_at l) (to_le_bytes w16 (index_of (n + 1)))
    ∙ regions-write_at (with_chain l g n request room) (avail_slot_at l n) (to_le_bytes w16 (head_of l n))
    ∙ regions-write_at (with_request l g n request) (descriptors_at l n) (chain_bytes l n (length request) room)
    ∙ regions-write_at g (request_at l n) request

-- Steps of the driver one behind the other

pub moved-more : (n m p q : ℕ) (a b d : State) → HasMoved n m a b → HasMoved p q b d → HasMoved (n + p) (m + q) a d
moved-more n m p q a b d first second = record {
  layout = second.layout ∙ first.layout;
  event_idx = second.event_idx ∙ first.event_idx;
  submitted = omega (arith, first.submitted, second.submitted);
  collected = omega (arith, first.collected, second.collected);
}

pub moved-submit : (s t : State) (room : ℕ) → t ≡ state_submitted s room → HasMoved 1 0 s t
moved-submit s t room is = record {
  layout = ap (λ x. x.layout) is;
  event_idx = ap (λ x. x.event_idx) is;
  submitted = ap (λ x. x.submitted) is;
  collected = (let same : t.collected ≡ s.collected = ap (λ x. x.collected) is in omega arith);
}

-- Numbers one behind the other

pub range-more : (n j k : ℕ) → range_with_len n (j + k) ≡ range_with_len n j ++ range_with_len (n + j) k
range-more n zero k = (let none : zero + k ≡ k = omega arith in let same : n ≡ n + zero = omega arith in ap (range_with_len n) none ∙ ap (λ x. range_with_len x k) same)
range-more n (suc j) k =
    let one : suc j + k ≡ suc (j + k) = omega arith in
    let up : n + 1 + j ≡ n + suc j = omega arith in
    ap (range_with_len n) one ∙ ap (λ xs. n ∷ xs) (range-more (n + 1) j k ∙ ap (λ x. range_with_len (n + 1) j ++ range_with_len x k) up)

pub numbers-more : (n j k : ℕ) (a b d : List Done) → NumbersOn n j a b → NumbersOn (n + j) k b d → NumbersOn n (j + k) a d
numbers-more n j k a b d first second =
    let numbers : List Done → List ℕ = λ ds. map (λ (x : Done). x.number) ds in
    second ∙ ap (λ xs. xs ++ range_with_len (n + j) k) first ∙ append_assoc (numbers a) (range_with_len n j) (range_with_len (n + j) k) ∙ ap (λ xs. numbers a ++ xs) (sym (range-more n j k))

-- Rounds

pub repeat-more : (n i : ℕ) (xs : List ℕ) → i < n → repeat (n - i) xs ≡ xs ++ repeat (n - (i + 1)) xs
repeat-more n i xs below = (let left : n - i ≡ suc (n - (i + 1)) = omega arith in ap (λ k. repeat k xs) left)

pub range-next : (n i : ℕ) → i < n → range_with_len i (n - i) ≡ i ∷ range_with_len (i + 1) (n - (i + 1))
range-next n i below = (let left : n - i ≡ suc (n - (i + 1)) = omega arith in ap (λ k. range_with_len i k) left)
