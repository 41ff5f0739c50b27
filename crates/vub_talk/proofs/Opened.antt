-- The dialog goes on where the set-up of a batch is opened.
use Rattle.std.proofs.Common.{◌≡◌, ℕ, ◌+◌, ◌-◌, ◌≤◌, ◌⊎◌, inl, inr, false, List, [], ◌∷◌, ◌++◌, length, get_or, Option, Some, None, refl, sym, ap, subst, ◌∙◌, arith}
use Rattle.std.specs.Int.{w16, to_le_bytes}
use Rattle.std.proofs.lemmas.Bool.{cases_Bool}
use Rattle.vub_mem.specs.declared.region.Region.{Region}
use Rattle.vub_mem.specs.Memory.{Guest}
use Rattle.vub_mem.specs.Place.{content_of, byte_at, byte_in, bytes_at, holds, region_of, write_at}
use Rattle.vub_driver.specs.Calls.{chain_bytes, index_of, submit_guest, with_request, with_chain, with_slot}
use Rattle.vub_driver.specs.Machine.{World as Dialog}
use Rattle.vub_driver.specs.Places.{head_of, request_at, descriptors_at, avail_index_at, avail_slot_at}
use Rattle.vub_driver.specs.declared.layout.Layout.{Layout}
use Rattle.vub_driver.proofs.Cells.{in_chain, in_index, in_request, in_slot}
use Rattle.vub_driver.proofs.Fitting.{IsApart}
use Rattle.vub_driver.proofs.Flat.{IsFlat, Inside, flat_write, same_bytes}
use Rattle.vub_driver.proofs.Kept.{Keeps}
use Rattle.vub_driver.proofs.Writes.{Lies, inside, length-chain_bytes}
use Rattle.vub_model.specs.declared.setup.Guest.TheVariants.{Signal}
use Rattle.vub_talk.specs.declared.ask.Ask.{Ask}
use Rattle.vub_talk.specs.Asking.{AreSmall, region}
use Rattle.vub_talk.specs.Batches.{asks_stored}
use Rattle.vub_talk.specs.Talking.{guest_asked}
use Rattle.vub_talk.proofs.Ahead.{keeps_guest}
use Rattle.vub_talk.proofs.Storing.{store_writes}
use Rattle.vub_talk.proofs.Turning.{small_parts}
use Rattle.vub_talk.proofs.Untouched.{over_if, acts_on, content_over}

-- Memories of the region that have the same content read the same.

-- a memory of the region, which the content backs
pub record IsSame (g h : Guest) : Type 0 where
  pub one : g.regions ≡ region ∷ []
  pub other : h.regions ≡ region ∷ []
  pub content : content_of h.contents 0 ≡ content_of g.contents 0

byte_same : (g h : Guest) (a : ℕ) (r : Option Region) → (r ≡ Some region) ⊎ (r ≡ None) → content_of h.contents 0 ≡ content_of g.contents 0 → byte_in h.contents a r ≡ byte_in g.contents a r
byte_same g h a r (inr none) same = ap (byte_in h.contents a) none ∙ sym (ap (byte_in g.contents a) none)
byte_same g h a r (inl some) same = ap (byte_in h.contents a) some ∙ ap (λ xs. get_or xs (region.offset + (a - region.start)) 0) same ∙ sym (ap (byte_in g.contents a) some)

region_cases : (a : ℕ) → (region_of (region ∷ []) a ≡ Some region) ⊎ (region_of (region ∷ []) a ≡ None)
region_cases a = elim (cases_Bool (holds region a)) [ inl t ↦ inl (rw t refl) | inr f ↦ inr (rw f refl) ]

same_byte : (g h : Guest) (a : ℕ) → IsSame g h → byte_at h a ≡ byte_at g a
unfolding byte_at
same_byte g h a same =
    ap (λ rs. byte_in h.contents a (region_of rs a)) same.other ∙ byte_same g h a (region_of (region ∷ []) a) (region_cases a) same.content ∙ sym (ap (λ rs. byte_in g.contents a (region_of rs a)) same.one)

same_read : (g h : Guest) (a n : ℕ) → IsSame g h → bytes_at h a n ≡ bytes_at g a n
same_read g h a n same = same_bytes g h a n (λ x low high. same_byte g h x same)

-- the dialog may have the other memory
pub keeps_same : (d : Dialog) (h : Guest) → Keeps region d → d.ring.event_idx ≡ false → IsSame d.guest h → Keeps region (record d { guest = h })
keeps_same d h k off same = keeps_guest d h k off (record {
  flat = record { one = same.other; backed = omega (arith, k.reads.flat.backed, ap length same.content) };
  index = same_read d.guest h _ _ same ∙ k.reads.index;
  requests = λ n from to. same_read d.guest h _ _ same ∙ k.reads.requests n from to;
  chains = λ n from to. same_read d.guest h _ _ same ∙ k.reads.chains n from to;
  slots = λ n from to. same_read d.guest h _ _ same ∙ k.reads.slots n from to;
  used = same_read d.guest h _ _ same ∙ k.reads.used;
  elements = λ n from to. same_read d.guest h _ _ same ∙ k.reads.elements n from to;
  replies = λ n from to. same_read d.guest h _ _ same ∙ k.reads.replies n from to;
})

-- The submits of a batch are the guest's stores.

content_written : (g : Guest) (a : ℕ) (bs : List ℕ) → IsFlat region g → Inside region a (length bs) → content_of (write_at g a bs).contents 0 ≡ over_if (content_of g.contents 0) (a - 1048576) bs
content_written g a bs flat lies = ap (λ x. content_of x.contents 0) (sym (store_writes g a bs flat lies)) ∙ content_over g (a - 1048576) bs (omega (arith, flat.backed))

-- a memory with this content
record HasContent (g : Guest) (xs : List ℕ) : Type 0 where
  flat : IsFlat region g
  content : content_of g.contents 0 ≡ xs

written_over : (g : Guest) (xs : List ℕ) (a : ℕ) (bs : List ℕ) → HasContent g xs → Inside region a (length bs) → HasContent (write_at g a bs) (over_if xs (a - 1048576) bs)
written_over g xs a bs has lies = record { flat = flat_write region g a bs has.flat; content = content_written g a bs has.flat lies ∙ ap (λ x. over_if x (a - 1048576) bs) has.content }

submitted_over : (l : Layout) (g : Guest) (xs : List ℕ) (n : ℕ) (request : List ℕ) (room : ℕ) → IsApart l → Lies region l → length request ≤ l.slot → HasContent g xs →
    HasContent (submit_guest l g n request room)
    (over_if (over_if (over_if (over_if xs (request_at l n - 1048576) request) (descriptors_at l n - 1048576) (chain_bytes l n (length request) room)) (avail_slot_at l n - 1048576) (to_le_bytes w16 (head_of l n))) (avail_index_at l - 1048576) (to_le_bytes w16 (index_of (n + 1))))
unfolding submit_guest
submitted_over l g xs n request room apart lies short has =
    let long : length (chain_bytes l n (length request) room) ≡ 32 = length-chain_bytes l n (length request) room in
    let first = written_over g xs (request_at l n) request has (inside region lies.buffers (in_request l n (length request) apart short)) in
    let second = written_over (with_request l g n request) _ (descriptors_at l n) (chain_bytes l n (length request) room) first (subst (λ k. Inside region (descriptors_at l n) k) (sym long) (inside region lies.desc (in_chain l n apart))) in
    let third = written_over (with_chain l g n request room) _ (avail_slot_at l n) (to_le_bytes w16 (head_of l n)) second (inside region lies.avail (in_slot l n apart)) in
    written_over (with_slot l g n request room) _ (avail_index_at l) (to_le_bytes w16 (index_of (n + 1))) third (inside region lies.avail (in_index l))

asked_over : (l : Layout) (g : Guest) (xs : List ℕ) (n : ℕ) (asks : List Ask) → IsApart l → Lies region l → AreSmall l asks → HasContent g xs → HasContent (guest_asked l g n asks) (acts_on xs (asks_stored l n asks ++ Signal 1 ∷ []))
asked_over l g xs n [] apart lies small has = has
asked_over l g xs n (a ∷ asks) apart lies small has =
    let parts = small_parts l (a ∷ asks) a asks small refl in
    asked_over l (submit_guest l g n a.request a.room) _ (n + 1) asks apart lies parts.1 (submitted_over l g xs n a.request a.room apart lies parts.0.bytes has)

-- the content after the submits of a batch is the one after the guest's stores, whatever memory they begin with
pub asks_made : (l : Layout) (g : Guest) (n : ℕ) (asks : List Ask) → IsApart l → Lies region l → AreSmall l asks → IsFlat region g →
    content_of (guest_asked l g n asks).contents 0 ≡ acts_on (content_of g.contents 0) (asks_stored l n asks ++ Signal 1 ∷ [])
asks_made l g n asks apart lies small flat = (asked_over l g (content_of g.contents 0) n asks apart lies small (record { flat = flat; content = refl })).content

pub asks_flat : (l : Layout) (g : Guest) (n : ℕ) (asks : List Ask) → IsApart l → Lies region l → AreSmall l asks → IsFlat region g → IsFlat region (guest_asked l g n asks)
asks_flat l g n asks apart lies small flat = (asked_over l g (content_of g.contents 0) n asks apart lies small (record { flat = flat; content = refl })).flat
