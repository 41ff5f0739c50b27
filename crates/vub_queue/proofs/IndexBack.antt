-- The used index that a put writes is read back.
use Rattle.std.proofs.Common.{◌≡◌, ℕ, ◌^◌, ◌<◌, true, List, [], ◌∷◌, ◌++◌, length, take, drop, sym, ap, subst, ◌∙◌, arith}
use Rattle.std.specs.Int.{w16, w32, to_le_bytes, from_le_bytes}
use Rattle.std.specs.List.{AllByRecursion}
use Rattle.std.proofs.lemmas.Nat.{from_le_bytes-to_le_bytes_2}
use Rattle.vub_mem.specs.declared.content.Content.{Content}
use Rattle.vub_mem.specs.declared.region.Region.{Region}
use Rattle.vub_mem.specs.Memory.{Guest}
use Rattle.vub_mem.specs.Place.{content_of, covers, number_at, write_at}
use Rattle.vub_mem.specs.ReadBack.{IsPlacedApart}
use Rattle.vub_mem.specs.Sound.{IsApart, IsBacked, IsBounded, IsSound}
use Rattle.vub_mem.proofs.Frames.{length-write_at, regions-write_at}
use Rattle.vub_mem.proofs.ReadsBack.{read_back}
use Rattle.vub_queue.specs.EntryNumber.{after}
use Rattle.vub_queue.specs.Layout.{used_element_at, used_index_at}
use Rattle.vub_queue.specs.Put.{put_guest, write_reply, write_used}
use Rattle.vub_queue.specs.Ring.{Ring}
use Rattle.vub_queue.specs.declared.chain.Chain.{Chain}
use Rattle.vub_queue.specs.declared.segment.Segment.{Segment}
use Rattle.vub_queue.proofs.Places.{regions-write_reply}

backed_on : (cs ds : List Content) → ((o : ℕ) → length (content_of ds o) ≡ length (content_of cs o)) → (rs : List Region) → AllByRecursion (λ r. IsBacked cs r) rs → AllByRecursion (λ r. IsBacked ds r) rs
backed_on cs ds long [] all = tt
backed_on cs ds long (r ∷ rs) all = (omega (arith, long r.object, all.0), backed_on cs ds long rs all.1)

-- a write keeps what always holds of a guest memory
sound-write_at : (g : Guest) (a : ℕ) (bs : List ℕ) → IsSound g → IsSound (write_at g a bs)
sound-write_at g a bs sound =
    let same : g.regions ≡ (write_at g a bs).regions = sym (regions-write_at g a bs) in
    record {
      bounded = subst (λ rs. AllByRecursion IsBounded rs) same sound.bounded;
      backed = subst (λ rs. AllByRecursion (λ r. IsBacked (write_at g a bs).contents r) rs) same (backed_on g.contents (write_at g a bs).contents (length-write_at g a bs) g.regions sound.backed);
      apart = subst IsApart same sound.apart;
    }

sound-write_reply : (g : Guest) (ss : List Segment) (reply : List ℕ) → IsSound g → IsSound (write_reply g ss reply)
unfolding write_reply
sound-write_reply g [] reply sound = sound
sound-write_reply g (s ∷ ss) reply sound = sound-write_reply (write_at g s.addr (take s.len reply)) ss (drop s.len reply) (sound-write_at g s.addr (take s.len reply) sound)

after_below : (n : ℕ) → after n < 2 ^ 16
after_below n = omega arith

word_back : (g : Guest) (a n : ℕ) → n < 2 ^ 16 → IsSound g → covers g.regions a 2 ≡ true → IsPlacedApart g.regions a 2 → number_at w16 (write_at g a (to_le_bytes w16 n)) a ≡ n
unfolding number_at
word_back g a n small sound covered apart = ap (from_le_bytes w16) (read_back g a (to_le_bytes w16 n) sound covered apart) ∙ from_le_bytes-to_le_bytes_2 n small

-- the memory before the index is written
abbrev before : Guest → Ring → Chain → List ℕ → Guest
before g r c reply = write_at (write_reply g c.segments reply) (used_element_at r) (to_le_bytes w32 c.head ++ to_le_bytes w32 (length reply))

regions-before : (g : Guest) (r : Ring) (c : Chain) (reply : List ℕ) → (before g r c reply).regions ≡ g.regions
regions-before g r c reply =
    regions-write_at (write_reply g c.segments reply) (used_element_at r) (to_le_bytes w32 c.head ++ to_le_bytes w32 (length reply)) ∙ regions-write_reply g c.segments reply

pub regions-put_guest : (g : Guest) (r : Ring) (c : Chain) (reply : List ℕ) → (put_guest g r c reply).regions ≡ g.regions
unfolding put_guest write_used
regions-put_guest g r c reply = regions-write_at (before g r c reply) (used_index_at r) (to_le_bytes w16 (after r.next_used)) ∙ regions-before g r c reply

pub index_back : (g : Guest) (r : Ring) (c : Chain) (reply : List ℕ) → IsSound g → covers g.regions (used_index_at r) 2 ≡ true → IsPlacedApart g.regions (used_index_at r) 2 → number_at w16 (put_guest g r c reply) (used_index_at r) ≡ after r.next_used
unfolding put_guest write_used
index_back g r c reply sound covered apart =
    let same : g.regions ≡ (before g r c reply).regions = sym (regions-before g r c reply) in
    word_back (before g r c reply) (used_index_at r) (after r.next_used) (after_below r.next_used)
    (sound-write_at (write_reply g c.segments reply) (used_element_at r) (to_le_bytes w32 c.head ++ to_le_bytes w32 (length reply)) (sound-write_reply g c.segments reply sound))
    (ap (λ rs. covers rs (used_index_at r) 2) (sym same) ∙ covered)
    (subst (λ rs. IsPlacedApart rs (used_index_at r) 2) same apart)
