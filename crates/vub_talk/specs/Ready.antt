-- Guest memory as a batch finds it, so that the device serves what the driver put there and nothing else.
use Rattle.std.specs.Prelude.{◌≡◌, ◌⊎◌, ◌≤◌, ◌<◌, ℕ, ◌+◌, ◌*◌, true, [], ◌∷◌, List, length, None}
use Rattle.std.specs.Int.{w16}
use Rattle.std.specs.List.{AllByRecursion}
use Rattle.vub_mem.specs.Memory.{Guest}
use Rattle.vub_mem.specs.Place.{content_of, number_at}
use Rattle.vub_queue.specs.Chain.{descriptor_at, is_writable}
use Rattle.vub_queue.specs.declared.descriptor.Descriptor.{Descriptor}
use Rattle.vub_driver.specs.Calls.{index_of}
use Rattle.vub_driver.specs.Layouts.{new_fault}
use Rattle.vub_driver.specs.Places.{avail_index_at}
use Rattle.vub_driver.specs.declared.layout.Layout.{Layout}
use Rattle.vub_model.specs.declared.records.Span.{Span}
use Rattle.vub_talk.specs.Asking.{region}
use Rattle.vub_talk.specs.Faults.{lies_within}

-- a driver takes the layout, and it lies in guest memory
pub record IsLaid (l : Layout) : Type 0 where
  pub taken : new_fault l ≡ None
  pub lies : lies_within l ≡ true

-- these addresses lie in the buffers
pub record InBuffers (l : Layout) (a n : ℕ) : Type 0 where
  pub low : l.buffers ≤ a
  pub high : a + n ≤ l.buffers + l.slot * l.size

-- what the device may write by the descriptor lies in the buffers
abbrev pub IsHarmless : Layout → Descriptor → Type 0
IsHarmless l d = is_writable d ≡ true → InBuffers l d.addr d.len

-- each descriptor of the table is so
abbrev pub IsTableHarmless : Layout → Guest → Type 0
IsTableHarmless l g = (i : ℕ) → i < l.size → IsHarmless l (descriptor_at g (l.desc + 16 * i))

-- The one region, whose content has all its bytes; the available index is that of so many requests; and by no
-- descriptor the device writes anywhere but into the buffers.
pub record IsReady (l : Layout) (n : ℕ) (g : Guest) : Type 0 where
  pub one : g.regions ≡ region ∷ []
  pub long : length (content_of g.contents 0) ≡ 1048576
  pub index : number_at w16 g (avail_index_at l) ≡ index_of n
  pub table : IsTableHarmless l g

-- What the device leaves alone

-- an address in the table of descriptors
pub record InTable (l : Layout) (x : ℕ) : Type 0 where
  pub low : l.desc ≤ x
  pub high : x < l.desc + 16 * l.size

-- an address in the available index
pub record InIndex (l : Layout) (x : ℕ) : Type 0 where
  pub low : l.avail + 2 ≤ x
  pub high : x < l.avail + 4

abbrev pub IsGuarded : Layout → ℕ → Type 0
IsGuarded l x = InTable l x ⊎ InIndex l x

-- no byte of the span, whose content guest memory shows from its first address on, is one of these
abbrev pub IsOff : Layout → Span → Type 0
IsOff l s = (x : ℕ) → s.offset ≤ x → x < s.offset + length s.bytes → IsGuarded l (x + 1048576) → ⊥

abbrev pub AreOff : Layout → List Span → Type 0
AreOff l spans = AllByRecursion (λ s. IsOff l s) spans
