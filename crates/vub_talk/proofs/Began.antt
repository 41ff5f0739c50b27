-- A batch begins with memory that is ready, and the device has written nothing.
use Rattle.std.proofs.Common.{◌≡◌, ℕ, zero, suc, ◌+◌, ◌*◌, ◌<◌, Bool, true, false, true≢false, Option, Some, None, List, [], ◌∷◌, ◌++◌, length, get_or, map, replicate, refl, sym, subst, ◌∙◌}
use Rattle.vub_mem.specs.Memory as memory
use Rattle.vub_driver.specs.declared.layout.Layout.{Layout}
use Rattle.vub_model.specs.declared.constants.Constants.{Constants}
use Rattle.vub_model.specs.declared.phase.Phase.TheVariants.{Idle}
use Rattle.vub_model.specs.declared.records.Span.{Span}
use Rattle.vub_model.specs.declared.setup.Guest.TheVariants.{Signal}
use Rattle.vub_model.specs.declared.setup.Object.{Object}
use Rattle.vub_model.specs.declared.wiring.Place.{Place}
use Rattle.vub_model.specs.Opening.{opening, opening_rings, opening_table, wiring_of, claimed, placed, unwritten}
use Rattle.vub_model.specs.RunRecords.{spans_from}
use Rattle.vub_model.specs.Shared.{Shared}
use Rattle.vub_model.specs.Wiring.{Wiring, place_of}
use Rattle.vub_model.specs.World.{phase_at}
use Rattle.vub_model.specs.Written.{is_written}
use Rattle.vub_talk.specs.Asking.{AreSmall}
use Rattle.vub_talk.specs.Batches.{asks_stored, batch_setup}
use Rattle.vub_talk.specs.Ready.{IsGuarded, AreOff, IsReady}
use Rattle.vub_talk.specs.declared.ask.Ask.{Ask}
use Rattle.vub_talk.proofs.Acting.{batch-acts}
use Rattle.vub_talk.proofs.Guarding.{Sits, one}
use Rattle.vub_talk.proofs.Openings.{objects_of, ring_of, rings-before}
use Rattle.vub_talk.proofs.Safe.{IsSafe, spans-off}
use Rattle.vub_talk.proofs.Leaving.{RingsFit, Held}

-- each worker is idle, or is none
idle-held : (l : Layout) (masks : List ℕ) (j : ℕ) → Held l (phase_at (map (λ mask. Idle) masks) j)
idle-held l [] j = tt
idle-held l (mask ∷ masks) zero = tt
idle-held l (mask ∷ masks) (suc j) = idle-held l masks j

-- no byte was written

none-written : (n i : ℕ) → get_or (replicate n false) i false ≡ false
none-written zero i = refl
none-written (suc n) zero = refl
none-written (suc n) (suc i) = none-written n i

unflagged : (content : List ℕ) (o i : ℕ) → is_written (map unwritten (objects_of content)) o i ≡ false
unflagged content zero i = none-written (length content) i
unflagged content (suc zero) i = refl
unflagged content (suc (suc zero)) i = refl
unflagged content (suc (suc (suc o))) i = refl

module _ {V : Type 0} (l : Layout) (at : Sits l) (n : ℕ) (content : List ℕ) (v : V) (c : Constants) (some : 0 < c.queues) where
  abbrev g : Wiring
  g = wiring_of c 3

  abbrev before : Shared V
  before = record {
    guest = record { regions = one; contents = record { object = 0; bytes = content } ∷ [] };
    rings = opening_rings c (ring_of l n ∷ []);
    logs = [];
    table = opening_table c (objects_of content);
    pending = map (λ mask. []) c.masks;
    service = v;
  }

  abbrev held : Option Place → Shared V
  held found = placed g (claimed before 1 0) 1 found

  rings-held : (found : Option Place) → RingsFit l (held found)
  rings-held None = (let r = rings-before l at n content v c 0 some in record { addresses = r.addresses; size = r.size; others = r.others; plain = r.plain })
  rings-held (Some p) = (let r = rings-before l at n content v c 0 some in record { addresses = r.addresses; size = r.size; others = r.others; plain = r.plain })

  same-guest : (found : Option Place) → (held found).guest ≡ before.guest
  same-guest None = refl
  same-guest (Some p) = refl

  pub opening-safe : (asks : List Ask) → AreSmall l asks → IsReady l n before.guest → IsSafe l (opening c (batch_setup l n content (asks_stored l n asks ++ Signal 1 ∷ [])) v)
  unfolding opening batch_setup
  opening-safe asks small ready =
      let R : memory.Guest → Type 0 = λ x. IsReady l n x in
      record {
        n = n;
        k = 13 * length asks + 7;
        safe = record {
          ready = subst R (sym (same-guest (place_of g 0))) ready;
          rings = rings-held (place_of g 0);
          held = idle-held l c.masks;
          acts = batch-acts l at n asks small;
          idle = refl;
          off = λ o i is guarded. true≢false (sym is ∙ unflagged content o i);
        };
      }

all-append : (l : Layout) (xs ys : List Span) → AreOff l xs → AreOff l ys → AreOff l (xs ++ ys)
all-append l [] ys first second = second
all-append l (x ∷ xs) ys first second = (first.0, all-append l xs ys first.1 second)

-- what a run of a batch wrote
pub objects-off : (l : Layout) (flags : List (List Bool)) (g : memory.Guest) → ((o i : ℕ) → is_written flags o i ≡ true → IsGuarded l (i + 1048576) → ⊥) → (number : ℕ) (objects : List Object) → AreOff l (spans_from flags g number objects)
objects-off l flags g off number [] = tt
objects-off l flags g off number (o ∷ objects) = all-append l _ (spans_from flags g (number + 1) objects) (spans-off l flags number off 0 _) (objects-off l flags g off (number + 1) objects)
