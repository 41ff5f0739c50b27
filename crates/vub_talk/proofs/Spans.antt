-- A span that has no guarded byte leaves memory ready.
use Rattle.std.proofs.Common.{◌≡◌, ℕ, zero, suc, ◌+◌, ◌-◌, ◌<◌, List, [], ◌∷◌, length, get_or, false, subst, arith}
use Rattle.vub_mem.specs.Memory as memory
use Rattle.vub_driver.specs.declared.layout.Layout.{Layout}
use Rattle.vub_proto.specs.declared.answer.Answer.TheVariants as answer
use Rattle.vub_model.specs.declared.records.Span.{Span}
use Rattle.vub_model.specs.Plans.{says}
use Rattle.vub_model.specs.World.{World, stored}
use Rattle.vub_talk.specs.Ready.{AreOff, IsGuarded, IsLaid, IsOff, IsReady}
use Rattle.vub_talk.proofs.Guarding.{sits}
use Rattle.vub_talk.proofs.Stored.{other-ready}

-- a world of this memory
abbrev still : memory.Guest → World ℕ
still g = record {
  shared = record { guest = g; rings = []; logs = []; table = record { objects = []; lists = [] }; pending = []; service = 0 };
  wiring = record { queues = 0; max = 0; features = 0; protocol = 0; tracks = false; masks = []; opened = [] };
  phases = [];
  guest = [];
  control = record {
    session = record { owned = false; features = 0; protocol = 0; mappings = [] };
    plan = record { steps = []; reply = says answer.Ok; session = record { owned = false; features = 0; protocol = 0; mappings = [] } };
    requests = [];
    answers = [];
  };
  takes = [];
  uses = [];
  written = [];
  harvests = [];
}

pub span_ready : (l : Layout) (n : ℕ) (g : memory.Guest) (s : Span) → IsLaid l → IsOff l s → IsReady l n g → IsReady l n (stored g 0 s.offset s.bytes)
span_ready l n g s laid off was =
    let back : s.offset + 1048576 - 1048576 ≡ s.offset = omega arith in
    let R : ℕ → Type 0 = λ x. IsReady l n (stored g 0 x s.bytes) in
    subst R back
    (other-ready (still g) l (sits l laid) n was (s.offset + 1048576) s.bytes (omega arith)
    (λ x low high guarded.
    let here : x ≡ x - 1048576 + 1048576 = omega (arith, low) in
    let G : ℕ → Type 0 = λ y. IsGuarded l y in
    off (x - 1048576) (omega (arith, low)) (omega (arith, low, high)) (subst G here guarded)))

pub off_at : (l : Layout) (spans : List Span) (i : ℕ) (d : Span) → AreOff l spans → i < length spans → IsOff l (get_or spans i d)
off_at l [] i d all below = absurd (omega (arith, below))
off_at l (s ∷ spans) zero d all below = all.0
off_at l (s ∷ spans) (suc i) d all below = off_at l spans i d all.1 (omega (arith, below))
