-- A store of the guest, where the bytes fit and where they don't.
use Rattle.std.proofs.Common.{◌≡◌, ℕ, ◌+◌, true, false, nat_le, if◌then◌else◌, List, length, sym, ap}
use Rattle.vub_mem.specs.Memory.{Guest}
use Rattle.vub_mem.specs.Place.{content_of, store_at}
use Rattle.vub_model.specs.World.{stored}

pub stored_on : (g : Guest) (object offset : ℕ) (bytes : List ℕ) → nat_le (offset + length bytes) (length (content_of g.contents object)) ≡ true → store_at g object offset bytes ≡ stored g object offset bytes
unfolding stored
stored_on g object offset bytes fits = ap (λ b. if b then store_at g object offset bytes else g) (sym fits)

pub stored_off : (g : Guest) (object offset : ℕ) (bytes : List ℕ) → nat_le (offset + length bytes) (length (content_of g.contents object)) ≡ false → g ≡ stored g object offset bytes
unfolding stored
stored_off g object offset bytes fits = ap (λ b. if b then store_at g object offset bytes else g) (sym fits)
