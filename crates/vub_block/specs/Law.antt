-- A request that is refused changes nothing.
use Rattle.std.specs.Prelude.{◌≡◌, ◌≢◌, ℕ, List, []}
use Rattle.vub_block.specs.Answer.{after, answer_of}
use Rattle.vub_block.specs.Disk.{Disk}
use Rattle.vub_block.specs.declared.status.Status.TheVariants as status

-- it gives no byte, and leaves the disk as it was
pub record ChangesNothing (d : Disk) (request : List ℕ) (room : ℕ) : Type 0 where
  pub bytes : (answer_of d request room).bytes ≡ []
  pub disk : after d request room ≡ d

abbrev pub RefusalsChangeNothing : Type 0
RefusalsChangeNothing =
    (d : Disk) (request : List ℕ) (room : ℕ) →
    (answer_of d request room).status ≢ status.Ok →
    ChangesNothing d request room
