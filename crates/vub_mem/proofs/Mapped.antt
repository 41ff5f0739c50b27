-- What a mapping that was found says.
use Rattle.std.proofs.Common.{◌≡◌, ℕ, ◌+◌, ◌-◌, ◌^◌, ◌<◌, ◌≤◌, List, Some, find, ltb, leb, ◌&&◌}
use Rattle.std.proofs.lemmas.Bool.{and_parts, leb-true, ltb-true}
use Rattle.vub_mem.specs.declared.mapping.Mapping.{Mapping}
use Rattle.vub_mem.specs.Mappings.{maps}
use Rattle.vub_mem.proofs.Finds.{find_passes}

pub record IsMapped (m : Mapping) (va : ℕ) : Type 0 where
  pub low : m.user ≤ va
  pub fits : m.start + (va - m.user) < 2 ^ 64

pub mapped : (ms : List Mapping) (va : ℕ) (m : Mapping) → Some m ≡ find (λ m. maps m va) ms → IsMapped m va
mapped ms va m e =
    let parts = and_parts (leb m.user va) (ltb (va - m.user) m.len && ltb (m.start + (va - m.user)) (2 ^ 64)) (find_passes (λ m. maps m va) ms m e) in
    let rest = and_parts (ltb (va - m.user) m.len) (ltb (m.start + (va - m.user)) (2 ^ 64)) parts.1 in
    record { low = leb-true m.user va parts.0; fits = ltb-true (m.start + (va - m.user)) (2 ^ 64) rest.1 }
