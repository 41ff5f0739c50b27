-- Front-end addresses.
use Rattle.std.specs.Prelude.{ℕ, ◌+◌, ◌-◌, ◌^◌, Bool, ◌&&◌, nat_le, nat_lt, List, Result, Ok, Err}
use Rattle.std.specs.List.{find}
use Rattle.std.specs.Option.{option_map_or}
use Rattle.vub_mem.specs.declared.mapping.Mapping.{Mapping}
use Rattle.vub_mem.specs.declared.errors.MemError.{MemError}
use Rattle.vub_mem.specs.declared.errors.MemError.TheVariants.{MissingMemoryMapping}

-- whether the mapping holds the front-end address; its guest address has 64 bits
abbrev pub maps : Mapping → ℕ → Bool
maps m va = nat_le m.user va && (nat_lt (va - m.user) m.len && nat_lt (m.start + (va - m.user)) (2 ^ 64))

-- the guest address of a front-end address: that of the first mapping that holds it
abbrev pub gpa_of : List Mapping → ℕ → Result ℕ MemError
gpa_of ms va = option_map_or (λ m. Ok (m.start + (va - m.user))) (find (λ m. maps m va) ms) (Err MissingMemoryMapping)
