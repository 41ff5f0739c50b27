-- What is read of a request (the structures of linux/fuse.h whose names end in _in).
use Rattle.std.specs.Prelude.{ℕ, ◌==◌, List, Option, option_map, take}
use Rattle.std.specs.List.{position}
use Rattle.vub_dir.specs.Layout.{u32_at, u64_at}
use Rattle.vub_dir.specs.declared.header.Header.{Header}

-- the header: length u32, opcode u32, unique u64, node u64, uid u32, gid u32, pid u32, two u16; 40 bytes
unfoldable pub header_at : List ℕ → Header
header_at request = record {
  length = u32_at request 0;
  opcode = u32_at request 4;
  unique = u64_at request 8;
  node = u64_at request 16;
}

-- the body of LOOKUP: a name, up to the first zero byte
unfoldable pub name_in : List ℕ → Option (List ℕ)
name_in body = option_map (λ at. take at body) (position (λ b. b == 0) body)
