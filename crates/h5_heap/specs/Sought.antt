-- Which free block of a heap's segment is looked for (File Format Specification 3.0, section III.D).
use Rattle.std.specs.Prelude.{ℕ, ◌+◌, Bool, nat_le, ◌==◌}
use Rattle.h5_bytes.specs.declared.Block.{Block}

-- one with so many bytes or more
abbrev pub is_enough : ℕ → Block → Bool
is_enough len b = nat_le len b.len

-- the one that begins at this place
abbrev pub begins_at : ℕ → Block → Bool
begins_at at b = at == b.at

-- the one that ends before this place
abbrev pub ends_at : ℕ → Block → Bool
ends_at end b = (b.at + b.len) == end
