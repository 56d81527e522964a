-- What stands behind a heap's texts (File Format Specification 3.0, section III.D).
use Rattle.std.specs.Prelude.{ℕ, ◌-◌, nat_le, if◌then◌else◌, List, [], ◌++◌}
use Rattle.h5_bytes.specs.Numbers.{word, zeros}

-- a heap's segment behind its used bytes: a free block where at most 72 are used
abbrev pub free_rest : ℕ → List ℕ
free_rest used = if nat_le used 72 then word 1 ++ (word (88 - used) ++ zeros (72 - used)) else []
