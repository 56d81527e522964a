-- Bodies of two numbers of 8 bytes: Symbol Table messages (File Format Specification 3.0, section IV.A.2.r) and Continuation
-- messages (IV.A.2.q).
use Rattle.std.specs.Prelude.{ℕ, nat_le, if◌then◌else◌, Option, Some, None, List, length}
use Rattle.h5_bytes.specs.Bytes.{number_at}
use Rattle.h5_bytes.specs.Blocks.{block}
use Rattle.h5_bytes.specs.declared.Block.{Block}

-- the addresses of a group's B-tree and of its heap
pub record SymbolTable : Type 0 where
  pub tree : ℕ
  pub heap : ℕ

-- what a Symbol Table message says
unfoldable pub symbol_table_of : List ℕ → Option SymbolTable
symbol_table_of body = if nat_le 16 (length body) then Some (record { tree = number_at body 0 8; heap = number_at body 8 8 }) else None

-- the block of messages that a Continuation message names
unfoldable pub continuation_of : List ℕ → Option Block
continuation_of body = if nat_le 16 (length body) then Some (block (number_at body 0 8) (number_at body 8 8)) else None
