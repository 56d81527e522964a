-- Messages of a header as bytes: how many, and what stands in the header of them (File Format Specification 3.0, section IV.A.1.a).
use Rattle.std.specs.Prelude.{ℕ, List}

pub record OthersBytes : Type 0 where
  pub bytes : List ℕ
  pub count : ℕ
