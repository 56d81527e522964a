-- The parts of an attribute's body (File Format Specification 3.0, section IV.A.2.m).
use Rattle.std.specs.Prelude.{◌≡◌, ℕ, ◌≤◌, List, length}
use Rattle.h5_model.specs.Format.AttributeBody as body
use Rattle.h5_msg.specs.declared.attribute.Parts.{Parts}

-- the name, and where the other parts stand, all of them inside the body
pub record ArePartsOf (bytes : List ℕ) (parts : Parts) : Type 0 where
  pub name : parts.name.now ≡ body.name_in bytes
  pub datatype : parts.datatype ≡ body.datatype_place bytes
  pub datatype_size : parts.datatype_size ≡ body.datatype_size bytes
  pub dataspace : parts.dataspace ≡ body.dataspace_place bytes
  pub dataspace_size : parts.dataspace_size ≡ body.dataspace_size bytes
  pub values : parts.values ≡ body.data_place bytes
  pub inside : parts.values ≤ length bytes
