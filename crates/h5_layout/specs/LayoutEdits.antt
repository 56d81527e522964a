-- The Data Layout message of a header, written where it stands (File Format Specification 3.0, section IV.A.2.i).
use Rattle.std.specs.Prelude.{◌≡◌, ℕ, ◌+◌, ◌≤◌, ◌==◌, Some, List, length}
use Rattle.std.specs.List.{find}
use Rattle.h5_model.specs.Format.MessageTypes.{data_layout_kind}
use Rattle.h5_space.specs.Lending.{with_bytes_at}
use Rattle.h5_space.specs.Space.{Space}
use Rattle.h5_header.specs.declared.message.Message.{Message as Placed}

-- there is one, whose body has so many bytes at least
pub record HasLayoutRoom (list : List Placed) (room : ℕ) : Type 0 where
  pub place : Placed
  pub found : find (λ (m : Placed). m.kind == data_layout_kind) list ≡ Some place
  pub long : room ≤ place.size

-- these bytes were written into its body, so many bytes behind the beginning, and no others
pub record IsLayoutWritten (old new : Space) (list : List Placed) (from : ℕ) (w : List ℕ) : Type 0 where
  pub place : Placed
  pub found : find (λ (m : Placed). m.kind == data_layout_kind) list ≡ Some place
  pub room : from + length w ≤ place.size
  pub image : new ≡ with_bytes_at old (place.at + from) w
