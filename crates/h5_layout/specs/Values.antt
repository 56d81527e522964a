-- The values of cells that are to come, one by one (File Format Specification 3.0, section IV.A.2.d, class 0).
use Rattle.std.specs.Prelude.{◌≡◌, ℕ, ◌+◌, ◌*◌, ◌^◌, ◌<◌, ◌≤◌, ℤ, IfSome, Option, Some, None, List, [], ◌++◌, length, map}
use Rattle.std.specs.List.{range_with_len}
use Rattle.std.specs.Option.{option_map_or}
use Rattle.h5_model.specs.Format.Cells.{value_in}
use Rattle.h5_model.specs.Format.Fixed.{Fixed}
use Rattle.h5_layout.specs.Pieces.{CellsLeft}
use Rattle.h5_layout.specs.declared.values.Part.{Part}

-- the value of the cell at a place of a part: in its bytes, or the fill
abbrev pub value_in_part : Fixed → ℤ → Part → ℕ → ℤ
value_in_part t fill part place = option_map_or (λ bytes. value_in t bytes.now place) part.bytes fill

-- the values of its cells that are left
abbrev pub part_values : Fixed → ℤ → Part → List ℤ
part_values t fill part = map (value_in_part t fill part) (range_with_len part.place part.left)

-- the values of the pieces that follow, if any do
abbrev pub values_behind : Option CellsLeft → List ℤ
values_behind None = []
values_behind (Some pieces) = pieces.values

-- the values of a part, and of the pieces that follow
abbrev pub values_left : Fixed → ℤ → Part → Option CellsLeft → List ℤ
values_left t fill part pieces = part_values t fill part ++ values_behind pieces

-- the bytes of a part, where it has some, are those of its cells
pub record IsPart (t : Fixed) (part : Part) : Type 0 where
  pub low : part.place + part.left < 2 ^ 64
  pub room : IfSome part.bytes (λ bytes. (part.place + part.left) * t.size ≤ length bytes.now)

-- the pieces that follow have this type and this fill
abbrev pub ArePiecesOf : Fixed → ℤ → Option CellsLeft → Type 0
ArePiecesOf t fill pieces = IfSome pieces (λ p. (p.fixed ≡ t) × (p.fill ≡ fill))
