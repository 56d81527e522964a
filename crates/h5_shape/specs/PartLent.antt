-- What becomes of the parts that are left while the first of them is lent (File Format Specification 3.0, section III.A.1, chunked raw data).
use Rattle.std.specs.Prelude.{◌≡◌, ⊤, List, [], drop}
use Rattle.std.specs.Borrow.{follows_so, MutBor, Fml}
use mathlib.Core.Option.{none}
use mir.Syntax.{named}
use Rattle.h5_shape.specs.declared.parts.Span.{Span}
use Rattle.h5_shape.specs.contracts.parts.ChunkParts.{the_row}

-- they end without the first
abbrev pub EndsWithoutFirst : MutBor (List (List Span)) → Fml
EndsWithoutFirst parts =
    let row = the_row (record { mir = named 1; lft = [] }) in
    follows_so row row parts.ghost_name none (λ _ _. ⊤) (λ left. left ≡ drop 1 parts.now)
