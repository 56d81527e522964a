-- The chunks that a selection meets and that are not stored.
use Rattle.std.proofs.Common.{◌≡◌, ◌↔◌, ℕ, List, map, refl, Option, Some, None, Bool, true}
use Rattle.std.specs.Prelude.{is_some, not}
use Rattle.std.specs.FinMap.{get}
use Rattle.std.specs.List.{Contains}
use Rattle.h5_model.specs.Format.Chunks.{Chunks}
use Rattle.h5_model.specs.Views.Selection.{Slab}
use Rattle.h5_model.proofs.Members.{In, contains_in, filter_in, in_contains, in_filter}
use Rattle.h5_shape.specs.PartCells.{AreParted, part_corner}
use Rattle.h5_shape.specs.declared.parts.Span.{Span}
use Rattle.h5_shape.proofs.CornerLaws.{corner-met}
use Rattle.h5_shape.proofs.RisingBoxes.{filter_rises, pairs_rise}
use Rattle.h5_layout.specs.HeldChunks.{AreRising, IsChunkMet}
use Rattle.h5_layout.specs.Missing.{corners_missing}
use Rattle.h5_layout.proofs.RisingLaws.{rises_rising}

-- ---- those at which no chunk is stored

none_of : (found : Option ℕ) → not (is_some found) ≡ true → found ≡ None
none_of None h = refl
none_of (Some n) h = absurd (cc)

not_some : (found : Option ℕ) → found ≡ None → not (is_some found) ≡ true
not_some None h = refl
not_some (Some n) h = absurd (cc)

module _ (stored : Chunks) (slab : Slab) (chunk : List ℕ) (parts : List (List Span)) (parted : AreParted slab chunk parts) where
  abbrev missing : List (List ℕ)
  missing = corners_missing stored (map part_corner parts)

  abbrev is_missing : List ℕ → Bool
  is_missing corner = not (is_some (get stored corner))

  pub missing_rising : AreRising missing
  missing_rising = rises_rising missing (filter_rises is_missing (map part_corner parts) (pairs_rise (map part_corner parts) parted.order))

  from_missing : (offsets : List ℕ) → In offsets missing → IsChunkMet slab chunk offsets × (get stored offsets ≡ None)
  from_missing offsets at =
      let own = filter_in is_missing offsets (map part_corner parts) at in
      ((corner-met slab chunk offsets parts parted).0 (contains_in offsets (map part_corner parts) own.0), none_of (get stored offsets) own.1)

  pub missing_each : (offsets : List ℕ) → Contains missing offsets ↔ (IsChunkMet slab chunk offsets × (get stored offsets ≡ None))
  missing_each offsets = ((λ there. from_missing offsets (in_contains offsets missing there)), to) where
    to : IsChunkMet slab chunk offsets × (get stored offsets ≡ None) → Contains missing offsets
    to (met, none) = contains_in offsets missing (in_filter is_missing offsets (map part_corner parts)
        (in_contains offsets (map part_corner parts) ((corner-met slab chunk offsets parts parted).1 met)) (not_some (get stored offsets) none))
