-- A hyperslab's four lists as a selection, or why they are none (HDF5 dataspace reference, H5Sselect_hyperslab).
use Rattle.std.specs.Prelude.{◌≡◌, ◌≤◌, ◌&&◌, Bool, false, not, nat_le, length, if◌then◌else◌, Result, Ok, Err}
use Rattle.std.specs.List.{list_any}
use Rattle.h5_model.specs.declared.Hyper.{Hyper}
use Rattle.h5_model.specs.Format.Limits.{most_dimensions}
use Rattle.h5_model.specs.Views.Selection.{Slab, axes_of, has_rank, has_no_stride, overlaps}
use Rattle.h5_shape.specs.declared.slab.SlabFault.{SlabFault}
use Rattle.h5_shape.specs.declared.slab.SlabFault.TheVariants as fault

-- the four lists are as long as one another, and have at most `most_dimensions` numbers
abbrev pub is_of_one_rank : Hyper → Bool
is_of_one_rank h = has_rank (length h.start) h && nat_le (length h.start) most_dimensions

-- the selection of the lists, or the first of these rules that they break
abbrev pub slab_of : Hyper → Result Slab SlabFault
slab_of h =
    if not (is_of_one_rank h) then Err fault.RankMismatch
    else if list_any has_no_stride (axes_of h) then Err fault.StrideZero
    else if list_any overlaps (axes_of h) then Err fault.BlocksOverlap
    else Ok (axes_of h)

-- what every selection keeps to
pub record IsSlab (slab : Slab) : Type 0 where
  pub rank : length slab ≤ most_dimensions
  pub strides : list_any has_no_stride slab ≡ false
  pub apart : list_any overlaps slab ≡ false
