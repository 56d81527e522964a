-- Times of a fill value (File Format Specification 3.0, section IV.A.2.f).
use Rattle.std.specs.Prelude.{ℕ}
use Rattle.h5_msg.specs.declared.fill.AllocationTime.{AllocationTime}
use Rattle.h5_msg.specs.declared.fill.AllocationTime.TheVariants.{Early, Incremental}

-- the number for when storage is allocated
abbrev pub time_number : AllocationTime → ℕ
time_number Early = 1
time_number Incremental = 3
