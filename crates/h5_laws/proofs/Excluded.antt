-- A breach excludes any reading.
use Rattle.std.proofs.Common.{inl, inr, ℕ, List}
use Rattle.std.specs.Ordering.{nat_cmp}
use Rattle.std.specs.FinMap.{FinMap}
use Rattle.h5_model.specs.Tree.Objects.{Tree}
use Rattle.h5_model.specs.Format.Reads.{Placed, ReadsAs, Holds}
use Rattle.h5_model.specs.Format.Reached.{Named, Reached}
use Rattle.h5_model.specs.Faults.Breaches.{up_to_end, ReachedBreach, BreachExcludesReads}
use Rattle.h5_model.specs.declared.open_fault.Cause.{Cause}
use Rattle.h5_model.specs.declared.open_fault.Cause.TheVariants.{Truncated, Overlap, GroupLinkedTwice, LinkCount, TooLarge, MissingMessage}
use Rattle.h5_model.proofs.BreachLaws.{superblock_breach_excludes}
use Rattle.h5_laws.proofs.OverlapExcluded.{truncated_excluded, overlap_excluded}
use Rattle.h5_laws.proofs.LinksExcluded.{often_excluded, twice_excluded}
use Rattle.h5_laws.proofs.CountExcluded.{miscounted_excluded}
use Rattle.h5_laws.proofs.Breaches.{form_excluded, root_excluded}

module _ (image : List ℕ) (table : FinMap nat_cmp ℕ) (tree : Tree) (placed : List Placed) (reads : ReadsAs image table tree placed) where
  abbrev stands : Holds image table tree placed
  stands = reads.holds

  -- of a block that is reached
  pub reached_excluded : (x : Named) → Reached image x → (cause : Cause) → ReachedBreach image x cause → ⊥
  reached_excluded x reached Truncated h = truncated_excluded image table tree placed stands x reached h
  reached_excluded x reached Overlap h = overlap_excluded image table tree placed stands x reached h
  reached_excluded x reached GroupLinkedTwice h = twice_excluded image table tree placed reads x reached h.1
  reached_excluded x reached LinkCount h = miscounted_excluded image table tree placed reads x reached h.1
  reached_excluded x reached TooLarge (whole, inl h) = often_excluded image table tree placed reads x reached h
  reached_excluded x reached TooLarge (whole, inr h) = form_excluded image table tree placed stands x reached TooLarge h
  reached_excluded x reached MissingMessage (whole, inl h) = root_excluded image table tree placed stands x reached h
  reached_excluded x reached MissingMessage (whole, inr h) = form_excluded image table tree placed stands x reached MissingMessage h
  reached_excluded x reached cause h = form_excluded image table tree placed stands x reached cause h.1

pub breach_excludes_reads : BreachExcludesReads
breach_excludes_reads bytes cause at (inl super) table tree reads = superblock_breach_excludes bytes cause at super table tree reads
breach_excludes_reads bytes cause at (inr (x, reached, same, breach)) table tree (placed, reads) =
    reached_excluded (up_to_end bytes) table tree placed reads x reached cause breach
