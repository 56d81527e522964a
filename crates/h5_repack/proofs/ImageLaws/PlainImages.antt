-- The laws of plain images, by those of their parts.
use Rattle.h5_repack.proofs.BodyLaws.ArrayReads.{array_reads}
use Rattle.h5_repack.proofs.BodyLaws.HeaderLengths.{array_length}
use Rattle.h5_group.proofs.WriteLaws.GroupReads.{links_read}
use Rattle.h5_group.proofs.WriteLaws.Lengths.{links_length_is, group_length}
use Rattle.h5_repack.specs.Image.Laws.{ImageReads, ImageEnds}
use Rattle.h5_repack.proofs.ImageLaws.ImageReads as reads

-- the plain image of a tree reads as the tree
pub plain_reads : ImageReads
plain_reads = reads.image_reads links_read links_length_is group_length array_reads array_length

-- and ends where it should
pub plain_ends : ImageEnds
plain_ends = reads.image_ends links_length_is group_length array_length
