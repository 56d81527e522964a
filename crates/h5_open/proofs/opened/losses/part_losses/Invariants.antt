use Rattle.std.proofs.Common.{◌≡◌, length, take}
use Rattle.h5_bytes.specs.Blocks.{Separate}
use Rattle.h5_model.specs.Tree.Objects.{hard_links}
use Rattle.h5_open.specs.LostLinks.{AreLossesParted, links_lost}
use Rattle.h5_open.specs.Opened.Objects.{tree_of}
use Rattle.h5_open.specs.SlotsInPlace.{blocks_at}
use Rattle.h5_open.proofs.opened.losses.part_losses.Given as goal

-- the objects so far are parted
abbrev pub invariant-loop-number : goal.invariant-loop-number
invariant-loop-number l = record {
  parted : AreLossesParted (hard_links (tree_of l.image.bytes l.index.objects.items)) (links_lost l.lost.counts) (blocks_at l.image.bytes l.index.objects.items)
      (take l.number-index l.number-items) l.losses.gone.items l.losses.less.items l.losses.blocks.held;
  separate : Separate l.losses.blocks.held;
  inside : l.losses.blocks.end ≡ length l.image.bytes;
}
