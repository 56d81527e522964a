-- The plain image ends where the plain layout of its tree does.
use Rattle.std.proofs.Common.{ℕ, ◌+◌, sym, ap, ◌∙◌}
use Rattle.std.specs.FinMap.{entries}
use Rattle.h5_model.specs.Format.PlainLength.{plain_length}
use Rattle.h5_model.specs.Tree.Objects.{Object}
use Rattle.h5_repack.specs.Image.Laws.{ImageLength}
use Rattle.h5_repack.specs.Image.Written.{object_length}
use Rattle.h5_repack.proofs.ImageLaws.Orders.{order-total}
use Rattle.h5_repack.proofs.ImageLaws.Places.{end-total}
use Rattle.h5_repack.proofs.ImageLaws.Totals.{total-sum_by}
use Rattle.h5_model.specs.Format.Plain.{plain_superblock_length}

pub image_length : ImageLength
unfolding plain_length
image_length k counts tree order is =
    end-total k counts (plain_superblock_length k) order
    ∙ ap (λ n. plain_superblock_length k + n) (order-total tree order is (λ (e : ℕ × Object). object_length k (counts e.0) e.1)
    ∙ sym (total-sum_by (λ (e : ℕ × Object). object_length k (counts e.0) e.1) (entries tree)))
