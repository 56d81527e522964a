use Rattle.std.proofs.Common.{◌≡◌, ◌+◌, ◌*◌, ◌≤◌, ◌∙◌, ap, arith, length, ◌||◌, not}
use Rattle.std.specs.Prelude.{if◌then◌else◌}
use Rattle.h5_model.specs.Format.Limits.{most_dimensions}
use Rattle.h5_model.specs.Format.Sizes.{dataspace_length, message_size}
use Rattle.h5_model.specs.Tree.Objects.{are_sizes}
use Rattle.h5_repack.specs.Blocks.ArrayHeader.{in_chunks}
use Rattle.h5_repack.proofs.BlockLaws.ArrayParts.{length-space}
use Rattle.h5_repack.proofs.blocks.space.space_length.Goals as goal

pub returns-clause-exact : goal.returns-clause-exact
returns-clause-exact c =
    let a = c.args.array.now in
    let sizes : c.sizes-sizes.result.now ≡ a.sizes = c.sizes-sizes.ensures.numbers ∙ c.dims.ensures.sizes in
    let rank : length a.sizes ≤ most_dimensions = omega (arith, c.sizes-sizes.ensures.rank, ap length c.dims.ensures.sizes) in
    let written : c.writes_maxima-has_maxima.result ≡ (in_chunks a.layout || not (are_sizes a.sizes a.maxima))
    = c.writes_maxima-has_maxima.ensures ∙ (λ i. in_chunks a.layout || not (are_sizes (sizes i) (c.read_maxima.ensures i))) in
    let body : c.dataspace_length.result
    ≡ dataspace_length (length a.sizes) + (if in_chunks a.layout || not (are_sizes a.sizes a.maxima) then 8 * length a.sizes else 0)
    = c.dataspace_length.ensures ∙ (λ i. dataspace_length (length (sizes i)) + (if written i then 8 * length (sizes i) else 0)) in
    c.message_length.ensures ∙ ap message_size body ∙ length-space (in_chunks a.layout) a.sizes a.maxima rank c.requires
