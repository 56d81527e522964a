use Rattle.std.proofs.Common.{◌≡◌, ◌+◌, ◌*◌, ◌≤◌, ◌++◌, ◌∙◌, ◌||◌, not, sym, ap, arith, length, true, false}
use Rattle.std.specs.Prelude.{if◌then◌else◌}
use Rattle.h5_model.specs.Format.Limits.{most_dimensions}
use Rattle.h5_model.specs.Format.MessageTypes.{dataspace_kind}
use Rattle.h5_model.specs.Format.Bodies.{padded_body, dataspace_bytes, bounded_bytes}
use Rattle.h5_model.specs.Format.Plain.{message_bytes}
use Rattle.h5_model.specs.Format.Sizes.{dataspace_length}
use Rattle.h5_model.specs.Tree.Objects.{are_sizes}
use Rattle.h5_model.proofs.EditLaws.{length-are_maxima}
use Rattle.h5_msg.proofs.WordLaws.{bounds_long, words_long}
use Rattle.h5_repack.specs.Blocks.ArrayHeader.{in_chunks}
use Rattle.h5_repack.proofs.BlockLaws.ArrayParts.{space_own, space_bounded}
use Rattle.h5_repack.proofs.BlockLaws.Rooms.{body_written}
use Rattle.h5_repack.proofs.blocks.space.push_space.Goals as goal

pub read_maxima-requires-clause-same : goal.read_maxima-requires-clause-same
read_maxima-requires-clause-same c = length-are_maxima c.args.array.now.sizes c.args.array.now.maxima c.requires

pub returns-then-has_maxima : goal.returns-then-has_maxima
returns-then-has_maxima c =
    let a = c.args.array.now in
    let sizes : c.sizes-sizes.result.now ≡ a.sizes = c.sizes-sizes.ensures.numbers ∙ c.dims.ensures.sizes in
    let rank : length a.sizes ≤ most_dimensions = omega (arith, c.sizes-sizes.ensures.rank, ap length c.dims.ensures.sizes) in
    let same : length a.maxima ≡ length a.sizes = length-are_maxima a.sizes a.maxima c.requires in
    let long : length c.read_maxima.new.maxima ≡ length c.sizes-sizes.result.now = ap length c.read_maxima.ensures ∙ same ∙ ap length (sym sizes) in
    let written : (in_chunks a.layout || not (are_sizes a.sizes a.maxima)) ≡ true
    = (λ i. in_chunks a.layout || not (are_sizes (sym sizes i) (sym c.read_maxima.ensures i))) ∙ sym c.writes_maxima-has_maxima.ensures ∙ c.if-has_maxima.true in
    let size : c.dataspace_length.result ≡ dataspace_length (length c.sizes-sizes.result.now) + 8 * length c.sizes-sizes.result.now
    = c.dataspace_length.ensures
    ∙ ap (λ b. dataspace_length (length c.sizes-sizes.result.now) + (if b then 8 * length c.sizes-sizes.result.now else 0)) c.if-has_maxima.true in
    body_written dataspace_kind c.dataspace_length.result _ c.in_ok-at.at c.args.out.now.items c.push_message_room.new.out.items c.deref_mut.result.now
    c.in_ok-at.ensures.room c.in_ok-at.ensures.place c.deref_mut.ensures.value c.deref_mut.ensures.len
    c.write_bounded_dataspace.new.bytes (bounded_bytes c.sizes-sizes.result.now c.read_maxima.new.maxima)
    (omega (arith, bounds_long c.sizes-sizes.result.now c.read_maxima.new.maxima long, size)) c.write_bounded_dataspace.ensures.written
    ∙ ap (λ bytes. c.args.out.now.items ++ bytes) ((λ i. message_bytes (dataspace_kind, padded_body (bounded_bytes (sizes i) (c.read_maxima.ensures i))))
    ∙ space_bounded (in_chunks a.layout) a.sizes a.maxima rank same written)

pub returns-else-has_maxima : goal.returns-else-has_maxima
returns-else-has_maxima c =
    let a = c.args.array.now in
    let sizes : c.sizes-sizes.result.now ≡ a.sizes = c.sizes-sizes.ensures.numbers ∙ c.dims.ensures.sizes in
    let rank : length a.sizes ≤ most_dimensions = omega (arith, c.sizes-sizes.ensures.rank, ap length c.dims.ensures.sizes) in
    let same : length a.maxima ≡ length a.sizes = length-are_maxima a.sizes a.maxima c.requires in
    let written : (in_chunks a.layout || not (are_sizes a.sizes a.maxima)) ≡ false
    = (λ i. in_chunks a.layout || not (are_sizes (sym sizes i) (sym c.read_maxima.ensures i))) ∙ sym c.writes_maxima-has_maxima.ensures ∙ c.if-has_maxima.false in
    let size : c.dataspace_length.result ≡ dataspace_length (length c.sizes-sizes.result.now) + 0
    = c.dataspace_length.ensures
    ∙ ap (λ b. dataspace_length (length c.sizes-sizes.result.now) + (if b then 8 * length c.sizes-sizes.result.now else 0)) c.if-has_maxima.false in
    body_written dataspace_kind c.dataspace_length.result _ c.in_ok-at.at c.args.out.now.items c.push_message_room.new.out.items c.deref_mut-else-has_maxima.result.now
    c.in_ok-at.ensures.room c.in_ok-at.ensures.place c.deref_mut-else-has_maxima.ensures.value c.deref_mut-else-has_maxima.ensures.len
    c.write_dataspace.new.bytes (dataspace_bytes c.sizes-sizes.result.now)
    (omega (arith, words_long c.sizes-sizes.result.now, size)) c.write_dataspace.ensures.written
    ∙ ap (λ bytes. c.args.out.now.items ++ bytes) (ap (λ ds. message_bytes (dataspace_kind, padded_body (dataspace_bytes ds))) sizes
    ∙ space_own (in_chunks a.layout) a.sizes a.maxima rank same written)
