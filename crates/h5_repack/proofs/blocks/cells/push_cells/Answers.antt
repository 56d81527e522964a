use Rattle.std.proofs.Common.{◌≡◌, ◌-◌, ◌++◌, rules, to_z, of_z, ap, ◌∙◌}
use Rattle.std.specs.Int.{w128}
use Rattle.h5_model.specs.Format.Fixed.{bytes_of}
use Rattle.h5_bytes.specs.Numbers.{zeros}
use Rattle.h5_repack.proofs.BlockLaws.Copies.{cells_pushed}
use Rattle.h5_repack.proofs.blocks.cells.push_cells.Goals as goal

pub returns : goal.returns
returns c =
    let value : to_z w128 (of_z w128 c.args.value) ≡ c.args.value = search rules in
    let filled : c.value_bytes-room.result ≡ bytes_of c.args.fixed.now c.args.value ++ zeros (8 - c.args.fixed.now.size)
    = c.value_bytes-room.ensures ∙ ap (λ v. bytes_of c.args.fixed.now v ++ zeros (8 - c.args.fixed.now.size)) value in
    cells_pushed c.args.fixed.now c.args.value c.args.count c.size.result c.value_bytes-room.result c.deref.result.now c.new-tile.result.items
    c.args.out.now.items c.push_copies-2.new.out.items c.push_copies-3.new.out.items
    filled c.size.ensures.size c.new-tile.ensures.items (c.deref.ensures.value ∙ c.in_ok-push_copies.ensures) c.in_ok-push_copies-2.ensures c.in_ok-push_copies-3.ensures
