use Rattle.std.proofs.Common.{rules, ◌≡◌, ◌≤◌, Some, length, sym, ap, to_z, of_z, arith}
use Rattle.std.proofs.lemmas.Result.{err_from_is_err_and}
use mir.Syntax.{w128}
use Rattle.h5_model.specs.Format.Datatype.{fixed_of}
use Rattle.h5_model.specs.Format.Limits.{most_cells}
use Rattle.h5_model.specs.Format.Reached.{extent_among, type_among}
use Rattle.h5_model.specs.Tree.Places.{extent_cells}
use Rattle.h5_msg.specs.Layouts.{layout_in}
use Rattle.h5_layout.proofs.RoomLaws.{room_of}
use Rattle.h5_layout.proofs.BreachLaws.{late_breach}
use Rattle.h5_layout.proofs.read.judge.Goals as goal

pub returns-in_err-layout-clause-first : goal.returns-in_err-layout-clause-first
returns-in_err-layout-clause-first c =
    let ms = c.args.header.now.messages in
    let p = err_from_is_err_and c.from_residual-in_err-layout.result c.from_residual-in_err-layout.ensures.1 in
    let space : extent_among ms ≡ Some c.in_ok-extent.extent = rw c.one_body.ensures c.in_ok-extent.ensures.told in
    let told : fixed_of c.one_body-2.result.now ≡ Some c.in_ok-fixed.fixed = grind arith in
    let type : type_among ms ≡ Some c.in_ok-fixed.fixed = rw c.one_body-2.ensures told in
    let refused = rw c.dims-dims.ensures at c.in_err-layout.ensures.refused in
    rw (p.1, p.2) (late_breach ms c.in_ok-extent.extent c.in_ok-fixed.fixed c.in_ok-fill.fill _ space c.in_ok-extent.ensures.small type c.in_ok-fill.ensures.filled (rw c.one_body-3.ensures refused))

pub invariant_of-result : goal.invariant_of-result
invariant_of-result c =
    let passed : to_z w128 (of_z w128 c.in_ok-fill.fill) ≡ c.in_ok-fill.fill = search rules in
    let small : extent_cells c.dims-dims.result ≤ most_cells = rw c.dims-dims.ensures c.in_ok-extent.ensures.small in (
      sym (ap length c.dims-dims.ensures),
      rw passed c.in_ok-fill.ensures.of_type,
      record {
        small = small;
        room = room_of c.dims-dims.result c.in_ok-fixed.fixed.size c.one_body-3.result.now (layout_in c.in_ok-layout.layout) c.in_ok-layout.ensures.told;
        chunk_small = c.in_ok-layout.ensures.small;
      },
    )
