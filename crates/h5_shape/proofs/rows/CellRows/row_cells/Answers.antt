use Rattle.std.proofs.Common.{◌+◌, ◌*◌, ◌≤◌, arith}
use Rattle.std.proofs.Math.Nat.{mul-le-mul_left}
use Rattle.h5_shape.proofs.rows.CellRows.row_cells.Goals as goal

pub overflow_add-result : goal.overflow_add-result
overflow_add-result c =
    let once : (c.args.self.now.more + 1) * 1 ≤ (c.args.self.now.more + 1) * c.args.self.now.length = mul-le-mul_left (c.args.self.now.more + 1) c.requires.long in
    omega (arith, once, c.requires.small)
