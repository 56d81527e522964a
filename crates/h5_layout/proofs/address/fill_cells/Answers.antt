use Rattle.std.proofs.Common.{◌≡◌, ◌+◌, ◌*◌, ◌≤◌, ℤ, sym, subst, arith, to_z, of_z}
use Rattle.std.specs.List.{copy_within}
use mir.Syntax.{w128}
use Rattle.h5_layout.proofs.TileLaws.{AreCopies, copies_copied}
use Rattle.h5_layout.proofs.address.fill_cells.Goals as goal

pub loop-done-preserved : goal.loop-done-preserved
loop-done-preserved c =
    let v : ℤ = to_z w128 (of_z w128 c.args.value) in
    let done = c.loop-done.done in
    let more = c.min-more.result in
    let few : more ≤ done = omega arith in
    let room : done + more ≤ c.args.count = omega arith in
    let after : c.copy_within.new.self ≡ copy_within c.loop-done.bytes 0 (more * c.size-size.result) (done * c.size-size.result) = c.copy_within.ensures.after in
    subst (λ bytes. AreCopies c.args.fixed.now v bytes c.args.count (done + more)) (sym after)
    (copies_copied c.args.fixed.now v c.loop-done.bytes c.args.count done more c.size-size.result c.loop-done.invariant c.size-size.ensures.size few room)
