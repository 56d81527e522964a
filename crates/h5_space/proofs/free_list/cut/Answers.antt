use Rattle.std.proofs.Common.{◌≡◌, ◌+◌, ◌<◌, ◌≤◌, arith, ap, length}
use Rattle.std.specs.List.{remove}
use Rattle.h5_bytes.specs.Blocks.{holds, cover}
use Rattle.h5_bytes.proofs.CoverLaws.{cover-remove}
use Rattle.h5_bytes.specs.declared.Block.{Block}
use Rattle.h5_space.proofs.GivingLaws.{cover_cut}
use Rattle.h5_space.proofs.free_list.cut.Goals as goal

pub returns-else-block-len-clause-taken : goal.returns-else-block-len-clause-taken
returns-else-block-len-clause-taken c p =
    let x = c.index-block.result.now in
    let ok = c.args.free.now.ok.0 in
    let h : c.args.k < length c.args.free.now.items = let r = c.requires.place in omega arith in
    let fits = c.requires.fits x in
    let e = ap (λ (b : Block). b.len) c.index-block.ensures in
    let le : c.args.len ≤ x.len = omega arith in
    cover_cut p c.args.free.now.items c.args.k x c.args.len h c.index-block.ensures le

pub returns-then-block-len-clause-taken : goal.returns-then-block-len-clause-taken
returns-then-block-len-clause-taken c p =
    let x = c.index-block.result.now in
    let ok = c.args.free.now.ok.0 in
    let h : c.args.k < length c.args.free.now.items = let r = c.requires.place in omega arith in
    let gone : cover p (remove c.args.free.now.items c.args.k) + holds p x.at x.len ≡ cover p c.args.free.now.items
    = rw (← c.index-block.ensures) at (cover-remove p c.args.free.now.items c.args.k x h) in
    rw (c.remove.ensures.items, ← c.if-block-len.true) gone
