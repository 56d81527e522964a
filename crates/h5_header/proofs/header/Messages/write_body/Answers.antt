use Rattle.std.proofs.Common.{◌≡◌, ℕ, List, slice_index_or, refl, ap, arith}
use Rattle.h5_bytes.specs.Bytes.{with_part}
use Rattle.h5_space.specs.Lending.{with_bytes_at}
use Rattle.h5_header.specs.Standing.{kept_at, nowhere}
use Rattle.h5_header.proofs.BesideLaws.{moves_covered}
use Rattle.h5_header.proofs.WholeBodies.{whole_count, whole_covered, whole_written, whole_standing}
use Rattle.h5_header.proofs.header.Messages.write_body.Goals as goal
use Rattle.h5_header.proofs.header.Messages.write_body.Goals.{After-copy_from_slice}
use Rattle.h5_header.proofs.BlankLaws.{body_inside}

written : (c : After-copy_from_slice) → with_part (slice_index_or c.list.result.now c.args.k nowhere).at c.copy_from_slice.new.self c.args.image.now.bytes
    ≡ with_part (kept_at c.args.self.now.list c.args.k).at c.args.body.now c.args.image.now.bytes
written c = rw c.list.ensures (ap (λ (bs : List ℕ). with_part (kept_at c.args.self.now.list c.args.k).at bs c.args.image.now.bytes) c.copy_from_slice.ensures.after)

pub returns-clause-standing : goal.returns-clause-standing
returns-clause-standing c =
    let w = (goal.at.returns-clause-standing c).After-copy_from_slice in
    rw (written w) (whole_standing c.args.image.now.bytes c.args.self.now c.requires.standing c.args.k c.requires.known c.requires.own c.args.body.now c.requires.size)

pub returns-clause-messages : goal.returns-clause-messages
returns-clause-messages c =
    let w = (goal.at.returns-clause-messages c).After-copy_from_slice in
    rw (written w) (whole_written c.args.image.now.bytes c.args.self.now c.requires.standing c.args.k c.requires.known c.requires.own c.args.body.now c.requires.size)

pub returns-clause-count : goal.returns-clause-count
returns-clause-count c =
    let w = (goal.at.returns-clause-count c).After-copy_from_slice in
    rw (written w) (whole_count c.args.image.now.bytes c.args.self.now c.requires.standing c.args.k c.requires.known c.requires.own c.args.body.now c.requires.size)

pub returns-clause-moves : goal.returns-clause-moves
returns-clause-moves c =
    let w = (goal.at.returns-clause-moves c).After-copy_from_slice in
    let high = body_inside c.args.image.now.bytes c.args.self.now c.requires.standing c.args.k c.requires.known c.requires.own in
    moves_covered c.args.image.now (with_bytes_at c.args.image.now (slice_index_or c.list.result.now c.args.k nowhere).at c.copy_from_slice.new.self) c.args.body.now
    (kept_at c.args.self.now.list c.args.k).at c.args.self.now.blocks
    (whole_covered c.args.image.now.bytes c.args.self.now c.requires.standing c.args.k c.requires.known c.requires.own c.args.body.now c.requires.size)
    (omega (arith, high, c.requires.size)) (written w) refl
