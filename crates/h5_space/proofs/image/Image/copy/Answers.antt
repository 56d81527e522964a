use Rattle.std.proofs.Common.{◌≡◌, List, ℕ, length, ap, ◌∙◌, arith}
use Rattle.h5_bytes.specs.Bytes.{part, with_part}
use Rattle.h5_space.specs.Space.{Space}
use Rattle.h5_space.proofs.PartLaws.{copy_within_is}
use Rattle.h5_space.proofs.image.Image.copy.Goals as goal

pub returns : goal.returns
returns c =
    let bytes = c.self.inside.bytes.items in
    let long : length bytes ≡ length c.args.self.now.bytes = ap (λ (s : Space). length s.bytes) c.self.view_is in
    let moved : c.copy_within.new.self.items ≡ with_part c.args.to (part c.args.from c.args.len bytes) bytes
    = c.copy_within.ensures.items ∙ copy_within_is c.args.from c.args.len c.args.to bytes (omega (arith, long, c.requires.from)) (omega (arith, long, c.requires.to)) in
    ap (λ (bs : List ℕ). record { bytes = bs; free = c.self.inside.free.items; room_bytes = c.self.inside.room_bytes; room_blocks = c.self.inside.room_blocks }) moved
    ∙ ap (λ (s : Space). record s { bytes = with_part c.args.to (part c.args.from c.args.len s.bytes) s.bytes }) c.self.view_is
