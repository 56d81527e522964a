use Rattle.std.proofs.Common.{ap, ◌≡◌, ◌+◌, ◌-◌, ◌≤◌, length, arith, refl, ◌∙◌, List, ℕ}
use Rattle.h5_space.specs.Space.{Space}
use Rattle.h5_bytes.specs.Bytes.{part}
use Rattle.h5_bytes.proofs.PartLaws.{length-part}
use Rattle.h5_space.proofs.PartLaws.{with_items_from_is}
use Rattle.h5_space.proofs.image.Image.part_at_mut.Goals as goal

pub returns : goal.returns
unfolding part
returns c =
    let e : c.args.at + c.args.len - c.args.at ≡ c.args.len = omega arith in
    let b : c.self.inside.bytes.items ≡ c.args.self.now.bytes = ap (λ (s : Space). s.bytes) c.self.view_is in
    let n : length c.self.inside.bytes.items ≡ length c.args.self.now.bytes = ap length b in
    let v : c.slice_mut.result.now ≡ part c.args.at c.args.len c.args.self.now.bytes = cc (e, b, c.slice_mut.ensures.value) in
    let within : c.args.at ≤ length c.self.inside.bytes.items = omega (arith, c.requires) in (
      (refl, λ w. rw (← c.self.view_is) (ap (λ (bs : List ℕ). record { bytes = bs; free = c.self.inside.free.items; room_bytes = c.self.inside.room_bytes; room_blocks = c.self.inside.room_blocks }) (with_items_from_is c.self.inside.bytes c.args.at w within))),
      record { lends = tt; value = v; size = ap length v ∙ length-part c.args.at c.args.len c.args.self.now.bytes c.requires },
    )
