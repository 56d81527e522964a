use Rattle.std.proofs.Common.{◌≡◌, ℕ, ◌+◌, ◌-◌, List, Some, take, drop, refl, ap, arith}
use Rattle.h5_bytes.specs.Bytes.{part}
use Rattle.h5_layout.proofs.array.block_bytes.Goals as goal

pub returns : goal.returns
unfolding part
returns c =
    let b = c.in-Some.block in
    let few : b.at + b.len - b.at ≡ b.len = omega arith in
    let same : part b.at b.len c.args.image.now.bytes ≡ take (b.at + b.len - b.at) (drop b.at c.bytes.result.now) = rw (few, c.bytes.ensures) refl in
    rw c.in-Some.is (ap (λ (x : List ℕ). Some x) same)
