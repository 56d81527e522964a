use Rattle.std.proofs.Common.{◌≡◌, ℕ, Result, Ok, Err, length, ap, arith}
use Rattle.std.specs.Result.{OnOk, OnErr}
use Rattle.h5_bytes.specs.Blocks.{cover}
use Rattle.h5_bytes.proofs.BlockLaws.{holds-le}
use Rattle.h5_space.specs.Space.{Space, growth}
use Rattle.h5_tests.proofs.space.takes_and_gives_in_reserved_room.Goals as goal

-- `reserve` leaves the free blocks
same : {T E : Type 0} (p a b : ℕ) (old new : Space) (r : Result T E) → OnOk r (new ≡ record old { room_bytes = a; room_blocks = b }) → OnErr r (new ≡ old)
    → cover p new.free ≡ cover p old.free
same p a b old new (Ok v) ok err = ap (λ (s : Space). cover p s.free) ok
same p a b old new (Err e) ok err = ap (λ (s : Space). cover p s.free) err

pub give-requires-clause-held : goal.give-requires-clause-held
give-requires-clause-held g c p =
    let first = same p _ _ c.new-image.result c.reserve.new.self c.reserve.result c.reserve.ensures.ok c.reserve.ensures.err in
    let none = ap (λ (s : Space). cover p s.free) c.new-image.ensures in
    let most = holds-le p (length c.reserve.new.self.bytes) (growth 8 c.reserve.new.self.free) in
    let taken = c.take-first.ensures.taken p in
    omega arith
