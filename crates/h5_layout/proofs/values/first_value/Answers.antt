use Rattle.std.proofs.Common.{◌+◌, ◌*◌, ◌≤◌, Option, Bor, List, ℕ, length, subst}
use Rattle.std.specs.Prelude.{IfSome}
use Rattle.h5_layout.proofs.ValueSteps.{room_at}
use Rattle.h5_layout.proofs.values.first_value.Goals as goal

pub value_in-requires : goal.value_in-requires
value_in-requires c =
    let t = c.args.fixed.now in
    let part = c.args.part.now in
    let room : (part.place + part.left) * t.size ≤ length c.in-Some.bytes.now = subst (λ (o : Option (Bor (List ℕ))). IfSome o (λ bytes. (part.place + part.left) * t.size ≤ length bytes.now)) c.in-Some.is c.requires.part.room in
    room_at t part.place part.left (length c.in-Some.bytes.now) c.requires.some room
