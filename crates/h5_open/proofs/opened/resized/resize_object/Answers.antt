use Rattle.std.proofs.Common.{◌≡◌, ℕ, List, Option, sym, ap, subst, arith}
use Rattle.std.specs.Option.{option_copied}
use Rattle.h5_space.specs.Space.{Space}
use Rattle.h5_header.specs.Listed.{Listed, messages_in}
use Rattle.h5_header.specs.declared.message.Message.{Message as Placed}
use Rattle.h5_layout.specs.ArrayEdits.{described_in}
use Rattle.h5_layout.specs.Resized.{IsLookedAt}
use Rattle.h5_layout.specs.Told.{array_told}
use Rattle.h5_layout.specs.declared.trimmed.Outside.{Outside}
use Rattle.h5_layout.proofs.ExtentBounds.{few_sizes}
use Rattle.h5_open.proofs.opened.resized.resize_object.Goals as goal

pub bytes_for-requires-clause-few : goal.bytes_for-requires-clause-few
bytes_for-requires-clause-few c =
    let bytes = c.args.image.now.bytes in
    let m = c.args.object.now.messages in
    let few = few_sizes (messages_in bytes m.list) (described_in bytes m) c.requires.array.array in
    omega (arith, few, c.requires.sizes.ranked)

pub resize_array-requires-clause-outside : goal.resize_array-requires-clause-outside
resize_array-requires-clause-outside c =
    let image : List ℕ = c.args.image.now.bytes in
    let m : Listed = c.args.object.now.messages in
    let sizes : List ℕ = c.args.sizes.now in
    let list : c.make_room.new.messages.list ≡ m.list = ap (λ (x : Listed). x.list) c.in-Ok-make_room.ensures.messages in
    let bytes : c.make_room.new.image.bytes ≡ image = ap (λ (s : Space). s.bytes) c.make_room.ensures.image in
    let looked : IsLookedAt image (array_told (messages_in image m.list)) sizes (option_copied c.as_ref-2.result)
    = subst (λ (o : Option Outside). IsLookedAt image (array_told (messages_in image m.list)) sizes o) (sym c.as_ref-2.ensures.value) c.in-Ok.ensures in
    subst (λ (bs : List ℕ). IsLookedAt bs (array_told (messages_in bs c.make_room.new.messages.list)) sizes (option_copied c.as_ref-2.result)) (sym bytes)
    (subst (λ (ms : List Placed). IsLookedAt image (array_told (messages_in image ms)) sizes (option_copied c.as_ref-2.result)) (sym list) looked)
