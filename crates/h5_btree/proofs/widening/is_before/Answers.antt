use Rattle.std.proofs.Common.{◌≡◌, [], length, arith, subst}
use Rattle.std.proofs.lemmas.Option.{get_or_from_slice_get}
use Rattle.h5_space.proofs.AddressLaws.{all_at}
use Rattle.h5_btree.proofs.widening.is_before.Goals as goal

pub is_behind-requires : goal.is_behind-requires
is_behind-requires g c =
    let kind = g.S.Sought.tree_kind c.args.sought.now in
    let some = c.requires.some in
    subst (λ key. length key ≡ kind.key_length) (get_or_from_slice_get c.args.node.now.keys 0 c.key.result.now [] c.key.ensures)
    (all_at (λ key. length key ≡ kind.key_length) c.args.node.now.keys 0 [] c.requires.keys (omega (arith, some)))
