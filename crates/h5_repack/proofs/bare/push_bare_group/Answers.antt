use Rattle.std.proofs.Common.{◌≡◌, ◌+◌, ◌++◌, [], ◌∙◌, ap, length, rules}
use Rattle.std.proofs.lemmas.List.{length-append}
use Rattle.h5_group.specs.Writing.Written.{links_bytes}
use Rattle.h5_model.specs.Format.Sizes.{group_node}
use Rattle.h5_repack.specs.Bodies.Headers.{group_header}
use Rattle.h5_repack.proofs.BareGroup.{bare_held, length-bare_group}
use Rattle.h5_repack.proofs.bare.push_bare_group.Goals as goal

pub push_group-requires-clause-held : goal.push_group-requires-clause-held
push_group-requires-clause-held c =
    rw c.nowhere-layout.ensures.k
    (bare_held (c.args.k.now).leaf (c.args.k.now).internal c.requires.k.groups (c.args.k.now).chunk c.new.result c.bare_places-places.result c.new.ensures
    (c.bare_places-places.ensures.places (c.args.k.now).leaf c.requires.k.groups))

pub returns-clause-long : goal.returns-clause-long
returns-clause-long c =
    let at = c.args.at in
    let bytes : c.push_group-2.new.out.items ≡ c.args.out.now.items ++ (group_header (at + 40) (at + 40 + group_node (c.args.k.now).internal) []
    ++ links_bytes (c.args.k.now).leaf (c.args.k.now).internal (at + 40) []) = search rules in
    ap length bytes ∙ length-append c.args.out.now.items _
    ∙ ap (λ n. length c.args.out.now.items + n) (length-bare_group (c.args.k.now).leaf (c.args.k.now).internal c.requires.k.groups (at + 40) (at + 40 + group_node (c.args.k.now).internal))
