use Rattle.std.proofs.Common.{[], ap, sym, ◌∙◌, arith}
use Rattle.h5_model.specs.Format.Links.{offset_in}
use Rattle.std.proofs.lemmas.Option.{get_or_from_slice_get}
use Rattle.h5_btree.proofs.NodeLaws.{length-keys, key_is}
use Rattle.h5_btree.proofs.node.Node.key_offset.Goals as goal

pub key_at-requires-clause-place : goal.key_at-requires-clause-place
key_at-requires-clause-place c = omega (arith, length-keys c.self.inside.kind c.self.inside.bytes.now c.args.self.now c.self.view_is, c.self.invariant.1, c.requires)

pub returns : goal.returns
returns c = c.u64_at.ensures ∙ ap offset_in (c.key_at.ensures.key ∙ sym (get_or_from_slice_get c.args.self.now.keys c.args.i _ [] (key_is c.self.inside.kind c.self.inside.bytes.now c.args.self.now c.self.view_is c.args.i c.requires)))
