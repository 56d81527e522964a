-- A link of the tree, by the number of the object to which it leads (File Format Specification 3.0, section III.C).
use Rattle.std.specs.Prelude.{ℕ, List}
use Rattle.h5_model.specs.Tree.Objects.{ToObject, Soft}
use Rattle.h5_model.specs.Tree.Objects as tree
use Rattle.h5_model.specs.declared.link.Link.{Link}
use Rattle.h5_model.specs.declared.link.LinkTo.{LinkTo}
use Rattle.h5_model.specs.declared.link.LinkTo.TheVariants as to
use Rattle.h5_model.specs.declared.object_no.ObjectNo.{ObjectNo}

abbrev pub tree_target : LinkTo ObjectNo → tree.Link
tree_target (to.Object number) = ToObject number.0
tree_target (to.Soft text) = Soft text.now

abbrev pub tree_link : Link ObjectNo → List ℕ × tree.Link
tree_link l = (l.name.now, tree_target l.to)
