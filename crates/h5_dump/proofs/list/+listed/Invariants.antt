use Rattle.std.proofs.Common.{◌≡◌, ◌+◌, ◌*◌, ◌++◌, map, take}
use Rattle.std.specs.List.{flat_map}
use Rattle.h5_model.specs.Tree.Links.{tree_link}
use Rattle.h5_dump.specs.Listing.{lines_of_link}
use Rattle.h5_dump.proofs.list.+listed.Given as goal

abbrev pub decreases-push_links : goal.decreases-push_links
decreases-push_links l = 2 * l.depth + 1

abbrev pub decreases-push_object : goal.decreases-push_object
decreases-push_object l = 2 * l.depth

abbrev pub invariant-push_links-loop-link : goal.invariant-push_links-loop-link
invariant-push_links-loop-link l = record {
  lines : l.text.items ≡ l.fn.text.items ++ flat_map (lines_of_link l.file.tree l.depth l.fn.path.items) (map tree_link (take l.link-index l.links));
  path : l.path.items ≡ l.fn.path.items;
}
