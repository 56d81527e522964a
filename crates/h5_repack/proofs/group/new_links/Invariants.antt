use Rattle.std.proofs.Common.{◌≡◌, map, take}
use Rattle.h5_group.specs.Heap.Links.{name_and_leads}
use Rattle.h5_model.specs.Tree.Links.{tree_link}
use Rattle.h5_repack.specs.Layout.{written_at}
use Rattle.h5_repack.proofs.group.new_links.Given as goal

-- the links so far
abbrev pub invariant-loop-link : goal.invariant-loop-link
invariant-loop-link l = map name_and_leads l.new.items ≡ map (written_at l.layout) (map tree_link (take l.link-index l.links))
