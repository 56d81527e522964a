use Rattle.std.proofs.Common.{◌≡◌, ◌-◌, ◌≤◌, drop, length}
use Rattle.h5_group.specs.LinksLeft.{AreSymbolsThere, links_left}
use Rattle.h5_group.proofs.list.LinksIterator.next.Given as goal

-- no link was given, and the same ones are left
abbrev pub invariant-loop-link : goal.invariant-loop-link
invariant-loop-link l =
    let was = l.initial.self-inside in
    let now = l.self-inside in
    record {
      image : now.image.now ≡ was.image.now;
      segment : now.segment.now ≡ was.segment.now;
      there : AreSymbolsThere now.image.now.bytes (drop now.begun now.nodes.items);
      begun : now.begun ≤ length now.nodes.items;
      left : links_left now.image.now.bytes now.segment.now now.node now.place (drop now.begun now.nodes.items)
          ≡ links_left was.image.now.bytes was.segment.now was.node was.place (drop was.begun was.nodes.items);
    }

abbrev pub decreases-loop-link : goal.decreases-loop-link
decreases-loop-link l = length l.self-inside.nodes.items - l.self-inside.begun
