use Rattle.std.proofs.Common.{◌≡◌, ◌++◌, drop, map}
use Rattle.h5_heap.specs.Writing.Links.{name_and_leads}
use Rattle.h5_heap.proofs.WriteLaws.Lengths.{link_texts}
use Rattle.h5_heap.proofs.write.heap.push_texts.Given as goal

-- the texts so far, with those to come
abbrev pub invariant-loop-link : goal.invariant-loop-link
invariant-loop-link l = l.out.items ++ link_texts (map name_and_leads (drop l.link-index l.links)) ≡ l.initial.out.items ++ link_texts (map name_and_leads l.links)
