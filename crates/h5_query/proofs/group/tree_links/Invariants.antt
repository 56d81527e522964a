use Rattle.std.proofs.Common.{◌≡◌, ◌++◌, map}
use Rattle.std.specs.List.{AllByRecursion}
use Rattle.h5_model.specs.Tree.Links.{tree_link}
use Rattle.h5_query.specs.Listed.{IsLinkLed, in_tree}
use Rattle.h5_query.proofs.group.tree_links.Given as goal

-- the links so far, and those that are left
abbrev pub invariant-loop-link : goal.invariant-loop-link
invariant-loop-link l = record {
  all : map tree_link l.links.items ++ map (in_tree l.opened.table) l.link-iterator ≡ map (in_tree l.opened.table) l.initial.link-iterator;
  led : AllByRecursion (IsLinkLed l.opened.table) l.link-iterator;
}
