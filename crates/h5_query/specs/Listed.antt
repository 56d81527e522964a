-- The links of a group, as they are listed.
use Rattle.std.specs.Prelude.{◌≡◌, ℕ, Some, None, List, map}
use Rattle.std.specs.Ordering.{nat_cmp}
use Rattle.std.specs.FinMap.{FinMap, entries}
use Rattle.h5_model.specs.Tree.Objects.{Tree, Links, links_of}
use Rattle.h5_model.specs.Tree.Objects as tree
use Rattle.h5_open.specs.Links.{lent_target}
use Rattle.h5_model.specs.declared.link.Link.{Link}
use Rattle.h5_model.specs.declared.link.LinkTo.{LinkTo}
use Rattle.h5_model.specs.Format.Symbols.{Target, Header, Text}
use Rattle.h5_open.specs.Opened.Objects.{link_to}
use Rattle.h5_open.specs.Opened.Sound.{IsHeaderIn}
use Rattle.h5_model.specs.declared.object_no.ObjectNo.{ObjectNo}
use Rattle.h5_model.specs.Tree.Links.{tree_link}

-- no group has this number
abbrev pub IsNoGroup : Tree → ℕ → Type 0
IsNoGroup whole number = links_of whole number ≡ None

-- the group of this number has these links, in this order
abbrev pub AreGroupLinks : Tree → ℕ → List (Link ObjectNo) → Type 0
AreGroupLinks whole number links = (all : Links) × (links_of whole number ≡ Some all) × (map tree_link links ≡ entries all)

-- ---- the links of the file

-- the header of the link is an object's
abbrev pub IsTargetLed : FinMap nat_cmp ℕ → Target → Type 0
IsTargetLed table (Header header) = IsHeaderIn table header
IsTargetLed table (Text text) = Unit {0}

abbrev pub IsLinkLed : FinMap nat_cmp ℕ → List ℕ × Target → Type 0
IsLinkLed table l = IsTargetLed table l.1

-- a link of the tree, with the number of the object whose header stands there
abbrev pub target_in : FinMap nat_cmp ℕ → LinkTo ℕ → tree.Link
target_in table t = link_to table (lent_target t)

abbrev pub in_tree : FinMap nat_cmp ℕ → List ℕ × Target → List ℕ × tree.Link
in_tree table l = (l.0, link_to table l.1)
