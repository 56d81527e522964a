-- What is shown of a group's links in the plain layout: where their bytes stand, a group has these links (File Format Specification
-- 3.0, sections III.A.1, III.B and III.D).
use Rattle.std.specs.Prelude.{◌≡◌, ℕ, ◌+◌, ◌≤◌, true, List, length, map}
use Rattle.std.specs.List.{AllByRecursion, AllZip}
use Rattle.std.specs.FinMap.{entries}
use Rattle.h5_bytes.specs.Bytes.{part}
use Rattle.h5_bytes.specs.Blocks.{Inside, cover, holds}
use Rattle.h5_bytes.specs.declared.Block.{Block}
use Rattle.h5_model.specs.Format.Limits.{most_bytes, highest_level}
use Rattle.h5_model.specs.Format.Links.{HasLinks, Ascend}
use Rattle.h5_model.specs.Tree.Paths.{is_name}
use Rattle.h5_model.specs.Format.PlainLength.{group_bytes}
use Rattle.h5_model.specs.Tree.Objects.{Link, Links, ToObject, Soft}
use Rattle.h5_model.specs.Format.Superblock.{AreK}
use Rattle.h5_heap.specs.Writing.Links.{Leads, ToGroup, ToArray, ToText, target_link}
use Rattle.h5_heap.specs.Writing.Laws.{IsSpelled}
use Rattle.h5_group.specs.Writing.Written.{links_bytes, links_length, heap_place, tree_level}

-- names ascend, and each is one; texts and addresses fit
pub record ArePlainLinks (leaf internal : ℕ) (links : List (List ℕ × Leads)) : Type 0 where
  pub k : AreK leaf internal
  pub ascending : Ascend (map target_link links)
  pub named : AllByRecursion (λ (l : List ℕ × Leads). is_name l.0 ≡ true) links
  pub spelled : AllByRecursion IsSpelled links
  pub low : tree_level leaf internal links ≤ highest_level

-- the group has these links, in blocks that hold each of its bytes once
pub record IsPlainGroup (image : List ℕ) (leaf internal at : ℕ) (links : List (List ℕ × Leads)) : Type 0 where
  pub blocks : List Block
  pub linked : HasLinks image leaf internal at (heap_place leaf internal at links) (map target_link links) blocks
  pub covered : (p : ℕ) → cover p blocks ≡ holds p at (links_length leaf internal links)
  pub within : Inside (at + links_length leaf internal links) blocks

abbrev pub LinksRead : Type 0
LinksRead = (image : List ℕ) (leaf internal at : ℕ) (links : List (List ℕ × Leads)) → ArePlainLinks leaf internal links
    → at + links_length leaf internal links ≤ most_bytes
    → part at (links_length leaf internal links) image ≡ links_bytes leaf internal at links → IsPlainGroup image leaf internal at links

abbrev pub LinksLength : Type 0
LinksLength = (leaf internal at : ℕ) (links : List (List ℕ × Leads)) → ArePlainLinks leaf internal links
    → length (links_bytes leaf internal at links) ≡ links_length leaf internal links

-- a link of a tree as it is written
abbrev pub IsLinkWritten : List ℕ × Link → List ℕ × Leads → Type 0
IsLinkWritten (name, ToObject number) (name', ToGroup header tree heap) = name ≡ name'
IsLinkWritten (name, ToObject number) (name', ToArray header) = name ≡ name'
IsLinkWritten (name, Soft text) (name', ToText text') = (name ≡ name') × (text ≡ text')
IsLinkWritten _ _ = ⊥

-- it is the length of the group's own bytes in the plain layout of a tree
abbrev pub GroupLength : Type 0
GroupLength = (leaf internal : ℕ) (group : Links) (links : List (List ℕ × Leads)) → AllZip IsLinkWritten (entries group) links
    → links_length leaf internal links ≡ group_bytes leaf internal group
