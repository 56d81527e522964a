-- The links of a group that was read (File Format Specification 3.0, sections III.A.1, III.B and III.D).
use Rattle.std.specs.Prelude.{◌≡◌, ℕ, ◌+◌, ◌≤◌, List, length}
use Rattle.std.specs.List.{Contains}
use Rattle.h5_bytes.specs.Blocks.{cover, Inside}
use Rattle.h5_bytes.specs.declared.Block.{Block}
use Rattle.h5_model.specs.Format.Addresses.{SymbolTable}
use Rattle.h5_model.specs.Format.Superblock.{leaf_k, internal_k, highest_k}
use Rattle.h5_model.specs.Format.Symbols.{Target, Header, Text}
use Rattle.h5_model.specs.Format.Links.{HasLinks}
use Rattle.h5_group.specs.Told.{links_told, blocks_told}
use Rattle.h5_model.specs.declared.link.Link.{Link}
use Rattle.h5_model.specs.declared.link.LinkTo.{LinkTo}
use Rattle.h5_model.specs.declared.link.LinkTo.TheVariants as target
use Rattle.h5_bytes.specs.Texts.{text_at}
use Rattle.h5_snod.specs.declared.entry.SymbolEntry.{SymbolEntry}
use Rattle.h5_snod.specs.declared.entry.SymbolTarget.{SymbolTarget}
use Rattle.h5_snod.specs.declared.entry.SymbolTarget.TheVariants as said

-- The group at this tree and heap stands in the image, with the links that are told of it in the blocks that are told.
pub record IsGroupRead (image : List ℕ) (table : SymbolTable) : Type 0 where
  pub linked : HasLinks image (leaf_k image) (internal_k image) table.tree table.heap (links_told image table) (blocks_told image table)
  pub inside : Inside (length image) (blocks_told image table)
  -- K is one that a tree of groups may have
  pub few : internal_k image ≤ highest_k

-- A group stands at this tree and heap, in blocks that lie in the image and share no byte with each other or with what was claimed.
pub record IsGroupReadable (image : List ℕ) (table : SymbolTable) (held : List Block) : Type 0 where
  pub links : List (List ℕ × Target)
  pub blocks : List Block
  pub has : HasLinks image (leaf_k image) (internal_k image) table.tree table.heap links blocks
  pub inside : Inside (length image) blocks
  pub separate : (p : ℕ) → cover p held + cover p blocks ≤ 1

-- where a link leads, as the file has it
abbrev pub lent_target : LinkTo ℕ → Target
lent_target (target.Object header) = Header header
lent_target (target.Soft text) = Text text.now

-- a link, as the file has it
abbrev pub lent_link : Link ℕ → List ℕ × Target
lent_link l = (l.name.now, lent_target l.to)

-- the group has this link, of this name
abbrev pub IsLinkNamed : List ℕ → SymbolTable → List ℕ → Link ℕ → Type 0
IsLinkNamed image table name l = Contains (links_told image table) (lent_link l) × (l.name.now ≡ name)

-- the group has no link of this name
abbrev pub HasNone : List ℕ → SymbolTable → List ℕ → Type 0
HasNone image table name = (t : Target) → Contains (links_told image table) (name, t) → ⊥

-- where an entry says that its link leads; a soft link's text stands in this segment
abbrev pub target_said : List ℕ → SymbolTarget → Target
target_said segment (said.Header header) = Header header
target_said segment (said.Text offset) = Text (text_at segment offset)

-- the link that an entry says, whose texts stand in this segment
abbrev pub link_said : List ℕ → SymbolEntry → List ℕ × Target
link_said segment e = (text_at segment e.name, target_said segment e.target)
