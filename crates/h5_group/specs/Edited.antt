-- A group between the steps of an edit in place (File Format Specification 3.0, sections III.A.1, III.B and III.D).
use Rattle.std.specs.Prelude.{◌≡◌, ◌≢◌, ℕ, ◌^◌, ◌<◌, ◌≤◌, ◌==◌, if◌then◌else◌, IsTrue, List, [], ◌∷◌, ◌++◌, length, slice_index}
use Rattle.std.specs.List.{AllByRecursion}
use Rattle.h5_bytes.specs.Blocks.{block}
use Rattle.h5_bytes.specs.Texts.{text_at}
use Rattle.h5_bytes.specs.declared.Block.{Block}
use Rattle.h5_model.specs.Format.Addresses.{SymbolTable}
use Rattle.h5_model.specs.Format.Superblock.{leaf_k, internal_k, k_values, superblock_length, highest_k}
use Rattle.h5_model.specs.Format.Heap.{segment_of}
use Rattle.h5_model.specs.Format.Nodes.{node_at}
use Rattle.h5_model.specs.Format.Symbols.{Entry, IsEntry, Target, link_of, symbols_at}
use Rattle.h5_model.specs.Format.Links.{HasLinks, IsBetween, key_offsets}
use Rattle.h5_model.specs.Tree.Paths.{is_name}
use Rattle.h5_space.specs.Space.{Space}
use Rattle.h5_space.specs.Moves.{Moves}
use Rattle.h5_space.specs.Whole.{IsApart}
use Rattle.h5_btree.specs.Removal.{EndsInTree}
use Rattle.h5_btree.specs.declared.way.Step.{Step}
use Rattle.h5_group.specs.Nodes.Trees.{kind_in}

-- where the superblock stands
abbrev pub superblock_block : List ℕ → Block
superblock_block image = block 0 (superblock_length image)

-- The group at this tree and heap has these links, in these blocks, which share no byte with each other, with the superblock or with a free
-- block. Besides the texts that links name its heap keeps these spare ones, each on its own: keys may name them.
pub record IsGroupIn (s : Space) (table : SymbolTable) (links : List (List ℕ × Target)) (spare : List ℕ) (blocks : List Block) : Type 0 where
  pub linked : HasLinks s.bytes (leaf_k s.bytes) (internal_k s.bytes) table.tree table.heap links blocks
  pub more : List ℕ
  pub spared : linked.listed.loose ≡ spare ++ more
  pub apart : IsApart (superblock_block s.bytes ∷ blocks) s.free (length s.bytes)
  pub long : superblock_length s.bytes ≤ length s.bytes
  pub leaf_some : 1 ≤ leaf_k s.bytes
  pub leaf_few : leaf_k s.bytes ≤ highest_k
  pub some : 1 ≤ internal_k s.bytes
  pub few : internal_k s.bytes ≤ highest_k
  pub short : length s.bytes < 2 ^ 63

-- A step of an edit: the group has these links and keeps these texts then, its blocks were moved, and the image has the same version of the
-- superblock and says the same K values.
pub record HasGroupMoved (old new : Space) (table : SymbolTable) (before : List Block) (links : List (List ℕ × Target)) (spare : List ℕ) : Type 0 where
  pub blocks : List Block
  pub group : IsGroupIn new table links spare blocks
  pub moves : Moves old new before blocks
  pub k : k_values new.bytes ≡ k_values old.bytes

-- it has some links
abbrev pub IsSomeGroup : Space → SymbolTable → List ℕ → Type 0
IsSomeGroup s table spare = (links : List (List ℕ × Target)) × (blocks : List Block) × IsGroupIn s table links spare blocks

-- the text at an offset of the group's heap
abbrev pub heap_text : Space → SymbolTable → ℕ → List ℕ
heap_text s table offset = text_at (segment_of s.bytes table.heap) offset

-- The way ends in the group's tree, and this name lies between the keys around each child on it.
pub record IsWayFor (s : Space) (table : SymbolTable) (name : List ℕ) (way : List Step) : Type 0 where
  pub level : ℕ
  pub owned : List ℕ
  pub symbol_nodes : List ℕ
  pub number : ℕ
  pub ends : EndsInTree s (kind_in s.bytes) table.tree level way owned symbol_nodes number
  pub between : AllByRecursion (λ (step : Step).
      IsBetween (segment_of s.bytes table.heap) (node_at s.bytes (kind_in s.bytes) step.node) step.place name) way

-- the symbol node to which a way leads
abbrev pub node_below : Space → SymbolTable → Step → ℕ
node_below s table step = slice_index (node_at s.bytes (kind_in s.bytes) step.node).children step.place

-- the entries in it
abbrev pub entries_below : Space → SymbolTable → Step → List Entry
entries_below s table step = symbols_at s.bytes (leaf_k s.bytes) (node_below s table step)

-- the offsets of the texts that an entry names
abbrev pub offsets_of : Entry → List ℕ
offsets_of e = e.name ∷ (if e.cache == 2 then e.text ∷ [] else [])

-- one link more, and one less, wherever it stands: links ascend by their names
pub record IsLinkPut (link : List ℕ × Target) (old new : List (List ℕ × Target)) : Type 0 where
  pub front : List (List ℕ × Target)
  pub back : List (List ℕ × Target)
  pub before : old ≡ front ++ back
  pub after : new ≡ front ++ link ∷ back

-- no link has this name
abbrev pub IsNewName : List ℕ → List (List ℕ × Target) → Type 0
IsNewName name links = AllByRecursion (λ (l : List ℕ × Target). l.0 ≢ name) links

-- no key of the group's tree names this offset
abbrev pub IsNamedByNoKey : (s : Space) (table : SymbolTable) (links : List (List ℕ × Target)) (spare : List ℕ) (blocks : List Block)
    → IsGroupIn s table links spare blocks → ℕ → Type 0
IsNamedByNoKey s table links spare blocks group offset =
    AllByRecursion (λ key. key ≢ offset) (key_offsets (node_at s.bytes (kind_in s.bytes)) (group.linked).owned)

-- ---- an entry comes in

-- The texts that an entry names are spare, the first of them is a name, and no link has this name.
pub record IsEntryFor (s : Space) (table : SymbolTable) (e : Entry) : Type 0 where
  pub links : List (List ℕ × Target)
  pub spare : List ℕ
  pub blocks : List Block
  pub group : IsGroupIn s table links (offsets_of e ++ spare) blocks
  pub new_name : IsNewName (heap_text s table e.name) links
  pub named : IsTrue (is_name (heap_text s table e.name))
  pub known : IsEntry e

-- its link is one of the group's then, and these texts are spare no more
abbrev pub HasEntryPut : Space → Space → SymbolTable → Entry → Type 0
HasEntryPut old new table e = (links : List (List ℕ × Target)) (spare : List ℕ) (blocks : List Block)
    → IsGroupIn old table links (offsets_of e ++ spare) blocks → IsNewName (heap_text old table e.name) links
    → (links' : List (List ℕ × Target)) × IsLinkPut (link_of (segment_of old.bytes table.heap) e) links links'
    × HasGroupMoved old new table blocks links' spare

-- ---- an entry goes

-- The link of an entry is the group's no more, and the texts that it named are spare.
abbrev pub HasEntryTaken : Space → Space → SymbolTable → Entry → Type 0
HasEntryTaken old new table e = (links : List (List ℕ × Target)) (spare : List ℕ) (blocks : List Block)
    → IsGroupIn old table links spare blocks
    → (links' : List (List ℕ × Target)) × IsLinkPut (link_of (segment_of old.bytes table.heap) e) links' links
    × HasGroupMoved old new table blocks links' (offsets_of e ++ spare)

-- ---- links stay

-- the group has the same links, and the same texts are spare
abbrev pub HasGroupStayed : Space → Space → SymbolTable → Type 0
HasGroupStayed old new table = (links : List (List ℕ × Target)) (spare : List ℕ) (blocks : List Block)
    → IsGroupIn old table links spare blocks → HasGroupMoved old new table blocks links spare
