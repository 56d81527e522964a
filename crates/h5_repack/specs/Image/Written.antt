-- The plain image of a tree: the superblock, and then its objects in some order, the root first, each with what belongs to it, without
-- gaps (File Format Specification 3.0, sections II.A, III and IV.A).
use Rattle.std.specs.Prelude.{◌≡◌, ℕ, ◌+◌, ◌*◌, if◌then◌else◌, Option, Some, None, List, [], ◌∷◌, ◌++◌, map, length}
use Rattle.std.specs.Ordering.{nat_cmp, eq_by_cmp}
use Rattle.std.specs.FinMap.{FinMap, get, entries, len, from_entries}
use Rattle.std.specs.List.{flat_map, Contains, IsDistinct}
use Rattle.std.specs.Option.{option_map_or}
use Rattle.h5_model.specs.Format.Bodies.{pair_bytes}
use Rattle.h5_model.specs.Format.MessageTypes.{symbol_table_kind}
use Rattle.h5_model.specs.Format.Plain.{superblock_bytes, plain_superblock_length, header_bytes}
use Rattle.h5_model.specs.Format.PlainLength.{content_bytes, nodes_over, rows_of}
use Rattle.h5_model.specs.Format.Superblock.{chunk_k_of}
use Rattle.h5_model.specs.Format.Sizes.{group_node, header_size}
use Rattle.h5_model.specs.Tree.Objects.{Tree, Object, Content, Group, Array, Dataset, Link, Links, ToObject, Soft, hard_links}
use Rattle.h5_repack.specs.Bodies.Bodies.{others_of, array_messages}
use Rattle.h5_repack.specs.Bodies.Headers.{is_stored, data_of}
use Rattle.h5_model.specs.declared.k_values.KValues.{KValues}
use Rattle.h5_group.specs.Heap.Links.{Leads, ToGroup, ToArray, ToText}
use Rattle.h5_group.specs.Writing.Written.{links_bytes}

-- these are the objects of a tree, in some order, with the root first
pub record IsOrder (tree : Tree) (order : List (ℕ × Object)) : Type 0 where
  pub root : Object
  pub others : List (ℕ × Object)
  pub first : order ≡ (0, root) ∷ others
  pub each : (number : ℕ) (o : Object) → Contains order (number, o) → get tree number ≡ Some o
  pub all : (number : ℕ) (o : Object) → get tree number ≡ Some o → Contains order (number, o)
  pub distinct : IsDistinct (eq_by_cmp nat_cmp) (map (λ x. x.0) order)

-- ---- stored chunks

-- the offsets of the stored chunks of each object, by its number; those alone count that have an array in chunks
abbrev pub StoredIn : Type 0
StoredIn = ℕ → List (List ℕ)

-- how many each object has
abbrev pub counts_of : StoredIn → ℕ → ℕ
counts_of stored number = length (stored number)

-- ---- places

-- how many bytes an object with so many stored chunks has, its header and what belongs to it
abbrev pub object_length : KValues → ℕ → Object → ℕ
object_length k count o = header_size o + content_bytes k count o.content

-- where the header of each object stands, the first at this place
abbrev pub headers_from : KValues → (ℕ → ℕ) → ℕ → List (ℕ × Object) → List (ℕ × ℕ)
headers_from k counts at [] = []
headers_from k counts at ((number, o) ∷ order) =
    (number, at) ∷ headers_from k counts (at + object_length k (counts number) o) order

abbrev pub end_from : KValues → (ℕ → ℕ) → ℕ → List (ℕ × Object) → ℕ
end_from k counts at [] = at
end_from k counts at ((number, o) ∷ order) = end_from k counts (at + object_length k (counts number) o) order

-- by the objects' numbers, behind the superblock
abbrev pub table_of : KValues → (ℕ → ℕ) → List (ℕ × Object) → FinMap nat_cmp ℕ
table_of k counts order = from_entries (headers_from k counts (plain_superblock_length k) order)

abbrev pub image_end : KValues → (ℕ → ℕ) → List (ℕ × Object) → ℕ
image_end k counts order = end_from k counts (plain_superblock_length k) order

-- what belongs to an object stands behind its header
abbrev pub content_place : Object → ℕ → ℕ
content_place o header = header + header_size o

-- a group's heap stands behind its tree
abbrev pub group_heap_place : KValues → Object → Links → ℕ → ℕ
group_heap_place k o links header =
    content_place o header + nodes_over 64 (2 * k.internal) (rows_of (2 * k.leaf) (len links)) * group_node k.internal

-- ---- bytes

-- where a link to this object, whose header stands there, leads
abbrev pub leads_to_object : KValues → Object → ℕ → Leads
leads_to_object k o header = by_content o.content where
  by_content : Content → Leads
  by_content (Group links) = ToGroup header (content_place o header) (group_heap_place k o links header)
  by_content (Array d) = ToArray header

abbrev pub header_in : FinMap nat_cmp ℕ → ℕ → ℕ
header_in table number = option_map_or (λ header. header) (get table number) 0

-- a link of the tree as it is written
abbrev pub written_link : KValues → Tree → FinMap nat_cmp ℕ → List ℕ × Link → List ℕ × Leads
written_link k tree table (name, ToObject number) =
    (name, option_map_or (λ o. leads_to_object k o (header_in table number)) (get tree number) (ToArray 0))
written_link k tree table (name, Soft text) = (name, ToText text)

abbrev pub written_links : KValues → Tree → FinMap nat_cmp ℕ → Links → List (List ℕ × Leads)
written_links k tree table links = map (written_link k tree table) (entries links)

-- data that are not stored stand nowhere, nor does a tree of no chunk
abbrev pub data_address : List (List ℕ) → Dataset → ℕ → Option ℕ
data_address stored d place = if is_stored stored d.storage then Some place else None

-- an object whose header stands there: a header of one block with as many links as there are, and what belongs to it
abbrev pub object_bytes : KValues → StoredIn → Tree → FinMap nat_cmp ℕ → ℕ × Object → List ℕ
object_bytes k stored tree table (number, o) = by_content o.content where
  by_content : Content → List ℕ
  by_content (Group links) =
      header_bytes 1 ((symbol_table_kind, pair_bytes (content_place o (header_in table number)) (group_heap_place k o links (header_in table number))) ∷ others_of o)
      ++ links_bytes k.leaf k.internal (content_place o (header_in table number)) (written_links k tree table links)
  by_content (Array d) =
      header_bytes (hard_links tree number)
      (array_messages d (data_address (stored number) d (content_place o (header_in table number))) (length (others_of o)) ++ others_of o)
      ++ data_of (chunk_k_of k) (stored number) d (content_place o (header_in table number))

-- the root's tree and heap, as its entry in the superblock says
abbrev pub root_heap : KValues → Object → ℕ
root_heap k o = by_content o.content where
  by_content : Content → ℕ
  by_content (Group links) = group_heap_place k o links (plain_superblock_length k)
  by_content (Array d) = 0

abbrev pub superblock_of : KValues → (ℕ → ℕ) → List (ℕ × Object) → List ℕ
superblock_of k counts [] = []
superblock_of k counts ((number, o) ∷ order) =
    superblock_bytes k (image_end k counts ((number, o) ∷ order)) (plain_superblock_length k) (content_place o (plain_superblock_length k))
    (root_heap k o)

unfoldable pub plain_image : KValues → StoredIn → Tree → List (ℕ × Object) → List ℕ
plain_image k stored tree order =
    superblock_of k (counts_of stored) order
    ++ flat_map (object_bytes k stored tree (table_of k (counts_of stored) order)) order
