-- How long the image of a tree is when it is written anew: the superblock, and then for each object its header with what belongs to
-- it, without gaps. What the tree doesn't say is given: the K values, and how many chunks of each object are stored.
use Rattle.std.specs.Prelude.{ℕ, zero, suc, ◌+◌, ◌-◌, ◌*◌, ◌/◌, ◌==◌, nat_le, if◌then◌else◌, List, length, sum_by}
use Rattle.std.specs.FinMap.{entries, len}
use Rattle.h5_model.specs.Tree.Places.{cells}
use Rattle.h5_model.specs.Tree.Objects.{Tree, Link, ToObject, Soft, Links, Content, Group, Array, Dataset, Storage, Compact, Contiguous, Chunked}
use Rattle.h5_model.specs.Format.Superblock.{chunk_k_of}
use Rattle.h5_model.specs.Format.Plain.{plain_superblock_length}
use Rattle.h5_model.specs.Format.Sizes.{group_node, chunk_node, symbol_node, text_span, header_size}
use Rattle.h5_model.specs.declared.k_values.KValues.{KValues}

-- how many rows of at most m take n
abbrev pub rows_of : ℕ → ℕ → ℕ
rows_of m n = (n + m - 1) / m

-- how many nodes of at most m children stand over n children, level by level up to one root
abbrev pub nodes_over : ℕ → ℕ → ℕ → ℕ
nodes_over zero m n = 0
nodes_over (suc levels) m n = if nat_le n m then 1 else rows_of m n + nodes_over levels m (rows_of m n)

abbrev pub link_span : (List ℕ × Link) → ℕ
link_span (name, ToObject number) = text_span name
link_span (name, Soft text) = text_span name + text_span text

-- the empty name and the links' spans
abbrev pub used_bytes : Links → ℕ
used_bytes links = 8 + sum_by link_span (entries links)

-- the segment: a free block follows where at most 72 bytes are used
abbrev pub plain_segment_size : Links → ℕ
plain_segment_size links = if nat_le (used_bytes links) 72 then 88 else used_bytes links

-- a group's nodes, heap and symbol nodes
abbrev pub group_bytes : ℕ → ℕ → Links → ℕ
group_bytes leaf_k internal_k links =
    nodes_over 64 (2 * internal_k) (rows_of (2 * leaf_k) (len links)) * group_node internal_k + 32 + plain_segment_size links
    + rows_of (2 * leaf_k) (len links) * symbol_node leaf_k

-- a dataset's data outside its header, with so many stored chunks
abbrev pub data_bytes : ℕ → ℕ → Dataset → ℕ
data_bytes chunk_k stored d = of_storage d.storage where
  of_storage : Storage → ℕ
  of_storage Compact = 0
  of_storage (Contiguous is_stored) = if is_stored then cells d.sizes * (d.fixed).size else 0
  of_storage (Chunked chunk) = if stored == 0 then 0
      else nodes_over 64 (2 * chunk_k) stored * chunk_node chunk_k (length chunk) + stored * (cells chunk * (d.fixed).size)

abbrev pub content_bytes : KValues → ℕ → Content → ℕ
content_bytes k stored (Group links) = group_bytes k.leaf k.internal links
content_bytes k stored (Array d) = data_bytes (chunk_k_of k) stored d

unfoldable pub plain_length : KValues → (ℕ → ℕ) → Tree → ℕ
plain_length k stored tree =
    plain_superblock_length k + sum_by (λ e. header_size e.1 + content_bytes k (stored e.0) (e.1).content) (entries tree)
