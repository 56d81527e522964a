-- In what the two forms of trees agree, as far as a walk sees them.
use Rattle.std.proofs.Common.{◌≡◌, ℕ, suc, ◌+◌, ◌-◌, ◌*◌, ◌<◌, ◌≤◌, inl, inr, List, [], length, refl, sym, subst, arith}
use Rattle.std.specs.Prelude.{false, ◌==◌, if◌then◌else◌, slice_index_or}
use Rattle.std.proofs.Math.Nat.{mul-le-mul_right}
use Rattle.h5_bytes.specs.Bytes.{part}
use Rattle.h5_model.specs.Format.Limits.{highest_level}
use Rattle.h5_model.specs.Format.Superblock.{IsSuperblock, leaf_k, highest_k}
use Rattle.h5_model.specs.Format.Symbols.{IsEntry, entry_of, symbol_bytes, symbols_at, symbols_in}
use Rattle.h5_model.specs.Format.Nodes.{node_at, node_bytes, node_length, key_in, entries_in}
use Rattle.h5_model.specs.Format.Chunks.{IsChunkKey}
use Rattle.h5_model.specs.Format.Reached.{Named, naming_of, FromNode, Names, entry_in, length_of, shape_kind}
use Rattle.h5_model.specs.Faults.TreeFaults.{NodeBreach, SiblingBreach}
use Rattle.h5_model.specs.Faults.Breaches.{is_header, ReachedBreach}
use Rattle.h5_model.specs.declared.open_fault.Cause.TheVariants.{NodeForm, Sibling, ChunkKey}
use Rattle.h5_laws.proofs.Lists.{in_all, in_table}
use Rattle.h5_btree.proofs.NodeLaws.{length-children, length-keys, key_is}
use Rattle.h5_btree.specs.Walk.Forms.{TreeForm, OfGroup, OfChunks, kind_of, node_role, leaf_role, leaf_length, IsFormed, LeafBreach, IsKeyedAt}
use Rattle.h5_btree.proofs.WalkLaws.Prefix.{got_is}

pub node_long : (image : List ℕ) (form : TreeForm) (field root heap level at depth : ℕ)
    → length_of image (naming_of field (node_role form root heap level) at depth) ≡ node_length (kind_of image form)
node_long image OfGroup field root heap level at depth = refl
node_long image (OfChunks shape) field root heap level at depth = refl

-- K in an image with a superblock
pub kind_few : (image : List ℕ) (form : TreeForm) → IsSuperblock image → (kind_of image form).k ≤ highest_k
kind_few image OfGroup superblock = superblock.internal_high
kind_few image (OfChunks shape) superblock = superblock.chunk_high

pub leaf_long : (image : List ℕ) (form : TreeForm) (field root heap at depth : ℕ)
    → length_of image (naming_of field (leaf_role form root heap) at depth) ≡ leaf_length image form
leaf_long image OfGroup field root heap at depth = refl
leaf_long image (OfChunks shape) field root heap at depth = refl

-- neither a node nor a leaf is a header
pub node_inner : (form : TreeForm) (root heap level : ℕ) → is_header (node_role form root heap level) ≡ false
node_inner OfGroup root heap level = refl
node_inner (OfChunks shape) root heap level = refl

pub leaf_inner : (form : TreeForm) (root heap : ℕ) → is_header (leaf_role form root heap) ≡ false
leaf_inner OfGroup root heap = refl
leaf_inner (OfChunks shape) root heap = refl

-- a child of a node is named by it
pub names_child : (image : List ℕ) (form : TreeForm) (root heap level node depth : ℕ) (y : Named) → level ≤ highest_level
    → FromNode image (kind_of image form) (if level == 0 then leaf_role form root heap else node_role form root heap (level - 1)) node depth y
    → Names image (node_role form root heap level) node depth y
names_child image OfGroup root heap level node depth y high from = (high, from)
names_child image (OfChunks shape) root heap level node depth y high from = (high, from)

-- ---- what breaks a rule, of a block that is there

pub node_broken : (image : List ℕ) (form : TreeForm) (field root heap level at depth : ℕ) → at + node_length (kind_of image form) ≤ length image
    → NodeBreach image (kind_of image form) root level at → ReachedBreach image (naming_of field (node_role form root heap level) at depth) NodeForm
node_broken image OfGroup field root heap level at depth there breach = (there, breach)
node_broken image (OfChunks shape) field root heap level at depth there breach = (there, breach)

pub siblings_broken : (image : List ℕ) (form : TreeForm) (field root heap level at depth : ℕ) → at + node_length (kind_of image form) ≤ length image
    → SiblingBreach image (kind_of image form) root at → ReachedBreach image (naming_of field (node_role form root heap level) at depth) Sibling
siblings_broken image OfGroup field root heap level at depth there breach = (there, breach)
siblings_broken image (OfChunks shape) field root heap level at depth there breach = (there, breach)

pub leaf_broken : (image : List ℕ) (form : TreeForm) (field root heap at depth : ℕ) → at + leaf_length image form ≤ length image
    → LeafBreach image form at → ReachedBreach image (naming_of field (leaf_role form root heap) at depth) NodeForm
leaf_broken image OfGroup field root heap at depth there breach = (there, breach)
leaf_broken image (OfChunks shape) field root heap at depth there breach = absurd breach

pub key_broken : (image : List ℕ) (form : TreeForm) (field root heap at depth i : ℕ) → at + node_length (kind_of image form) ≤ length image
    → i < length (node_at image (kind_of image form) at).children → (IsKeyedAt form (node_at image (kind_of image form) at) i → ⊥)
    → ReachedBreach image (naming_of field (node_role form root heap 0) at depth) ChunkKey
key_broken image OfGroup field root heap at depth i there low wrong = absurd (wrong tt)
key_broken image (OfChunks shape) field root heap at depth i there low wrong =
    let kind = shape_kind image shape in
    let bytes = node_bytes image kind at in
    let node = node_at image kind at in
    let count : entries_in bytes ≡ length node.children = length-children kind bytes node refl in
    let more : entries_in bytes + 1 ≡ length node.keys = length-keys kind bytes node refl in
    let few : i < length node.keys = omega (arith, count, more, low) in
    let is : slice_index_or node.keys i [] ≡ key_in kind bytes i = got_is node.keys i (key_in kind bytes i) [] few (key_is kind bytes node refl i few) in
    (there, (refl, (i, omega (arith, count, low), λ key. wrong (subst (IsChunkKey shape.sizes shape.bytes) (sym is) key))))

-- a leaf of its form breaks no rule of it
pub leaf_formed : (image : List ℕ) (form : TreeForm) (at : ℕ) → IsFormed image form at → LeafBreach image form at → ⊥
leaf_formed image OfGroup at formed (inl signature) = signature (formed.0).signed
leaf_formed image OfGroup at formed (inr (inl version)) = version (formed.0).version
leaf_formed image OfGroup at formed (inr (inr (inl many))) = absurd (omega (arith, many, (formed.0).roomy))
leaf_formed image OfGroup at formed (inr (inr (inr (i, low, large)))) =
    let known : (entry_in image at i).cache ≤ 2 = in_all IsEntry (entry_in image at i) (symbols_at image (leaf_k image) at) formed.1
    (in_table (λ (j : ℕ). entry_of (part (8 + 40 * j) 40 (symbol_bytes image (leaf_k image) at))) (symbols_in (symbol_bytes image (leaf_k image) at)) i low) in
    absurd (omega (arith, large, known))
leaf_formed image (OfChunks shape) at formed breach = breach

-- ---- where children are named

-- the places of two children differ by eight at least
pub child_apart : (long i j : ℕ) → i < j → i * (long + 8) + 8 ≤ j * (long + 8)
child_apart long i j low =
    let rows : suc i * (long + 8) ≤ j * (long + 8) = mul-le-mul_right (long + 8) low in
    omega arith
