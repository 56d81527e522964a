-- No field that names a header stands twice.
use Rattle.std.proofs.Common.{◌≡◌, inl, inr, ℕ, zero, suc, ◌+◌, ◌*◌, ◌<◌, ◌≤◌, List, [], ◌∷◌, ◌++◌, map, length, refl, sym, ap, ap₂, subst, arith, true, false, Bool}
use Rattle.std.proofs.lemmas.Bool.Decides.{nat_tests}
use Rattle.std.specs.Prelude.{◌==◌, if◌then◌else◌}
use Rattle.std.specs.Ordering.{nat_cmp}
use Rattle.std.specs.FinMap.{FinMap}
use Rattle.std.specs.List.{AllByRecursion, flat_map, range_with_len}
use Rattle.h5_bytes.specs.Blocks.{holds, cover}
use Rattle.h5_bytes.specs.declared.Block.{Block}
use Rattle.h5_bytes.proofs.BlockLaws.{holds_join, holds-inner, cover-append}
use Rattle.h5_model.specs.Format.Messages.{Message}
use Rattle.h5_model.specs.Format.Heap.{heap_blocks}
use Rattle.h5_model.specs.Format.Nodes.{group_kind, tree_blocks}
use Rattle.h5_model.specs.Format.Symbols.{IsSymbolNode, symbol_block, symbol_bytes, symbols_in}
use Rattle.h5_model.specs.Format.Superblock.{leaf_k, internal_k, root_header_place, superblock_length}
use Rattle.h5_model.specs.Tree.Objects.{Tree, Content, Group, Array}
use Rattle.h5_model.specs.Format.Reads.{Placed, IsPlaced, HasContent, Holds}
use Rattle.h5_model.specs.Format.Reached.{entry_in}
use Rattle.h5_laws.proofs.Lists.{In}
use Rattle.h5_laws.proofs.Pigeonhole.{linking, Apart}
use Rattle.h5_laws.proofs.LinkFields.{entry_link, node_links, object_links, placed_links, all_links, group_links, no_links}

-- how often a field stands among these
abbrev pub times : ℕ → List (ℕ × ℕ) → ℕ
times f [] = 0
times f (z ∷ zs) = (if z.0 == f then 1 else 0) + times f zs

times-append : (f : ℕ) (xs ys : List (ℕ × ℕ)) → times f (xs ++ ys) ≡ times f xs + times f ys
times-append f [] ys = omega arith
times-append f (z ∷ xs) ys = omega (arith, times-append f xs ys)

one_here : (f place at len : ℕ) → at ≤ place → place < at + len → (if place == f then 1 else 0) ≤ holds f at len
unfolding holds
one_here f place at len low high = grind (arith, nat_tests)

entry_once : (image : List ℕ) (f node i : ℕ) → times f (entry_link image node i) ≤ holds f (node + 8 + 40 * i) 40
entry_once image f node i = go ((entry_in image node i).cache == 2) refl where
  go : (b : Bool) → ((entry_in image node i).cache == 2) ≡ b → times f (entry_link image node i) ≤ holds f (node + 8 + 40 * i) 40
  go true e = rw e (omega arith)
  go false e =
      let one = one_here f (node + 16 + 40 * i) (node + 8 + 40 * i) 40 (omega arith) (omega arith) in
      rw e (omega (arith, one))

indexes_once : (image : List ℕ) (f node from n : ℕ) → times f (flat_map (entry_link image node) (range_with_len from n)) ≤ holds f (node + 8 + 40 * from) (40 * n)
indexes_once image f node from zero = omega arith
indexes_once image f node from (suc n) =
    let a = times-append f (entry_link image node from) (flat_map (entry_link image node) (range_with_len (from + 1) n)) in
    let b = entry_once image f node from in
    let c = indexes_once image f node (from + 1) n in
    let place : node + 8 + 40 * (from + 1) ≡ node + 8 + 40 * from + 40 = omega arith in
    let here = subst (λ (p : ℕ). times f (flat_map (entry_link image node) (range_with_len (from + 1) n)) ≤ holds f p (40 * n)) place c in
    let joined = holds_join f (node + 8 + 40 * from) 40 (40 * n) in
    let size : 40 * suc n ≡ 40 + 40 * n = omega arith in
    subst (λ (m : ℕ). times f (flat_map (entry_link image node) (range_with_len from (suc n))) ≤ holds f (node + 8 + 40 * from) m) (sym size)
    (omega (arith, a, b, here, joined))

node_once : (image : List ℕ) (f node : ℕ) → IsSymbolNode (leaf_k image) (symbol_bytes image (leaf_k image) node) → times f (node_links image node) ≤ holds f node (8 + 80 * leaf_k image)
node_once image f node is =
    let n = symbols_in (symbol_bytes image (leaf_k image) node) in
    let a = indexes_once image f node 0 n in
    let b = holds-inner f (node + 8 + 40 * 0) (40 * n) node (8 + 80 * leaf_k image) (omega arith) (omega (arith, is.roomy)) in
    omega (arith, a, b)

nodes_once : (image : List ℕ) (f : ℕ) (ns : List ℕ) → AllByRecursion (λ n. IsSymbolNode (leaf_k image) (symbol_bytes image (leaf_k image) n)) ns
    → times f (flat_map (node_links image) ns) ≤ cover f (map (symbol_block (leaf_k image)) ns)
nodes_once image f [] all = omega arith
nodes_once image f (n ∷ ns) all =
    let a = times-append f (node_links image n) (flat_map (node_links image) ns) in
    let b = node_once image f n all.0 in
    let c = nodes_once image f ns all.1 in
    omega (arith, a, b, c)

content_once : (image : List ℕ) (table : FinMap nat_cmp ℕ) (f : ℕ) (ms : List Message) (c : Content) (blocks : List Block) → HasContent image table ms c blocks
    → times f (object_links image ms) ≤ cover f blocks
content_once image table f ms (Array d) blocks has =
    let none : times f (object_links image ms) ≡ 0 = ap (times f) (no_links image ms d blocks has) in
    omega (arith, none)
content_once image table f ms (Group links) blocks (found, has, zip) =
    let linked = has.linked in
    let nodes = tree_blocks (group_kind (internal_k image)) linked.owned in
    let symbols = map (symbol_block (leaf_k image)) linked.symbol_nodes in
    let heap = heap_blocks image (has.symbol_table).heap in
    let same : times f (object_links image ms) ≡ times f (flat_map (node_links image) linked.symbol_nodes) = ap (times f) (group_links image ms found blocks has) in
    let once = nodes_once image f linked.symbol_nodes linked.formed in
    let laid : cover f blocks ≡ cover f ((nodes ++ symbols) ++ heap) = ap (cover f) linked.laid in
    omega (arith, same, once, laid, cover-append f (nodes ++ symbols) heap, cover-append f nodes symbols)

placed_once : (image : List ℕ) (table : FinMap nat_cmp ℕ) (f : ℕ) (placed : List Placed) (each : AllByRecursion (IsPlaced image table) placed)
    → times f (placed_links image table placed each) ≤ cover f (flat_map (λ (x : Placed). x.blocks) placed)
placed_once image table f [] each = omega arith
placed_once image table f (x ∷ placed) each =
    let a = times-append f (object_links image each.0.messages) (placed_links image table placed each.1) in
    let b = content_once image table f each.0.messages x.object.content each.0.content_blocks each.0.content in
    let c = placed_once image table f placed each.1 in
    let d = cover-append f x.blocks (flat_map (λ (y : Placed). y.blocks) placed) in
    let e : cover f x.blocks ≡ cover f (each.0.header_blocks ++ each.0.content_blocks) = ap (cover f) each.0.laid in
    let g = cover-append f each.0.header_blocks each.0.content_blocks in
    omega (arith, a, b, c, d, e, g)

-- ---- the fields that name one header

abbrev pub fields_to : ℕ → List (ℕ × ℕ) → List ℕ
fields_to h [] = []
fields_to h (z ∷ zs) = if z.1 == h then z.0 ∷ fields_to h zs else fields_to h zs

pub length-fields_to : (h : ℕ) (zs : List (ℕ × ℕ)) → length (fields_to h zs) ≡ linking h zs
length-fields_to h [] = refl
length-fields_to h (z ∷ zs) = counted (z.1 == h) (length-fields_to h zs) where
  counted : (b : Bool) → length (fields_to h zs) ≡ linking h zs → length (if b then z.0 ∷ fields_to h zs else fields_to h zs) ≡ (if b then 1 else 0) + linking h zs
  counted true e = omega (arith, e)
  counted false e = omega (arith, e)

pub in_fields_to : (h f : ℕ) (zs : List (ℕ × ℕ)) → In f (fields_to h zs) → In (f, h) zs
in_fields_to h f [] at = absurd at
in_fields_to h f (z ∷ zs) at = chosen (z.1 == h) refl at (in_fields_to h f zs) where
  chosen : (b : Bool) → (z.1 == h) ≡ b → In f (if b then z.0 ∷ fields_to h zs else fields_to h zs) → (In f (fields_to h zs) → In (f, h) zs) → In (f, h) (z ∷ zs)
  chosen true e (inl same) rest = let header : z.1 ≡ h = grind (arith, nat_tests) in inl (ap₂ (λ (a b : ℕ). (a, b)) same header)
  chosen true e (inr later) rest = inr (rest later)
  chosen false e later rest = inr (rest later)

pub to_fields : (h f : ℕ) (zs : List (ℕ × ℕ)) → In (f, h) zs → In f (fields_to h zs)
to_fields h f [] at = absurd at
to_fields h f (z ∷ zs) (inl e) =
    let header : z.1 ≡ h = ap (λ (w : ℕ × ℕ). w.1) e in
    let tested : (z.1 == h) ≡ true = grind (arith, nat_tests, header) in
    rw tested (inl (ap (λ (w : ℕ × ℕ). w.0) e))
to_fields h f (z ∷ zs) (inr at) = chosen (z.1 == h) (to_fields h f zs at) where
  chosen : (b : Bool) → In f (fields_to h zs) → In f (if b then z.0 ∷ fields_to h zs else fields_to h zs)
  chosen true later = inr later
  chosen false later = later

some_time : (h f : ℕ) (zs : List (ℕ × ℕ)) → In (f, h) zs → 1 ≤ times f zs
some_time h f [] at = absurd at
some_time h f (z ∷ zs) (inl e) =
    let field : z.0 ≡ f = ap (λ (w : ℕ × ℕ). w.0) e in
    let tested : (z.0 == f) ≡ true = grind (arith, nat_tests, field) in
    rw tested (omega arith)
some_time h f (z ∷ zs) (inr at) = let rest = some_time h f zs at in omega (arith, rest)

-- what stands at most once stands apart
pub fields_apart : (h : ℕ) (zs : List (ℕ × ℕ)) → ((f : ℕ) → times f zs ≤ 1) → Apart (fields_to h zs)
fields_apart h [] once = tt
fields_apart h (z ∷ zs) once = chosen (z.1 == h) (fields_apart h zs (λ f. let all = once f in omega (arith, all))) where
  not_later : In z.0 (fields_to h zs) → ⊥
  not_later at =
      let tested : (z.0 == z.0) ≡ true = grind (arith, nat_tests) in
      let two : 1 + times z.0 zs ≤ 1 = rw tested at (once z.0) in
      absurd (omega (arith, two, some_time h z.0 zs (in_fields_to h z.0 zs at)))

  chosen : (b : Bool) → Apart (fields_to h zs) → Apart (if b then z.0 ∷ fields_to h zs else fields_to h zs)
  chosen true rest = (not_later, rest)
  chosen false rest = rest

module _ (image : List ℕ) (table : FinMap nat_cmp ℕ) (tree : Tree) (placed : List Placed) (reads : Holds image table tree placed) where
  -- each field stands once
  pub links_once : (f : ℕ) → times f (all_links image table placed reads.each) ≤ 1
  links_once f =
      let super = one_here f (root_header_place image) 0 (superblock_length image) (omega arith) (omega arith) in
      let rest = placed_once image table f placed reads.each in
      omega (arith, super, rest, reads.apart f)
