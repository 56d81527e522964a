-- How long a group's links are does not depend on the addresses to which they lead.
use Rattle.std.proofs.Common.{◌≡◌, ℕ, ◌+◌, ◌-◌, ◌*◌, List, [], ◌∷◌, ◌++◌, map, length, length-append, refl, sym, ap, ap₂, ◌∙◌}
use Rattle.std.proofs.lemmas.List.{length-map}
use Rattle.std.specs.List.{flat_map}
use Rattle.h5_bytes.specs.Numbers.{word}
use Rattle.h5_model.specs.Format.Nodes.{group_kind}
use Rattle.h5_model.specs.Format.Plain.{heap_header_bytes, segment_bytes, free_head_of}
use Rattle.h5_model.specs.Format.PlainLength.{nodes_over, rows_of}
use Rattle.h5_model.specs.Format.Sizes.{group_node, symbol_node}
use Rattle.h5_btree.specs.Writing.Written.{cut_into_lists, chunks, tree_bytes}
use Rattle.h5_btree.specs.declared.write.child.Child.{Child}
use Rattle.h5_group.specs.Heap.Links.{Leads, ToGroup, ToArray, ToText, heap_texts}
use Rattle.h5_group.specs.Heap.Written.{texts_span, links_with_offsets, placed_links, written_segment, heap_bytes}
use Rattle.h5_group.specs.Writing.Written.{runs_of, written_symbol_node, last_name_offset, children_of, heap_place, symbols_place, links_bytes}
use Rattle.h5_group.proofs.WriteLaws.SymbolNodes.{length-node_of}
use Rattle.h5_repack.proofs.ChunkLaws.KeyTrees.{cut_mapped}

-- a link without its addresses
abbrev pub bare : List ℕ × Leads → List ℕ × Leads
bare (name, ToGroup header tree heap) = (name, ToGroup 0 0 0)
bare (name, ToArray header) = (name, ToArray 0)
bare (name, ToText text) = (name, ToText text)

-- ---- its texts

spelled_bare : (links : List (List ℕ × Leads)) → heap_texts (map bare links) ≡ heap_texts links
spelled_bare [] = refl
spelled_bare ((name, ToGroup header tree heap) ∷ links) = ap (λ (texts : List (List ℕ)). name ∷ texts) (spelled_bare links)
spelled_bare ((name, ToArray header) ∷ links) = ap (λ (texts : List (List ℕ)). name ∷ texts) (spelled_bare links)
spelled_bare ((name, ToText text) ∷ links) = ap (λ (texts : List (List ℕ)). name ∷ text ∷ texts) (spelled_bare links)

heap_bare : (at : ℕ) (links : List (List ℕ × Leads)) → heap_bytes at (map bare links) ≡ heap_bytes at links
unfolding heap_bytes
heap_bare at links =
    ap (λ (texts : List (List ℕ)). heap_header_bytes (length (segment_bytes texts)) (free_head_of texts) (at + 32) ++ segment_bytes texts) (spelled_bare links)

-- ---- where its name stands

span_bare : (l : List ℕ × Leads) → texts_span (bare l) ≡ texts_span l
span_bare (name, ToGroup header tree heap) = refl
span_bare (name, ToArray header) = refl
span_bare (name, ToText text) = refl

abbrev placed_bare : ℕ × (List ℕ × Leads) → ℕ × (List ℕ × Leads)
placed_bare x = (x.0, bare x.1)

placed_map : (at : ℕ) (links : List (List ℕ × Leads)) → links_with_offsets at (map bare links) ≡ map placed_bare (links_with_offsets at links)
placed_map at [] = refl
placed_map at (l ∷ links) =
    ap (λ n. (at, bare l) ∷ links_with_offsets (at + n) (map bare links)) (span_bare l)
    ∙ ap (λ (rest : List (ℕ × (List ℕ × Leads))). (at, bare l) ∷ rest) (placed_map (at + texts_span l) links)

-- ---- runs

chunks_map : {X Y : Type 0} (f : X → Y) (m : ℕ) (xs : List X) → chunks m (map f xs) ≡ map (map f) (chunks m xs)
chunks_map f m xs = ap (λ n. cut_into_lists n m (map f xs)) (length-map xs f) ∙ cut_mapped f (length xs) m xs

runs_map : (leaf : ℕ) (xs : List (ℕ × (List ℕ × Leads))) → runs_of leaf (map placed_bare xs) ≡ map (map placed_bare) (runs_of leaf xs)
runs_map leaf [] = refl
runs_map leaf (x ∷ xs) = chunks_map placed_bare (2 * leaf) (x ∷ xs)

last_bare : (before : ℕ) (run : List (ℕ × (List ℕ × Leads))) → last_name_offset before (map placed_bare run) ≡ last_name_offset before run
last_bare before [] = refl
last_bare before (x ∷ run) = last_bare x.0 run

children_bare : (leaf at : ℕ) (runs : List (List (ℕ × (List ℕ × Leads)))) → children_of leaf at (map (map placed_bare) runs) ≡ children_of leaf at runs
children_bare leaf at [] = refl
children_bare leaf at (run ∷ runs) =
    ap₂ (λ (last : ℕ) (rest : List (Child ℕ)). record { at = at; key = last } ∷ rest) (last_bare 0 run) (children_bare leaf (at + symbol_node leaf) runs)

-- ---- symbol nodes

length-symbol : (leaf : ℕ) (run : List (ℕ × (List ℕ × Leads))) → length (written_symbol_node leaf (map placed_bare run)) ≡ length (written_symbol_node leaf run)
length-symbol leaf run =
    length-node_of leaf (map placed_bare run) ∙ ap (λ n. 8 + 40 * n + (symbol_node leaf - (8 + 40 * n))) (length-map run placed_bare)
    ∙ sym (length-node_of leaf run)

length-symbols : (leaf : ℕ) (runs : List (List (ℕ × (List ℕ × Leads)))) → length (flat_map (written_symbol_node leaf) (map (map placed_bare) runs)) ≡ length (flat_map (written_symbol_node leaf) runs)
length-symbols leaf [] = refl
length-symbols leaf (run ∷ runs) =
    length-append (written_symbol_node leaf (map placed_bare run)) (flat_map (written_symbol_node leaf) (map (map placed_bare) runs))
    ∙ ap₂ (λ (a b : ℕ). a + b) (length-symbol leaf run) (length-symbols leaf runs) ∙ sym (length-append (written_symbol_node leaf run) (flat_map (written_symbol_node leaf) runs))

-- ---- the whole

module _ (leaf internal at : ℕ) (links : List (List ℕ × Leads)) where
  runs_bare : runs_of leaf (placed_links (map bare links)) ≡ map (map placed_bare) (runs_of leaf (placed_links links))
  runs_bare = ap (runs_of leaf) (placed_map 8 links) ∙ runs_map leaf (placed_links links)

  heap_place_bare : heap_place leaf internal at (map bare links) ≡ heap_place leaf internal at links
  heap_place_bare = ap (λ n. at + nodes_over 64 (2 * internal) (rows_of (2 * leaf) n) * group_node internal) (length-map links bare)

  segment_bare : written_segment (map bare links) ≡ written_segment links
  segment_bare = ap segment_bytes (spelled_bare links)

  symbols_place_bare : symbols_place leaf internal at (map bare links) ≡ symbols_place leaf internal at links
  symbols_place_bare = ap₂ (λ (heap n : ℕ). heap + 32 + n) heap_place_bare (ap length segment_bare)

  tree_bare : tree_bytes (group_kind internal) word 0 at (children_of leaf (symbols_place leaf internal at (map bare links)) (runs_of leaf (placed_links (map bare links))))
      ≡ tree_bytes (group_kind internal) word 0 at (children_of leaf (symbols_place leaf internal at links) (runs_of leaf (placed_links links)))
  tree_bare = ap (tree_bytes (group_kind internal) word 0 at)
      (ap₂ (λ (place : ℕ) (runs : List (List (ℕ × (List ℕ × Leads)))). children_of leaf place runs) symbols_place_bare runs_bare
      ∙ children_bare leaf (symbols_place leaf internal at links) (runs_of leaf (placed_links links)))

  heap_there : heap_bytes (heap_place leaf internal at (map bare links)) (map bare links) ≡ heap_bytes (heap_place leaf internal at links) links
  heap_there = ap (λ place. heap_bytes place (map bare links)) heap_place_bare ∙ heap_bare (heap_place leaf internal at links) links

  symbols_bare : length (flat_map (written_symbol_node leaf) (runs_of leaf (placed_links (map bare links)))) ≡ length (flat_map (written_symbol_node leaf) (runs_of leaf (placed_links links)))
  symbols_bare = ap (λ (runs : List (List (ℕ × (List ℕ × Leads)))). length (flat_map (written_symbol_node leaf) runs)) runs_bare ∙ length-symbols leaf (runs_of leaf (placed_links links))

  length-three : (a b c : List ℕ) → length (a ++ (b ++ c)) ≡ length a + (length b + length c)
  length-three a b c = length-append a (b ++ c) ∙ ap (λ n. length a + n) (length-append b c)

  pub length-bare : length (links_bytes leaf internal at (map bare links)) ≡ length (links_bytes leaf internal at links)
  unfolding links_bytes
  length-bare =
      length-three (tree_bytes (group_kind internal) word 0 at (children_of leaf (symbols_place leaf internal at (map bare links)) (runs_of leaf (placed_links (map bare links)))))
      (heap_bytes (heap_place leaf internal at (map bare links)) (map bare links)) (flat_map (written_symbol_node leaf) (runs_of leaf (placed_links (map bare links))))
      ∙ ap₂ (λ (a b : ℕ). a + b) (ap length tree_bare) (ap₂ (λ (b c : ℕ). b + c) (ap length heap_there) symbols_bare)
      ∙ sym (length-three (tree_bytes (group_kind internal) word 0 at (children_of leaf (symbols_place leaf internal at links) (runs_of leaf (placed_links links))))
      (heap_bytes (heap_place leaf internal at links) links) (flat_map (written_symbol_node leaf) (runs_of leaf (placed_links links))))
