-- A group whose symbol nodes are empty has no links.
use Rattle.std.proofs.Common.{◌≡◌, ℕ, suc, ◌<◌, List, [], ◌∷◌, length, get_or, length-append, refl, ◌∙◌, arith}
use Rattle.std.specs.List.{flat_map}
use Rattle.std.proofs.lemmas.List.{length-map}
use Rattle.h5_model.specs.Format.Addresses.{SymbolTable}
use Rattle.h5_model.specs.Format.Superblock.{leaf_k}
use Rattle.h5_model.specs.Format.Heap.{segment_of}
use Rattle.h5_model.specs.Format.Symbols.{Entry, symbols_at, link_of}
use Rattle.h5_model.specs.Faults.TreeFaults.{all_entries}
use Rattle.h5_group.specs.Told.{symbol_nodes_told, links_told}

none_in : (S : ℕ → List Entry) (nodes : List ℕ) → ((k : ℕ) → k < length nodes → length (S (get_or nodes k 0)) ≡ 0) → length (flat_map S nodes) ≡ 0
none_in S [] none = refl
none_in S (node ∷ nodes) none =
    let later : length (flat_map S nodes) ≡ 0 = none_in S nodes (λ k low. none (suc k) (omega (arith, low))) in
    let here : length (S node) ≡ 0 = none 0 (omega arith) in
    omega (arith, length-append (S node) (flat_map S nodes), here, later)

pub no_links : (image : List ℕ) (t : SymbolTable) → ((k : ℕ) → k < length (symbol_nodes_told image t) → length (symbols_at image (leaf_k image) (get_or (symbol_nodes_told image t) k 0)) ≡ 0)
    → length (links_told image t) ≡ 0
no_links image t none = length-map (all_entries image (symbol_nodes_told image t)) (link_of (segment_of image t.heap)) ∙ none_in (symbols_at image (leaf_k image)) (symbol_nodes_told image t) none
