-- Entries of the symbol nodes of a group's tree.
use Rattle.std.proofs.Common.{◌≡◌, ◌≢◌, ℕ, suc, ◌+◌, ◌*◌, ◌<◌, List, [], ◌∷◌, ◌++◌, map, refl, sym, ap, ap₂, ◌∙◌, subst, arith, false}
use Rattle.std.proofs.lemmas.Bool.Decides.{nat_tests}
use Rattle.std.specs.Prelude.{◌==◌}
use Rattle.std.specs.List.{AllByRecursion, flat_map}
use Rattle.h5_bytes.specs.Bytes.{part}
use Rattle.h5_bytes.specs.Texts.{text_at}
use Rattle.h5_bytes.specs.declared.Block.{Block}
use Rattle.h5_model.specs.Format.Heap.{segment_of}
use Rattle.h5_model.specs.Format.Rows.{row_below}
use Rattle.h5_model.specs.Format.Nodes.{group_kind, node_at}
use Rattle.h5_model.specs.Format.Symbols.{Entry, Target, Header, symbols_at, symbols_of, symbols_in, symbol_bytes, entry_of, link_of}
use Rattle.h5_model.specs.Format.Links.{HasLinks}
use Rattle.h5_model.specs.Format.Superblock.{leaf_k, internal_k}
use Rattle.h5_model.specs.Format.Reached.{entry_in}
use Rattle.h5_model.specs.Faults.TreeFaults.{all_entries}
use Rattle.h5_model.proofs.RowLaws.{only_here}
use Rattle.h5_model.proofs.OneTree.{children_are}
use Rattle.h5_laws.proofs.Lists.{In, in_flat, in_map, in_table}
use Rattle.h5_laws.proofs.Rows.{row_after}

pub flat-same : {X Y : Type 0} (f g : X → List Y) (xs : List X) → AllByRecursion (λ x. f x ≡ g x) xs → flat_map f xs ≡ flat_map g xs
flat-same f g [] same = refl
flat-same {Y = Y} f g (x ∷ xs) same = ap₂ (λ (a b : List Y). a ++ b) same.0 (flat-same f g xs same.1)

-- the entries of a group's own symbol nodes are those that stand there
pub own_entries : (image : List ℕ) (symbol_nodes : List ℕ) → all_entries image symbol_nodes ≡ flat_map (symbols_of image (leaf_k image) symbol_nodes) symbol_nodes
own_entries image symbol_nodes =
    flat-same (symbols_at image (leaf_k image)) (symbols_of image (leaf_k image) symbol_nodes) symbol_nodes (only_here [] (symbols_at image (leaf_k image)) symbol_nodes)

module _ (image : List ℕ) (root heap : ℕ) (found : List (List ℕ × Target)) (blocks : List Block)
    (has : HasLinks image (leaf_k image) (internal_k image) root heap found blocks) where
  pub links_are : found ≡ map (link_of (segment_of image heap)) (all_entries image has.symbol_nodes)
  links_are = has.listed.all ∙ ap (map (link_of (segment_of image heap))) (sym (own_entries image has.symbol_nodes))

  -- the row below level 0 is the symbol nodes
  pub in_symbol_nodes : (at : ℕ) → In at (row_below (node_at image (group_kind (internal_k image))) (suc has.level) (root ∷ [])) → In at has.symbol_nodes
  in_symbol_nodes at there =
      let V = node_at image (group_kind (internal_k image)) in
      subst (In at) (row_after V has.level (root ∷ []) ∙ sym (children_are image (group_kind (internal_k image)) root has.level has.owned has.symbol_nodes has.tree)) there

  pub entry_listed : (at i : ℕ) → In at has.symbol_nodes → i < symbols_in (symbol_bytes image (leaf_k image) at)
      → In (entry_in image at i) (all_entries image has.symbol_nodes)
  entry_listed at i there low =
      in_flat (symbols_at image (leaf_k image)) at (entry_in image at i) has.symbol_nodes there
      (in_table (λ (j : ℕ). entry_of (part (8 + 40 * j) 40 (symbol_bytes image (leaf_k image) at))) (symbols_in (symbol_bytes image (leaf_k image) at)) i low)

  pub link_listed : (e : Entry) → In e (all_entries image has.symbol_nodes) → In (link_of (segment_of image heap) e) found
  link_listed e at = subst (In (link_of (segment_of image heap) e)) (sym links_are) (in_map (link_of (segment_of image heap)) e (all_entries image has.symbol_nodes) at)

  -- an entry that is no soft link names a header
  pub header_listed : (e : Entry) → In e (all_entries image has.symbol_nodes) → e.cache ≢ 2 → In (text_at (segment_of image heap) e.name, Header e.header) found
  header_listed e at hard =
      let no_text : (e.cache == 2) ≡ false = grind (arith, nat_tests) in
      let target : link_of (segment_of image heap) e ≡ (text_at (segment_of image heap) e.name, Header e.header) = rw no_text refl in
      subst (λ (l : List ℕ × Target). In l found) target (link_listed e at)
