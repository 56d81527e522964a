-- The symbol nodes of a group, one behind another, read as all entries (File Format Specification 3.0, section III.B).
use Rattle.std.proofs.Common.{◌≡◌, ℕ, suc, ◌+◌, ◌*◌, ◌≤◌, List, [], ◌∷◌, ◌++◌, length, refl, sym, ap, ◌∙◌, subst, arith, length-append}
use Rattle.std.specs.Prelude.{map, ⊤}
use Rattle.std.specs.List.{AllByRecursion, flat_map}
use Rattle.std.proofs.lemmas.List.{map-append}
use Rattle.h5_bytes.specs.Bytes.{part}
use Rattle.h5_bytes.specs.Blocks.{Run}
use Rattle.h5_model.specs.Format.Superblock.{highest_k}
use Rattle.h5_model.specs.Format.Links.{Symbols}
use Rattle.h5_model.specs.Format.Sizes.{symbol_node}
use Rattle.h5_model.specs.Format.Symbols.{IsSymbolNode, symbols_at, symbols_of, symbol_block}
use Rattle.h5_model.specs.Format.Symbols as symbols
use Rattle.h5_model.proofs.RowLaws.{only_here}
use Rattle.h5_btree.specs.declared.write.child.Child.{Child}
use Rattle.h5_btree.specs.Writing.Written.{places_of}
use Rattle.h5_btree.proofs.WriteLaws.RowReads.{part_split}
use Rattle.h5_heap.specs.Writing.Written.{written_entry}
use Rattle.h5_heap.specs.Writing.Laws.{IsEntryLow}
use Rattle.h5_group.specs.Writing.Written.{written_symbol_node, children_of}
use Rattle.h5_group.proofs.WriteLaws.SymbolNodes.{Placed, length-node, node_formed, node_reads}
use Rattle.h5_group.proofs.WriteLaws.Runs.{IsRun, joined}

-- ---- where they stand

-- each run's symbol node stands at its place
abbrev pub AreThere : List ℕ → ℕ → ℕ → List (List Placed) → Type 0
AreThere image leaf at [] = ⊤
AreThere image leaf at (run ∷ runs) = (part at (symbol_node leaf) image ≡ written_symbol_node leaf run) × AreThere image leaf (at + symbol_node leaf) runs

-- what is read at each place are the run's entries
abbrev pub Says : Symbols → ℕ → ℕ → List (List Placed) → Type 0
Says S leaf at [] = ⊤
Says S leaf at (run ∷ runs) = (S at ≡ map written_entry run) × Says S leaf (at + symbol_node leaf) runs

-- the addresses of children
abbrev pub addresses : List (Child ℕ) → List ℕ
addresses children = places_of children

pub one_more : (n size : ℕ) → size + n * size ≡ suc n * size
one_more n size = omega arith

module _ (leaf : ℕ) where
  abbrev pub nodes_bytes : List (List Placed) → List ℕ
  nodes_bytes runs = flat_map (written_symbol_node leaf) runs

  pub length-nodes : (runs : List (List Placed)) → AllByRecursion (IsRun leaf) runs → length (nodes_bytes runs) ≡ length runs * symbol_node leaf
  length-nodes [] all = omega arith
  length-nodes (run ∷ runs) all =
      length-append (written_symbol_node leaf run) (nodes_bytes runs)
      ∙ (λ i. length-node leaf run (all.0).1 i + length-nodes runs all.1 i)
      ∙ one_more (length runs) (symbol_node leaf)

  pub are_there : (image : List ℕ) (at : ℕ) (runs : List (List Placed)) → AllByRecursion (IsRun leaf) runs
      → part at (length (nodes_bytes runs)) image ≡ nodes_bytes runs → AreThere image leaf at runs
  are_there image at [] all there = tt
  are_there image at (run ∷ runs) all there =
      let long : length (written_symbol_node leaf run) ≡ symbol_node leaf = length-node leaf run (all.0).1 in
      let split = part_split at (written_symbol_node leaf run) (nodes_bytes runs) image there in (
        ap (λ n. part at n image) (sym long) ∙ split.0,
        are_there image (at + symbol_node leaf) runs all.1 (ap (λ n. part (at + n) (length (nodes_bytes runs)) image) (sym long) ∙ split.1),
      )

  pub length-children : (at : ℕ) (runs : List (List Placed)) → length (children_of leaf at runs) ≡ length runs
  length-children at [] = refl
  length-children at (run ∷ runs) = ap suc (length-children (at + symbol_node leaf) runs)

  -- they follow each other without gaps
  pub nodes_run : (at : ℕ) (runs : List (List Placed))
      → Run at (map (symbol_block leaf) (addresses (children_of leaf at runs))) (at + length runs * symbol_node leaf)
  nodes_run at [] = omega arith
  nodes_run at (run ∷ runs) =
      let end : at + symbol_node leaf + length runs * symbol_node leaf ≡ at + suc (length runs) * symbol_node leaf
      = omega (arith, one_more (length runs) (symbol_node leaf)) in (
        refl,
        subst (λ to. Run (at + symbol_node leaf) (map (symbol_block leaf) (addresses (children_of leaf (at + symbol_node leaf) runs))) to) end
            (nodes_run (at + symbol_node leaf) runs),
      )

  -- ---- what they say

  module _ (high : leaf ≤ highest_k) (image : List ℕ) where
    pub all_formed : (at : ℕ) (runs : List (List Placed)) → AllByRecursion (IsRun leaf) runs → AreThere image leaf at runs
        → AllByRecursion (λ n. IsSymbolNode leaf (symbols.symbol_bytes image leaf n)) (addresses (children_of leaf at runs))
    all_formed at [] all there = tt
    all_formed at (run ∷ runs) all there =
        (subst (IsSymbolNode leaf) (sym there.0) (node_formed leaf run (all.0).1 high), all_formed (at + symbol_node leaf) runs all.1 there.1)

    pub all_said : (at : ℕ) (runs : List (List Placed)) → AllByRecursion (IsRun leaf) runs
        → AllByRecursion (AllByRecursion (λ l. IsEntryLow (written_entry l))) runs → AreThere image leaf at runs → Says (symbols_at image leaf) leaf at runs
    all_said at [] all low there = tt
    all_said at (run ∷ runs) all low there =
        (ap symbols.entries_of there.0 ∙ node_reads leaf run (all.0).1 high low.0, all_said (at + symbol_node leaf) runs all.1 low.1 there.1)

  -- another reading that agrees at each address says the same
  said_so : (S T : Symbols) (at : ℕ) (runs : List (List Placed)) → AllByRecursion (λ n. S n ≡ T n) (addresses (children_of leaf at runs))
      → Says S leaf at runs → Says T leaf at runs
  said_so S T at [] same said = tt
  said_so S T at (run ∷ runs) same said = (sym same.0 ∙ said.0, said_so S T (at + symbol_node leaf) runs same.1 said.1)

  -- the reading of these symbol nodes alone says it too
  pub said_alone : (image : List ℕ) (at : ℕ) (runs : List (List Placed)) → Says (symbols_at image leaf) leaf at runs
      → Says (symbols_of image leaf (addresses (children_of leaf at runs))) leaf at runs
  said_alone image at runs said = said_so (symbols_at image leaf) (symbols_of image leaf (addresses (children_of leaf at runs))) at runs
      (only_here [] (symbols_at image leaf) (addresses (children_of leaf at runs))) said

  -- all entries, in order
  pub all_entries : (S : Symbols) (at : ℕ) (runs : List (List Placed)) → Says S leaf at runs
      → flat_map S (addresses (children_of leaf at runs)) ≡ map written_entry (joined runs)
  all_entries S at [] said = refl
  all_entries S at (run ∷ runs) said =
      (λ i. said.0 i ++ all_entries S (at + symbol_node leaf) runs said.1 i) ∙ sym (map-append written_entry run (joined runs))
