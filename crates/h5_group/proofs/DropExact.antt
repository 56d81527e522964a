-- A symbol node without entries goes out of a group with exact keys: they are exact still, and where each other symbol node has an entry, the
-- group has exact keys then (File Format Specification 3.0, sections III.A.1 and III.B).
use Rattle.std.proofs.Common.{◌≡◌, inl, inr, ◌⊎◌, ℕ, ◌+◌, ◌*◌, ◌≤◌, List, [], ◌∷◌, length, map, get_or, sym, ap, subst, arith}
use Rattle.std.specs.List.{AllByRecursion, remove}
use Rattle.h5_bytes.specs.Blocks.{cover, holds}
use Rattle.h5_bytes.specs.declared.Block.{Block}
use Rattle.h5_bytes.proofs.BlockLaws.{all_so, holds-le, holds_in}
use Rattle.h5_model.specs.Format.Addresses.{SymbolTable}
use Rattle.h5_model.specs.Format.Superblock.{leaf_k}
use Rattle.h5_model.specs.Format.Nodes.{Kind, group_kind, node_at}
use Rattle.h5_model.specs.Format.Rows.{Reading}
use Rattle.h5_model.specs.Format.Symbols.{Entry, Target, entries_of, symbol_block, symbol_bytes, symbols_at}
use Rattle.h5_model.proofs.OneTree.{level_is}
use Rattle.h5_laws.proofs.Lists.{In, all_in, in_all}
use Rattle.h5_space.specs.Space.{Space}
use Rattle.h5_btree.specs.Exact.{AreKeysExact}
use Rattle.h5_btree.specs.Removal.{EndsInTree, IsTakenAlong}
use Rattle.h5_btree.specs.declared.way.Step.{Step}
use Rattle.h5_btree.proofs.KeyedExact.{dropped_exact}
use Rattle.h5_btree.proofs.KeyedFrom.{all_removed}
use Rattle.h5_group.specs.Edited.{IsGroupIn}
use Rattle.h5_group.specs.Exact.{AreFilledBut, AreGroupKeys, HasExactKeys}
use Rattle.h5_group.specs.Nodes.Trees.{kind_in}
use Rattle.h5_group.specs.Retired.{entry_keys, name_keys}
use Rattle.h5_group.specs.Told.{symbol_nodes_told}
use Rattle.h5_group.proofs.DropLaws.{internal_is, leaf_is, nodes_cover, nodes_stay, there, tree}
use Rattle.h5_group.proofs.ExactTrees.{keys_so, told_so}
use Rattle.h5_group.proofs.ToldLaws.{symbol_nodes_are_told}
use Rattle.h5_group.proofs.Ways.{cover_parts, level_there}

-- the first byte of a symbol node is one of the symbol nodes
pub begins_in : (leaf x : ℕ) (xs : List ℕ) → In x xs → 1 ≤ cover x (map (symbol_block leaf) xs)
begins_in leaf x [] at = absurd at
begins_in leaf x (y ∷ xs) (inl e) =
    let here : holds x y (8 + 80 * leaf) ≡ 1 = subst (λ (z : ℕ). holds z y (8 + 80 * leaf) ≡ 1) e (holds_in y y (8 + 80 * leaf) (omega arith) (omega arith)) in omega (arith, here)
begins_in leaf x (y ∷ xs) (inr at) = let rest = begins_in leaf x xs at in omega (arith, rest)

module _ (s u : Space) (table : SymbolTable) (links : List (List ℕ × Target)) (spare : List ℕ) (blocks : List Block) (group : IsGroupIn s table links spare blocks)
    (way : List Step) (k : ℕ) (e : EndsInTree s (kind_in s.bytes) table.tree (group.linked).level way (group.linked).owned (group.linked).symbol_nodes k)
    (taken : IsTakenAlong s u (kind_in s.bytes) table.tree way (remove (group.linked).symbol_nodes k) (group.linked).owned)
    (t : Space) (bytes : t.bytes ≡ u.bytes) (given : (p : ℕ) → cover p t.free ≡ cover p u.free + holds p (get_or (group.linked).symbol_nodes k 0) (8 + 80 * leaf_k s.bytes))
    (bare : symbols_at s.bytes (leaf_k s.bytes) (get_or (group.linked).symbol_nodes k 0) ≡ []) (size : length u.bytes ≤ length s.bytes) where
  abbrev kind : Kind
  kind = kind_in s.bytes

  abbrev leaf : ℕ
  leaf = leaf_k s.bytes

  abbrev list : List ℕ
  list = (group.linked).symbol_nodes

  abbrev rest : List ℕ
  rest = remove list k

  abbrev x : ℕ
  x = get_or list k 0

  abbrev V : Reading
  V = node_at s.bytes kind

  abbrev W : Reading
  W = node_at t.bytes kind

  leaf_same : leaf_k t.bytes ≡ leaf
  leaf_same = leaf_is s u table links spare blocks group way k e taken t bytes given bare size

  kind_same : kind_in t.bytes ≡ kind
  kind_same = ap group_kind (internal_is s u table links spare blocks group way k e taken t bytes given bare size)

  same : AllByRecursion (λ at. symbols_at t.bytes leaf at ≡ symbols_at s.bytes leaf at) rest
  same = all_removed (λ at. symbols_at t.bytes leaf at ≡ symbols_at s.bytes leaf at) list k
      (all_so (λ at. symbol_bytes t.bytes leaf at ≡ symbol_bytes s.bytes leaf at) (λ at. symbols_at t.bytes leaf at ≡ symbols_at s.bytes leaf at) list
      (λ at is. ap entries_of is) (nodes_stay s u table links spare blocks group way k e taken t bytes given bare size))

  now_level : (W table.tree).level ≡ taken.3
  now_level = level_is t.bytes kind table.tree taken.3 taken.4 rest (tree s u table links spare blocks group way k e taken t bytes given bare size)

  exact_then : AreGroupKeys (λ key. ⊥) s.bytes table → AreGroupKeys (λ key. ⊥) t.bytes table
  exact_then exact =
      let end = (there s u table links spare blocks group way k e taken).1 in
      let short = group.short in
      let here : AreKeysExact (λ key. ⊥) (entry_keys leaf s.bytes) V (group.linked).level table.tree
      = subst (λ (l : ℕ). AreKeysExact (λ key. ⊥) (entry_keys leaf s.bytes) V l table.tree) (level_there s table links spare blocks group) exact in
      let then : AreKeysExact (λ key. ⊥) (entry_keys leaf t.bytes) (node_at u.bytes kind) taken.3 table.tree
      = dropped_exact (entry_keys leaf s.bytes) (entry_keys leaf t.bytes) (λ key. ⊥) s kind table.tree (group.linked).level way (group.linked).owned list k e
      (all_so (λ at. symbols_at t.bytes leaf at ≡ symbols_at s.bytes leaf at) (λ at. entry_keys leaf t.bytes at ≡ entry_keys leaf s.bytes at) rest (λ at is. ap name_keys is) same)
      u taken (omega (arith, short, size)) (ap name_keys (subst (λ (n : ℕ). symbols_at s.bytes leaf n ≡ []) end bare)) here in
      keys_so (λ key. ⊥) t.bytes table leaf kind taken.3 leaf_same kind_same now_level
      (subst (λ (b : List ℕ). AreKeysExact (λ key. ⊥) (entry_keys leaf t.bytes) (node_at b kind) taken.3 table.tree) (sym bytes) then)

  told : symbol_nodes_told t.bytes table ≡ rest
  told = told_so t.bytes table kind taken.3 taken.4 rest kind_same (tree s u table links spare blocks group way k e taken t bytes given bare size)

  -- it is not among the others
  alone : In x rest → ⊥
  alone at =
      let two = nodes_cover s u table links spare blocks group way k e taken x in
      let own = holds_in x x (8 + 80 * leaf) (omega arith) (omega arith) in
      omega (arith, two, own, begins_in leaf x rest at, group.apart x, cover_parts s table links spare blocks group x, holds-le x 0 (length s.bytes))

  filled_then : AreFilledBut x s.bytes table → AllByRecursion (λ at. 1 ≤ length (symbols_at t.bytes (leaf_k t.bytes) at)) (symbol_nodes_told t.bytes table)
  filled_then filled =
      let P : ℕ → Type 0 = λ at. (at ≡ x) ⊎ (1 ≤ length (symbols_at s.bytes leaf at)) in
      let others = all_removed P list k (subst (AllByRecursion P) (sym (symbol_nodes_are_told s.bytes table links blocks group.linked)) filled) in
      subst (AllByRecursion (λ at. 1 ≤ length (symbols_at t.bytes (leaf_k t.bytes) at))) (sym told)
      (all_in (λ at. 1 ≤ length (symbols_at t.bytes (leaf_k t.bytes) at)) rest (λ at in_rest.
      let entries = in_all (λ n. symbols_at t.bytes leaf n ≡ symbols_at s.bytes leaf n) at rest same in_rest in
      subst (λ (l : ℕ). 1 ≤ length (symbols_at t.bytes l at)) (sym leaf_same) (subst (λ (es : List Entry). 1 ≤ length es) (sym entries) (elim (in_all P at rest others in_rest) [
        | inl is ↦ absurd (alone (subst (λ (n : ℕ). In n rest) is in_rest))
        | inr some ↦ some
      ]))))

  -- THE GROUP HAS EXACT KEYS, where only this symbol node had no entry
  pub node_dropped_exact : AreGroupKeys (λ key. ⊥) s.bytes table → AreFilledBut x s.bytes table → HasExactKeys t.bytes table
  node_dropped_exact exact filled = record { exact = exact_then exact; filled = filled_then filled }
