-- What is left of a group with exact keys where an entry has gone, and its texts were freed: each symbol node has an entry, but for the one
-- that had it.
use Rattle.std.proofs.Common.{◌≡◌, ◌≢◌, inl, inr, ◌⊎◌, ℕ, zero, suc, ◌<◌, ◌≤◌, List, [], ◌∷◌, length, sym, ap, ◌∙◌, subst, arith}
use Rattle.std.specs.List.{AllByRecursion, remove}
use Rattle.h5_bytes.specs.declared.Block.{Block}
use Rattle.h5_model.specs.Format.Addresses.{SymbolTable}
use Rattle.h5_model.specs.Format.Superblock.{leaf_k}
use Rattle.h5_model.specs.Format.Symbols.{Entry, Target, symbols_at}
use Rattle.h5_laws.proofs.Lists.{all_in, contains_in, in_all}
use Rattle.h5_space.specs.Space.{Space}
use Rattle.h5_btree.specs.Removal.{EndsInTree}
use Rattle.h5_btree.specs.declared.way.Step.{Step}
use Rattle.h5_group.specs.Edited.{IsGroupIn, entries_below, node_below}
use Rattle.h5_group.specs.Exact.{AreFilledBut, AreGroupKeys, HasExactKeys}
use Rattle.h5_group.specs.Nodes.Stands.{entries_at}
use Rattle.h5_group.specs.Nodes.Trees.{kind_in}
use Rattle.h5_group.specs.Told.{symbol_nodes_told}
use Rattle.h5_group.specs.Ways.{AreWaysKept}
use Rattle.h5_group.proofs.DropCalls.{end_told}

-- one of several goes
pub some_left : {X : Type 0} (xs : List X) (k : ℕ) → length xs ≢ 1 → k < length xs → 1 ≤ length (remove xs k)
some_left [] k more low = absurd (omega (arith, low))
some_left (x ∷ []) k more low = absurd (more (omega arith))
some_left (x ∷ y ∷ xs) zero more low = omega arith
some_left (x ∷ y ∷ xs) (suc k) more low = omega arith

module _ (t u : Space) (table : SymbolTable) (kept : AreWaysKept t u table) where
  -- the symbol node at the end of a way has the entries that it had
  pub below_kept : (links : List (List ℕ × Target)) (spare : List ℕ) (blocks : List Block) → IsGroupIn t table links spare blocks
      → (level : ℕ) (way : List Step) (owned list : List ℕ) (number : ℕ) → EndsInTree t (kind_in t.bytes) table.tree level way owned list number
      → (step : Step) (above : List Step) → way ≡ step ∷ above → entries_below u table step ≡ entries_below t table step
  below_kept links spare blocks g level way owned list number e step above is =
      let own = subst (λ (w : List Step). EndsInTree t (kind_in t.bytes) table.tree level w owned list number) is e in
      let told = end_told t table links spare blocks g level (step ∷ above) owned list number own (node_below t table step)
      (λ other rest also. let one : step ≡ other = cc in ap (node_below t table) one) in
      ap (symbols_at u.bytes (leaf_k u.bytes)) (kept.below step above level owned list number own) ∙ kept.entries (node_below t table step) told

  pub filled_but_kept : (node : ℕ) → AreFilledBut node t.bytes table → AreFilledBut node u.bytes table
  filled_but_kept node filled =
      let P : ℕ → Type 0 = λ at. (at ≡ node) ⊎ (1 ≤ length (entries_at t.bytes at)) in
      let Q : ℕ → Type 0 = λ at. (at ≡ node) ⊎ (1 ≤ length (entries_at u.bytes at)) in
      subst (AllByRecursion Q) (sym kept.told)
      (all_in Q (symbol_nodes_told t.bytes table) (λ at there. elim (in_all P at (symbol_nodes_told t.bytes table) filled there) [
        | inl is ↦ inl is
        | inr some ↦ inr (subst (λ (es : List Entry). 1 ≤ length es) (sym (kept.entries at (contains_in at (symbol_nodes_told t.bytes table) there))) some)
      ]))

-- THE GROUP HAS EXACT KEYS, where that symbol node has an entry too
pub all_filled : (image : List ℕ) (table : SymbolTable) (node : ℕ) → 1 ≤ length (entries_at image node) → AreGroupKeys (λ key. ⊥) image table → AreFilledBut node image table
    → HasExactKeys image table
all_filled image table node some exact filled = record {
  exact = exact;
  filled = all_in (λ at. 1 ≤ length (entries_at image at)) (symbol_nodes_told image table) (λ at there.
      elim (in_all (λ at. (at ≡ node) ⊎ (1 ≤ length (entries_at image at))) at (symbol_nodes_told image table) filled there) [
        | inl is ↦ subst (λ (n : ℕ). 1 ≤ length (entries_at image n)) (sym is) some
        | inr more ↦ more
      ]);
}
