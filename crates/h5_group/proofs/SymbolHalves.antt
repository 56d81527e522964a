-- A symbol node that is cut in two, step by step: a block is taken, the node is copied there, and each half keeps its entries.
use Rattle.std.proofs.Common.{◌≡◌, ℕ, ◌+◌, ◌-◌, ◌*◌, ◌<◌, ◌≤◌, List, [], ◌∷◌, ◌++◌, length, take, drop, replicate, refl, sym, ap, ◌∙◌, subst, arith, Bool, true, false}
use Rattle.std.specs.Prelude.{if◌then◌else◌, nat_lt}
use Rattle.std.specs.List.{insert}
use Rattle.std.proofs.lemmas.Bool.Decides.{nat_tests}
use Rattle.h5_bytes.specs.Blocks.{cover, holds}
use Rattle.h5_bytes.specs.declared.Block.{Block}
use Rattle.h5_bytes.specs.Bytes.{part}
use Rattle.h5_bytes.proofs.PartLaws.{length-part}
use Rattle.h5_model.specs.Format.Symbols.{Entry, IsSymbolNode, entries_of, symbol_block, symbol_bytes, symbols_at}
use Rattle.h5_space.specs.Lending.{with_bytes_at}
use Rattle.h5_space.specs.Moves.{Moves, Spends}
use Rattle.h5_space.specs.Space.{Space, growth}
use Rattle.h5_space.specs.Whole.{IsApart}
use Rattle.h5_space.proofs.MovesLaws.{moves_apart, moves_beside, moves_kept, moves_same, moves_take, moves_then, spends_take, spends_then}
use Rattle.h5_btree.specs.Insertion.{left_count}
use Rattle.h5_btree.proofs.HalfLists.{left_children_with, right_with, right_without, take_without}
use Rattle.h5_btree.proofs.BlocksInside.{inside_held}
use Rattle.h5_group.specs.Split.{AreHalves, AreNewSymbols}
use Rattle.h5_group.specs.SymbolEdits.{IsSymbolsRewritten}
use Rattle.h5_group.proofs.SymbolEdits.{symbols_rewritten}

-- a block that is not empty ends by the end
pub apart_inside : (b : Block) (more free : List Block) (end : ℕ) → 1 ≤ b.len → IsApart (b ∷ more) free end → b.at + b.len ≤ end
apart_inside b more free end some apart = (inside_held end (b ∷ []) (λ p. omega (arith, apart p)) (some, tt)).0

pub apart_swapped : (a b : Block) (free : List Block) (end : ℕ) → IsApart (a ∷ b ∷ []) free end → IsApart (b ∷ a ∷ []) free end
apart_swapped a b free end apart p = let h = apart p in omega (arith, h)

-- one of two symbol nodes is written, and the other stays
module _ (s t : Space) (leaf a b : ℕ) (entries : List Entry) (w : IsSymbolsRewritten s t leaf a entries)
    (apart : IsApart (symbol_block leaf a ∷ symbol_block leaf b ∷ []) s.free (length s.bytes)) where
  pub other_inside : b + (8 + 80 * leaf) ≤ length s.bytes
  other_inside = apart_inside (symbol_block leaf b) (symbol_block leaf a ∷ []) s.free (length s.bytes) (omega arith)
      (apart_swapped (symbol_block leaf a) (symbol_block leaf b) s.free (length s.bytes) apart)

  pub other_kept : symbol_bytes t.bytes leaf b ≡ symbol_bytes s.bytes leaf b
  other_kept = (moves_kept s t (symbol_block leaf a ∷ []) (symbol_block leaf a ∷ []) (symbol_block leaf b ∷ []) w.moves apart (other_inside, tt)).0

  pub both_moved : Moves s t (symbol_block leaf a ∷ symbol_block leaf b ∷ []) (symbol_block leaf a ∷ symbol_block leaf b ∷ [])
  both_moved = moves_beside s t (symbol_block leaf a ∷ []) (symbol_block leaf a ∷ []) (symbol_block leaf b ∷ []) w.moves

pub moves_swapped : (s t : Space) (a b : Block) → Moves s t (a ∷ b ∷ []) (a ∷ b ∷ []) → Moves s t (b ∷ a ∷ []) (b ∷ a ∷ [])
moves_swapped s t a b m = moves_same s t (a ∷ b ∷ []) (a ∷ b ∷ []) (b ∷ a ∷ []) (b ∷ a ∷ []) (λ p. omega arith) (λ p. omega arith) m

-- two halves, of which one is written again
module _ (s t u : Space) (leaf at other : ℕ) (left right more : List Entry) (h : AreHalves s t leaf at other left right)
    (apart : IsApart (symbol_block leaf at ∷ []) s.free (length s.bytes)) where
  pub halves_apart : IsApart (symbol_block leaf at ∷ symbol_block leaf other ∷ []) t.free (length t.bytes)
  halves_apart = moves_apart s t (symbol_block leaf at ∷ []) (symbol_block leaf at ∷ symbol_block leaf other ∷ []) [] h.moves apart

  pub left_again : IsSymbolsRewritten t u leaf at more → AreHalves s u leaf at other more right
  left_again w =
      let kept = other_kept t u leaf at other more w halves_apart in
      record {
        left_says = w.says;
        right_says = ap entries_of kept ∙ h.right_says;
        left_form = w.form;
        right_form = subst (IsSymbolNode leaf) (sym kept) h.right_form;
        moves = moves_then s t u (symbol_block leaf at ∷ []) (symbol_block leaf at ∷ symbol_block leaf other ∷ []) (symbol_block leaf at ∷ symbol_block leaf other ∷ [])
            h.moves (both_moved t u leaf at other more w halves_apart);
        spends = subst (λ (n : ℕ). Spends s u n 1) (omega arith) (spends_then s t u (8 + 80 * leaf) 0 1 0 h.spends w.spends);
      }

  pub right_again : IsSymbolsRewritten t u leaf other more → AreHalves s u leaf at other left more
  right_again w =
      let swapped = apart_swapped (symbol_block leaf at) (symbol_block leaf other) t.free (length t.bytes) halves_apart in
      let kept = other_kept t u leaf other at more w swapped in
      record {
        left_says = ap entries_of kept ∙ h.left_says;
        right_says = w.says;
        left_form = subst (IsSymbolNode leaf) (sym kept) h.left_form;
        right_form = w.form;
        moves = moves_then s t u (symbol_block leaf at ∷ []) (symbol_block leaf at ∷ symbol_block leaf other ∷ []) (symbol_block leaf at ∷ symbol_block leaf other ∷ [])
            h.moves (moves_swapped t u (symbol_block leaf other) (symbol_block leaf at) (both_moved t u leaf other at more w swapped));
        spends = subst (λ (n : ℕ). Spends s u n 1) (omega arith) (spends_then s t u (8 + 80 * leaf) 0 1 0 h.spends w.spends);
      }

-- a block is taken, and the node is copied there
module _ (s t u : Space) (leaf at other : ℕ) (taken : Moves s t [] (symbol_block leaf other ∷ [])) (spent : Spends s t (8 + 80 * leaf) 1)
    (copied : u ≡ with_bytes_at t other (symbol_bytes t.bytes leaf at)) (apart : IsApart (symbol_block leaf at ∷ []) s.free (length s.bytes))
    (form : IsSymbolNode leaf (symbol_bytes s.bytes leaf at)) where
  inside : at + (8 + 80 * leaf) ≤ length s.bytes
  inside = apart_inside (symbol_block leaf at) [] s.free (length s.bytes) (omega arith) apart

  taken_apart : IsApart (symbol_block leaf other ∷ symbol_block leaf at ∷ []) t.free (length t.bytes)
  taken_apart = moves_apart s t [] (symbol_block leaf other ∷ []) (symbol_block leaf at ∷ []) taken apart

  kept : symbol_bytes t.bytes leaf at ≡ symbol_bytes s.bytes leaf at
  kept = (moves_kept s t [] (symbol_block leaf other ∷ []) (symbol_block leaf at ∷ []) taken apart (inside, tt)).0

  pub taken_inside : (at + (8 + 80 * leaf) ≤ length t.bytes) × (other + (8 + 80 * leaf) ≤ length t.bytes)
  taken_inside = (
    apart_inside (symbol_block leaf at) (symbol_block leaf other ∷ []) t.free (length t.bytes) (omega arith)
        (apart_swapped (symbol_block leaf other) (symbol_block leaf at) t.free (length t.bytes) taken_apart),
    apart_inside (symbol_block leaf other) (symbol_block leaf at ∷ []) t.free (length t.bytes) (omega arith) taken_apart,
  )

  again : IsSymbolsRewritten t u leaf other (symbols_at t.bytes leaf at)
  again = symbols_rewritten t u leaf other (symbol_bytes t.bytes leaf at) (symbols_at t.bytes leaf at)
      (length-part at (8 + 80 * leaf) t.bytes taken_inside.0) taken_inside.1 copied refl (subst (IsSymbolNode leaf) (sym kept) form)

  -- both have the same entries then
  pub both_same : AreHalves s u leaf at other (symbols_at s.bytes leaf at) (symbols_at s.bytes leaf at)
  both_same =
      let same = other_kept t u leaf other at (symbols_at t.bytes leaf at) again taken_apart ∙ kept in
      record {
        left_says = ap entries_of same;
        right_says = again.says ∙ ap entries_of kept;
        left_form = subst (IsSymbolNode leaf) (sym same) form;
        right_form = again.form;
        moves = moves_then s t u (symbol_block leaf at ∷ []) (symbol_block leaf at ∷ symbol_block leaf other ∷ []) (symbol_block leaf at ∷ symbol_block leaf other ∷ [])
            (moves_same s t (symbol_block leaf at ∷ []) (symbol_block leaf other ∷ symbol_block leaf at ∷ []) (symbol_block leaf at ∷ []) (symbol_block leaf at ∷ symbol_block leaf other ∷ [])
            (λ p. refl) (λ p. omega arith) (moves_beside s t [] (symbol_block leaf other ∷ []) (symbol_block leaf at ∷ []) taken))
            (moves_swapped t u (symbol_block leaf other) (symbol_block leaf at) (both_moved t u leaf other at (symbols_at t.bytes leaf at) again taken_apart));
        spends = subst (λ (n : ℕ). Spends s u n 1) (omega arith) (spends_then s t u (8 + 80 * leaf) 0 1 0 spent again.spends);
      }

-- what a call says that takes a block
pub block_taken : (s t : Space) (leaf other n : ℕ) → n ≡ leaf → t.bytes ≡ s.bytes ++ replicate (growth (8 + 80 * n) s.free) 0
    → ((p : ℕ) → cover p t.free + holds p other (8 + 80 * n) ≡ cover p s.free + holds p (length s.bytes) (growth (8 + 80 * n) s.free))
    → t.room_bytes + (8 + 80 * n) ≡ s.room_bytes → t.room_blocks + 1 ≡ s.room_blocks
    → Moves s t [] (symbol_block leaf other ∷ []) × Spends s t (8 + 80 * leaf) 1
block_taken s t leaf other n is bytes taken room calls =
    subst (λ (l : ℕ). Moves s t [] (symbol_block l other ∷ []) × Spends s t (8 + 80 * l) 1) is
    (moves_take s t other (8 + 80 * n) (growth (8 + 80 * n) s.free) bytes taken, spends_take s t (8 + 80 * n) bytes room calls)

pub half_taken : (s t u : Space) (leaf at other n : ℕ) → n ≡ leaf → t.bytes ≡ s.bytes ++ replicate (growth (8 + 80 * n) s.free) 0
    → ((p : ℕ) → cover p t.free + holds p other (8 + 80 * n) ≡ cover p s.free + holds p (length s.bytes) (growth (8 + 80 * n) s.free))
    → t.room_bytes + (8 + 80 * n) ≡ s.room_bytes → t.room_blocks + 1 ≡ s.room_blocks → u ≡ with_bytes_at t other (part at (8 + 80 * n) t.bytes)
    → IsApart (symbol_block leaf at ∷ []) s.free (length s.bytes) → IsSymbolNode leaf (symbol_bytes s.bytes leaf at)
    → AreHalves s u leaf at other (symbols_at s.bytes leaf at) (symbols_at s.bytes leaf at)
half_taken s t u leaf at other n is bytes taken room calls copied apart form =
    let both = block_taken s t leaf other n is bytes taken room calls in
    both_same s t u leaf at other both.0 both.1 (copied ∙ ap (λ (l : ℕ). with_bytes_at t other (part at (8 + 80 * l) t.bytes)) is) apart form

-- a new symbol node is written into a block that was taken
pub new_written : (s t u : Space) (leaf other : ℕ) (w : List ℕ) (entries : List Entry) → Moves s t [] (symbol_block leaf other ∷ []) → Spends s t (8 + 80 * leaf) 1
    → length w ≡ 8 + 80 * leaf → other + (8 + 80 * leaf) ≤ length t.bytes → u ≡ with_bytes_at t other w → entries_of w ≡ entries → IsSymbolNode leaf w
    → AreNewSymbols s u leaf other entries
new_written s t u leaf other w entries taken spent size inside written says form =
    let is = symbols_rewritten t u leaf other w entries size inside written says form in
    record {
      says = is.says;
      form = is.form;
      moves = moves_then s t u [] (symbol_block leaf other ∷ []) (symbol_block leaf other ∷ []) taken is.moves;
      spends = subst (λ (n : ℕ). Spends s u n 1) (omega arith) (spends_then s t u (8 + 80 * leaf) 0 1 0 spent is.spends);
    }

-- ---- the two halves with an entry more

module _ {X : Type 0} (xs : List X) (leaf j : ℕ) (x : X) (some : 1 ≤ leaf) (full : length xs ≡ 2 * leaf) (place : j ≤ 2 * leaf) where
  abbrev n : ℕ
  n = left_count leaf j

  pub count_low : j < leaf → n ≡ leaf
  count_low low =
      let inside : nat_lt j leaf ≡ true = grind (arith, nat_tests, low) in
      ap (λ (b : Bool). if b then leaf else leaf + 1) inside

  pub count_high : leaf ≤ j → n ≡ leaf + 1
  count_high high =
      let past : nat_lt j leaf ≡ false = grind (arith, nat_tests, high) in
      ap (λ (b : Bool). if b then leaf else leaf + 1) past

  pub left_low : j < leaf → insert (take (leaf - 1) xs) j x ≡ take n (insert xs j x)
  left_low low = left_children_with x xs j leaf some low ∙ ap (λ (m : ℕ). take m (insert xs j x)) (sym (count_low low))

  pub right_low : j < leaf → drop (leaf - 1) xs ≡ drop n (insert xs j x)
  right_low low = right_with x xs j leaf some low ∙ ap (λ (m : ℕ). drop m (insert xs j x)) (sym (count_low low))

  pub left_middle : j ≡ leaf → insert (take leaf xs) j x ≡ take n (insert xs j x)
  left_middle same =
      let one : leaf + 1 - 1 ≡ leaf = omega arith in
      ap (λ (m : ℕ). insert (take m xs) j x) (sym one) ∙ left_children_with x xs j (leaf + 1) (omega arith) (omega (arith, same))
      ∙ ap (λ (m : ℕ). take m (insert xs j x)) (sym (count_high (omega (arith, same))))

  pub right_middle : j ≡ leaf → drop leaf xs ≡ drop n (insert xs j x)
  right_middle same =
      let one : leaf + 1 - 1 ≡ leaf = omega arith in
      ap (λ (m : ℕ). drop m xs) (sym one) ∙ right_with x xs j (leaf + 1) (omega arith) (omega (arith, same))
      ∙ ap (λ (m : ℕ). drop m (insert xs j x)) (sym (count_high (omega (arith, same))))

  pub left_high : leaf < j → take (leaf + 1) xs ≡ take n (insert xs j x)
  left_high high = sym (take_without x xs j (leaf + 1) (omega (arith, high)) (omega (arith, full, place)))
      ∙ ap (λ (m : ℕ). take m (insert xs j x)) (sym (count_high (omega (arith, high))))

  pub right_high : leaf < j → insert (drop (leaf + 1) xs) (j - (leaf + 1)) x ≡ drop n (insert xs j x)
  right_high high = right_without x xs j (leaf + 1) (omega (arith, high)) (omega (arith, full, place))
      ∙ ap (λ (m : ℕ). drop m (insert xs j x)) (sym (count_high (omega (arith, high))))
