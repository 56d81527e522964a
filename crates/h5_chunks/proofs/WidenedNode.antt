-- The keys around a child to which the way to a chunk goes, where end keys of its node give way, if they do not let the chunk in: the first one
-- to the chunk's own key, where it may give way, and the last one to a key past the chunk.
use Rattle.std.proofs.Common.{◌≡◌, ℕ, suc, ◌+◌, Bool, true, false, List, [], ◌∷◌, ◌++◌, length, take, drop, get_or, refl, sym, ap, ◌∙◌, subst, Ordering, Less, Equal, Greater}
use Rattle.std.specs.Prelude.{if◌then◌else◌}
use Rattle.std.specs.Ordering.{nat_cmp, is_le, is_lt, ordering_reverse}
use Rattle.std.specs.Cmp.Lexicographic.{slice_cmp, nat_list_cmp_total}
use Rattle.h5_model.specs.Format.Chunks.{all_offsets_in}
use Rattle.h5_model.specs.Format.Links.{Before, NotAfter}
use Rattle.h5_model.specs.Format.Rows.{Node}
use Rattle.h5_model.proofs.TextOrder.{before_le, not_after_itself, not_after_trans}
use Rattle.h5_laws.specs.ChunkLadders.{rising_chunk_sides}
use Rattle.h5_laws.proofs.ChunkLadders.{chunk_order}
use Rattle.h5_btree.specs.Descent.{IsChildFor}
use Rattle.h5_btree.specs.Widened.{widened_node}
use Rattle.h5_btree.proofs.KeyedEases.{GivesWay}
use Rattle.h5_btree.proofs.EndKeys.{end_keys, first_gives, first_off, first_place, high_kept, high_key, high_stands, last_gives, last_on, last_place, low_kept, low_key, low_stands}
use Rattle.h5_btree.proofs.KeyedEnds.{ends_give}
use Rattle.h5_chunks.proofs.SoughtWays.{behind_at}
use Rattle.h5_chunks.proofs.KeyedTold.{IsKeyedChunk, chunk_of}
use Rattle.h5_model.specs.Format.Reached.{Shape}

-- ---- the order of offsets

-- what is not at or below another is above it
pub above_of : (a b : List ℕ) → is_le (slice_cmp nat_cmp a b) ≡ false → Before b a
above_of a b off = by_order (slice_cmp nat_cmp a b) refl where
  by_order : (r : Ordering) → slice_cmp nat_cmp a b ≡ r → Before b a
  by_order Less is = let on : is_le (slice_cmp nat_cmp a b) ≡ true = ap is_le is in let never : false ≡ true = sym off ∙ on in cc
  by_order Equal is = let on : is_le (slice_cmp nat_cmp a b) ≡ true = ap is_le is in let never : false ≡ true = sym off ∙ on in cc
  by_order Greater is = ap is_lt (nat_list_cmp_total.antisymm b a ∙ ap ordering_reverse is)

-- what is at or below another, and not equal to it, is below it
pub below_of : (a b : List ℕ) → is_le (slice_cmp nat_cmp a b) ≡ true → (slice_cmp nat_cmp a b ≡ Equal → ⊥) → Before a b
below_of a b on other = by_order (slice_cmp nat_cmp a b) refl where
  by_order : (r : Ordering) → slice_cmp nat_cmp a b ≡ r → Before a b
  by_order Less is = ap is_lt is
  by_order Equal is = absurd (other is)
  by_order Greater is = let off : is_le (slice_cmp nat_cmp a b) ≡ false = ap is_le is in let never : false ≡ true = sym off ∙ on in cc

-- ---- one node

module _ (rank : ℕ) (offsets : List ℕ) (node : Node) (i : ℕ) (chosen : IsChildFor (behind_at rank offsets) node i) (long : length node.keys ≡ length node.children + 1)
    (may_first : Bool) (low high : List ℕ) (own : all_offsets_in rank low ≡ offsets ++ 0 ∷ []) (past : Before (offsets ++ 0 ∷ []) (all_offsets_in rank high)) where
  abbrev numbers : List ℕ
  numbers = offsets ++ 0 ∷ []

  abbrev behind : List ℕ → Bool
  behind = behind_at rank offsets

  abbrev first : Bool
  first = first_gives behind node i may_first low high

  abbrev last : Bool
  last = last_gives behind node i may_first low high

  abbrev kk : List ℕ
  kk = get_or node.keys i []

  abbrev jj : List ℕ
  jj = get_or node.keys (suc i) []

  -- the keys around the child then
  abbrev pub low_now : List ℕ
  low_now = low_key (behind_at rank offsets) node i may_first low high

  abbrev pub high_now : List ℕ
  high_now = high_key (behind_at rank offsets) node i may_first low high

  pub keys_now : (widened_node (record { first = first; last = last }) low high node).keys ≡ take i node.keys ++ low_now ∷ high_now ∷ drop (suc (suc i)) node.keys
  keys_now = end_keys behind node i may_first low high chosen long

  falls : first ≡ true → NotAfter (all_offsets_in rank low) (all_offsets_in rank kk)
  falls is =
      subst (λ (t : List ℕ). NotAfter t (all_offsets_in rank kk)) (sym own)
      (before_le numbers (all_offsets_in rank kk) (above_of (all_offsets_in rank kk) numbers (first_off behind node i may_first low high is)))

  rises : last ≡ true → NotAfter (all_offsets_in rank jj) (all_offsets_in rank high)
  rises is =
      not_after_trans (all_offsets_in rank jj) numbers (all_offsets_in rank high) (last_on behind node i may_first low high is)
      (before_le numbers (all_offsets_in rank high) past)

  pub gives_way : (shape : Shape) → GivesWay (rising_chunk_sides rank) (chunk_order rank) (chunk_of rank) (IsKeyedChunk shape) node.keys node.children i low_now high_now
  gives_way shape =
      ends_give node.keys node.children i long chosen.child low high (rising_chunk_sides rank) (chunk_order rank) (chunk_of rank) (IsKeyedChunk shape) first last
      (λ is. (first_place behind node i may_first low high is, falls is)) (λ is. (last_place behind node i may_first low high is, rises is))

  -- the chunk is at or above the one before the child, if that one may give way, and below the one behind it
  right : may_first ≡ true → NotAfter (all_offsets_in rank low_now) numbers
  right may = by_test first refl where
    by_test : (b : Bool) → first ≡ b → NotAfter (all_offsets_in rank (if b then low else kk)) numbers
    by_test true is = subst (λ (t : List ℕ). NotAfter t numbers) (sym own) (not_after_itself numbers)
    by_test false is = low_kept behind node i may_first low high chosen long may is

  left : Before numbers (all_offsets_in rank high_now)
  left = by_test last refl where
    by_test : (b : Bool) → last ≡ b → Before numbers (all_offsets_in rank (if b then high else jj))
    by_test true is = past
    by_test false is = above_of (all_offsets_in rank jj) numbers (high_kept behind node i may_first low high chosen long is)

  -- so it is in the node with these keys
  module _ (new : Node) (is : new.keys ≡ take i node.keys ++ low_now ∷ high_now ∷ drop (suc (suc i)) node.keys) where
    pub low_there : get_or new.keys i [] ≡ low_now
    low_there = low_stands behind node i may_first low high chosen long new is

    high_there : get_or new.keys (suc i) [] ≡ high_now
    high_there = high_stands behind node i may_first low high chosen long new is

    pub right_there : may_first ≡ true → NotAfter (all_offsets_in rank (get_or new.keys i [])) (offsets ++ 0 ∷ [])
    right_there may = subst (λ (k : List ℕ). NotAfter (all_offsets_in rank k) numbers) (sym low_there) (right may)

    pub left_there : Before (offsets ++ 0 ∷ []) (all_offsets_in rank (get_or new.keys (suc i) []))
    left_there = subst (λ (k : List ℕ). Before numbers (all_offsets_in rank k)) (sym high_there) left
