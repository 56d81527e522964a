-- The keys of a tree of chunks in the plain layout rise, and each chunk is between those around it (File Format Specification 3.0,
-- section III.A.1).
use Rattle.std.proofs.Common.{◌≡◌, ℕ, zero, suc, ◌+◌, ◌^◌, ◌<◌, ◌≤◌, List, [], ◌∷◌, ◌++◌, length, get_or, refl, sym, ap, ◌∙◌, subst, arith, true, false}
use Rattle.std.proofs.lemmas.Bool.{or_parts}
use Rattle.std.proofs.lemmas.Bool.Decides.{nat_tests}
use Rattle.std.specs.Prelude.{IsTrue, ◌==◌, nat_lt}
use Rattle.std.specs.Ordering.{nat_cmp, is_lt, ordering_then}
use Rattle.std.specs.declared.cmp.Ordering.{Ordering}
use Rattle.std.specs.declared.cmp.Ordering.TheVariants.{Less, Equal, Greater}
use Rattle.std.specs.Cmp.Lexicographic.{slice_cmp}
use Rattle.std.specs.List.{AllByRecursion, AllZip, list_any}
use Rattle.h5_model.specs.Format.Chunks.{IsOffset, all_offsets_in, offsets_in}
use Rattle.h5_model.specs.Format.Links.{Before, NotAfter}
use Rattle.h5_model.proofs.TextOrder.{not_after_itself, before_le}
use Rattle.h5_laws.specs.Ladders.{IsLadder, Sides}
use Rattle.h5_btree.specs.declared.write.child.Child.{Child}
use Rattle.h5_btree.specs.Writing.Laws.{lists_beside}
use Rattle.h5_btree.specs.Writing.Written.{keys_of, places_of}
use Rattle.h5_chunks.specs.Keys.{OffsetKey, chunk_key, index_from}
use Rattle.h5_repack.specs.Bodies.Chunks.{chunk_children}
use Rattle.h5_layout.specs.HeldChunks.{AreRising}
use Rattle.h5_layout.proofs.KeyBack.{AreWords, offsets_back, all_back}
use Rattle.h5_repack.proofs.ChunkLaws.ChunkLengths.{length-index_from}

-- ---- offsets before others

-- the offset for the element changes nothing
pub before_more : (a b : List ℕ) → length a ≡ length b → Before a b → Before (a ++ 0 ∷ []) (b ++ 0 ∷ [])
before_more [] [] same is = absurd (cc)
before_more [] (y ∷ ys) same is = absurd (omega (arith, same))
before_more (x ∷ xs) [] same is = absurd (omega (arith, same))
before_more (x ∷ xs) (y ∷ ys) same is = by_order (nat_cmp x y) is (before_more xs ys (omega (arith, same))) where
  by_order : (r : Ordering) → IsTrue (is_lt (ordering_then r (slice_cmp nat_cmp xs ys)))
      → (IsTrue (is_lt (slice_cmp nat_cmp xs ys)) → IsTrue (is_lt (slice_cmp nat_cmp (xs ++ 0 ∷ []) (ys ++ 0 ∷ []))))
      → IsTrue (is_lt (ordering_then r (slice_cmp nat_cmp (xs ++ 0 ∷ []) (ys ++ 0 ∷ []))))
  by_order Less h again = refl
  by_order Equal h again = again h
  by_order Greater h again = absurd (cc)

-- offsets are before those behind their chunk
pub before_behind : (offsets chunk : List ℕ) → length offsets ≡ length chunk → 1 ≤ length chunk → list_any (λ n. n == 0) chunk ≡ false
    → Before offsets (index_from offsets chunk)
before_behind offsets [] same ranked some = absurd (omega (arith, ranked))
before_behind [] (c ∷ cs) same ranked some = absurd (omega (arith, same))
before_behind (o ∷ os) (c ∷ cs) same ranked some =
    let own : (c == 0) ≡ false = (or_parts (c == 0) (list_any (λ n. n == 0) cs) some).0 in
    let less : nat_lt o (o + c) ≡ true = grind (arith, nat_tests) in
    let first : nat_cmp o (o + c) ≡ Less = rw less refl in
    rw first refl

-- ---- numbers of eight bytes

pub words_of : (chunk offsets : List ℕ) → AllZip IsOffset chunk offsets → (k : ℕ) → get_or offsets k 0 < 2 ^ 63
words_of [] [] all k = omega arith
words_of [] (o ∷ os) all k = absurd all
words_of (c ∷ cs) [] all k = absurd all
words_of (c ∷ cs) (o ∷ os) all zero = (all.0).small
words_of (c ∷ cs) (o ∷ os) all (suc k) = words_of cs os all.1 k

pub index_low : (offsets inner : List ℕ) (k : ℕ) → get_or (index_from offsets inner) k 0 ≤ get_or offsets k 0 + get_or inner k 0
index_low [] inner k = omega arith
index_low (o ∷ os) [] k = omega arith
index_low (o ∷ os) (i ∷ is) zero = omega arith
index_low (o ∷ os) (i ∷ is) (suc k) = index_low os is k

-- ---- the ladder of the keys

-- what is known of the chunks' sizes, and of stored offsets
pub record IsGridOf (chunk : List ℕ) : Type 0 where
  pub ranked : 1 ≤ length chunk
  pub some : list_any (λ n. n == 0) chunk ≡ false
  pub small : (k : ℕ) → get_or chunk k 0 < 2 ^ 32

module _ (chunk : List ℕ) (grid : IsGridOf chunk) (size : ℕ) where
  abbrev rank : ℕ
  rank = length chunk

  abbrev key : ℕ → List ℕ → List ℕ
  key bytes offsets = chunk_key (record { bytes = bytes; offsets = offsets })

  -- offsets of a key, which can be read back
  pub record IsKeyOffsets (offsets : List ℕ) : Type 0 where
    pub long : length offsets ≡ rank
    pub words : AreWords offsets

  pub offsets_are : (bytes : ℕ) (offsets : List ℕ) → IsKeyOffsets offsets → offsets_in rank (key bytes offsets) ≡ offsets
  offsets_are bytes offsets is = offsets_back bytes offsets is.words rank is.long

  all_are : (bytes : ℕ) (offsets : List ℕ) → IsKeyOffsets offsets → all_offsets_in rank (key bytes offsets) ≡ offsets ++ 0 ∷ []
  all_are bytes offsets is = all_back bytes offsets is.words rank is.long

  long_zip : (cs offsets : List ℕ) → AllZip IsOffset cs offsets → length offsets ≡ length cs
  long_zip [] [] all = refl
  long_zip [] (o ∷ os) all = absurd all
  long_zip (c ∷ cs) [] all = absurd all
  long_zip (c ∷ cs) (o ∷ os) all = omega (arith, long_zip cs os all.1)

  pub key_of : (offsets : List ℕ) → AllZip IsOffset chunk offsets → IsKeyOffsets offsets
  key_of offsets all = record { long = long_zip chunk offsets all; words = λ k. let low = words_of chunk offsets all k in omega (arith, low) }

  pub end_of : (offsets : List ℕ) → AllZip IsOffset chunk offsets → IsKeyOffsets (index_from offsets chunk)
  end_of offsets all = record {
    long = length-index_from offsets chunk (long_zip chunk offsets all);
    words = λ k. let low = words_of chunk offsets all k in let more = index_low offsets chunk k in let own = grid.small k in omega (arith, low, more, own);
  }

  -- a chunk is not before its own key, and before the next one
  pub right_of_key : (offsets : List ℕ) → IsKeyOffsets offsets → NotAfter (all_offsets_in rank (key size offsets)) (offsets_in rank (key size offsets) ++ 0 ∷ [])
  right_of_key offsets is =
      let same : offsets ++ 0 ∷ [] ≡ offsets_in rank (key size offsets) ++ 0 ∷ [] = ap (λ (os : List ℕ). os ++ 0 ∷ []) (sym (offsets_are size offsets is)) in
      subst (λ (xs : List ℕ). NotAfter (all_offsets_in rank (key size offsets)) xs) (all_are size offsets is ∙ same)
      (not_after_itself (all_offsets_in rank (key size offsets)))

  pub left_of_next : (offsets next : List ℕ) (bytes : ℕ) → IsKeyOffsets offsets → IsKeyOffsets next → Before offsets next
      → Before (offsets_in rank (key size offsets) ++ 0 ∷ []) (all_offsets_in rank (key bytes next))
  left_of_next offsets next bytes is is_next before =
      subst (λ (os : List ℕ). Before (os ++ 0 ∷ []) (all_offsets_in rank (key bytes next))) (sym (offsets_are size offsets is))
      (subst (Before (offsets ++ 0 ∷ [])) (sym (all_are bytes next is_next))
      (before_more offsets next (is.long ∙ sym is_next.long) before))

  pub keys_follow : (offsets next : List ℕ) (bytes : ℕ) → IsKeyOffsets offsets → IsKeyOffsets next → Before offsets next
      → NotAfter (all_offsets_in rank (key size offsets)) (all_offsets_in rank (key bytes next))
  keys_follow offsets next bytes is is_next before =
      subst (λ (xs : List ℕ). NotAfter xs (all_offsets_in rank (key bytes next))) (sym (all_are size offsets is))
      (subst (NotAfter (offsets ++ 0 ∷ [])) (sym (all_are bytes next is_next))
      (before_le (offsets ++ 0 ∷ []) (next ++ 0 ∷ []) (before_more offsets next (is.long ∙ sym is_next.long) before)))

  -- the keys of the chunks, each with its chunk's address
  abbrev pub key_pairs : ℕ → List (List ℕ) → List (List ℕ × ℕ)
  key_pairs at [] = []
  key_pairs at (offsets ∷ others) = (key size offsets, at) ∷ key_pairs (at + size) others

  -- for any sides of keys by which a chunk is right of its own key and left of the next
  module _ {X : Type 0} (sides : Sides (List ℕ) X) (item : List ℕ → ℕ → X) (Among : List ℕ × ℕ → Type 0)
      (right : (offsets : List ℕ) (at : ℕ) → IsKeyOffsets offsets → Among (key size offsets, at) → sides.Right (key size offsets) (item (key size offsets) at))
      (left : (offsets next : List ℕ) (at bytes : ℕ) → IsKeyOffsets offsets → IsKeyOffsets next → Before offsets next
      → sides.Left (item (key size offsets) at) (key bytes next) × sides.Rise (key size offsets) (key bytes next)) where
    abbrev children : ℕ → List (List ℕ) → List (Child OffsetKey)
    children at stored = chunk_children size chunk at stored

    abbrev beside : List ℕ → ℕ → List X
    beside k at = item k at ∷ []

    abbrev keys : List ℕ → ℕ → List (List ℕ) → List (List ℕ)
    keys first at stored = keys_of chunk_key (record { bytes = size; offsets = first }) (children at stored)

    pub chunk_ladder : (first : List ℕ) (others : List (List ℕ)) (at : ℕ) → AreRising (first ∷ others) → AllByRecursion (AllZip IsOffset chunk) (first ∷ others)
        → AllByRecursion Among (key_pairs at (first ∷ others))
        → IsLadder sides (keys first at (first ∷ others)) (lists_beside beside (keys first at (first ∷ others)) (places_of (children at (first ∷ others))))
    chunk_ladder first [] at rising held among =
        let own = key_of first held.0 in
        let behind = end_of first held.0 in
        let next = left first (index_from first chunk) at 0 own behind (before_behind first chunk own.long grid.ranked grid.some) in
        (((right first at own among.0, next.0), tt), next.1, tt)
    chunk_ladder first (next ∷ others) at rising held among =
        let own = key_of first held.0 in
        let step = left first next at size own (key_of next held.1.0) rising.0 in
        (((right first at own among.0, step.0), tt), step.1, chunk_ladder next others (at + size) rising.1 held.1 among.1)
