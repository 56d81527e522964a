-- Moves of blocks one after another and beside others, what they keep, and what calls of an image move; and the room that is
-- spent. So an edit in place is told by the blocks that it moves, and what stands beside these stays.
use Rattle.std.proofs.Common.{◌≡◌, ℕ, ◌+◌, ◌-◌, ◌<◌, ◌≤◌, ◌⊎◌, List, [], ◌∷◌, ◌++◌, length, drop, get_or, replicate, refl, ap, ◌∙◌, arith, inl, inr, rules}
use Rattle.std.specs.Prelude.{Bool, true, false, if◌then◌else◌, nat_le}
use Rattle.std.specs.List.{list_any}
use Rattle.std.proofs.lemmas.List.{same_lists, places, length-take, length-drop, length-append, length-replicate}
use Rattle.std.proofs.lemmas.Bool.{cases_lt}
use Rattle.h5_bytes.specs.Bytes.{part, with_part, byte_at}
use Rattle.h5_bytes.specs.Blocks.{block, holds, cover, Inside, Keeps}
use Rattle.h5_bytes.specs.declared.Block.{Block}
use Rattle.h5_bytes.proofs.PartLaws.{length-with_part, with_part_is}
use Rattle.h5_bytes.proofs.BlockLaws.{holds_join, holds_in, holds_before, holds_none, holds-le, cover-append}
use Rattle.h5_space.specs.Space.{Space, growth}
use Rattle.h5_space.specs.Whole.{IsWhole, IsApart}
use Rattle.h5_space.specs.Moves.{Moves, Spends}

-- nothing happens
pub moves_none : (s : Space) (bs : List Block) → Moves s s bs bs
moves_none s bs = record {
  grown = omega arith;
  kept = λ p low used free. refl;
  moved = λ p.
      let none : length s.bytes - length s.bytes ≡ 0 = omega arith in
      let zero : holds p (length s.bytes) (length s.bytes - length s.bytes) ≡ 0 = rw none (holds_none p (length s.bytes)) in
      omega (arith, zero);
}

-- one move after another
pub moves_then : (s t u : Space) (a b c : List Block) → Moves s t a b → Moves t u b c → Moves s u a c
moves_then s t u a b c first second = record {
  grown = omega (arith, first.grown, second.grown);
  kept = λ p low used free.
      let past : holds p (length s.bytes) (length t.bytes - length s.bytes) ≡ 0 = holds_before p _ _ low in
      let m = first.moved p in
      second.kept p (omega (arith, low, first.grown)) (omega (arith, m, past, used, free)) (omega (arith, m, past, used, free))
      ∙ first.kept p low used free;
  moved = λ p.
      let e : length s.bytes + (length t.bytes - length s.bytes) ≡ length t.bytes = omega (arith, first.grown) in
      let l : (length t.bytes - length s.bytes) + (length u.bytes - length t.bytes) ≡ length u.bytes - length s.bytes
      = omega (arith, first.grown, second.grown) in
      let j : holds p (length s.bytes) (length u.bytes - length s.bytes)
      ≡ holds p (length s.bytes) (length t.bytes - length s.bytes) + holds p (length t.bytes) (length u.bytes - length t.bytes)
      = rw (l, e) at (holds_join p (length s.bytes) (length t.bytes - length s.bytes) (length u.bytes - length t.bytes)) in
      omega (arith, first.moved p, second.moved p, j);
}

-- a move beside other blocks
pub moves_beside : (s t : Space) (a b more : List Block) → Moves s t a b → Moves s t (a ++ more) (b ++ more)
moves_beside s t a b more m = record {
  grown = m.grown;
  kept = λ p low used free. m.kept p low (omega (arith, used, cover-append p a more)) free;
  moved = λ p. omega (arith, m.moved p, cover-append p a more, cover-append p b more);
}

-- only which bytes blocks hold counts
pub moves_same : (s t : Space) (a b a' b' : List Block) → ((p : ℕ) → cover p a' ≡ cover p a) → ((p : ℕ) → cover p b' ≡ cover p b)
    → Moves s t a b → Moves s t a' b'
moves_same s t a b a' b' left right m = record {
  grown = m.grown;
  kept = λ p low used free. m.kept p low (omega (arith, used, left p)) free;
  moved = λ p. omega (arith, m.moved p, left p, right p);
}

-- blocks in use and free ones stay apart, and nothing leaks
module _ (s t : Space) (a b more : List Block) (m : Moves s t a b) where
  whole_length : (p : ℕ) → holds p 0 (length t.bytes) ≡ holds p 0 (length s.bytes) + holds p (length s.bytes) (length t.bytes - length s.bytes)
  whole_length p =
      let e : length s.bytes + (length t.bytes - length s.bytes) ≡ length t.bytes = omega (arith, m.grown) in
      let z : 0 + length s.bytes ≡ length s.bytes = omega arith in
      rw (e, z) at (holds_join p 0 (length s.bytes) (length t.bytes - length s.bytes))

  pub moves_apart : IsApart (a ++ more) s.free (length s.bytes) → IsApart (b ++ more) t.free (length t.bytes)
  moves_apart apart p = omega (arith, apart p, m.moved p, whole_length p, cover-append p a more, cover-append p b more)

  pub moves_whole : IsWhole (a ++ more) s.free (length s.bytes) → IsWhole (b ++ more) t.free (length t.bytes)
  moves_whole whole p = omega (arith, whole p, m.moved p, whole_length p, cover-append p a more, cover-append p b more)

-- bytes that are the same make a part that is the same
pub part-same : (at len : ℕ) (old new : List ℕ) → at + len ≤ length old → length old ≤ length new
    → ((p : ℕ) → at ≤ p → p < at + len → get_or new p 0 ≡ get_or old p 0) → part at len new ≡ part at len old
unfolding part
part-same at len old new inside grown same =
    same_lists _ _ (search (rules, places)) (λ k d l.
    let low : k < len = omega (arith, l, length-take len (drop at new), length-drop at new) in
    grind (arith, places, same (at + k)))

-- the other blocks in use keep their bytes
pub moves_kept : (s t : Space) (a b more : List Block) → Moves s t a b → IsApart (a ++ more) s.free (length s.bytes)
    → Inside (length s.bytes) more → Keeps s.bytes t.bytes more
moves_kept s t a b [] m apart inside = tt
moves_kept s t a b (x ∷ more) m apart inside =
    let rest : IsApart (a ++ more) s.free (length s.bytes)
    = λ p. omega (arith, apart p, cover-append p a (x ∷ more), cover-append p a more) in (
      part-same x.at x.len s.bytes t.bytes inside.0 m.grown (λ p low high.
          let here = holds_in p x.at x.len low high in
          let end = holds-le p 0 (length s.bytes) in
          m.kept p (omega (arith, high, inside.0))
          (omega (arith, apart p, cover-append p a (x ∷ more), here, end))
          (omega (arith, apart p, cover-append p a (x ∷ more), here, end))),
      moves_kept s t a b more m rest inside.1,
    )

-- each byte that is not as before was in a block that was moved, or free
pub moves_local : (s t : Space) (a b : List Block) → Moves s t a b → (p : ℕ) → p < length s.bytes
    → (byte_at t.bytes p ≡ byte_at s.bytes p) ⊎ ((1 ≤ cover p a) ⊎ (1 ≤ cover p s.free))
moves_local s t a b m p low = elim (cases_lt 0 (cover p a)) [
  | inl used ↦ inr (inl (omega (arith, used)))
  | inr none ↦ elim (cases_lt 0 (cover p s.free)) [
    | inl free ↦ inr (inr (omega (arith, free)))
    | inr empty ↦ inl (m.kept p low (omega (arith, none)) (omega (arith, empty)))
  ]
]

-- where blocks in use and free ones are apart, each byte that is not as before was in a block that was moved, or in none in use
pub moves_local_used : (s t : Space) (a b more : List Block) → Moves s t a b → IsApart (a ++ more) s.free (length s.bytes)
    → (p : ℕ) → p < length s.bytes → (byte_at t.bytes p ≡ byte_at s.bytes p) ⊎ ((1 ≤ cover p a) ⊎ (cover p (a ++ more) ≡ 0))
moves_local_used s t a b more m apart p low = elim (moves_local s t a b m p low) [
  | inl same ↦ inl same
  | inr (inl moved) ↦ inr (inl moved)
  | inr (inr free) ↦ inr (inr (omega (arith, free, apart p, holds-le p 0 (length s.bytes))))
]

-- ---- the calls of an image

get_or-append_left : (xs ys : List ℕ) (k d : ℕ) → k < length xs → get_or (xs ++ ys) k d ≡ get_or xs k d
get_or-append_left xs ys k d low = grind (arith, places)

-- a byte outside of what is written
pub byte-with_part : (at : ℕ) (new bytes : List ℕ) (p : ℕ) → at + length new ≤ length bytes → (p < at) ⊎ (at + length new ≤ p)
    → byte_at (with_part at new bytes) p ≡ byte_at bytes p
byte-with_part at new bytes p room far = ap (λ bs. get_or bs p 0) (with_part_is at new bytes room) ∙ grind (arith, places, far)

-- a block that is taken
pub moves_take : (old new : Space) (at len grown : ℕ) → new.bytes ≡ old.bytes ++ replicate grown 0
    → ((p : ℕ) → cover p new.free + holds p at len ≡ cover p old.free + holds p (length old.bytes) grown)
    → Moves old new [] (block at len ∷ [])
moves_take old new at len grown bytes taken =
    let long : length new.bytes ≡ length old.bytes + grown
    = ap length bytes ∙ length-append old.bytes (replicate grown 0) ∙ ap (λ n. length old.bytes + n) (length-replicate grown 0) in
    let more : length new.bytes - length old.bytes ≡ grown = omega (arith, long) in
    record {
      grown = omega (arith, long);
      kept = λ p low used free. ap (λ bs. byte_at bs p) bytes ∙ get_or-append_left old.bytes (replicate grown 0) p 0 low;
      moved = λ p. rw more (omega (arith, taken p));
    }

-- a block that is given back
pub moves_give : (old new : Space) (at len : ℕ) → new.bytes ≡ old.bytes
    → ((p : ℕ) → cover p new.free ≡ cover p old.free + holds p at len)
    → Moves old new (block at len ∷ []) []
moves_give old new at len bytes given =
    let long : length new.bytes ≡ length old.bytes = ap length bytes in
    let more : length new.bytes - length old.bytes ≡ 0 = omega (arith, long) in
    record {
      grown = omega (arith, long);
      kept = λ p low used free. ap (λ bs. byte_at bs p) bytes;
      moved = λ p. rw (more, holds_none p (length old.bytes)) (omega (arith, given p));
    }

-- bytes that are written
pub moves_write : (old new : Space) (at len : ℕ) (w : List ℕ) → length w ≡ len → at + len ≤ length old.bytes
    → new.bytes ≡ with_part at w old.bytes → new.free ≡ old.free
    → Moves old new (block at len ∷ []) (block at len ∷ [])
moves_write old new at len w size inside bytes free =
    let room : at + length w ≤ length old.bytes = omega (arith, size, inside) in
    let long : length new.bytes ≡ length old.bytes = ap length bytes ∙ length-with_part at w old.bytes room in
    let more : length new.bytes - length old.bytes ≡ 0 = omega (arith, long) in
    record {
      grown = omega (arith, long);
      kept = λ p low used unused.
          let out : holds p at len ≡ 0 = omega (arith, used) in
          let there : byte_at new.bytes p ≡ byte_at (with_part at w old.bytes) p = ap (λ bs. byte_at bs p) bytes in
          there ∙ byte-with_part at w old.bytes p room (elim (cases_lt p at) [
            | inl below ↦ inl below
            | inr above ↦ inr (elim (cases_lt p (at + len)) [
              | inl within ↦ absurd (omega (arith, out, holds_in p at len above within))
              | inr past ↦ omega (arith, past, size)
            ])
          ]);
      moved = λ p. rw (more, holds_none p (length old.bytes), free) (omega arith);
    }

-- ---- the room that is spent

-- nothing is spent
pub spends_none : (s : Space) → Spends s s 0 0
spends_none s = record { grown = omega arith; bytes_left = omega arith; blocks_left = omega arith }

-- what is spent one after another adds up
pub spends_then : (s t u : Space) (m n j k : ℕ) → Spends s t m j → Spends t u n k → Spends s u (m + n) (j + k)
spends_then s t u m n j k first second = record {
  grown = omega (arith, first.grown, second.grown);
  bytes_left = omega (arith, first.bytes_left, second.bytes_left);
  blocks_left = omega (arith, first.blocks_left, second.blocks_left);
}

-- what was spent is no more than a greater bound
pub spends_within : (s t : Space) (m n j k : ℕ) → m ≤ n → j ≤ k → Spends s t m j → Spends s t n k
spends_within s t m n j k bytes blocks spent = record {
  grown = omega (arith, bytes, spent.grown);
  bytes_left = omega (arith, bytes, spent.bytes_left);
  blocks_left = omega (arith, blocks, spent.blocks_left);
}

growth-le : (len : ℕ) (free : List Block) → growth len free ≤ len
growth-le len free = go (list_any (λ b. nat_le len b.len) free) where
  go : (long : Bool) → (if long then 0 else len) ≤ len
  go true = omega arith
  go false = omega arith

-- a block that is taken spends its bytes and one call
pub spends_take : (old new : Space) (len : ℕ) → new.bytes ≡ old.bytes ++ replicate (growth len old.free) 0
    → new.room_bytes + len ≡ old.room_bytes → new.room_blocks + 1 ≡ old.room_blocks → Spends old new len 1
spends_take old new len bytes room calls =
    let more = growth len old.free in
    let long : length new.bytes ≡ length old.bytes + more
    = ap length bytes ∙ length-append old.bytes (replicate more 0) ∙ ap (λ n. length old.bytes + n) (length-replicate more 0) in
    record {
      grown = omega (arith, long, growth-le len old.free);
      bytes_left = omega (arith, room);
      blocks_left = omega (arith, calls);
    }
