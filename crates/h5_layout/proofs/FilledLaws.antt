-- Chunks stored with each cell the fill, some after others.
use Rattle.std.proofs.Common.{◌≡◌, ℕ, ◌+◌, ◌*◌, ℤ, inl, inr, List, [], ◌++◌, length, replicate, Option, Some, refl, sym, ap, ◌∙◌, subst}
use Rattle.std.specs.Prelude.{OnErr, OnOk, IfErr, IfOk, Result, Ok, Err}
use Rattle.std.specs.FinMap.{get}
use Rattle.std.specs.List.{Contains}
use Rattle.std.proofs.lemmas.Option.{same_Some}
use Rattle.std.proofs.lemmas.List.{length-replicate}
use Rattle.h5_bytes.specs.Bytes.{part}
use Rattle.h5_model.specs.Format.Fixed.{Fixed}
use Rattle.h5_model.specs.Format.Nodes.{Kind, node_length}
use Rattle.h5_model.specs.Format.Reached.{Shape}
use Rattle.h5_model.specs.Format.Superblock.{k_values}
use Rattle.h5_model.proofs.PlainValues.{length-cells_bytes}
use Rattle.h5_space.specs.Space.{Space}
use Rattle.h5_space.proofs.MovesLaws.{moves_none, moves_then}
use Rattle.h5_laws.proofs.Lists.{In, contains_in, in_contains, in_either, in_left, in_right}
use Rattle.h5_chunks.specs.InsertFaultType.{InsertFault}
use Rattle.h5_chunks.specs.Told.{chunk_blocks_told, chunks_told}
use Rattle.h5_chunks.specs.Edited.{AreChunksApart, store_room}
use Rattle.h5_chunks.proofs.SuperblockStays.{kind_stays}
use Rattle.h5_layout.specs.Filled.{FillsChunk, HasFilledChunks, cells_of_fill}

-- as many bytes as the cells take
pub fill_count : (t : Fixed) (fill : ℤ) (n : ℕ) → length (cells_of_fill t fill n) ≡ n * t.size
fill_count t fill n = length-cells_bytes t (replicate n fill) ∙ ap (λ (m : ℕ). m * t.size) (length-replicate n fill)

-- as many as a chunk has
pub fill_long : (t : Fixed) (fill : ℤ) (n : ℕ) (shape : Shape) → FillsChunk t fill n shape → length (cells_of_fill t fill n) ≡ shape.bytes
fill_long t fill n shape is = fill_count t fill n ∙ is.sized

-- ---- none, and some after others

module _ (shape : Shape) (root : ℕ) (bytes : List ℕ) where
  pub filled_none : (s : Space) → AreChunksApart s shape root → HasFilledChunks s s shape root bytes []
  filled_none s stand = record {
    stand = stand;
    stored = record { added = λ offsets at. absurd (in_contains offsets [] at); others = λ offsets no. refl };
    filled = λ offsets at there found. absurd (in_contains offsets [] there);
    kept = λ offsets at found. (found, refl);
    k = refl;
    moves = moves_none s (chunk_blocks_told s.bytes shape root);
    bushy = λ low bushy. bushy;
  }

  module _ (s t u : Space) (more others : List (List ℕ)) (first : HasFilledChunks s t shape root bytes more) (second : HasFilledChunks t u shape root bytes others) where
    abbrev now : List ℕ → Option ℕ
    now offsets = get (chunks_told u.bytes shape root) offsets

    -- a chunk of the first
    early : (offsets : List ℕ) → In offsets more → (at : ℕ) × (now offsets ≡ Some at) × (part at shape.bytes u.bytes ≡ bytes)
    early offsets at =
        let there = contains_in offsets more at in
        let f = first.stored.added offsets there in
        let k = second.kept offsets f.0 f.1 in
        (f.0, k.0, k.1 ∙ first.filled offsets f.0 there f.1)

    then_added : (offsets : List ℕ) → Contains (more ++ others) offsets → (at : ℕ) × (now offsets ≡ Some at)
    then_added offsets at = elim (in_either offsets more others (in_contains offsets (more ++ others) at)) [
      | inl before ↦ let e = early offsets before in (e.0, e.1)
      | inr behind ↦ second.stored.added offsets (contains_in offsets others behind)
    ]

    then_filled : (offsets : List ℕ) (at : ℕ) → Contains (more ++ others) offsets → now offsets ≡ Some at → part at shape.bytes u.bytes ≡ bytes
    then_filled offsets at there found = elim (in_either offsets more others (in_contains offsets (more ++ others) there)) [
      | inl before ↦
          let e = early offsets before in
          let same : e.0 ≡ at = same_Some e.0 at (sym e.1 ∙ found) in
          subst (λ (n : ℕ). part n shape.bytes u.bytes ≡ bytes) same e.2
      | inr behind ↦ second.filled offsets at (contains_in offsets others behind) found
    ]

    pub filled_then : HasFilledChunks s u shape root bytes (more ++ others)
    filled_then = record {
      stand = second.stand;
      stored = record {
        added = then_added;
        others = λ offsets no.
            second.stored.others offsets (λ at. no (contains_in offsets (more ++ others) (in_right offsets more others (in_contains offsets others at))))
            ∙ first.stored.others offsets (λ at. no (contains_in offsets (more ++ others) (in_left offsets more others (in_contains offsets more at))));
      };
      filled = then_filled;
      kept = λ offsets at found.
          let f = first.kept offsets at found in
          let g = second.kept offsets at f.0 in
          (g.0, g.1 ∙ f.1);
      k = second.k ∙ first.k;
      moves = moves_then s t u (chunk_blocks_told s.bytes shape root) (chunk_blocks_told t.bytes shape root) (chunk_blocks_told u.bytes shape root) first.moves second.moves;
      bushy = λ low bushy. second.bushy low (first.bushy low bushy);
    }

-- ---- how the storing ends

-- where it can't fail, a refusal leaves whatever is asked
pub never_refused : {P Q : Type 0} (R : Type 0) (r : Result ℕ InsertFault) → IfErr r (λ fault. P) → IfErr r (λ fault. Q) → (P → Q → ⊥) → OnErr r R
never_refused R (Ok at) turn low never = tt
never_refused R (Err fault) turn low never = absurd (never turn low)

-- and of the address that is given then
pub then_at : {P : Type 0} {Q R : ℕ → Type 0} (r : Result ℕ InsertFault) → OnOk r P → IfOk r Q → (P → (at : ℕ) → Q at → R at) → IfOk r R
then_at (Ok at) p q next = next p at q
then_at (Err fault) p q next = tt

-- ---- the room that a chunk may take, where K stays

pub store_room_same : (s t : Space) (shape : Shape) → k_values t.bytes ≡ k_values s.bytes → store_room t.bytes shape ≡ store_room s.bytes shape
store_room_same s t shape k = ap (λ (kind : Kind). shape.bytes + 17 * node_length kind) (kind_stays s t shape k)
