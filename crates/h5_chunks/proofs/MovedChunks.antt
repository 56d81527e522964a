-- Edits of chunks one after another.
use Rattle.std.proofs.Common.{◌≡◌, ℕ, ◌+◌, List, [], ◌∷◌, ◌++◌, refl, sym, ◌∙◌, subst}
use Rattle.std.specs.FinMap.{remove, retain_keys}
use Rattle.h5_bytes.specs.Blocks.{Keeps}
use Rattle.h5_model.specs.Format.Chunks.{Chunks}
use Rattle.h5_model.specs.Format.Reached.{Shape}
use Rattle.h5_model.specs.Tree.Places.{is_inside}
use Rattle.h5_model.proofs.Frames.{keeps_then}
use Rattle.h5_space.specs.Moves.{Spends}
use Rattle.h5_space.specs.Space.{Space}
use Rattle.h5_space.proofs.MovesLaws.{moves_none, moves_then, spends_none, spends_then}
use Rattle.h5_chunks.specs.Edited.{AreChunksApart, HasChunksNow}
use Rattle.h5_chunks.specs.Lists.{offsets_outside}
use Rattle.h5_chunks.specs.Told.{chunk_blocks_told, chunks_told}
use Rattle.h5_chunks.proofs.KeptChunks.{blocks_of_chunks, keeps_same, less_kept}
use Rattle.h5_chunks.proofs.OutsideLaws.{last_outside, none_outside}

module _ (shape : Shape) (root : ℕ) where
  -- nothing happens
  pub has_chunks_none : (s : Space) → AreChunksApart s shape root → HasChunksNow s s shape root (chunks_told s.bytes shape root)
  has_chunks_none s apart = record { told = refl; stand = apart; moves = moves_none s (chunk_blocks_told s.bytes shape root); k = refl }

  -- one edit after another
  pub has_chunks_then : (s t u : Space) (a b : Chunks) → HasChunksNow s t shape root a → HasChunksNow t u shape root b → HasChunksNow s u shape root b
  has_chunks_then s t u a b first second = record {
    told = second.told;
    stand = second.stand;
    moves = moves_then s t u (chunk_blocks_told s.bytes shape root) (chunk_blocks_told t.bytes shape root)
        (chunk_blocks_told u.bytes shape root) first.moves second.moves;
    k = second.k ∙ first.k;
  }

  -- ---- chunks outside of an extent are taken out one by one, from the last on

  module _ (sizes : List ℕ) where
    -- Some were taken out, with so many calls. These are left that are outside, and as many are inside as before.
    pub record AreTakenOut (old now : Space) (left : List (List ℕ)) (calls : ℕ) : Type 0 where
      pub has : HasChunksNow old now shape root (chunks_told now.bytes shape root)
      pub outside : offsets_outside sizes (chunks_told now.bytes shape root) ≡ left
      pub inside : retain_keys (chunks_told now.bytes shape root) (is_inside sizes) ≡ retain_keys (chunks_told old.bytes shape root) (is_inside sizes)
      pub spent : Spends old now 0 calls
      pub kept : Keeps old.bytes now.bytes (blocks_of_chunks shape (chunks_told now.bytes shape root))

    pub none_taken : (s : Space) → AreChunksApart s shape root → AreTakenOut s s (offsets_outside sizes (chunks_told s.bytes shape root)) 0
    none_taken s apart = record { has = has_chunks_none s apart; outside = refl; inside = refl; spent = spends_none s; kept = keeps_same s.bytes (blocks_of_chunks shape (chunks_told s.bytes shape root)) }

    pub one_taken : (old now next : Space) (others : List (List ℕ)) (offsets : List ℕ) (calls : ℕ) → AreTakenOut old now (others ++ offsets ∷ []) calls
        → HasChunksNow now next shape root (remove (chunks_told now.bytes shape root) offsets) → Spends now next 0 16
        → Keeps now.bytes next.bytes (blocks_of_chunks shape (chunks_told now.bytes shape root)) → AreTakenOut old next others (calls + 16)
    one_taken old now next others offsets calls taken step spent kept =
        let last = last_outside sizes (chunks_told now.bytes shape root) others offsets taken.outside in
        record {
          has = subst (HasChunksNow old next shape root) (sym step.told)
              (has_chunks_then old now next (chunks_told now.bytes shape root) (remove (chunks_told now.bytes shape root) offsets) taken.has step);
          outside = subst (λ (c : Chunks). offsets_outside sizes c ≡ others) (sym step.told) last.outside;
          inside = subst (λ (c : Chunks). retain_keys c (is_inside sizes) ≡ retain_keys (chunks_told old.bytes shape root) (is_inside sizes)) (sym step.told)
              (last.inside ∙ taken.inside);
          spent = spends_then old now next 0 0 calls 16 taken.spent spent;
          kept = subst (λ (c : Chunks). Keeps old.bytes next.bytes (blocks_of_chunks shape c)) (sym step.told)
              (less_kept (chunks_told now.bytes shape root) shape old.bytes next.bytes offsets
              (keeps_then old.bytes now.bytes next.bytes (blocks_of_chunks shape (chunks_told now.bytes shape root)) taken.kept kept));
        }

    pub all_taken : (old now : Space) (calls : ℕ) → AreTakenOut old now [] calls
        → HasChunksNow old now shape root (retain_keys (chunks_told old.bytes shape root) (is_inside sizes))
    all_taken old now calls taken =
        subst (HasChunksNow old now shape root) (sym (none_outside sizes (chunks_told now.bytes shape root) taken.outside) ∙ taken.inside) taken.has
