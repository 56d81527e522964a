-- A header that says other sizes of an array in chunks: the data stay, with the cell at each index of their grid.
use Rattle.std.specs.List.{AllByRecursion, filter}
use Rattle.std.proofs.Common.{◌≡◌, ℕ, true, false, cond, not, IsTrue, List, [], ◌∷◌, ◌++◌, ◌≤◌, length, refl, sym, ap, ◌∙◌, subst, arith}
use Rattle.h5_bytes.specs.Blocks.{Keeps, cover}
use Rattle.h5_bytes.specs.declared.Block.{Block}
use Rattle.h5_bytes.proofs.BlockLaws.{cover-append}
use Rattle.h5_model.specs.Edits.Refusal.{is_chunked}
use Rattle.h5_model.specs.Format.Layout.{Layout, InMessage, InBlock, InChunks}
use Rattle.h5_model.specs.Format.Messages.{Message}
use Rattle.h5_model.specs.Format.Superblock.{chunk_k, k_values, highest_k}
use Rattle.h5_model.specs.Format.Described.{storage_of, Described, HasArray}
use Rattle.h5_model.proofs.KLaws.{same_chunk, same_length}
use Rattle.h5_space.specs.Space.{Space}
use Rattle.h5_space.specs.Whole.{IsApart}
use Rattle.h5_space.proofs.MovesLaws.{moves_apart, moves_beside, moves_kept, moves_same}
use Rattle.h5_header.specs.Heads.{is_read}
use Rattle.h5_header.specs.Listed.{Listed, message_in, messages_in}
use Rattle.h5_header.specs.declared.message.Message.{Message as Placed}
use Rattle.h5_chunks.proofs.SuperblockStays.{k_stays, superblock_of}
use Rattle.h5_layout.specs.ArrayEdits.{IsArrayApart, IsArrayMoved, array_blocks, described_in}
use Rattle.h5_layout.specs.Data.{AreDataRead, data_blocks, stored_chunks}
use Rattle.h5_layout.specs.ExtentNow.{HasExtentNow}
use Rattle.h5_layout.specs.Extents.{CanHaveSizes, HasSizesNow}
use Rattle.h5_layout.specs.Trimmed.{grid_cell}
use Rattle.h5_layout.proofs.ArrayMoved.{beside_superblock}
use Rattle.h5_layout.proofs.DataKept.{data_blocks-same, data_inside, data_read-same, grid_cell-same, stored_chunks-same}
use Rattle.h5_layout.proofs.ExtentSaid.{array_now, kinds_now, others_now}
use Rattle.h5_layout.proofs.ToldLaws.{told}

-- ---- messages of types that are read

abbrev unread : List Message → List Message
unread ms = filter (λ (m : Message). not (is_read m.kind)) ms

none_unread : (image : List ℕ) (list : List Placed) → AllByRecursion (λ (x : Placed). IsTrue (is_read x.kind)) list → unread (messages_in image list) ≡ []
none_unread image [] all = refl
none_unread image (x ∷ list) all = rw all.0 (none_unread image list all.1)

all_read : (image : List ℕ) (list : List Placed) → unread (messages_in image list) ≡ [] → AllByRecursion (λ (x : Placed). IsTrue (is_read x.kind)) list
all_read image [] none = tt
all_read image (x ∷ list) none = elim (is_read x.kind) as (λ b. cond (not b) (message_in image x ∷ unread (messages_in image list)) (unread (messages_in image list)) ≡ []
    → IsTrue b × AllByRecursion (λ (y : Placed). IsTrue (is_read y.kind)) list) [
      | true ↦ λ rest. (refl, all_read image list rest)
      | false ↦ λ some. absurd (cc)
    ] none

-- ---- the array

-- a cell in the grid of chunks goes by no size of the array
pub sizes_aside : (image : List ℕ) (a : Described) (sizes index : List ℕ) → is_chunked (storage_of a.sizes a.layout) ≡ true
    → grid_cell image (record a { sizes = sizes }) index ≡ grid_cell image a index
sizes_aside image a sizes index chunked = go a.layout chunked refl where
  go : (l : Layout) → is_chunked (storage_of a.sizes l) ≡ true → a.layout ≡ l → grid_cell image (record a { sizes = sizes }) index ≡ grid_cell image a index
  go (InMessage bytes) never is = absurd (let no : false ≡ true = never in cc)
  go (InBlock b) never is = absurd (let no : false ≡ true = never in cc)
  go (InChunks chunk root) some is = rw is refl

module _ (old new : Space) (m m' : Listed) (was : IsArrayApart old m) (sizes : List ℕ) (can : CanHaveSizes (described_in old.bytes m) sizes)
    (now : HasExtentNow old new m m' (record { sizes = sizes; maxima = (described_in old.bytes m).maxima })) where
  abbrev a : Described
  a = described_in old.bytes m

  abbrev held : List Block
  held = data_blocks old.bytes a.fixed a.layout

  -- ---- what the header says

  has_now : HasArray (messages_in new.bytes m'.list) (record a { sizes = sizes })
  has_now =
      array_now (messages_in old.bytes m.list) (messages_in new.bytes m'.list) (record { sizes = sizes; maxima = a.maxima }) now.said a was.array can.chunked can.ranked refl can.few

  told_now : described_in new.bytes m' ≡ record a { sizes = sizes }
  told_now = told (messages_in new.bytes m'.list) (record a { sizes = sizes }) has_now

  -- ---- the data

  others_apart : IsApart (m.blocks ++ (superblock_of old ∷ held)) old.free (length old.bytes)
  others_apart p = omega (arith, was.apart p, cover-append p m.blocks (superblock_of old ∷ held), cover-append p m.blocks held)

  k_now : k_values new.bytes ≡ k_values old.bytes
  k_now = k_stays old new m.blocks m'.blocks held now.moves others_apart was.long

  same_k : chunk_k new.bytes ≡ chunk_k old.bytes
  same_k = same_chunk new.bytes old.bytes k_now

  kept : Keeps old.bytes new.bytes held
  kept =
      (moves_kept old new m.blocks m'.blocks (superblock_of old ∷ held) now.moves others_apart
      (omega (arith, was.long), data_inside old.bytes a.fixed a.layout was.read)).1

  blocks_stay : data_blocks new.bytes (described_in new.bytes m').fixed (described_in new.bytes m').layout ≡ held
  blocks_stay =
      ap (λ (x : Described). data_blocks new.bytes x.fixed x.layout) told_now
      ∙ data_blocks-same old.bytes new.bytes now.moves.grown same_k a.fixed a.layout was.read kept

  now_apart : IsApart (m'.blocks ++ (superblock_of old ∷ held)) new.free (length new.bytes)
  now_apart = moves_apart old new m.blocks m'.blocks (superblock_of old ∷ held) now.moves others_apart

  stands : IsArrayApart new m'
  stands = record {
    standing = now.standing;
    kinds = kinds_now (messages_in old.bytes m.list) (messages_in new.bytes m'.list) (record { sizes = sizes; maxima = a.maxima }) now.said was.kinds;
    array = subst (HasArray (messages_in new.bytes m'.list)) (sym told_now) has_now;
    read = subst (λ (x : Described). AreDataRead new.bytes x.fixed x.layout) (sym told_now)
        (data_read-same old.bytes new.bytes now.moves.grown same_k a.fixed a.layout was.read kept);
    apart = beside_superblock old new k_now (array_blocks new.bytes m') (λ p. omega (
      arith,
      now_apart p,
      ap (cover p) blocks_stay,
      cover-append p m'.blocks (superblock_of old ∷ held),
      cover-append p m'.blocks (data_blocks new.bytes (described_in new.bytes m').fixed (described_in new.bytes m').layout),
    ));
    long = omega (arith, was.long, now.moves.grown, same_length new.bytes old.bytes k_now);
    k_some = subst (λ n. 1 ≤ n) (sym same_k) was.k_some;
    k_few = subst (λ n. n ≤ highest_k) (sym same_k) was.k_few;
  }

  moved : IsArrayMoved old new m m'
  moved = record {
    stand = stands;
    header = now.header;
    count = now.count;
    known = λ all. all_read new.bytes m'.list
        ((now.said).others (λ (k : ℕ). not (is_read k)) (refl, (refl, (refl, (refl, (refl, tt))))) ∙ none_unread old.bytes m.list all);
    others = others_now (messages_in old.bytes m.list) (messages_in new.bytes m'.list) (record { sizes = sizes; maxima = a.maxima }) now.said;
    moves = moves_same old new (m.blocks ++ held) (m'.blocks ++ held) (array_blocks old.bytes m) (array_blocks new.bytes m')
        (λ p. refl) (λ p. ap (λ (bs : List Block). cover p (m'.blocks ++ bs)) blocks_stay) (moves_beside old new m.blocks m'.blocks held now.moves);
    k = k_now;
  }

  pub sized : HasSizesNow old new m m' sizes
  sized = record {
    moved = moved;
    told = told_now;
    chunks = ap (λ (x : Described). stored_chunks new.bytes x.fixed x.layout) told_now
        ∙ stored_chunks-same old.bytes new.bytes now.moves.grown same_k a.fixed a.layout was.read kept;
    cells = λ index. ap (λ (x : Described). grid_cell new.bytes x index) told_now ∙ sizes_aside new.bytes a sizes index can.chunked
        ∙ grid_cell-same old.bytes new.bytes now.moves.grown same_k a was.read kept index;
  }
