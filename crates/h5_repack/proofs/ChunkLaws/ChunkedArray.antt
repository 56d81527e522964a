-- The header of a chunked array in the plain layout, with its tree and its stored chunks, reads as that array, and these are as long as
-- is counted (File Format Specification 3.0, sections III.A.1, IV.A.1.a and IV.A.2.i).
use Rattle.std.proofs.Common.{◌≡◌, ℕ, ◌+◌, ◌*◌, ◌^◌, ◌<◌, ◌≤◌, List, [], ◌∷◌, length, refl, sym, ap, ◌∙◌, subst, arith, Some, false}
use Rattle.std.proofs.Math.Nat.{mul-le-mul}
use Rattle.std.proofs.lemmas.Bool.Decides.{nat_tests}
use Rattle.std.specs.Prelude.{◌==◌}
use Rattle.std.specs.Ordering.{nat_cmp}
use Rattle.std.specs.FinMap.{FinMap}
use Rattle.std.specs.List.{AllByRecursion, AllZip}
use Rattle.h5_bytes.specs.Bytes.{part}
use Rattle.h5_bytes.specs.Blocks.{Run, block}
use Rattle.h5_bytes.specs.declared.Block.{Block}
use Rattle.h5_bytes.proofs.BlockLaws.{all_so}
use Rattle.h5_model.specs.Format.Bodies.{chunked_bytes, padded_body}
use Rattle.h5_model.specs.Format.Chunks.{HasChunks, IsOffset}
use Rattle.h5_model.specs.Format.Fixed.{IsFixed}
use Rattle.h5_model.specs.Format.Layout.{InChunks, layout_of}
use Rattle.h5_model.specs.Format.Limits.{most_bytes, most_dimensions, highest_level}
use Rattle.h5_model.specs.Format.Messages.{prefix_at, reference_count, most_messages}
use Rattle.h5_model.specs.Format.Plain.{cells_bytes}
use Rattle.h5_model.specs.Format.PlainLength.{data_bytes}
use Rattle.h5_model.specs.Format.Reads.{HasObject}
use Rattle.h5_model.specs.Format.Sizes.{header_size, layout_size}
use Rattle.h5_model.specs.Format.Superblock.{chunk_k, highest_k}
use Rattle.h5_model.specs.Tree.Objects.{Object, Array, Dataset, Storage, Chunked}
use Rattle.h5_model.specs.Tree.Places.{cells}
use Rattle.h5_model.specs.Tree.Sound.{IsDataset}
use Rattle.h5_model.proofs.PlainValues.{size-low, size-high, length-cells_bytes}
use Rattle.h5_msg.proofs.LayoutLaws.{IsAddress, chunked_back}
use Rattle.h5_repack.specs.Bodies.Bodies.{others_of, array_layout, layout_body}
use Rattle.h5_repack.specs.Bodies.Chunks.{chunk_length, chunked_data}
use Rattle.h5_repack.specs.Bodies.Laws.{counted_header}
use Rattle.h5_repack.specs.Bodies.Sound.{ArePlainChunks, IsPlainObject}
use Rattle.h5_layout.specs.HeldChunks.{AreStoredChunks, IsHeldChunk}
use Rattle.h5_repack.proofs.BodyLaws.ChunkSizes.{chunk_sizes_low, some_cell}
use Rattle.h5_repack.proofs.BodyLaws.HeaderArray.{IsLaid, laid_reads}
use Rattle.h5_repack.proofs.BodyLaws.HeaderLengths.{IsHead, head_length, length-layout}
use Rattle.h5_repack.proofs.ChunkLaws.ChunkCells.{chunks_cells}
use Rattle.h5_repack.proofs.ChunkLaws.ChunkLengths.{length-chunked}
use Rattle.h5_btree.specs.Writing.Written.{root_level}
use Rattle.h5_repack.proofs.ChunkLaws.ChunkOrder.{IsGridOf}
use Rattle.h5_repack.proofs.ChunkLaws.ChunksRead.{blocks, chunks, ranked_of, stored_cells, stored_run, stored_stand}

module _ (d : Dataset) (chunk : List ℕ) (e : d.storage ≡ Chunked chunk) (fixed : IsFixed d.fixed) (sound : IsDataset d) (plain : ArePlainChunks d.fixed chunk) where
  same : length chunk ≡ length d.sizes
  same = sound.boxed chunk e

  grid : IsGridOf chunk
  grid = record { ranked = plain.ranked; some = plain.some; small = chunk_sizes_low d.fixed chunk (size-low d.fixed fixed) plain }

  some : 1 ≤ chunk_length d chunk
  some = mul-le-mul (some_cell chunk plain.some) (size-low d.fixed fixed)

  small : chunk_length d chunk < 2 ^ 32
  small = let low = plain.small in omega (arith, low)

  -- in a tree of nodes of this K
  module _ (k : ℕ) (some_k : 1 ≤ k) (first : List ℕ) (others : List (List ℕ)) (are : AreStoredChunks d chunk (first ∷ others)) (place : ℕ) where
    abbrev stored : List (List ℕ)
    stored = first ∷ others

    abbrev bytes : List ℕ
    bytes = chunked_data k d chunk stored place

    -- as long as is counted
    pub stored_long : data_bytes k (length stored) d ≡ length bytes
    stored_long =
        let held : AllByRecursion (AllZip IsOffset chunk) stored = all_so (IsHeldChunk d.sizes chunk) (AllZip IsOffset chunk) stored (λ o is. is.aligned) are.held in
        let any : (length stored == 0) ≡ false = grind (arith, nat_tests) in
        rw (e, any) (sym (length-chunked k some_k chunk d first others place (ranked_of [] d chunk grid stored held)))

    module _ (image : List ℕ) (k_is : chunk_k image ≡ k) (few_k : k ≤ highest_k) (low_tree : root_level k (length (first ∷ others)) ≤ highest_level) (few : length d.sizes ≤ most_dimensions) (room : place + length bytes < 2 ^ 63)
        (there : part place (length bytes) image ≡ bytes) where
      says : layout_of d.sizes (d.fixed).size (padded_body (array_layout d (Some place))) ≡ Some (InChunks chunk (Some place))
      says =
          let low : IsAddress (Some place) = λ n f. let here : place ≡ n = cc in omega (arith, room, here) in
          ap (λ (s : Storage). layout_of d.sizes (d.fixed).size (padded_body (layout_body s d.fixed (cells d.sizes) (cells_bytes d.fixed d.cells) (Some place)))) e
          ∙ chunked_back chunk (Some place) (d.fixed).size _ (padded_body (chunked_bytes chunk (Some place) (d.fixed).size)) d.sizes grid.small plain.some low plain.ranked
          (omega (arith, size-high d.fixed fixed)) refl (sym same)

      body_long : length (array_layout d (Some place)) ≡ 11 + 4 * (length chunk + 1)
      body_long =
          let all : length (cells_bytes d.fixed d.cells) ≡ cells d.sizes * (d.fixed).size = length-cells_bytes d.fixed d.cells ∙ ap (λ n. n * (d.fixed).size) sound.counted in
          length-layout d.storage d.fixed d.sizes (cells_bytes d.fixed d.cells) (Some place) all ∙ ap (λ (s : Storage). layout_size d.sizes s (d.fixed).size) e

      pub stored_laid : IsLaid image place (place + length bytes) (Some place) d
      stored_laid = record {
        layout = InChunks chunk (Some place);
        chunks = chunks image d chunk k some_k few_k grid some small place first others are low_tree room there;
        blocks = blocks image d chunk k some_k few_k grid some small place first others are low_tree room there;
        run = stored_run image d chunk k some_k few_k grid some small place first others are low_tree room there;
        short = omega (arith, body_long, same, few);
        says = says;
        storage = e;
        small = plain.small;
        stored = subst (λ n. HasChunks image n chunk (chunk_length d chunk) place (chunks image d chunk k some_k few_k grid some small place first others are low_tree room there)
            (blocks image d chunk k some_k few_k grid some small place first others are low_tree room there)) (sym k_is) (stored_stand image d chunk k some_k few_k grid some small place first others are low_tree room there);
        cells_are = chunks_cells image d chunk (Some place) (chunks image d chunk k some_k few_k grid some small place first others are low_tree room there) sound plain.some same (size-low d.fixed fixed)
            (stored_cells image d chunk k some_k few_k grid some small place first others are low_tree room there);
      }

      -- the header, the tree and the chunks are those of the array
      pub chunked_reads : (table : FinMap nat_cmp ℕ) (at count : ℕ) (p : Object) → IsPlainObject p → p.content ≡ Array d → IsHead d (length (others_of p))
          → 3 + length (others_of p) ≤ most_messages → count < 2 ^ 32 → header_size p < most_bytes → part at (header_size p) image ≡ counted_header count p d (Some place)
          → (blocks : List Block) × HasObject image table at p (block at (header_size p) ∷ blocks) × (reference_count (prefix_at image at) ≡ count)
          × Run place blocks (place + length bytes)
      chunked_reads table at count p plain_p content head most few_links short stands_at =
          laid_reads image table at place (place + length bytes) count (header_size p) p plain_p d head (Some place) stored_laid most few_links short content
          (head_length count (Some place) p d plain_p content head) stands_at
