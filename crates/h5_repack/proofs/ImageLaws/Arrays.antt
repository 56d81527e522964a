-- How many bytes an array has in the plain image, and that it reads as that array where they stand, in blocks that hold each of them
-- once (File Format Specification 3.0, sections IV.A.2.b to IV.A.2.i).
use Rattle.std.proofs.Common.{◌≡◌, ℕ, ◌+◌, ◌-◌, ◌*◌, ◌≤◌, ◌==◌, List, [], ◌∷◌, ◌++◌, length, length-append, refl, sym, ap, ◌∙◌, subst, arith, Bool, true, false, cond, eqb-true, Option, Some, None}
use Rattle.std.specs.Prelude.{IsSome, is_some, if◌then◌else◌}
use Rattle.std.specs.Ordering.{nat_cmp}
use Rattle.std.specs.FinMap.{FinMap, get}
use Rattle.std.specs.Option.{option_and_then}
use Rattle.h5_bytes.specs.Bytes.{part}
use Rattle.h5_bytes.specs.Blocks.{block, Inside, Run, cover, holds}
use Rattle.h5_bytes.specs.declared.Block.{Block}
use Rattle.h5_bytes.proofs.BlockLaws.{cover-run, holds_join, run_rises}
use Rattle.h5_model.specs.Format.Limits.{most_bytes, most_hard_links}
use Rattle.h5_model.specs.Format.Messages.{prefix_at, reference_count}
use Rattle.h5_model.specs.Format.PlainLength.{content_bytes, data_bytes}
use Rattle.h5_model.specs.Format.Reads.{HasObject, IsGroup}
use Rattle.h5_model.specs.Format.Sizes.{header_size}
use Rattle.h5_model.specs.Format.Superblock.{chunk_k, chunk_k_of}
use Rattle.h5_model.specs.Tree.Objects.{Tree, Object, Array, Dataset, Storage, Compact, Contiguous, Chunked, Links, links_in, links_of, hard_links}
use Rattle.h5_model.proofs.PlainValues.{length-cells_bytes}
use Rattle.h5_repack.specs.Bodies.Bodies.{others_of}
use Rattle.h5_repack.specs.Bodies.Laws.{ArrayReads, ArrayLength, counted_header}
use Rattle.h5_repack.specs.Bodies.Headers.{AreStoredFor, IsLowStorage, data_of}
use Rattle.h5_repack.specs.Bodies.Sound.{IsPlainArray}
use Rattle.h5_repack.specs.Image.Plain.{IsLowContent, IsPlain, IsPlainContent, IsPlainTree}
use Rattle.h5_repack.specs.Image.Written.{StoredIn, counts_of, object_length, header_in, content_place, data_address, object_bytes}
use Rattle.h5_repack.proofs.ChunkLaws.ChunkedArray.{stored_long}
use Rattle.h5_repack.proofs.ImageLaws.GroupLinks.{header_is}
use Rattle.h5_repack.proofs.ImageLaws.Objects.{Stands, first_part, second_part}
use Rattle.h5_model.specs.declared.k_values.KValues.{KValues}

-- the data of an array have as many bytes as are counted for it with its stored chunks
bytes_by : (k : ℕ) → 1 ≤ k → (stored : List (List ℕ)) (others place : ℕ) (d : Dataset) (s : Storage) → IsPlainArray (record d { storage = s }) others → AreStoredFor stored (record d { storage = s })
    → data_bytes k (length stored) (record d { storage = s }) ≡ length (data_of k stored (record d { storage = s }) place)
bytes_by k some_k stored others place d Compact is are = refl
bytes_by k some_k stored others place d (Contiguous true) is are = sym (length-cells_bytes d.fixed d.cells ∙ ap (λ n. n * (d.fixed).size) (is.sound).counted)
bytes_by k some_k stored others place d (Contiguous false) is are = refl
bytes_by k some_k [] others place d (Chunked chunk) is are = refl
bytes_by k some_k (first ∷ behind) others place d (Chunked chunk) is are =
    stored_long (record d { storage = Chunked chunk }) chunk refl is.fixed is.sound is.stored k some_k first behind are place

pub stored_bytes : (k : ℕ) → 1 ≤ k → (stored : List (List ℕ)) (others place : ℕ) (d : Dataset) → IsPlainArray d others → AreStoredFor stored d
    → data_bytes k (length stored) d ≡ length (data_of k stored d place)
stored_bytes k some_k stored others place d is are = bytes_by k some_k stored others place d d.storage is are

-- blocks without gaps end where they do
run_inside : (from to end : ℕ) (bs : List Block) → Run from bs to → to ≤ end → Inside end bs
run_inside from to end [] run low = tt
run_inside from to end (b ∷ bs) run low =
    (let rises = run_rises (from + b.len) to bs run.1 in omega (arith, rises, run.0, low), run_inside (from + b.len) to end bs run.1 low)

module _ (array_length : ArrayLength) (k : KValues) (stored : StoredIn) (tree : Tree) (table : FinMap nat_cmp ℕ) (plain : IsPlainTree k stored tree)
    (number : ℕ) (o : Object) (d : Dataset) (is : get tree number ≡ Some o) (e : o.content ≡ Array d) where
  abbrev header : ℕ
  header = header_in table number

  abbrev header_part : List ℕ
  header_part = counted_header (hard_links tree number) o d (data_address (stored number) d (content_place o header))

  abbrev data_part : List ℕ
  data_part = data_of (chunk_k_of k) (stored number) d (content_place o header)

  array_laid : object_bytes k stored tree table (number, o) ≡ header_part ++ data_part
  array_laid = rw e refl

  own : IsPlain o
  own = plain.each number o is

  own_content : IsPlainContent (length (others_of o)) (Array d)
  own_content = subst (IsPlainContent (length (others_of o))) e own.content

  own_chunks : AreStoredFor (stored number) d
  own_chunks = plain.chunks number o d is e

  low_tree : IsLowStorage (chunk_k_of k) (length (stored number)) d.storage
  low_tree = subst (IsLowContent k (length (stored number))) e (plain.low number o is)

  length-header_part : length header_part ≡ header_size o
  length-header_part = array_length (hard_links tree number) (data_address (stored number) d (content_place o header)) o d own.others e own_content.0

  array_long : object_length k (counts_of stored number) o ≡ header_size o + length data_part
  array_long = ap (λ n. header_size o + n) (ap (content_bytes k (counts_of stored number)) e ∙ stored_bytes (chunk_k_of k) (plain.in_range).chunk_low (stored number) (length (others_of o)) (content_place o header) d own_content.0 own_chunks)

  pub length-array : length (object_bytes k stored tree table (number, o)) ≡ object_length k (counts_of stored number) o
  length-array = ap length array_laid ∙ length-append header_part data_part ∙ ap (λ n. n + length data_part) length-header_part ∙ sym array_long

  -- the root is a group
  no_links : links_of tree number ≡ None
  no_links = ap (λ (r : Option Object). option_and_then (λ (x : Object). links_in x.content) r) is ∙ ap links_in e

  no_root : (number == 0) ≡ false
  no_root = by_test (number == 0) refl where
    by_test : (b : Bool) → (number == 0) ≡ b → b ≡ false
    by_test true zero_is =
        let rooted : IsSome (links_of tree 0) = (plain.sound).rooted in
        let none : links_of tree 0 ≡ None = ap (links_of tree) (sym (eqb-true number 0 zero_is)) ∙ no_links in
        let never : false ≡ true = subst (λ (r : Option Links). IsSome r) none rooted in absurd (cc)
    by_test false other = refl

  few_links : hard_links tree number ≤ most_hard_links
  few_links = (plain.sound).few number (ap is_some is)

  module _ (array_reads : ArrayReads) (end : ℕ) (fits_in : end ≤ most_bytes) (image : List ℕ) (k_is : chunk_k image ≡ chunk_k_of k) (place : ℕ) (found : get table number ≡ Some place) (high : 1 ≤ place) (low : place + object_length k (counts_of stored number) o ≤ end)
      (there : part place (length (object_bytes k stored tree table (number, o))) image ≡ object_bytes k stored tree table (number, o)) where
    here : header ≡ place
    here = header_is table number place found

    both_there : part header (length (header_part ++ data_part)) image ≡ header_part ++ data_part
    both_there = (λ i. part (here i) (length (sym array_laid i)) image) ∙ there ∙ array_laid

    header_there : part header (header_size o) image ≡ header_part
    header_there = ap (λ n. part header n image) (sym length-header_part) ∙ first_part header header_part data_part image both_there

    data_there : part (content_place o header) (length data_part) image ≡ data_part
    data_there = ap (λ n. part (header + n) (length data_part) image) (sym length-header_part) ∙ second_part header header_part data_part image both_there

    array_there : (blocks : List Block) × HasObject image table header o (block header (header_size o) ∷ blocks)
        × (reference_count (prefix_at image header) ≡ hard_links tree number) × Run (content_place o header) blocks (content_place o header + length data_part)
    array_there = array_reads image table header (content_place o header) (hard_links tree number) (chunk_k_of k) o d (stored number) own.others e own_content.0 own_chunks own_content.1
        (omega (arith, few_links)) (omega (arith, here, high, low, fits_in, array_long)) k_is (plain.in_range).chunk_low (plain.in_range).chunk_high low_tree
        (omega (arith, here, low, fits_in, array_long)) header_there data_there

    abbrev data_blocks : List Block
    data_blocks = array_there.0

    data_run : Run (content_place o header) data_blocks (content_place o header + length data_part)
    data_run = array_there.3

    array_covered : (p : ℕ) → cover p (block header (header_size o) ∷ data_blocks) ≡ holds p header (object_length k (counts_of stored number) o)
    array_covered p =
        let whole : content_place o header + length data_part - content_place o header ≡ length data_part = omega arith in
        ap (λ n. holds p header (header_size o) + n)
        (cover-run p (content_place o header) (content_place o header + length data_part) data_blocks data_run ∙ ap (holds p (content_place o header)) whole)
        ∙ sym (holds_join p header (header_size o) (length data_part)) ∙ sym (ap (holds p header) array_long)

    array_within : Inside (header + object_length k (counts_of stored number) o) (block header (header_size o) ∷ data_blocks)
    array_within = (
      omega (arith, array_long),
      run_inside (content_place o header) (content_place o header + length data_part) (header + object_length k (counts_of stored number) o) data_blocks data_run (omega (arith, array_long)),
    )

    not_first : hard_links tree number ≡ hard_links tree number + (if number == 0 then 1 else 0)
    not_first = omega arith ∙ ap (λ b. hard_links tree number + cond b 1 0) (sym no_root)

    array_here : Stands image k (counts_of stored) tree table header (number, o)
    array_here = record {
      blocks = block header (header_size o) ∷ data_blocks;
      object = array_there.1;
      counted = record {
        counted = array_there.2 ∙ not_first;
        once = λ group. absurd (subst IsGroup e group);
        limit = few_links;
      };
      covered = array_covered;
      within = array_within;
    }

    pub array_stands : Stands image k (counts_of stored) tree table place (number, o)
    array_stands = subst (λ (y : ℕ). Stands image k (counts_of stored) tree table y (number, o)) here array_here
