-- An image that was written anew can be opened, and what is opened of it holds the tree.
use Rattle.std.proofs.Common.{◌≡◌, ℕ, ◌<◌, ◌≤◌, List, [], length, refl, sym, ap, ◌∙◌, subst, arith, Option, Some, None, IsSome, true, false}
use Rattle.std.proofs.lemmas.Option.{slice_get_within}
use Rattle.std.specs.FinMap.{get, len}
use Rattle.h5_bytes.specs.Blocks.{cover, holds}
use Rattle.h5_model.specs.Format.Limits.{most_numbers}
use Rattle.h5_model.specs.Format.Reads.{Reads, ReadsAs, all_blocks}
use Rattle.h5_model.specs.Format.Superblock.{k_values}
use Rattle.h5_model.specs.Tree.Objects.{Object}
use Rattle.h5_laws.proofs.Objects.{in_table}
use Rattle.h5_laws.proofs.SoundLaws.Read.{placed_at}
use Rattle.h5_space.specs.Whole.{IsWhole}
use Rattle.h5_query.specs.Opened.Refused.{ReadsSome}
use Rattle.h5_query.specs.Opened.Sound.{IsSound, IsWholeFile}
use Rattle.h5_query.specs.Opened.State.{FileState, state_of}
use Rattle.h5_query.specs.Renumbered.Headers.{table_with, IsReadAt}
use Rattle.h5_query.proofs.RenumberedLaws.Renumbered.{next_low}
use Rattle.h5_query.proofs.RenumberedLaws.SameHeaders.{given_header}
use Rattle.h5_edit.specs.Repacked.{IsAnew}

module _ (f : FileState) (image : List ℕ) (hs : List (Option ℕ)) (is : IsAnew f image hs) where
  pub anew_reads : Reads image (table_with hs) f.tree
  anew_reads = (is.reads.placed, is.reads.reads)

  pub anew_reading : ReadsSome image
  anew_reading = (table_with hs, f.tree, anew_reads)

  -- each number of the tree is that of a header
  number_low : (number : ℕ) (o : Object) → get f.tree number ≡ Some o → number < length hs
  number_low number o there =
      let x = placed_at image (table_with hs) f.tree anew_reads.0 anew_reads.1 number o there in
      let at = ap (get (table_with hs)) (sym x.2) ∙ in_table image (table_with hs) f.tree anew_reads.0 anew_reads.1.holds x.0 x.1 in
      slice_get_within hs number (Some x.0.header) (given_header hs number x.0.header at)

  -- and there is a header or none for each number that was given out
  pub anew_few : length hs ≤ most_numbers
  anew_few = omega (arith, is.numbered, is.few)

  -- the image, opened
  module _ (now : FileState) (sound : IsSound now) (image_is : now.image ≡ image) (free_is : now.free ≡ []) (fresh : now.next ≡ len now.tree) where
    reads_as : ReadsAs now.image (table_with hs) f.tree is.reads.placed
    reads_as = subst (λ bytes. ReadsAs bytes (table_with hs) f.tree is.reads.placed) (sym image_is) is.reads.reads

    pub reads_now : Reads now.image (table_with hs) f.tree
    reads_now = (is.reads.placed, reads_as)

    pub read_at : IsReadAt now.image hs
    read_at = (f.tree, reads_now)

    -- none of its numbers is beyond those
    pub next_within : now.next ≤ length hs
    next_within = next_low now sound fresh hs f.tree reads_now

    -- each object by its number
    abbrev after : FileState
    after = record now { table = table_with hs; next = length hs; tree = f.tree }

    blocks_cover : IsWhole (all_blocks now.image is.reads.placed) now.free (length now.image)
    blocks_cover p =
        let here : cover p (all_blocks now.image is.reads.placed) ≡ holds p 0 (length now.image)
        = subst (λ bytes. cover p (all_blocks bytes is.reads.placed) ≡ holds p 0 (length bytes)) (sym image_is) (is.reads.covered p) in
        let none : cover p now.free ≡ 0 = ap (cover p) free_is in
        omega (arith, here, none)

    whole_after : IsWholeFile after
    whole_after = record { placed = is.reads.placed; reads = reads_as; covered = blocks_cover }

    given : (number : ℕ) → IsSome (get f.tree number) → number < length hs
    given number some = go (get f.tree number) refl some where
      go : (found : Option Object) → get f.tree number ≡ found → IsSome found → number < length hs
      go None none some = absurd (let never : false ≡ true = some in cc)
      go (Some o) there some = number_low number o there

    sound_after : IsSound after
    sound_after = record {
      placed = is.reads.placed;
      reads = reads_as;
      numbers = record { rooted = reads_as.holds.root_group; given = given; low = anew_few };
      apart = λ p. omega (arith, blocks_cover p);
    }

    pub holds_state : (value : FileState) → value ≡ after → (state_of value ≡ state_of f) × (k_values value.image ≡ k_values f.image)
    holds_state value taken = rw taken ((λ i. record { tree = f.tree; next = is.numbered i }), ap k_values image_is ∙ is.reads.k_is)

    pub holds_whole : (value : FileState) → value ≡ after → IsSound value × IsWholeFile value × (value.free ≡ [])
    holds_whole value taken = rw taken (sound_after, whole_after, free_is)

    pub holds_image : (value : FileState) → value ≡ after → value.image ≡ image
    holds_image value taken = rw taken image_is

    pub holds_table : (value : FileState) → value ≡ after → value.table ≡ table_with hs
    holds_table value taken = rw taken refl
