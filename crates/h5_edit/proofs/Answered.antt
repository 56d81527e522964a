-- What a repack is answered by what was written of the tree.
use Rattle.std.proofs.Common.{◌≡◌, ℕ, ◌≤◌, List, length, refl, sym, ap, ◌∙◌, subst, Option, arith}
use Rattle.std.specs.Prelude.{IfOk, IfErr, MatchResult, Result, Ok, Err}
use Rattle.std.specs.Ordering.{nat_cmp}
use Rattle.std.specs.FinMap.{FinMap}
use Rattle.h5_edit.specs.Fits.Laws.{AreBytes}
use Rattle.h5_edit.proofs.FitLaws.OpenedTrees.{opened_plain}
use Rattle.h5_repack.specs.Image.Plain.{ArePlain, IsPlainTree}
use Rattle.h5_repack.specs.Image.Written.{StoredIn, counts_of, plain_image}
use Rattle.h5_repack.specs.Image.Written as image
use Rattle.h5_repack.proofs.ImageLaws.ImageLength.{image_length}
use Rattle.h5_model.specs.Format.Limits.{most_bytes}
use Rattle.h5_model.specs.Format.PlainLength.{plain_length}
use Rattle.h5_model.specs.Format.Superblock.{AreKValues, k_values}
use Rattle.h5_model.specs.Tree.Objects.{Tree}
use Rattle.h5_model.specs.declared.k_values.KValues.{KValues}
use Rattle.h5_query.specs.Renumbered.Headers.{table_with}
use Rattle.h5_repack.specs.Bodies.Laws.{IsPlainReading}
use Rattle.h5_laws.specs.Trees.Sound.{IsSoundTree}
use Rattle.h5_laws.proofs.SoundLaws.Read.{reads_sound}
use Rattle.h5_query.specs.Opened.Sound.{IsSound}
use Rattle.h5_query.specs.Opened.State.{FileState}
use Rattle.h5_repack.specs.Objects.Objects.{AreObjects, stored_in}
use Rattle.h5_repack.specs.declared.objects.object.NewObject.{NewObject}
use Rattle.h5_repack.specs.Written.{IsTreeToWrite, IsWritten, IsUnwritten}
use Rattle.h5_repack.specs.declared.write.Written.{Written}
use Rattle.h5_repack.specs.declared.write.WriteFault.{WriteFault}
use Rattle.h5_repack.specs.declared.write.WriteFault.TheVariants.{TooLong, TooDeep, NoMemory}
use Rattle.h5_edit.specs.Answers.{answer_to, fault_of_write}
use Rattle.h5_edit.specs.Repacked.{AreStoredAt, IsRepackMade, IsRepackRefused}
use Rattle.h5_repack.proofs.ImageLaws.PlainImages.{plain_reads, plain_ends}
use Rattle.h5_edit.proofs.LowRead.{read_low}
use Rattle.h5_edit.proofs.Numbered.{standing_map}

-- ---- one tree, written

module _ (k : KValues) (stored : StoredIn) (tree : Tree) (are_k : AreKValues k) (sound : IsSoundTree tree) (plain : ArePlain tree) (w : Written)
    (is : IsWritten k stored tree w) where
  table_is : image.table_of k (counts_of stored) is.order ≡ table_with w.headers.items
  table_is = standing_map (image.table_of k (counts_of stored) is.order) w.headers.items is.headers_are

  plain_tree : IsPlainTree k stored tree
  plain_tree = record { in_range = are_k; sound = sound; each = plain; low = is.low; chunks = is.chunks }

  pub read_as : IsPlainReading w.image.items k (table_with w.headers.items) tree
  read_as =
      subst (λ (bytes : List ℕ). IsPlainReading bytes k (table_with w.headers.items) tree) (sym is.image_is)
      (subst (λ (table : FinMap nat_cmp ℕ). IsPlainReading (plain_image k stored tree is.order) k table tree) table_is
      (plain_reads k stored tree is.order plain_tree is.ordered is.few))

  abbrev bytes : ℕ
  bytes = plain_length k (counts_of stored) tree

  pub short : bytes ≤ most_bytes
  short =
      let same = image_length k (counts_of stored) tree is.order is.ordered in
      let few = is.few in
      subst (λ (n : ℕ). n ≤ most_bytes) same few

  pub length_is : length w.image.items ≡ bytes
  length_is =
      ap length is.image_is
      ∙ plain_ends k stored tree is.order plain_tree is.ordered
      ∙ image_length k (counts_of stored) tree is.order is.ordered

module _ {f : FileState} (sound : IsSound f) where
  abbrev k : KValues
  k = k_values f.image

  pub k_there : AreKValues k
  k_there =
      let is = sound.reads.holds.superblock in
      record {
        groups = record { leaf_low = is.leaf_low; leaf_high = is.leaf_high; internal_low = is.internal_low; internal_high = is.internal_high };
        chunk_low = is.chunk_low;
        chunk_high = is.chunk_high;
      }

  sound_there : IsSoundTree f.tree
  sound_there = reads_sound f.image f.table f.tree (sound.placed, sound.reads)

  -- ---- a repack

  module _ (low : AreBytes f.image) (new : List (Option NewObject)) (are : AreObjects new f.tree)
      (kept : (number : ℕ) → AreStoredAt f number (stored_in new number)) where
    pub tree_there : IsTreeToWrite new f.tree
    tree_there = record { objects_are = are; sound = sound_there; plain = opened_plain f low sound }

    not_repacked : (fault : WriteFault) → IsUnwritten k (stored_in new) f.tree fault → IsRepackRefused f (fault_of_write fault)
    not_repacked TooLong long =
        (plain_length k (counts_of (stored_in new)) f.tree, record { stored = stored_in new; chunks = kept; counted = refl }, long)
    not_repacked TooDeep deep = absurd (deep.3 (read_low f sound (stored_in new) kept deep.0 deep.1 deep.2))
    not_repacked NoMemory no_memory = tt

    was_repacked : (w : Written) → IsWritten k (stored_in new) f.tree w → length w.headers.items ≡ length new → length new ≡ f.next
        → IsRepackMade f (record { image = w.image; headers = w.headers })
    was_repacked w is numbered counted =
        let long = length_is k (stored_in new) f.tree k_there sound_there (opened_plain f low sound) w is in
        let few = short k (stored_in new) f.tree k_there sound_there (opened_plain f low sound) w is in
        record {
          anew = record {
            reads = read_as k (stored_in new) f.tree k_there sound_there (opened_plain f low sound) w is;
            numbered = numbered ∙ counted;
            few = sound.numbers.low;
          };
          long = record { stored = stored_in new; chunks = kept; counted = long };
          few = omega (arith, long, few);
        }

    pub repacked : (given : KValues) → given ≡ k → length new ≡ f.next → (r : Result Written WriteFault)
        → IfOk r (λ w. (t : Tree) → IsTreeToWrite new t → IsWritten given (stored_in new) t w) → IfOk r (λ w. length w.headers.items ≡ length new)
        → IfErr r (λ fault. (t : Tree) → IsTreeToWrite new t → IsUnwritten given (stored_in new) t fault)
        → MatchResult (answer_to r) (IsRepackMade f) (IsRepackRefused f)
    repacked given same counted (Ok w) written numbered not_written =
        was_repacked w (subst (λ (x : KValues). IsWritten x (stored_in new) f.tree w) same (written f.tree tree_there)) numbered counted
    repacked given same counted (Err fault) written numbered not_written =
        not_repacked fault (subst (λ (x : KValues). IsUnwritten x (stored_in new) f.tree fault) same (not_written f.tree tree_there))
