-- An image that is written anew has one length: which chunks of it are stored is a function of the file.
use Rattle.std.proofs.Common.{◌≡◌, inl, inr, ℕ, ◌+◌, ◌≤◌, List, [], ◌∷◌, length, Some, refl, sym, ap, ap₂, ◌∙◌, subst, arith}
use Rattle.std.specs.Cmp.{nat_cmp_total}
use Rattle.std.proofs.lemmas.Option.{same_Some}
use Rattle.std.specs.FinMap.{entries}
use Rattle.h5_layout.specs.HeldChunks.{held_chunks}
use Rattle.h5_layout.specs.StoredAt.{HasStoredChunks}
use Rattle.h5_model.specs.Format.Chunks.{Chunks}
use Rattle.h5_model.specs.Format.Limits.{most_bytes}
use Rattle.h5_model.specs.Format.Messages.{Message}
use Rattle.h5_model.specs.Format.PlainLength.{content_bytes, data_bytes, plain_length}
use Rattle.h5_model.specs.Format.Sizes.{header_size}
use Rattle.h5_model.specs.Format.Superblock.{chunk_k_of, k_values}
use Rattle.h5_model.specs.Format.Plain.{plain_superblock_length}
use Rattle.h5_model.specs.declared.edit_fault.EditFault.TheVariants.{ImageFull}
use Rattle.h5_model.specs.declared.k_values.KValues.{KValues}
use Rattle.h5_model.specs.Tree.Objects.{Object, Content, Group, Array, Dataset, Storage, Compact, Contiguous, Chunked, dataset_of}
use Rattle.h5_model.specs.Format.Described.{Described, HasArray}
use Rattle.h5_model.proofs.DescribedLaws.{in_header, one_array}
use Rattle.h5_model.proofs.OneReading.{one_messages}
use Rattle.h5_laws.proofs.Lists.{In}
use Rattle.h5_laws.proofs.Maps.{get_of_entry}
use Rattle.h5_query.specs.Data.{stored_chunks}
use Rattle.h5_query.specs.Opened.State.{FileState}
use Rattle.h5_query.proofs.DataLaws.{told_chunks}
use Rattle.h5_repack.specs.Image.Written.{StoredIn, counts_of}
use Rattle.h5_repack.proofs.ImageLaws.Totals.{total, total-sum_by}
use Rattle.h5_edit.specs.Repacked.{AreStoredAt, HasLengthAnew, IsRepackRefused}
use Rattle.h5_edit.proofs.StoredLaws.{dataset_is}

-- ---- the chunks at a header

module _ (image : List ℕ) (header : ℕ) (c d : Chunks) (x : HasStoredChunks image header c) (y : HasStoredChunks image header d) where
  same_messages : x.messages ≡ y.messages
  same_messages = one_messages image header x.messages y.messages x.header_blocks y.header_blocks x.listed y.listed

  abbrev described : {chunks : Chunks} → HasStoredChunks image header chunks → Described
  described z = in_header image z.messages z.dataset z.data_blocks z.array

  same_array : described x ≡ described y
  same_array = one_array y.messages (described x) (described y) (subst (λ (ms : List Message). HasArray ms (described x)) same_messages x.array.array) y.array.array

  pub one_stored : c ≡ d
  one_stored =
      sym x.chunks_are
      ∙ told_chunks image x.dataset.fixed x.array.layout x.array.chunks x.data_blocks x.array.stored
      ∙ ap (λ (a : Described). stored_chunks image a.fixed a.layout) same_array
      ∙ sym (told_chunks image y.dataset.fixed y.array.layout y.array.chunks y.data_blocks y.array.stored)
      ∙ y.chunks_are

-- ---- the length

-- numbers of chunks that are the same where they count
module _ (k : KValues) (a b : ℕ) where
  same_data : (d : Dataset) (s : Storage) → ((chunk : List ℕ) → s ≡ Chunked chunk → a ≡ b) → data_bytes (chunk_k_of k) a (record d { storage = s }) ≡ data_bytes (chunk_k_of k) b (record d { storage = s })
  same_data d Compact same = refl
  same_data d (Contiguous stored) same = refl
  same_data d (Chunked chunk) same = ap (λ n. data_bytes (chunk_k_of k) n (record d { storage = Chunked chunk })) (same chunk refl)

  same_content : (c : Content) → ((d : Dataset) (chunk : List ℕ) → c ≡ Array d → d.storage ≡ Chunked chunk → a ≡ b) → content_bytes k a c ≡ content_bytes k b c
  same_content (Group links) same = refl
  same_content (Array d) same = same_data d d.storage (λ chunk is. same d chunk refl is)

-- what is the same at each member adds up to the same
same_total : {X : Type 0} (f g : X → ℕ) (xs : List X) → ((x : X) → In x xs → f x ≡ g x) → total f xs ≡ total g xs
same_total f g [] same = refl
same_total f g (x ∷ xs) same = ap₂ (λ m n. m + n) (same x (inl refl)) (same_total f g xs (λ y there. same y (inr there)))

module _ (f : FileState) where
  same_offsets : (number : ℕ) (a b : List (List ℕ)) → AreStoredAt f number a → AreStoredAt f number b
      → (d : Dataset) → dataset_of f.tree number ≡ Some d → (chunk : List ℕ) → d.storage ≡ Chunked chunk → a ≡ b
  same_offsets number a b p q d array chunk chunked =
      let (header, chunks, listed, has, a_is) = p d array chunk chunked in
      let (other, others, given, also, b_is) = q d array chunk chunked in
      let here = subst (λ at. HasStoredChunks f.image at chunks) (same_Some header other (sym listed ∙ given)) has in
      a_is ∙ ap (held_chunks d.sizes) (one_stored f.image other chunks others here also) ∙ sym b_is

  same_length : (s t : StoredIn) → ((number : ℕ) → AreStoredAt f number (s number)) → ((number : ℕ) → AreStoredAt f number (t number)) → (k : KValues)
      → plain_length k (counts_of s) f.tree ≡ plain_length k (counts_of t) f.tree
  unfolding plain_length
  same_length s t p q k =
      ap (λ n. plain_superblock_length k + n)
      (total-sum_by _ (entries f.tree) ∙ same_total _ _ (entries f.tree) each ∙ sym (total-sum_by _ (entries f.tree))) where
        each : (e : ℕ × Object) → In e (entries f.tree) → header_size e.1 + content_bytes k (counts_of s e.0) (e.1).content
            ≡ header_size e.1 + content_bytes k (counts_of t e.0) (e.1).content
        each e there = ap (λ n. header_size e.1 + n) (same_content k (counts_of s e.0) (counts_of t e.0) (e.1).content (λ d chunk is chunked.
            let found = dataset_is f.tree e.0 e.1 (Array d) (get_of_entry nat_cmp_total f.tree e.0 e.1 there) is in
            ap length (same_offsets e.0 (s e.0) (t e.0) (p e.0) (q e.0) d found chunk chunked)))

  pub one_length : (m n : ℕ) → HasLengthAnew f m → HasLengthAnew f n → m ≡ n
  one_length m n x y = x.counted ∙ same_length x.stored y.stored x.chunks y.chunks (k_values f.image) ∙ sym y.counted

  -- so it passes 2^31 bytes or does not
  pub not_both : IsRepackRefused f ImageFull → (bytes : ℕ) → HasLengthAnew f bytes → bytes ≤ most_bytes → ⊥
  not_both (long, has, above) bytes short below = omega (arith, one_length long bytes has short, above, below)
