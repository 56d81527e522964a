-- What follows of images with the same K values.
use Rattle.std.proofs.Common.{◌≡◌, ℕ, ◌+◌, ◌<◌, List, ap, refl, sym, ◌∙◌, ◌≤◌, arith}
use Rattle.std.specs.Prelude.{Bool, true, false, is_some, Some, None, if◌then◌else◌, ◌==◌}
use Rattle.h5_model.specs.Format.Superblock.{chunk_field, chunk_k_of, has_chunk_k, k_values, chunk_k, leaf_k, internal_k, superblock_length, end_field, length_with}
use Rattle.std.proofs.lemmas.List.{get_or-take}
use Rattle.h5_bytes.specs.Bytes.{number_at, byte_at, part}
use Rattle.h5_bytes.proofs.FieldLaws.{number_at-same}
use Rattle.h5_bytes.specs.Blocks.{block}
use Rattle.h5_model.specs.declared.k_values.KValues.{KValues}

-- the version is told by whether there is a chunk K
pub version_of_k : (image : List ℕ) → is_some (k_values image).chunk ≡ has_chunk_k image
version_of_k image = cases (number_at image 24 2) (has_chunk_k image) where
  cases : (n : ℕ) (has : Bool) → is_some (if has then Some n else None) ≡ has
  cases n true = refl
  cases n false = refl

module _ (new old : List ℕ) (same : k_values new ≡ k_values old) where
  pub same_version : has_chunk_k new ≡ has_chunk_k old
  same_version = sym (version_of_k new) ∙ ap (λ (k : KValues). is_some k.chunk) same ∙ version_of_k old

  pub same_leaf : leaf_k new ≡ leaf_k old
  same_leaf = ap (λ (k : KValues). k.leaf) same

  pub same_internal : internal_k new ≡ internal_k old
  same_internal = ap (λ (k : KValues). k.internal) same

  pub same_chunk : chunk_k new ≡ chunk_k old
  same_chunk = ap (λ k. chunk_k_of k) same

  pub same_length : superblock_length new ≡ superblock_length old
  same_length = ap length_with same_version

  pub same_end_field : end_field new ≡ end_field old
  same_end_field = ap (λ has. block (40 + chunk_field has) 8) same_version

-- the first bytes say them
front_byte : (n : ℕ) (bytes : List ℕ) → 8 < n → byte_at (part 0 n bytes) 8 ≡ byte_at bytes 8
unfolding part
front_byte n bytes long = get_or-take n bytes 8 0 long

module _ (old new : List ℕ) (n : ℕ) (long : 26 ≤ n) (same : part 0 n new ≡ part 0 n old) where
  version_stays : has_chunk_k new ≡ has_chunk_k old
  version_stays =
      let one : byte_at new 8 ≡ byte_at old 8 = sym (front_byte n new (omega arith)) ∙ ap (λ bs. byte_at bs 8) same ∙ front_byte n old (omega arith) in
      ap (λ version. version == 1) one

  pub k_values_stay : k_values new ≡ k_values old
  k_values_stay = λ i. record {
    leaf = number_at-same old new 0 n 16 2 same (omega arith) i;
    internal = number_at-same old new 0 n 18 2 same (omega arith) i;
    chunk = if version_stays i then Some (number_at-same old new 0 n 24 2 same (omega arith) i) else None;
  }
