-- The superblock of a plain image, of either version (File Format Specification 3.0, section II.A).
use Rattle.std.proofs.Common.{◌≡◌, ℕ, ◌^◌, ◌<◌, ◌≤◌, List, [], ◌∷◌, ◌++◌, length, refl, ap, ◌∙◌, sym, arith, length-append, Option, Some, None}
use Rattle.h5_bytes.specs.Bytes.{number_at, byte_at, part, with_part, little_bytes, undefined_address}
use Rattle.h5_bytes.proofs.FieldLaws.{number_at-with_field}
use Rattle.h5_model.specs.Format.Limits.{most_bytes}
use Rattle.h5_model.specs.Format.Plain.{plain_superblock_length, superblock_bytes}
use Rattle.h5_model.specs.Format.Superblock.{AreKValues, IsSuperblock, base_place, chunk_k, chunk_k_of, driver_place, end_of_file, internal_k, k_values, leaf_k, length_with, root_header, superblock_length}
use Rattle.h5_model.specs.declared.k_values.KValues.{KValues}
use Rattle.h5_model.proofs.KLaws.{version_of_k}

-- a number in two bytes, and in eight, reads back
two_back : (n : ℕ) → n < 65536 → number_at (little_bytes 2 n) 0 2 ≡ n
unfolding with_part
two_back n low = number_at-with_field (0 ∷ 0 ∷ []) 0 2 n (omega arith) (omega arith)

eight_back : (n : ℕ) → n < 2 ^ 64 → number_at (little_bytes 8 n) 0 8 ≡ n
unfolding with_part
eight_back n low = number_at-with_field (0 ∷ 0 ∷ 0 ∷ 0 ∷ 0 ∷ 0 ∷ 0 ∷ 0 ∷ []) 0 8 n (omega arith) (omega arith)

-- the superblock of an image with these K values, and anything behind it
abbrev pub front_of : KValues → ℕ → ℕ → ℕ → List ℕ
front_of k end tree heap = superblock_bytes k end (plain_superblock_length k) tree heap

pub front_long : (k : KValues) (end tree heap : ℕ) → length (front_of k end tree heap) ≡ plain_superblock_length k
front_long k end tree heap = by_chunk k.chunk where
  by_chunk : (chunk : Option ℕ) → length (front_of (record k { chunk = chunk }) end tree heap) ≡ plain_superblock_length (record k { chunk = chunk })
  by_chunk None = refl
  by_chunk (Some n) = refl

-- what is read of it whose place depends on the version
record HasFields (k : KValues) (end : ℕ) (image : List ℕ) : Type 0 where
  version : byte_at image 8 ≤ 1
  k_is : k_values image ≡ k
  base : number_at image (base_place image) 8 ≡ 0
  driver : number_at image (driver_place image) 8 ≡ undefined_address
  end_is : end_of_file image ≡ end
  root_is : root_header image ≡ plain_superblock_length k

-- of version 0, and of version 1
module _ (leaf internal end tree heap : ℕ) (rest : List ℕ) (leaf_low : leaf < 65536) (internal_low : internal < 65536) (end_low : end < 2 ^ 64) where
  fields_without : (k : KValues) → k ≡ record { leaf = leaf; internal = internal; chunk = None } → HasFields k end (front_of k end tree heap ++ rest)
  unfolding number_at
  fields_without k is = rw is (record {
    version = omega arith;
    k_is = λ i. record { leaf = two_back leaf leaf_low i; internal = two_back internal internal_low i; chunk = None };
    base = refl;
    driver = refl;
    end_is = eight_back end end_low;
    root_is = refl;
  })

  fields_with : (n : ℕ) → n < 65536 → (k : KValues) → k ≡ record { leaf = leaf; internal = internal; chunk = Some n }
      → HasFields k end (front_of k end tree heap ++ rest)
  unfolding number_at
  fields_with n low k is = rw is (record {
    version = omega arith;
    k_is = λ i. record { leaf = two_back leaf leaf_low i; internal = two_back internal internal_low i; chunk = Some (two_back n low i) };
    base = refl;
    driver = refl;
    end_is = eight_back end end_low;
    root_is = refl;
  })

module _ (k : KValues) (end tree heap : ℕ) (rest : List ℕ) (in_range : AreKValues k) (fits_in : end ≤ most_bytes) where
  abbrev front : List ℕ
  front = front_of k end tree heap

  abbrev image : List ℕ
  image = front ++ rest

  fields : HasFields k end image
  fields = by_chunk k.chunk refl where
    by_chunk : (chunk : Option ℕ) → k.chunk ≡ chunk → HasFields k end image
    by_chunk None e =
        fields_without k.leaf k.internal end tree heap rest (omega (arith, (in_range.groups).leaf_high)) (omega (arith, (in_range.groups).internal_high)) (omega (arith, fits_in))
        k (λ i. record { leaf = k.leaf; internal = k.internal; chunk = e i })
    by_chunk (Some n) e =
        let own : chunk_k_of k ≡ n = ap (λ (c : Option ℕ). chunk_k_of (record k { chunk = c })) e in
        fields_with k.leaf k.internal end tree heap rest (omega (arith, (in_range.groups).leaf_high)) (omega (arith, (in_range.groups).internal_high)) (omega (arith, fits_in))
        n (omega (arith, own, in_range.chunk_high)) k (λ i. record { leaf = k.leaf; internal = k.internal; chunk = e i })

  pub k_is : k_values image ≡ k
  k_is = fields.k_is

  pub root_is : root_header image ≡ plain_superblock_length k
  root_is = fields.root_is

  leaf_is : leaf_k image ≡ k.leaf
  leaf_is = ap (λ (ks : KValues). ks.leaf) k_is

  internal_is : internal_k image ≡ k.internal
  internal_is = ap (λ (ks : KValues). ks.internal) k_is

  chunk_is : chunk_k image ≡ chunk_k_of k
  chunk_is = ap chunk_k_of k_is

  -- the superblock is as long as its version says
  pub length_is : superblock_length image ≡ plain_superblock_length k
  length_is = ap length_with (sym (version_of_k image)) ∙ ap plain_superblock_length k_is

  module _ (long : length image ≡ end) where
    pub whole : end_of_file image ≡ length image
    whole = fields.end_is ∙ sym long

    some_front : plain_superblock_length k ≤ length image
    some_front = omega (arith, length-append front rest, front_long k end tree heap)

    pub superblock : IsSuperblock image
    unfolding number_at part
    superblock = record {
      whole = rw length_is some_front;
      signed = refl;
      version = fields.version;
      free_space_version = refl;
      root_version = refl;
      shared_version = refl;
      offset_size = refl;
      length_size = refl;
      leaf_low = rw leaf_is (in_range.groups).leaf_low;
      leaf_high = rw leaf_is (in_range.groups).leaf_high;
      internal_low = rw internal_is (in_range.groups).internal_low;
      internal_high = rw internal_is (in_range.groups).internal_high;
      chunk_low = rw chunk_is in_range.chunk_low;
      chunk_high = rw chunk_is in_range.chunk_high;
      base = fields.base;
      driver = fields.driver;
      small = rw fields.end_is fits_in;
      end_low = rw (fields.end_is, length_is) (omega (arith, long, some_front));
      end_high = rw fields.end_is (omega (arith, long));
    }
