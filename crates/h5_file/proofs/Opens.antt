-- Why bytes are not opened: the superblock of the bytes up to their end of file address, and what the walk answers.
use Rattle.std.proofs.Common.{◌≡◌, inl, inr, ℕ, ◌+◌, ◌<◌, ◌≤◌, Bool, List, length, sym, ap, ◌∙◌, arith}
use Rattle.std.specs.Prelude.{take}
use Rattle.std.proofs.lemmas.List.{length-take, take_all}
use Rattle.h5_bytes.specs.Bytes.{number_at, byte_at, part}
use Rattle.h5_model.specs.Faults.Breaches.{SuperblockBreach, up_to_end}
use Rattle.h5_model.specs.Format.Superblock.{IsSuperblock, chunk_field, end_of_file, has_chunk_k, k_values, superblock_length}
use Rattle.h5_model.specs.declared.open_fault.Cause.{Cause}
use Rattle.h5_model.specs.declared.open_fault.Cause.TheVariants.{NoMemory}
use Rattle.h5_model.proofs.CutLaws.{cut_byte, cut_number, cut_part, cut_version}
use Rattle.h5_model.proofs.KLaws.{k_values_stay, same_chunk, same_internal, same_leaf, same_length}
use Rattle.h5_edit.specs.Opened.Refused.{IsOpenRefusedAt}
use Rattle.h5_laws.proofs.Excluded.{breach_excludes_reads}
use Rattle.h5_file.specs.Opening.{RefusedBy, IsReadable}

-- ---- bytes that are cut keep their superblock

module _ (bytes : List ℕ) (is : IsSuperblock bytes) where
  pub length-cut : length (up_to_end bytes) ≡ end_of_file bytes
  length-cut = let low = is.end_low in let high = is.end_high in let len = length-take (end_of_file bytes) bytes in omega arith

  same_part : (at len : ℕ) → at + len ≤ superblock_length bytes → part at len (up_to_end bytes) ≡ part at len bytes
  same_part = cut_part bytes (superblock_length bytes) is.end_low is.whole

  same_byte : (at : ℕ) → at < superblock_length bytes → byte_at (up_to_end bytes) at ≡ byte_at bytes at
  same_byte = cut_byte bytes (superblock_length bytes) is.end_low is.whole

  same_number : (at size : ℕ) → at + size ≤ superblock_length bytes → number_at (up_to_end bytes) at size ≡ number_at bytes at size
  same_number = cut_number bytes (superblock_length bytes) is.end_low is.whole

  -- the version says where the fields stand
  version : has_chunk_k (up_to_end bytes) ≡ has_chunk_k bytes
  version = cut_version bytes (superblock_length bytes) is.end_low is.whole (omega arith)

  same_field : (at : Bool → ℕ) → at (has_chunk_k bytes) + 8 ≤ superblock_length bytes
      → number_at (up_to_end bytes) (at (has_chunk_k (up_to_end bytes))) 8 ≡ number_at bytes (at (has_chunk_k bytes)) 8
  same_field at low = ap (λ has. number_at (up_to_end bytes) (at has) 8) version ∙ same_number (at (has_chunk_k bytes)) 8 low

  same_end : end_of_file (up_to_end bytes) ≡ end_of_file bytes
  same_end = same_field (λ has. 40 + chunk_field has) (omega arith)

  k : k_values (up_to_end bytes) ≡ k_values bytes
  k = k_values_stay bytes (up_to_end bytes) 26 (omega arith) (same_part 0 26 (omega arith))

  pub cut_ends : end_of_file (up_to_end bytes) ≡ length (up_to_end bytes)
  cut_ends = same_end ∙ sym length-cut

  pub cut_superblock : IsSuperblock (up_to_end bytes)
  cut_superblock =
      let leaf = same_leaf (up_to_end bytes) bytes k in
      let internal = same_internal (up_to_end bytes) bytes k in
      let chunk = same_chunk (up_to_end bytes) bytes k in
      let long = same_length (up_to_end bytes) bytes k in
      record {
        whole = omega (arith, long, length-cut, is.end_low);
        signed = same_part 0 8 (omega arith) ∙ is.signed;
        version = omega (arith, same_byte 8 (omega arith), is.version);
        free_space_version = same_byte 9 (omega arith) ∙ is.free_space_version;
        root_version = same_byte 10 (omega arith) ∙ is.root_version;
        shared_version = same_byte 12 (omega arith) ∙ is.shared_version;
        offset_size = same_byte 13 (omega arith) ∙ is.offset_size;
        length_size = same_byte 14 (omega arith) ∙ is.length_size;
        leaf_low = omega (arith, leaf, is.leaf_low);
        leaf_high = omega (arith, leaf, is.leaf_high);
        internal_low = omega (arith, internal, is.internal_low);
        internal_high = omega (arith, internal, is.internal_high);
        chunk_low = omega (arith, chunk, is.chunk_low);
        chunk_high = omega (arith, chunk, is.chunk_high);
        base = same_field (λ has. 24 + chunk_field has) (omega arith) ∙ is.base;
        driver = same_field (λ has. 48 + chunk_field has) (omega arith) ∙ is.driver;
        small = omega (arith, same_end, is.small);
        end_low = omega (arith, long, same_end, is.end_low);
        end_high = omega (arith, same_end, length-cut);
      }

-- ---- refusals

pub walk_refused : (bytes : List ℕ) (cause : Cause) (at : ℕ) → IsOpenRefusedAt (up_to_end bytes) cause at → RefusedBy bytes cause at
walk_refused bytes NoMemory at h = tt
walk_refused bytes _ at h = inr h

-- ---- bytes that are a tree

-- no rule of the superblock is broken
pub no_field_breach : (bytes : List ℕ) (cause : Cause) (at : ℕ) → IsReadable bytes → SuperblockBreach bytes cause at → ⊥
no_field_breach bytes cause at (table, tree, reads) h = breach_excludes_reads bytes cause at (inl h) table tree reads

-- bytes that end where they say are all of them
pub all_cut : (bytes : List ℕ) (end : ℕ) → end ≡ end_of_file bytes → length bytes ≤ end → bytes ≡ up_to_end bytes
all_cut bytes end is past = sym (ap (λ n. take n bytes) (sym is) ∙ take_all end bytes past)
