-- The bytes up to the end of file address have the superblock of all bytes.
use Rattle.std.proofs.Common.{◌≡◌, ℕ, ◌+◌, ◌<◌, ◌≤◌, List, length, sym, ◌∙◌, ap, arith, rules}
use Rattle.std.specs.Prelude.{◌==◌}
use Rattle.std.proofs.lemmas.List.{get_or-take, same_lists, places}
use Rattle.h5_bytes.specs.Bytes.{number_at, byte_at, part}
use Rattle.h5_bytes.proofs.FieldLaws.{number_at-part}
use Rattle.h5_model.specs.Format.Superblock.{end_of_file, has_chunk_k}
use Rattle.h5_model.specs.Faults.Breaches.{up_to_end}

-- so many bytes are there
module _ (bytes : List ℕ) (n : ℕ) (ends : n ≤ end_of_file bytes) (long : n ≤ length bytes) where
  pub cut_part : (at len : ℕ) → at + len ≤ n → part at len (up_to_end bytes) ≡ part at len bytes
  unfolding part
  cut_part at len low = same_lists _ _ (search (rules, places)) (λ k d l. grind (arith, places))

  pub cut_byte : (at : ℕ) → at < n → byte_at (up_to_end bytes) at ≡ byte_at bytes at
  cut_byte at low = get_or-take (end_of_file bytes) bytes at 0 (omega arith)

  pub cut_number : (at size : ℕ) → at + size ≤ n → number_at (up_to_end bytes) at size ≡ number_at bytes at size
  cut_number at size low =
      let none : at + 0 ≡ at = omega arith in
      let this : number_at (part at size (up_to_end bytes)) 0 size ≡ number_at (up_to_end bytes) at size = rw none at (number_at-part 0 size at size (up_to_end bytes) (omega arith)) in
      let that : number_at (part at size bytes) 0 size ≡ number_at bytes at size = rw none at (number_at-part 0 size at size bytes (omega arith)) in
      sym this ∙ ap (λ bs. number_at bs 0 size) (cut_part at size low) ∙ that

  -- so they are of one version
  pub cut_version : 8 < n → has_chunk_k (up_to_end bytes) ≡ has_chunk_k bytes
  cut_version low = ap (λ version. version == 1) (cut_byte 8 low)
