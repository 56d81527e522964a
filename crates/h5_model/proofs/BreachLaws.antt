-- Where a rule of the superblock is broken, the bytes up to the end of file address read as no tree.
use Rattle.std.proofs.Common.{◌≡◌, ◌⊎◌, inl, inr, ℕ, ◌+◌, ◌<◌, ◌≤◌, List, length, sym, ◌∙◌, ap, subst, refl, arith, ◌||◌, eqb, false}
use Rattle.std.proofs.lemmas.List.{length-take}
use Rattle.std.specs.Prelude.{true, Bool, IsTrue, if◌then◌else◌, ◌==◌, [], ◌∷◌}
use Rattle.std.specs.List.{list_any}
use Rattle.std.proofs.lemmas.Bool.Decides.{nat_tests}
use Rattle.std.specs.Ordering.{nat_cmp}
use Rattle.std.specs.FinMap.{FinMap}
use Rattle.h5_bytes.specs.Bytes.{number_at, byte_at}
use Rattle.h5_model.specs.Format.Superblock.{IsSuperblock, base_place, chunk_field, chunk_k, driver_place, end_field, end_of_file, has_chunk_k, length_with, superblock_length, highest_k}
use Rattle.h5_model.specs.Tree.Objects.{Tree}
use Rattle.h5_model.specs.Format.Reads.{Reads}
use Rattle.h5_model.specs.Faults.Breaches.{up_to_end, FieldBreach, StartBreach, SuperblockBreach}
use Rattle.h5_model.specs.declared.open_fault.Cause.{Cause}
use Rattle.h5_model.specs.declared.open_fault.Cause.TheVariants.{NotHdf5, Truncated, SuperblockVersion, FieldSizes, BaseAddress, Driver, KRange, TooLarge}
use Rattle.h5_model.proofs.CutLaws.{cut_part, cut_byte, cut_number, cut_version}

one_of_four : (at : ℕ) → (eqb 8 at || (eqb 9 at || (eqb 10 at || (eqb 12 at || false)))) ≡ true → ((at ≡ 8) ⊎ (at ≡ 9)) ⊎ ((at ≡ 10) ⊎ (at ≡ 12))
one_of_four at h = grind (arith, nat_tests)

one_of_three : (m n o at : ℕ) → (eqb m at || (eqb n at || (eqb o at || false))) ≡ true → ((at ≡ m) ⊎ (at ≡ n)) ⊎ (at ≡ o)
one_of_three m n o at h = grind (arith, nat_tests)

one_of_two : (m n at : ℕ) → (eqb m at || (eqb n at || false)) ≡ true → (at ≡ m) ⊎ (at ≡ n)
one_of_two m n at h = grind (arith, nat_tests)

-- the version says where fields stand
field_low : (has : Bool) → chunk_field has ≤ 4
field_low true = omega arith
field_low false = omega arith

module _ (bytes : List ℕ) (is : IsSuperblock (up_to_end bytes)) where
  room : (96 ≤ end_of_file bytes) × (96 ≤ length bytes)
  room = let whole = is.whole in let len = length-take (end_of_file bytes) bytes in (omega arith, omega arith)

  version : has_chunk_k (up_to_end bytes) ≡ has_chunk_k bytes
  version = cut_version bytes 96 room.0 room.1 (omega arith)

  whole : superblock_length bytes ≤ length (up_to_end bytes)
  whole = subst (λ has. length_with has ≤ length (up_to_end bytes)) version is.whole

  long : (superblock_length bytes ≤ end_of_file bytes) × (superblock_length bytes ≤ length bytes)
  long = let len = length-take (end_of_file bytes) bytes in (omega (arith, whole), omega (arith, whole))

  -- a field of the superblock is that of all bytes
  same_number : (at size : ℕ) → at + size ≤ superblock_length bytes → number_at (up_to_end bytes) at size ≡ number_at bytes at size
  same_number = cut_number bytes (superblock_length bytes) long.0 long.1

  -- a byte of the superblock that is right in the image is right in the bytes
  right_byte : (p at right : ℕ) → p < 96 → at ≡ p → byte_at (up_to_end bytes) p ≡ right → byte_at bytes at ≡ right
  right_byte p at right low e good = ap (byte_at bytes) e ∙ sym (cut_byte bytes 96 room.0 room.1 p low) ∙ good

  same_end : end_of_file (up_to_end bytes) ≡ end_of_file bytes
  same_end = ap (λ has. number_at (up_to_end bytes) (40 + chunk_field has) 8) version ∙ same_number (end_field bytes).at 8 (omega arith)

  ranged : (p at : ℕ) → at ≡ p → p + 2 ≤ superblock_length bytes → ((number_at bytes at 2 ≡ 0) ⊎ (highest_k < number_at bytes at 2))
      → 1 ≤ number_at (up_to_end bytes) p 2 → number_at (up_to_end bytes) p 2 ≤ highest_k → ⊥
  ranged p at e inside bad low high =
      let same : number_at (up_to_end bytes) p 2 ≡ number_at bytes at 2 = same_number p 2 inside ∙ ap (λ (q : ℕ). number_at bytes q 2) (sym e) in
      elim bad [ inl none ↦ absurd (omega arith) | inr large ↦ absurd (omega arith) ]

  newer : (has : Bool) → has_chunk_k (up_to_end bytes) ≡ has → (at : ℕ) → IsTrue (list_any (λ p. p == at) (16 ∷ 18 ∷ (if has then 24 ∷ [] else [])))
      → ((number_at bytes at 2 ≡ 0) ⊎ (highest_k < number_at bytes at 2)) → ⊥
  newer false none at among bad = elim (one_of_two 16 18 at among) [
    | inl e ↦ ranged 16 at e (omega arith) bad is.leaf_low is.leaf_high
    | inr e ↦ ranged 18 at e (omega arith) bad is.internal_low is.internal_high
  ]
  newer true has at among bad =
      let k : chunk_k (up_to_end bytes) ≡ number_at (up_to_end bytes) 24 2 = rw has refl in
      elim (one_of_three 16 18 24 at among) [
        | inl (inl e) ↦ ranged 16 at e (omega arith) bad is.leaf_low is.leaf_high
        | inl (inr e) ↦ ranged 18 at e (omega arith) bad is.internal_low is.internal_high
        | inr e ↦ ranged 24 at e (omega arith) bad (subst (λ n. 1 ≤ n) k is.chunk_low) (subst (λ n. n ≤ highest_k) k is.chunk_high)
      ]

  field : (cause : Cause) (at : ℕ) → FieldBreach bytes cause at → ⊥
  field Truncated at (p, inl low) = absurd (omega (arith, long.0))
  field Truncated at (p, inr high) = absurd (omega (arith, is.end_high, same_end, length-take (end_of_file bytes) bytes))
  field SuperblockVersion at h = absurd (elim (one_of_four at h.0) [
    | inl (inl e) ↦ omega (arith, subst (λ p. (if p == 8 then 1 else 0) < byte_at bytes p) e h.1, cut_byte bytes 96 room.0 room.1 8 (omega arith), is.version)
    | inl (inr e) ↦ omega (arith, subst (λ p. (if p == 8 then 1 else 0) < byte_at bytes p) e h.1, cut_byte bytes 96 room.0 room.1 9 (omega arith), is.free_space_version)
    | inr (inl e) ↦ omega (arith, subst (λ p. (if p == 8 then 1 else 0) < byte_at bytes p) e h.1, cut_byte bytes 96 room.0 room.1 10 (omega arith), is.root_version)
    | inr (inr e) ↦ omega (arith, subst (λ p. (if p == 8 then 1 else 0) < byte_at bytes p) e h.1, cut_byte bytes 96 room.0 room.1 12 (omega arith), is.shared_version)
  ])
  field FieldSizes at h = elim (one_of_two 13 14 at h.0) [
    | inl e ↦ h.1 (right_byte 13 at 8 (omega arith) e is.offset_size)
    | inr e ↦ h.1 (right_byte 14 at 8 (omega arith) e is.length_size)
  ]
  field BaseAddress at h =
      h.1 (ap (λ p. number_at bytes p 8) h.0 ∙ sym (same_number (base_place bytes) 8 (omega arith)) ∙ ap (λ has. number_at (up_to_end bytes) (24 + chunk_field has) 8) (sym version) ∙ is.base)
  field Driver at h =
      h.1 (ap (λ p. number_at bytes p 8) h.0 ∙ sym (same_number (driver_place bytes) 8 (omega arith)) ∙ ap (λ has. number_at (up_to_end bytes) (48 + chunk_field has) 8) (sym version) ∙ is.driver)
  field KRange at h = newer (has_chunk_k (up_to_end bytes)) refl at (subst (λ has. IsTrue (list_any (λ p. p == at) (16 ∷ 18 ∷ (if has then 24 ∷ [] else [])))) (sym version) h.0) h.1
  field TooLarge at h = absurd (omega (arith, is.small, same_end, h.1))
  field _ at h = absurd h

  start : (cause : Cause) → StartBreach bytes cause → ⊥
  start NotHdf5 h = h (sym (cut_part bytes 96 room.0 room.1 0 8 (omega arith)) ∙ is.signed)
  start Truncated h = absurd (omega (arith, long.1))
  start _ h = absurd h

  pub no_breach : (cause : Cause) (at : ℕ) → SuperblockBreach bytes cause at → ⊥
  no_breach cause at (inl h) = start cause h.1
  no_breach cause at (inr h) = field cause at h.1

-- where the superblock breaks a rule, the bytes read as no tree
pub superblock_breach_excludes : (bytes : List ℕ) (cause : Cause) (at : ℕ) → SuperblockBreach bytes cause at
    → (table : FinMap nat_cmp ℕ) (tree : Tree) → Reads (up_to_end bytes) table tree → ⊥
superblock_breach_excludes bytes cause at h table tree reads = no_breach bytes reads.1.holds.superblock cause at h
