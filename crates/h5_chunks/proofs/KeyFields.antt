-- A key that is written field by field (File Format Specification 3.0, section III.A.1).
use Rattle.std.proofs.Common.{◌≡◌, ℕ, ◌+◌, ◌*◌, ◌^◌, ◌<◌, ◌≤◌, ◌⊎◌, List, length, get_or, inl, inr, refl, sym, ◌∙◌, subst, arith}
use Rattle.std.proofs.lemmas.Bool.{cases_lt}
use Rattle.std.proofs.lemmas.List.FromFn.{fill_by_all}
use Rattle.h5_bytes.specs.Bytes.{little_bytes, number_at, with_field}
use Rattle.h5_bytes.proofs.FieldLaws.{number_at-with_field, number_at-with_part_other}
use Rattle.h5_bytes.proofs.PartLaws.{length-with_part}
use Rattle.h5_model.specs.Format.Chunks.{offsets_in}
use Rattle.h5_chunks.specs.Lists.{IsKeyOf, key_length}

-- a field that shares no byte with the one that is written
field_other : (bytes : List ℕ) (at n x a m : ℕ) → length (little_bytes n x) ≡ n → at + n ≤ length bytes → (a + m ≤ at) ⊎ (at + n ≤ a)
    → number_at (with_field bytes at n x) a m ≡ number_at bytes a m
field_other bytes at n x a m long inside far =
    number_at-with_part_other at (little_bytes n x) bytes a m (omega (arith, long, inside)) (elim far [
      | inl before ↦ inl before
      | inr behind ↦ inr (omega (arith, long, behind))
    ])

length-field : (bytes : List ℕ) (at n x : ℕ) → length (little_bytes n x) ≡ n → at + n ≤ length bytes → length (with_field bytes at n x) ≡ length bytes
length-field bytes at n x long inside = length-with_part at (little_bytes n x) bytes (omega (arith, long, inside))

module _ (bytes : ℕ) (offsets : List ℕ) where
  abbrev rank : ℕ
  rank = length offsets

  -- it has its size, and so many of its offsets
  pub record HasOffsets (key : List ℕ) (d : ℕ) : Type 0 where
    pub key_of : IsKeyOf rank bytes key
    pub below : (j : ℕ) → j < d → number_at key (8 + 8 * j) 8 ≡ get_or offsets j 0

  module _ (key : List ℕ) (long : length key ≡ key_length rank) (small : bytes < 2 ^ 32) where
    abbrev pub sized : List ℕ
    sized = with_field key 0 4 bytes

    abbrev pub masked : List ℕ
    masked = with_field sized 4 4 0

    abbrev pub closed : List ℕ
    closed = with_field masked (8 + 8 * rank) 8 0

    sized_long : length sized ≡ key_length rank
    sized_long = length-field key 0 4 bytes refl (omega (arith, long)) ∙ long

    masked_long : length masked ≡ key_length rank
    masked_long = length-field sized 4 4 0 refl (omega (arith, sized_long)) ∙ sized_long

    room : (8 + 8 * rank) + 8 ≤ length masked
    room = omega (arith, masked_long)

    pub no_offsets : HasOffsets closed 0
    no_offsets = record {
      key_of = record {
        long = length-field masked (8 + 8 * rank) 8 0 refl room ∙ masked_long;
        stored = field_other masked (8 + 8 * rank) 8 0 0 4 refl room (inl (omega arith))
            ∙ field_other sized 4 4 0 0 4 refl (omega (arith, sized_long)) (inl (omega arith))
            ∙ number_at-with_field key 0 4 bytes (omega (arith, long)) (omega (arith, small));
        unfiltered = field_other masked (8 + 8 * rank) 8 0 4 4 refl room (inl (omega arith))
            ∙ number_at-with_field sized 4 4 0 (omega (arith, sized_long)) (omega arith);
        element = number_at-with_field masked (8 + 8 * rank) 8 0 room (omega arith);
      };
      below = λ j low. absurd (omega (arith, low));
    }

  module _ (key : List ℕ) (d : ℕ) (has : HasOffsets key d) (low : d < rank) (small : get_or offsets d 0 < 2 ^ 64) where
    abbrev more : List ℕ
    more = with_field key (8 + 8 * d) 8 (get_or offsets d 0)

    inside : (8 + 8 * d) + 8 ≤ length key
    inside = omega (arith, low, has.key_of.long)

    pub one_offset_more : HasOffsets more (d + 1)
    one_offset_more = record {
      key_of = record {
        long = length-field key (8 + 8 * d) 8 (get_or offsets d 0) refl inside ∙ has.key_of.long;
        stored = field_other key (8 + 8 * d) 8 (get_or offsets d 0) 0 4 refl inside (inl (omega arith)) ∙ has.key_of.stored;
        unfiltered = field_other key (8 + 8 * d) 8 (get_or offsets d 0) 4 4 refl inside (inl (omega arith)) ∙ has.key_of.unfiltered;
        element = field_other key (8 + 8 * d) 8 (get_or offsets d 0) (8 + 8 * rank) 8 refl inside (inr (omega (arith, low))) ∙ has.key_of.element;
      };
      below = λ j under. elim (cases_lt j d) [
        | inl before ↦ field_other key (8 + 8 * d) 8 (get_or offsets d 0) (8 + 8 * j) 8 refl inside (inl (omega (arith, before))) ∙ has.below j before
        | inr here ↦
            let same : j ≡ d = omega (arith, under, here) in
            subst (λ (n : ℕ). number_at more (8 + 8 * n) 8 ≡ get_or offsets n 0) (sym same)
            (number_at-with_field key (8 + 8 * d) 8 (get_or offsets d 0) inside (omega (arith, small)))
      ];
    }

  pub all_offsets : (key : List ℕ) → HasOffsets key rank → offsets_in rank key ≡ offsets
  all_offsets key has = sym (fill_by_all (λ i. number_at key (8 + 8 * i) 8) offsets rank 0 (omega arith) (λ k low. sym (has.below k low)))
