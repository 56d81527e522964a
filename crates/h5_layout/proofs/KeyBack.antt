-- A key of a tree of chunks that was written reads as that key (File Format Specification 3.0, section III.A.1).
use Rattle.std.proofs.Common.{◌≡◌, ℕ, zero, suc, ◌+◌, ◌*◌, ◌^◌, ◌<◌, List, [], ◌∷◌, ◌++◌, length, length-append, append-nil, get_or, drop, refl, sym, ap, ◌∙◌, subst, arith}
use Rattle.std.proofs.lemmas.Grind.{flat_map-append}
use Rattle.std.proofs.lemmas.List.FromFn.{fill_by_all}
use Rattle.std.proofs.Math.Seq.{drop-append_seam}
use Rattle.std.specs.List.{AllZip}
use Rattle.h5_bytes.specs.Bytes.{little_bytes, number_at}
use Rattle.h5_bytes.specs.Numbers.{middle, word, zeros}
use Rattle.h5_model.specs.Format.Bodies.{words}
use Rattle.h5_model.specs.Format.Chunks.{IsChunkKey, IsOffset, all_offsets_in, offsets_in}
use Rattle.h5_model.specs.Format.Extent.{numbers_at}
use Rattle.h5_model.proofs.NumberLaws.{reads_back}
use Rattle.h5_msg.proofs.WordLaws.{number_at-drop, number_at-words, words_long}
use Rattle.h5_chunks.specs.Keys.{chunk_key}

-- each number is one of eight bytes
abbrev pub AreWords : List ℕ → Type 0
AreWords ns = (k : ℕ) → get_or ns k 0 < 2 ^ 64

-- numbers behind the size and the filter mask, with anything behind them
numbers_back : (bytes : ℕ) (ns rest : List ℕ) → AreWords ns → numbers_at (middle bytes ++ (zeros 4 ++ (words ns ++ rest))) 8 (length ns) ≡ ns
numbers_back bytes ns rest small =
    let whole : List ℕ = middle bytes ++ (zeros 4 ++ (words ns ++ rest)) in
    sym (fill_by_all (λ i. number_at whole (8 + 8 * i) 8) ns (length ns) 0 refl (λ k low.
    sym (number_at-drop whole 8 (8 * k) 8 ∙ number_at-words ns rest k low (small k))))

words_more : (ns : List ℕ) → AreWords ns → AreWords (ns ++ 0 ∷ [])
words_more [] small zero = omega arith
words_more [] small (suc k) = omega arith
words_more (n ∷ ns) small zero = small 0
words_more (n ∷ ns) small (suc k) = words_more ns (λ j. small (suc j)) k

module _ (bytes : ℕ) (offsets : List ℕ) where
  abbrev key : List ℕ
  key = chunk_key (record { bytes = bytes; offsets = offsets })

  pub length-key : length key ≡ 8 + 8 * (length offsets + 1)
  length-key = omega (arith, words_long offsets, length-append (words offsets) (word 0))

  pub size_read : bytes < 2 ^ 32 → number_at key 0 4 ≡ bytes
  size_read low = reads_back 4 bytes (zeros 4 ++ (words offsets ++ word 0)) (omega (arith, low))

  pub mask_read : number_at key 4 4 ≡ 0
  unfolding number_at
  mask_read = omega arith

  seam : drop (8 * length offsets) (words offsets ++ word 0) ≡ word 0
  seam = ap (λ n. drop n (words offsets ++ word 0)) (sym (words_long offsets)) ∙ drop-append_seam (words offsets) (word 0)

  zero_read : number_at (word 0) 0 8 ≡ 0
  unfolding number_at
  zero_read = omega arith

  pub element_read : number_at key (8 + 8 * length offsets) 8 ≡ 0
  element_read =
      let none : 8 * length offsets + 0 ≡ 8 * length offsets = omega arith in
      number_at-drop key 8 (8 * length offsets) 8 ∙ ap (λ at. number_at (words offsets ++ word 0) at 8) (sym none)
      ∙ number_at-drop (words offsets ++ word 0) (8 * length offsets) 0 8 ∙ ap (λ ns. number_at ns 0 8) seam ∙ zero_read

  module _ (small : AreWords offsets) where
    pub offsets_back : (rank : ℕ) → length offsets ≡ rank → offsets_in rank key ≡ offsets
    offsets_back rank long = ap (λ n. numbers_at key 8 n) (sym long) ∙ numbers_back bytes offsets (word 0) small

    -- with the one for the element
    pub all_back : (rank : ℕ) → length offsets ≡ rank → all_offsets_in rank key ≡ offsets ++ 0 ∷ []
    all_back rank long =
        let more : List ℕ = offsets ++ 0 ∷ [] in
        let joined : words more ++ [] ≡ words offsets ++ word 0 = append-nil (words more) ∙ flat_map-append (little_bytes 8) offsets (0 ∷ []) in
        let one : length more ≡ rank + 1 = length-append offsets (0 ∷ []) ∙ ap (λ n. n + 1) long in
        (λ i. numbers_at (middle bytes ++ (zeros 4 ++ sym joined i)) 8 (sym one i)) ∙ numbers_back bytes more [] (words_more offsets small)

    -- a key of a whole chunk
    pub key_back : (sizes : List ℕ) → length offsets ≡ length sizes → bytes < 2 ^ 32 → AllZip IsOffset sizes offsets → IsChunkKey sizes bytes key
    key_back sizes long low aligned = record {
      stored = size_read low;
      unfiltered = mask_read;
      aligned = subst (AllZip IsOffset sizes) (sym (offsets_back (length sizes) long)) aligned;
      element = ap (λ n. number_at key (8 + 8 * n) 8) (sym long) ∙ element_read;
    }
