-- A dataspace that was written reads as its sizes and maxima.
use Rattle.std.proofs.Common.{◌≡◌, ℕ, zero, suc, ◌+◌, ◌-◌, ◌*◌, ◌^◌, ◌<◌, ◌≤◌, List, [], ◌∷◌, ◌++◌, length, length-append, map, get_or, drop, Option, Some, None, refl, sym, ap, ◌∙◌, arith, true, false, Bool, replicate, append_assoc}
use Rattle.std.proofs.lemmas.Bool.{and_parts}
use Rattle.std.proofs.lemmas.Bool.Decides.{nat_tests}
use Rattle.std.proofs.lemmas.List.FromFn.{fill_by_all}
use Rattle.std.specs.Prelude.{nat_le, ◌==◌}
use Rattle.std.specs.List.{range_with_len, AllByRecursion}
use Rattle.std.proofs.Math.Seq.{drop-append_seam}
use Rattle.h5_bytes.specs.Bytes.{number_at, undefined_address}
use Rattle.h5_model.specs.Edits.Refusal.{are_maxima, is_maximum}
use Rattle.h5_model.specs.Format.Limits.{most_dimensions}
use Rattle.h5_model.specs.Scripts.Tests.{each_below}
use Rattle.h5_model.specs.Format.Extent.{extent_of, is_dataspace, size_in, maximum_in, maximum_from, maximum_fits}
use Rattle.h5_model.specs.Format.Bodies.{dataspace_bytes, bounded_bytes, or_undefined, words}
use Rattle.h5_model.specs.Format.Plain.{with_zeros}
use Rattle.h5_model.proofs.PaddedLaws.{padded_full}
use Rattle.h5_model.proofs.EditLaws.{length-are_maxima}
use Rattle.h5_msg.proofs.WordLaws.{words_long, bounds_long, length-numbers, number_at-drop, number_at-words}

-- numbers that fit in 8 bytes
abbrev pub Small : List ℕ → Type 0
Small xs = (k : ℕ) → get_or xs k 0 < 2 ^ 64

map_some : (f : ℕ → ℕ) (a n : ℕ) → map (λ (k : ℕ). Some (f k)) (range_with_len a n) ≡ map (λ (x : ℕ). Some x) (map f (range_with_len a n))
map_some f a zero = refl
map_some f a (suc n) = ap (λ (xs : List (Option ℕ)). Some (f a) ∷ xs) (map_some f (a + 1) n)

-- a body that begins with 8 bytes and the sizes says these sizes
sizes_of : (body sizes rest : List ℕ) → drop 8 body ≡ words sizes ++ rest → Small sizes → map (size_in body) (range_with_len 0 (length sizes)) ≡ sizes
sizes_of body sizes rest behind small = sym (fill_by_all (size_in body) sizes (length sizes) 0 refl (λ k low.
    sym (number_at-drop body 8 (8 * k) 8 ∙ ap (λ (bytes : List ℕ). number_at bytes (8 * k) 8) behind ∙ number_at-words sizes rest k low (small k))))

-- ---- without maxima

abbrev plain : List ℕ → ℕ → List ℕ
plain sizes n = with_zeros (dataspace_bytes sizes) n

plain_form : (sizes rest : List ℕ) → length sizes ≤ most_dimensions → is_dataspace (1 ∷ length sizes ∷ 0 ∷ 0 ∷ 0 ∷ 0 ∷ 0 ∷ 0 ∷ (words sizes ++ rest)) ≡ true
plain_form sizes rest rank =
    let numbers = words_long sizes in
    let once : length sizes * (1 + 0) ≡ length sizes = omega arith in
    let long : length (words sizes ++ rest) ≡ 8 * length sizes + length rest = length-append (words sizes) rest ∙ ap (λ (k : ℕ). k + length rest) numbers in
    let head : nat_le 8 (8 + length (words sizes ++ rest)) ≡ true = grind (arith, nat_tests) in
    let few : nat_le (length sizes) 32 ≡ true = grind (arith, nat_tests) in
    let whole : nat_le (8 + 8 * (length sizes * (1 + 0))) (8 + length (words sizes ++ rest)) ≡ true = grind (arith, nat_tests) in
    let eight : length (1 ∷ length sizes ∷ 0 ∷ 0 ∷ 0 ∷ 0 ∷ 0 ∷ 0 ∷ (words sizes ++ rest)) ≡ 8 + length (words sizes ++ rest) = omega arith in
    rw (eight, head, few, whole) refl

pub plain_back : (sizes : List ℕ) (n : ℕ) (bytes : List ℕ) → length sizes ≤ most_dimensions → Small sizes → bytes ≡ with_zeros (dataspace_bytes sizes) n
    → extent_of bytes ≡ Some (record { sizes = sizes; maxima = map (λ (x : ℕ). Some x) sizes })
unfolding extent_of
plain_back sizes n bytes rank small same =
    let read : map (size_in (plain sizes n)) (range_with_len 0 (length sizes)) ≡ sizes
    = sizes_of (plain sizes n) sizes (replicate (n - length (dataspace_bytes sizes)) 0) refl small in
    let bounds : map (maximum_in (plain sizes n)) (range_with_len 0 (length sizes)) ≡ map (λ (x : ℕ). Some x) sizes
    = map_some (size_in (plain sizes n)) 0 (length sizes) ∙ ap (λ (xs : List ℕ). map (λ (x : ℕ). Some x) xs) read in
    rw (same, plain_form sizes (replicate (n - length (dataspace_bytes sizes)) 0) rank, read, bounds) refl

-- ---- with maxima

-- the maximum that stands in place k, as a number and as a maximum
number_of : (maxima : List (Option ℕ)) (sizes : List ℕ) (k : ℕ) → are_maxima sizes maxima ≡ true → k < length maxima
    → maximum_from (get_or (map or_undefined maxima) k 0) ≡ get_or maxima k None
number_of [] sizes k fit low = absurd (omega arith)
number_of (m ∷ ms) [] k fit low = absurd (cc)
number_of (None ∷ ms) (d ∷ ds) zero fit low = refl
number_of (Some n ∷ ms) (d ∷ ds) zero fit low =
    let own : is_maximum d (Some n) ≡ true = (and_parts (is_maximum d (Some n)) (are_maxima ds ms) fit).0 in
    let below : (n == undefined_address) ≡ false = grind (arith, nat_tests) in
    rw below refl
number_of (m ∷ ms) (d ∷ ds) (suc k) fit low = number_of ms ds k (and_parts (is_maximum d m) (are_maxima ds ms) fit).1 (omega arith)

above_size : (sizes : List ℕ) (maxima : List (Option ℕ)) (k : ℕ) → Small sizes → are_maxima sizes maxima ≡ true → k < length sizes
    → nat_le (get_or sizes k 0) (get_or (map or_undefined maxima) k 0) ≡ true
above_size [] maxima k small fit low = absurd (omega arith)
above_size (d ∷ ds) [] k small fit low = absurd (cc)
above_size (d ∷ ds) (None ∷ ms) zero small fit low = let fits : d < 2 ^ 64 = small 0 in grind (arith, nat_tests)
above_size (d ∷ ds) (Some n ∷ ms) zero small fit low = let own : is_maximum d (Some n) ≡ true = (and_parts (is_maximum d (Some n)) (are_maxima ds ms) fit).0 in grind (arith, nat_tests)
above_size (d ∷ ds) (m ∷ ms) (suc k) small fit low = above_size ds ms k (λ j. small (suc j)) (and_parts (is_maximum d m) (are_maxima ds ms) fit).1 (omega arith)

each_below_all : (n : ℕ) (test : ℕ → Bool) → ((k : ℕ) → k < n → test k ≡ true) → each_below n test ≡ true
each_below_all zero test all = refl
each_below_all (suc n) test all = rw (all n (omega arith), each_below_all n test (λ k low. all k (omega arith))) refl

pub small_from : (xs : List ℕ) → AllByRecursion (λ n. n < 2 ^ 64) xs → Small xs
small_from [] all k = omega arith
small_from (x ∷ xs) all zero = all.0
small_from (x ∷ xs) all (suc k) = small_from xs all.1 k

module _ (sizes : List ℕ) (maxima : List (Option ℕ)) (rest : List ℕ) (rank : length sizes ≤ most_dimensions) (small : Small sizes) (fit : are_maxima sizes maxima ≡ true) (numbers : Small (map or_undefined maxima)) where
  abbrev bounded : List ℕ
  bounded = 1 ∷ length sizes ∷ 1 ∷ 0 ∷ 0 ∷ 0 ∷ 0 ∷ 0 ∷ ((words sizes ++ words (map or_undefined maxima)) ++ rest)

  abbrev behind : List ℕ
  behind = words (map or_undefined maxima) ++ rest

  joined : (words sizes ++ words (map or_undefined maxima)) ++ rest ≡ words sizes ++ behind
  joined = append_assoc (words sizes) (words (map or_undefined maxima)) rest

  seam : drop (8 * length sizes) (words sizes ++ behind) ≡ behind
  seam = ap (λ (n : ℕ). drop n (words sizes ++ behind)) (sym (words_long sizes)) ∙ drop-append_seam (words sizes) behind

  maximum_read : (k : ℕ) → k < length maxima → number_at bounded (8 + 8 * length sizes + 8 * k) 8 ≡ get_or (map or_undefined maxima) k 0
  maximum_read k low =
      let place : 8 + 8 * length sizes + 8 * k ≡ 8 + (8 * length sizes + 8 * k) = omega arith in
      let many = length-numbers maxima in
      ap (λ (at : ℕ). number_at bounded at 8) place ∙ number_at-drop bounded 8 (8 * length sizes + 8 * k) 8
      ∙ ap (λ (bytes : List ℕ). number_at bytes (8 * length sizes + 8 * k) 8) joined
      ∙ number_at-drop (words sizes ++ behind) (8 * length sizes) (8 * k) 8
      ∙ ap (λ (bytes : List ℕ). number_at bytes (8 * k) 8) seam
      ∙ number_at-words (map or_undefined maxima) rest k (omega arith) (numbers k)

  size_read : (k : ℕ) → k < length sizes → number_at bounded (8 + 8 * k) 8 ≡ get_or sizes k 0
  size_read k low = number_at-drop bounded 8 (8 * k) 8 ∙ ap (λ (bytes : List ℕ). number_at bytes (8 * k) 8) joined ∙ number_at-words sizes behind k low (small k)

  none_below : each_below (length sizes) (maximum_fits bounded) ≡ true
  unfolding maximum_fits
  none_below = each_below_all (length sizes) (maximum_fits bounded) (λ k low.
      let same = length-are_maxima sizes maxima fit in
      rw (size_read k low, maximum_read k (omega arith)) (above_size sizes maxima k small fit low))

  bounded_form : is_dataspace bounded ≡ true
  bounded_form =
      let same = length-are_maxima sizes maxima fit in
      let both : length (words sizes ++ words (map or_undefined maxima)) ≡ 16 * length sizes = bounds_long sizes maxima same in
      let twice : length sizes * (1 + 1) ≡ 2 * length sizes = omega arith in
      let long : length ((words sizes ++ words (map or_undefined maxima)) ++ rest) ≡ 16 * length sizes + length rest
      = length-append (words sizes ++ words (map or_undefined maxima)) rest ∙ ap (λ (k : ℕ). k + length rest) both in
      let head : nat_le 8 (length bounded) ≡ true = grind (arith, nat_tests) in
      let few : nat_le (length sizes) 32 ≡ true = grind (arith, nat_tests) in
      let whole : nat_le (8 + 8 * (length sizes * (1 + 1))) (length bounded) ≡ true = grind (arith, nat_tests) in
      rw (head, few, whole, none_below) refl

  pub bounded_reads : extent_of bounded ≡ Some (record { sizes = sizes; maxima = maxima })
  unfolding extent_of
  bounded_reads =
      let same = length-are_maxima sizes maxima fit in
      let read : map (size_in bounded) (range_with_len 0 (length sizes)) ≡ sizes = sizes_of bounded sizes behind joined small in
      let bounds : map (maximum_in bounded) (range_with_len 0 (length sizes)) ≡ maxima
      = sym (fill_by_all (maximum_in bounded) maxima (length sizes) None same (λ k low.
      sym (number_of maxima sizes k fit (omega arith)) ∙ ap maximum_from (sym (maximum_read k (omega arith))))) in
      rw (bounded_form, read, bounds) refl

pub bounded_back : (sizes : List ℕ) (maxima : List (Option ℕ)) (n : ℕ) (bytes : List ℕ) → length sizes ≤ most_dimensions → Small sizes → are_maxima sizes maxima ≡ true
    → AllByRecursion (λ n. n < 2 ^ 64) (map or_undefined maxima) → bytes ≡ with_zeros (bounded_bytes sizes maxima) n
    → extent_of bytes ≡ Some (record { sizes = sizes; maxima = maxima })
bounded_back sizes maxima n bytes rank small fit numbers same =
    ap extent_of same ∙ bounded_reads sizes maxima (replicate (n - length (bounded_bytes sizes maxima)) 0) rank small fit (small_from (map or_undefined maxima) numbers)

-- a dataspace that fills its room has no zeros behind it
pub plain_alone : (sizes : List ℕ) (n : ℕ) → n ≡ 8 + 8 * length sizes → with_zeros (dataspace_bytes sizes) n ≡ dataspace_bytes sizes
plain_alone sizes n full = padded_full (dataspace_bytes sizes) n (omega (arith, full, words_long sizes))
