-- Texts joined by a separator, one more at a time.
use Rattle.std.proofs.Common.{◌≡◌, ℕ, zero, suc, ◌+◌, ◌<◌, ◌≤◌, List, [], ◌∷◌, ◌++◌, length, get_or, take, min, take_all, Option, None, ℤ, codes, refl, sym, ap, ◌∙◌, append_assoc, append-nil, arith}
use Rattle.std.specs.Fmt.{signed_decimal}
use Rattle.std.specs.List.{join_by, flat_map, zip}
use Rattle.std.proofs.lemmas.List.{take_more, length-take-le}
use Rattle.std.proofs.lemmas.List.Concat.{flat_map-append}
use Rattle.h5_model.specs.Scripts.Text.{values_text}

-- what stands before the k-th text
abbrev pub before : List ℕ → ℕ → List ℕ
before separator zero = []
before separator (suc k) = separator

pub before_none : (separator : List ℕ) (k : ℕ) → k ≤ 0 → [] ≡ before separator k
before_none separator zero h = refl
before_none separator (suc k) h = absurd (omega (arith, h))

pub before_some : (separator : List ℕ) (k : ℕ) → 0 < k → separator ≡ before separator k
before_some separator zero h = absurd (omega (arith, h))
before_some separator (suc k) h = refl

pub join_push : {X : Type 0} (f : X → List ℕ) (separator : List ℕ) (xs : List X) (x : X) → join_by f separator (xs ++ x ∷ []) ≡ join_by f separator xs ++ (before separator (length xs) ++ f x)
join_push f separator [] x = append-nil (f x)
join_push f separator (y ∷ ys) x =
    ap (λ zs. f y ++ zs) (flat_map-append (λ z. separator ++ f z) ys (x ∷ [])) ∙ sym (append_assoc (f y) (flat_map (λ z. separator ++ f z) ys) ((separator ++ f x) ++ []))
    ∙ ap (λ zs. (f y ++ flat_map (λ z. separator ++ f z) ys) ++ zs) (append-nil (separator ++ f x))

pub join_more : {X : Type 0} (f : X → List ℕ) (separator : List ℕ) (xs : List X) (k : ℕ) (d : X) → k < length xs → join_by f separator (take (k + 1) xs) ≡ join_by f separator (take k xs) ++ (before separator k ++ f (get_or xs k d))
join_more f separator xs k d lt =
    ap (join_by f separator) (take_more xs k d lt) ∙ join_push f separator (take k xs) (get_or xs k d)
    ∙ ap (λ n. join_by f separator (take k xs) ++ (before separator n ++ f (get_or xs k d))) (length-take-le k xs (omega arith))

-- a separator and a text behind what was joined so far
pub joined_step : (old head joined next s t out mid new : List ℕ) → out ≡ old ++ (head ++ joined) → mid ≡ out ++ s → new ≡ mid ++ t → next ≡ joined ++ (s ++ t) → new ≡ old ++ (head ++ next)
joined_step old head joined next s t out mid new so_far separated written is =
    written ∙ ap (λ xs. xs ++ t) separated ∙ append_assoc out s t ∙ ap (λ xs. xs ++ (s ++ t)) so_far
    ∙ append_assoc old (head ++ joined) (s ++ t) ∙ ap (λ xs. old ++ xs) (append_assoc head joined (s ++ t)) ∙ ap (λ xs. old ++ (head ++ xs)) (sym is)

pub length-pairs : (sizes : List ℕ) (maxima : List (Option ℕ)) (k : ℕ) → k < length sizes → k < length maxima → k < length (zip sizes maxima)
length-pairs [] maxima k a b = a
length-pairs (d ∷ ds) [] k a b = b
length-pairs (d ∷ ds) (m ∷ ms) zero a b = omega arith
length-pairs (d ∷ ds) (m ∷ ms) (suc k) a b = omega (arith, length-pairs ds ms k (omega arith) (omega arith))

pub pair_at : (sizes : List ℕ) (maxima : List (Option ℕ)) (k : ℕ) → k < length sizes → k < length maxima → get_or (zip sizes maxima) k (0, None) ≡ (get_or sizes k 0, get_or maxima k None)
pair_at [] maxima k a b = absurd (omega (arith, a))
pair_at (d ∷ ds) [] k a b = absurd (omega (arith, b))
pair_at (d ∷ ds) (m ∷ ms) zero a b = refl
pair_at (d ∷ ds) (m ∷ ms) (suc k) a b = pair_at ds ms k (omega arith) (omega arith)

pub pairs_all : (sizes : List ℕ) (maxima : List (Option ℕ)) (k : ℕ) → min (length sizes) (length maxima) ≤ k → take k (zip sizes maxima) ≡ zip sizes maxima
pairs_all [] maxima k h = take_all k [] (omega arith)
pairs_all (d ∷ ds) [] k h = take_all k [] (omega arith)
pairs_all (d ∷ ds) (m ∷ ms) zero h = absurd (omega (arith, h))
pairs_all (d ∷ ds) (m ∷ ms) (suc k) h = ap (λ ps. (d, m) ∷ ps) (pairs_all ds ms k (omega arith))

-- one more value behind its space
pub values_push : (values : List ℤ) (v : ℤ) → values_text (values ++ v ∷ []) ≡ values_text values ++ (codes " " ++ signed_decimal v)
values_push values v = flat_map-append (λ x. codes " " ++ signed_decimal x) values (v ∷ []) ∙ ap (λ t. values_text values ++ t) (append-nil (codes " " ++ signed_decimal v))

-- a value is appended behind others
pub values_step : (values more : List ℤ) (v : ℤ) (old out new : List ℕ) → more ≡ values ++ v ∷ [] → out ≡ old ++ values_text values → new ≡ out ++ (codes " " ++ signed_decimal v) → new ≡ old ++ values_text more
values_step values more v old out new is so_far written =
    written ∙ ap (λ t. t ++ (codes " " ++ signed_decimal v)) so_far ∙ append_assoc old (values_text values) (codes " " ++ signed_decimal v)
    ∙ ap (λ t. old ++ t) (sym (ap values_text is ∙ values_push values v))
