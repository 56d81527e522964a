-- Values that were written one after another are read as those values.
use Rattle.std.proofs.Common.{◌≡◌, ℕ, zero, suc, ◌+◌, ◌-◌, ◌*◌, ◌<◌, ◌≤◌, List, [], ◌∷◌, ◌++◌, length, length-append, append_assoc, append-nil, take, drop, get_or, refl, sym, ap, ◌∙◌, arith, true, ℤ, pos}
use Rattle.std.proofs.lemmas.Bool.{and_parts}
use Rattle.std.proofs.lemmas.List.{take_more, take_all, drop_all, drop-drop, length-take, length-drop}
use Rattle.std.proofs.Math.Nat.{mul-le-mul_right}
use Rattle.std.proofs.lemmas.List.FromFn.{fill_by_all}
use Rattle.std.proofs.lemmas.Grind.{flat_map-append}
use Rattle.std.proofs.Math.Seq.{take-append_seam, drop-append-add}
use Rattle.std.specs.List.{list_all}
use borrow.Rule.Slice.PartMut.{put_mid}
use Rattle.h5_bytes.proofs.PartLaws.{put_mid_is, with_part_is}
use Rattle.h5_model.specs.Format.Fixed.{Fixed, value_at, value_of, fits, bytes_of}
use Rattle.h5_model.specs.Format.AttributeBody.{values_at}
use Rattle.h5_model.proofs.FixedLaws.{value_back, length-bytes_of}
use Rattle.h5_model.specs.Format.Plain.{cells_bytes}
use Rattle.h5_model.proofs.PlainValues.{length-cells_bytes}
use Rattle.h5_model.proofs.ValueLaws.{value_at-drop}

pub all_at : (t : Fixed) (values : List ℤ) (k : ℕ) → list_all (fits t) values ≡ true → k < length values → fits t (get_or values k (pos 0)) ≡ true
all_at t [] k all low = absurd (omega arith)
all_at t (v ∷ vs) zero all low = (and_parts (fits t v) (list_all (fits t) vs) all).0
all_at t (v ∷ vs) (suc k) all low = all_at t vs k (and_parts (fits t v) (list_all (fits t) vs) all).1 (omega arith)

-- one more value is written behind those that are
pub one_more : (t : Fixed) (values : List ℤ) (k : ℕ) (old now : List ℕ) → k < length values → length old ≡ length values * t.size → k * t.size + t.size ≤ length old
    → now ≡ cells_bytes t (take k values) ++ drop (k * t.size) old
    → put_mid (k * t.size) t.size now (bytes_of t (get_or values k (pos 0))) ≡ cells_bytes t (take (k + 1) values) ++ drop ((k + 1) * t.size) old
one_more t values k old now low long room same =
    let v : ℤ = get_or values k (pos 0) in
    let front : List ℕ = cells_bytes t (take k values) in
    let ahead : length front ≡ k * t.size = length-cells_bytes t (take k values) ∙ ap (λ (n : ℕ). n * t.size) (omega (arith, length-take k values)) in
    let behind : length (drop (k * t.size) old) ≡ length old - k * t.size = length-drop (k * t.size) old in
    let all : length now ≡ length old = ap length same ∙ length-append front (drop (k * t.size) old) ∙ omega arith in
    let size : length (bytes_of t v) ≡ t.size = length-bytes_of t v in
    let next : (k + 1) * t.size ≡ k * t.size + t.size = omega arith in
    let taken : take (k * t.size) now ≡ front = ap (take (k * t.size)) same ∙ ap (λ (n : ℕ). take n (front ++ drop (k * t.size) old)) (sym ahead) ∙ take-append_seam front (drop (k * t.size) old) in
    let dropped : drop (k * t.size + length (bytes_of t v)) now ≡ drop ((k + 1) * t.size) old
    = ap (λ (n : ℕ). drop (k * t.size + n) now) size ∙ ap (drop (k * t.size + t.size)) same
    ∙ ap (λ (n : ℕ). drop (n + t.size) (front ++ drop (k * t.size) old)) (sym ahead) ∙ drop-append-add front (drop (k * t.size) old) t.size
    ∙ drop-drop t.size (k * t.size) old ∙ ap (λ (n : ℕ). drop n old) (sym next) in
    let longer : cells_bytes t (take (k + 1) values) ≡ front ++ bytes_of t v
    = ap (cells_bytes t) (take_more values k (pos 0) low) ∙ flat_map-append (bytes_of t) (take k values) (v ∷ []) ∙ ap (λ (xs : List ℕ). front ++ xs) (append-nil (bytes_of t v)) in
    put_mid_is (k * t.size) t.size now (bytes_of t v) size (omega arith) ∙ with_part_is (k * t.size) (bytes_of t v) now (omega arith)
    ∙ (λ i. taken i ++ (bytes_of t v ++ dropped i))
    ∙ sym (append_assoc front (bytes_of t v) (drop ((k + 1) * t.size) old))
    ∙ ap (λ (xs : List ℕ). xs ++ drop ((k + 1) * t.size) old) (sym longer)

-- all values are written
pub all_written : (t : Fixed) (values : List ℤ) (k : ℕ) (old now : List ℕ) → length values ≤ k → length old ≡ length values * t.size
    → now ≡ cells_bytes t (take k values) ++ drop (k * t.size) old → now ≡ cells_bytes t values
all_written t values k old now high long same =
    let past : length old ≤ k * t.size = omega (arith, mul-le-mul_right t.size high) in
    same ∙ (λ i. cells_bytes t (take_all k values high i) ++ drop_all (k * t.size) old past i) ∙ append-nil (cells_bytes t values)

-- ---- read

value_back_at : (t : Fixed) (values : List ℤ) (rest : List ℕ) (k : ℕ) → 1 ≤ t.size → list_all (fits t) values ≡ true → k < length values
    → value_at t (cells_bytes t values ++ rest) (k * t.size) ≡ get_or values k (pos 0)
value_back_at t [] rest k some all low = absurd (omega arith)
value_back_at t (v ∷ vs) rest zero some all low =
    let start : 0 * t.size ≡ 0 = omega arith in
    let joined : (bytes_of t v ++ cells_bytes t vs) ++ rest ≡ bytes_of t v ++ (cells_bytes t vs ++ rest) = append_assoc (bytes_of t v) (cells_bytes t vs) rest in
    ap (value_at t ((bytes_of t v ++ cells_bytes t vs) ++ rest)) start ∙ ap (value_of t) joined
    ∙ value_back t v (cells_bytes t vs ++ rest) some (and_parts (fits t v) (list_all (fits t) vs) all).0
value_back_at t (v ∷ vs) rest (suc k) some all low =
    let size : length (bytes_of t v) ≡ t.size = length-bytes_of t v in
    let next : suc k * t.size ≡ length (bytes_of t v) + k * t.size = omega arith in
    let joined : (bytes_of t v ++ cells_bytes t vs) ++ rest ≡ bytes_of t v ++ (cells_bytes t vs ++ rest) = append_assoc (bytes_of t v) (cells_bytes t vs) rest in
    ap (value_at t ((bytes_of t v ++ cells_bytes t vs) ++ rest)) next ∙ ap (λ (bytes : List ℕ). value_at t bytes (length (bytes_of t v) + k * t.size)) joined
    ∙ value_at-drop t (bytes_of t v ++ (cells_bytes t vs ++ rest)) (length (bytes_of t v) + k * t.size)
    ∙ ap (value_of t) (drop-append-add (bytes_of t v) (cells_bytes t vs ++ rest) (k * t.size))
    ∙ sym (value_at-drop t (cells_bytes t vs ++ rest) (k * t.size))
    ∙ value_back_at t vs rest k some (and_parts (fits t v) (list_all (fits t) vs) all).1 (omega arith)

-- values at a place where they begin
pub values_back : (t : Fixed) (values : List ℤ) (bytes rest : List ℕ) (place : ℕ) → 1 ≤ t.size → list_all (fits t) values ≡ true
    → drop place bytes ≡ cells_bytes t values ++ rest → values_at t bytes place (length values) ≡ values
values_back t values bytes rest place some all start = sym (fill_by_all (λ k. value_at t bytes (place + k * t.size)) values (length values) (pos 0) refl (λ k low.
    sym (value_at-drop t bytes (place + k * t.size) ∙ ap (value_of t) (sym (drop-drop (k * t.size) place bytes)) ∙ ap (λ (xs : List ℕ). value_of t (drop (k * t.size) xs)) start
    ∙ sym (value_at-drop t (cells_bytes t values ++ rest) (k * t.size)) ∙ value_back_at t values rest k some all low)))
