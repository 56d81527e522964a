-- Cells that are gathered as bytes, piece by piece.
use Rattle.std.proofs.Common.{◌≡◌, ℕ, zero, suc, ◌+◌, ◌*◌, ◌<◌, ◌≤◌, List, ◌++◌, length, take, drop, replicate, ℤ, sym, ap, ◌∙◌, arith, length-append, append_assoc, append-nil}
use Rattle.std.proofs.lemmas.List.{length-take}
use Rattle.std.proofs.lemmas.Grind.{flat_map-append}
use Rattle.std.proofs.Math.Seq.{take-append_seam}
use borrow.Rule.Slice.PartMut.{put_mid}
use Rattle.h5_bytes.proofs.PartLaws.{put_mid_is, with_part_is}
use Rattle.h5_model.specs.Format.Fixed.{Fixed, IsFixed, bytes_of}
use Rattle.h5_model.specs.Format.Plain.{cells_bytes}
use Rattle.h5_model.specs.Scripts.Answers.{stored_values}
use Rattle.h5_model.proofs.PlainValues.{length-cells_bytes}
use Rattle.h5_edit.specs.Fits.Laws.{AreBytes}
use Rattle.h5_edit.proofs.ChangedLaws.CellLaws.{bytes_of_stored}

-- bytes that are written behind the first ones follow them
pub written_behind : (at k : ℕ) (part now : List ℕ) → length part ≡ k → at + k ≤ length now → take (at + k) (put_mid at k now part) ≡ take at now ++ part
written_behind at k part now long room =
    let rest = drop (at + length part) now in
    let ahead : length (take at now) ≡ at = length-take at now ∙ omega arith in
    let front : length (take at now ++ part) ≡ at + k = length-append (take at now) part ∙ omega (arith, ahead) in
    let is : put_mid at k now part ≡ (take at now ++ part) ++ rest
    = put_mid_is at k now part long room ∙ with_part_is at part now (omega arith) ∙ sym (append_assoc (take at now) part rest) in
    ap (take (at + k)) is ∙ ap (λ (n : ℕ). take n ((take at now ++ part) ++ rest)) (sym front) ∙ take-append_seam (take at now ++ part) rest

-- the bytes of a piece are those of its values
pub piece_bytes : (t : Fixed) (bytes : List ℕ) → IsFixed t → AreBytes bytes → (n : ℕ) × (0 < n) × (length bytes ≡ n * t.size) → bytes ≡ cells_bytes t (stored_values t bytes)
piece_bytes t bytes sound low whole = bytes_of_stored t whole.0 bytes sound low whole.2

pub piece_long : (t : Fixed) (bytes : List ℕ) → IsFixed t → AreBytes bytes → (n : ℕ) × (0 < n) × (length bytes ≡ n * t.size)
    → length (stored_values t bytes) * t.size ≡ length bytes
piece_long t bytes sound low whole = sym (ap length (piece_bytes t bytes sound low whole) ∙ length-cells_bytes t (stored_values t bytes))

-- ---- the fill

cells_more : (t : Fixed) (k : ℕ) (v : ℤ) → cells_bytes t (replicate (suc k) v) ≡ cells_bytes t (replicate k v) ++ bytes_of t v
cells_more t zero v = append-nil (bytes_of t v)
cells_more t (suc k) v = ap (λ (xs : List ℕ). bytes_of t v ++ xs) (cells_more t k v) ∙ sym (append_assoc (bytes_of t v) (cells_bytes t (replicate k v)) (bytes_of t v))

-- ---- pieces

-- the values so far, and those of one piece more
pub piece_more : (t : Fixed) (at end : ℕ) (old now : List ℕ) (values part : List ℤ) → at ≡ length values * t.size → take at old ≡ cells_bytes t values
    → take end now ≡ take at old ++ cells_bytes t part → take end now ≡ cells_bytes t (values ++ part)
piece_more t at end old now values part from before written =
    written ∙ ap (λ (xs : List ℕ). xs ++ cells_bytes t part) before ∙ sym (flat_map-append (bytes_of t) values part)

pub place_more : (t : Fixed) (at end : ℕ) (values part : List ℤ) → at ≡ length values * t.size → end ≡ at + length part * t.size → end ≡ length (values ++ part) * t.size
place_more t at end values part from to =
    let all : length (values ++ part) * t.size ≡ (length values + length part) * t.size = ap (λ (n : ℕ). n * t.size) (length-append values part) in
    omega (arith, from, to, all)
