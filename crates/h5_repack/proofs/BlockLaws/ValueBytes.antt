-- Any bytes of the right number are the bytes of a list of values.
use Rattle.std.proofs.Common.{◌≡◌, ℕ, zero, suc, ◌*◌, ◌≤◌, List, [], ◌∷◌, length, take, drop, ℤ, refl, ap, sym, ◌∙◌, arith}
use Rattle.std.proofs.lemmas.List.{length-take, length-drop, take-append-drop, nil_from_length}
use Rattle.h5_model.specs.Format.Fixed.{Fixed, IsFixed, value_of}
use Rattle.h5_model.specs.Tree.Sound.{AreOf}
use Rattle.h5_model.specs.Format.Plain.{cells_bytes}
use Rattle.h5_types.proofs.Values.{fits_value_of}
use Rattle.h5_msg.proofs.ValueBytes.{AreBytes, AreBytes-take, AreBytes-drop, bytes_back}

-- values of the type whose bytes these are
pub record HasBytes (t : Fixed) (count : ℕ) (bytes : List ℕ) (values : List ℤ) : Type 0 where
  pub of_type : AreOf t values
  pub counted : length values ≡ count
  pub same : cells_bytes t values ≡ bytes

pub values_there : (t : Fixed) (count : ℕ) (bytes : List ℕ) → IsFixed t → length bytes ≡ count * t.size → AreBytes bytes
    → (values : List ℤ) × HasBytes t count bytes values
values_there t zero bytes sound long low =
    let none : bytes ≡ [] = nil_from_length bytes (long ∙ omega arith) in
    ([], record { of_type = tt; counted = refl; same = sym none })
values_there t (suc count) bytes sound long low =
    let size : t.size ≤ length bytes = omega arith in
    let first_long : length (take t.size bytes) ≡ t.size = length-take t.size bytes ∙ omega arith in
    let first_low : AreBytes (take t.size bytes) = AreBytes-take t.size bytes low in
    let rest_long : length (drop t.size bytes) ≡ count * t.size = length-drop t.size bytes ∙ omega arith in
    let rest_low : AreBytes (drop t.size bytes) = AreBytes-drop t.size bytes low in
    let rest = values_there t count (drop t.size bytes) sound rest_long rest_low in (
      value_of t (take t.size bytes) ∷ rest.0,
      record {
        of_type = (fits_value_of t (take t.size bytes) sound first_low, rest.1.of_type);
        counted = ap suc rest.1.counted;
        same = rw (bytes_back t (take t.size bytes) sound first_long first_low, rest.1.same) (take-append-drop t.size bytes);
      },
    )
