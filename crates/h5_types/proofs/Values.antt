-- What `encode` writes is read as the value, and what `decode` reads is a value of the type.
use Rattle.std.proofs.Common.{◌≡◌, ℕ, ◌<◌, List, [], slice_index, true, ℤ, ap, sym, ◌∙◌, append-nil}
use Rattle.h5_model.specs.Format.Fixed.{Fixed, IsFixed, value_of, bytes_of, fits}
use Rattle.h5_model.proofs.FixedLaws.{value_back}
use Rattle.h5_model.proofs.PlainValues.{size-low}
use Rattle.h5_model.proofs.StoredValues.{fits_value_at}

-- a value of the type is read from its own bytes
pub value_of_bytes : (t : Fixed) (v : ℤ) (bytes : List ℕ) → IsFixed t → fits t v ≡ true → bytes ≡ bytes_of t v → value_of t bytes ≡ v
value_of_bytes t v bytes sound fit same =
    ap (value_of t) (same ∙ sym (append-nil (bytes_of t v))) ∙ value_back t v [] (size-low t sound) fit

-- what any bytes stand for is a value of the type
pub fits_value_of : (t : Fixed) (bytes : List ℕ) → IsFixed t → ((i : ℕ) → slice_index bytes i < 256) → fits t (value_of t bytes) ≡ true
fits_value_of t bytes sound low = fits_value_at t bytes 0 sound low
