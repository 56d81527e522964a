-- Texts that end with a zero byte, and the padding of what is stored in multiples of eight bytes.
use Rattle.std.specs.Prelude.{ℕ, ◌+◌, ◌*◌, ◌/◌, ◌==◌, if◌then◌else◌, List, [], ◌∷◌, drop}

-- the bytes before the first zero
abbrev pub until_zero : List ℕ → List ℕ
until_zero [] = []
until_zero (b ∷ bs) = if b == 0 then [] else b ∷ until_zero bs

-- the bytes from a place on, up to the first zero
unfoldable pub text_at : List ℕ → ℕ → List ℕ
text_at bytes at = until_zero (drop at bytes)

-- n raised to the next multiple of 8
abbrev pub pad8 : ℕ → ℕ
pad8 n = (n + 7) / 8 * 8
