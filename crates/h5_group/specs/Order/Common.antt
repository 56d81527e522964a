-- Bytes that two texts of a segment have in common (File Format Specification 3.0, section III.D).
use Rattle.std.specs.Prelude.{◌≡◌, ◌≢◌, ℕ, ◌+◌, ◌<◌, List, slice_index}

-- so many bytes from one place are those from another, and none of them is zero
abbrev pub HaveCommon : List ℕ → ℕ → ℕ → ℕ → Type 0
HaveCommon bytes at other count = (k : ℕ) → k < count
    → (slice_index bytes (at + k) ≡ slice_index bytes (other + k)) × (slice_index bytes (at + k) ≢ 0)
