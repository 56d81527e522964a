-- A node of chunks without children (File Format Specification 3.0, section III.A.1).
use Rattle.std.specs.Prelude.{ℕ, List, ◌∷◌, replicate}

-- its head: the signature, type 1, level 0, no children, and two siblings that are undefined
abbrev pub empty_head : List ℕ
empty_head = 84 ∷ 82 ∷ 69 ∷ 69 ∷ 1 ∷ 0 ∷ 0 ∷ 0 ∷ replicate 16 255
