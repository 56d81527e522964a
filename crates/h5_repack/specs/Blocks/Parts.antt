-- Parts of the plain layout's structures, as they are appended one after another (File Format Specification 3.0, sections III and IV.A).
use Rattle.std.specs.Prelude.{ℕ, zero, suc, List, [], ◌∷◌, ◌++◌}
use Rattle.h5_bytes.specs.Texts.{pad8}
use Rattle.h5_bytes.specs.Numbers.{short, middle, zeros}

-- a header before its messages: how many there are, the reference count, and how many bytes they have
abbrev pub prefix_bytes : ℕ → ℕ → ℕ → List ℕ
prefix_bytes count messages size = 1 ∷ 0 ∷ (short messages ++ (middle count ++ (middle size ++ zeros 4)))

-- a message before its body of so many bytes
abbrev pub message_head : ℕ → ℕ → List ℕ
message_head kind size = short kind ++ (short size ++ zeros 4)

-- the same, and zeros for the body, raised to a multiple of 8
abbrev pub message_room : ℕ → ℕ → List ℕ
message_room kind size = message_head kind (pad8 size) ++ zeros (pad8 size)

-- the bytes, so many times
unfoldable pub copies : ℕ → List ℕ → List ℕ
copies zero bytes = []
copies (suc n) bytes = bytes ++ copies n bytes
