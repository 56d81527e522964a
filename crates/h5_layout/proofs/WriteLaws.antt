-- Bytes written into an image one after another.
use Rattle.std.proofs.Common.{◌≡◌, ℕ, ◌+◌, ◌≤◌, List, [], ◌++◌, length, take, drop, length-append, sym, ap, ◌∙◌, arith, rules}
use Rattle.std.proofs.lemmas.List.{same_lists, places}
use Rattle.h5_bytes.specs.Bytes.{with_part}
use Rattle.h5_bytes.proofs.PartLaws.{with_part_is, length-with_part}

-- nothing is written
pub with_part-none : (at : ℕ) (bytes : List ℕ) → at ≤ length bytes → with_part at [] bytes ≡ bytes
with_part-none at bytes low = with_part_is at [] bytes (omega (arith, low)) ∙ same_lists _ _ (search (rules, places)) (λ k d l. grind (arith, places))

-- bytes are written one after another
pub with_part-append : (at : ℕ) (a b bytes : List ℕ) → at + (length a + length b) ≤ length bytes
    → with_part at (a ++ b) bytes ≡ with_part (at + length a) b (with_part at a bytes)
with_part-append at a b bytes room =
    let one : at + length a ≤ length bytes = omega (arith, room) in
    let long = length-with_part at a bytes one in
    with_part_is at (a ++ b) bytes (omega (arith, length-append a b, room))
    ∙ same_lists (take at bytes ++ ((a ++ b) ++ drop (at + length (a ++ b)) bytes))
    (take (at + length a) (take at bytes ++ (a ++ drop (at + length a) bytes)) ++ (b ++ drop (at + length a + length b) (take at bytes ++ (a ++ drop (at + length a) bytes))))
    (search (rules, places)) (λ k d l. grind (arith, places))
    ∙ ap (λ m. take (at + length a) m ++ (b ++ drop (at + length a + length b) m)) (sym (with_part_is at a bytes one))
    ∙ sym (with_part_is (at + length a) b (with_part at a bytes) (omega (arith, long, room)))
