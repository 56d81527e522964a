-- What an image is after two parts of it were lent: the one part is replaced, and then the other.
use Rattle.std.proofs.Common.{◌≡◌, ℕ, ◌+◌, ◌-◌, ◌≤◌, ◌<◌, Bool, if◌then◌else◌, le-leb, List, ◌++◌, length, arith, rules, ap, ◌∙◌}
use Rattle.std.proofs.lemmas.Bool.{lt-leb}
use Rattle.std.proofs.lemmas.List.{same_lists, places}
use Rattle.h5_bytes.specs.Bytes.{part, with_part}
use Rattle.h5_bytes.specs.declared.Block.{Block}
use Rattle.h5_space.specs.Space.{Space}
use Rattle.h5_space.specs.Lending.{with_bytes_at, with_bytes_around, with_two_parts}

range_low : (at len other size : ℕ) (bytes x y : List ℕ) → length x ≡ len → length y ≡ size → other + size ≤ length bytes → at + len ≤ other
    → with_part at (x ++ (part (at + len) (other - (at + len)) bytes ++ y)) bytes ≡ with_part other y (with_part at x bytes)
unfolding with_part part
range_low at len other size bytes x y long wide ends before = same_lists _ _ (search (rules, places)) (λ k d l. grind (arith, places))

range_high : (at len other size : ℕ) (bytes x y : List ℕ) → length x ≡ len → length y ≡ size → at + len ≤ length bytes → other + size ≤ at
    → with_part other (y ++ (part (other + size) (at - (other + size)) bytes ++ x)) bytes ≡ with_part other y (with_part at x bytes)
unfolding with_part part
range_high at len other size bytes x y long wide ends before = same_lists _ _ (search (rules, places)) (λ k d l. grind (arith, places))

-- the first block ends before the second
pub two_parts_low : (s : Space) (first second : Block) (x y : List ℕ) → length x ≡ first.len → length y ≡ second.len → second.at + second.len ≤ length s.bytes → first.at + first.len ≤ second.at
    → with_two_parts s first second x y ≡ with_bytes_at (with_bytes_at s first.at x) second.at y
two_parts_low s first second x y long wide ends before =
    let g : Bool → ℕ = λ t. if t then (second.at - (first.at + first.len)) else (first.at - (second.at + second.len)) in
    ap (λ (t : Bool). if t then with_bytes_around s first.at first.len (g t) x y else with_bytes_around s second.at second.len (g t) y x) (le-leb first.at second.at (omega arith))
    ∙ ap (λ (bs : List ℕ). record s { bytes = bs }) (range_low first.at first.len second.at second.len s.bytes x y long wide ends before)

-- the second block ends before the first
pub two_parts_high : (s : Space) (first second : Block) (x y : List ℕ) → length x ≡ first.len → length y ≡ second.len → first.at + first.len ≤ length s.bytes → second.at + second.len ≤ first.at → second.at < first.at
    → with_two_parts s first second x y ≡ with_bytes_at (with_bytes_at s first.at x) second.at y
two_parts_high s first second x y long wide ends before under =
    let g : Bool → ℕ = λ t. if t then (second.at - (first.at + first.len)) else (first.at - (second.at + second.len)) in
    ap (λ (t : Bool). if t then with_bytes_around s first.at first.len (g t) x y else with_bytes_around s second.at second.len (g t) y x) (lt-leb first.at second.at under)
    ∙ ap (λ (bs : List ℕ). record s { bytes = bs }) (range_high first.at first.len second.at second.len s.bytes x y long wide ends before)
