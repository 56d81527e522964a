-- The parts that a range of bytes is cut into, and two blocks that share no byte.
use Rattle.std.proofs.Common.{◌≡◌, ℕ, ◌+◌, ◌-◌, ◌≤◌, ◌<◌, Bool, if◌then◌else◌, eq-zero-or-pos, le-leb, List, length, take, drop, inl, inr, arith, rules, ap, ◌∙◌, refl}
use Rattle.std.proofs.lemmas.Bool.{lt-leb}
use Rattle.std.proofs.lemmas.List.{same_lists, places}
use Rattle.std.proofs.lemmas.Bool.Decides.{nat_tests}
use Rattle.h5_bytes.specs.Bytes.{part}
use Rattle.h5_bytes.specs.Blocks.{holds}
use Rattle.h5_space.specs.Lending.{StandApart, gap}
use Rattle.h5_bytes.proofs.BlockLaws.{holds_none, holds-le, apart_of}

pub front_of : (at n g k : ℕ) (bytes : List ℕ) → at + (n + (g + k)) ≤ length bytes → take n (part at (n + g + k) bytes) ≡ part at n bytes
unfolding part
front_of at n g k bytes h = same_lists _ _ (search (rules, places)) (λ j d l. grind (arith, places))

pub gap_of : (at n g k : ℕ) (bytes : List ℕ) → at + (n + (g + k)) ≤ length bytes → take g (drop n (part at (n + g + k) bytes)) ≡ part (at + n) g bytes
unfolding part
gap_of at n g k bytes h = same_lists _ _ (search (rules, places)) (λ j d l. grind (arith, places))

pub back_of : (at n g k : ℕ) (bytes : List ℕ) → at + (n + (g + k)) ≤ length bytes → drop g (drop n (part at (n + g + k) bytes)) ≡ part (at + n + g) k bytes
unfolding part
back_of at n g k bytes h = same_lists _ _ (search (rules, places)) (λ j d l. grind (arith, places))

-- two blocks share no byte where one is empty, or one ends before the other
pub apart_first : (at other size : ℕ) → (p : ℕ) → holds p at 0 + holds p other size ≤ 1
apart_first at other size p = omega (arith, holds_none p at, holds-le p other size)

pub apart_second : (at len other : ℕ) → (p : ℕ) → holds p at len + holds p other 0 ≤ 1
apart_second at len other p = omega (arith, holds_none p other, holds-le p at len)

pub apart_before : (at len other size : ℕ) → at + len ≤ other → (p : ℕ) → holds p at len + holds p other size ≤ 1
unfolding holds
apart_before at len other size low p = grind (arith, nat_tests)

-- where neither is empty, the lower one ends before the other
pub apart_low : (at len other size : ℕ) → ((p : ℕ) → holds p at len + holds p other size ≤ 1) → 0 < len → 0 < size → at ≤ other → at + len ≤ other
apart_low at len other size none some more low = elim (apart_of at len other size none some more) [ inl before ↦ before | inr after ↦ absurd (omega arith) ]

-- the second block ends inside, behind the first and what stands between them
ends_low : (at len other size end : ℕ) → StandApart at len other size end → at ≤ other → at + (len + ((other - (at + len)) + size)) ≤ end
ends_low at len other size end apart low = elim (eq-zero-or-pos size) [
  | inl none ↦ omega (arith, apart.0, apart.1)
  | inr some ↦
      elim (eq-zero-or-pos len) [
        | inl empty ↦ omega (arith, apart.0, apart.1)
        | inr more ↦
            elim (apart_of at len other size apart.2 more some) [ inl before ↦ omega (arith, apart.0, apart.1) | inr after ↦ omega (arith, apart.0, apart.1) ]
      ]
]

pub gap_low : (at len other size end : ℕ) → StandApart at len other size end → at ≤ other → at + (len + (gap at len other size + size)) ≤ end
gap_low at len other size end apart low =
    let is : gap at len other size ≡ other - (at + len) = ap (λ (t : Bool). if t then (other - (at + len)) else (at - (other + size))) (le-leb at other low) in
    let ends = ends_low at len other size end apart low in omega (arith, is, ends)

pub gap_high : (at len other size end : ℕ) → StandApart at len other size end → other < at → other + (size + (gap at len other size + len)) ≤ end
gap_high at len other size end apart high =
    let is : gap at len other size ≡ at - (other + size) = ap (λ (t : Bool). if t then (other - (at + len)) else (at - (other + size))) (lt-leb at other high) in
    let ends = ends_low other size at len end (apart.1, apart.0, λ p. omega (arith, apart.2 p)) (omega arith) in omega (arith, is, ends)

-- where the second block stands, counted from the end of the first
place_low : (at len other size end : ℕ) (bytes : List ℕ) → StandApart at len other size end → at ≤ other → part (at + len + (other - (at + len))) size bytes ≡ part other size bytes
unfolding part
place_low at len other size end bytes apart low = elim (eq-zero-or-pos size) [
  | inl none ↦ rw none refl
  | inr some ↦
      let before : at + len ≤ other = elim (eq-zero-or-pos len) [ inl empty ↦ omega arith | inr more ↦ apart_low at len other size apart.2 more some low ] in
      ap (λ n. part n size bytes) (omega (arith, before))
]

pub part_low : (at len other size end : ℕ) (bytes : List ℕ) → StandApart at len other size end → at ≤ other → part (at + len + gap at len other size) size bytes ≡ part other size bytes
part_low at len other size end bytes apart low =
    let is : gap at len other size ≡ other - (at + len) = ap (λ (t : Bool). if t then (other - (at + len)) else (at - (other + size))) (le-leb at other low) in
    ap (λ n. part (at + len + n) size bytes) is ∙ place_low at len other size end bytes apart low

pub part_high : (at len other size end : ℕ) (bytes : List ℕ) → StandApart at len other size end → other < at → part (other + size + gap at len other size) len bytes ≡ part at len bytes
part_high at len other size end bytes apart high =
    let is : gap at len other size ≡ at - (other + size) = ap (λ (t : Bool). if t then (other - (at + len)) else (at - (other + size))) (lt-leb at other high) in
    ap (λ n. part (other + size + n) len bytes) is ∙ place_low other size at len end bytes (apart.1, apart.0, λ p. omega (arith, apart.2 p)) (omega arith)
