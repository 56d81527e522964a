-- What is written over the last of the bytes that were appended.
use Rattle.std.proofs.Common.{◌≡◌, ℕ, ◌+◌, ◌-◌, List, ◌++◌, length, take, drop, ap, ◌∙◌, arith, append-nil, length-append}
use Rattle.std.proofs.lemmas.List.{take_all, drop_all}
use Rattle.std.proofs.Math.Seq.{take-append_seam}
use borrow.Rule.Slice.PartMut.{put_mid}
use Rattle.h5_bytes.proofs.PartLaws.{put_mid_is, with_part_is}

module _ (len at : ℕ) (out rest room whole part : List ℕ) (made : room ≡ out ++ rest) (place : at ≡ length out)
    (lent : whole ≡ room) (counted : length whole ≡ len) (fills : length part ≡ length rest) where
  long : length whole ≡ at + length rest
  long = ap length (lent ∙ made) ∙ length-append out rest ∙ omega (arith, place)

  -- the bytes when the part is given back
  abbrev put : List ℕ
  put = put_mid at (length whole - at) whole part

  pub tail_written : take len (put ++ drop (length put) room) ≡ out ++ part
  tail_written =
      let mid : put ≡ out ++ part
      = put_mid_is at (length whole - at) whole part (omega (arith, long, fills)) (omega (arith, long))
      ∙ with_part_is at part whole (omega (arith, long, fills))
      ∙ ap (λ xs. take at whole ++ (part ++ xs)) (drop_all (at + length part) whole (omega (arith, long, fills)))
      ∙ ap (λ xs. take at whole ++ xs) (append-nil part)
      ∙ ap (λ xs. xs ++ part) ((λ i. take (place i) ((lent ∙ made) i)) ∙ take-append_seam out rest) in
      let all : length (out ++ part) ≡ len = length-append out part ∙ omega (arith, place, long, counted, fills) in
      (λ i. take len (mid i ++ drop (length (mid i)) room))
      ∙ ap (λ xs. take len ((out ++ part) ++ xs)) (drop_all (length (out ++ part)) room (omega (arith, all, counted, ap length lent)))
      ∙ ap (take len) (append-nil (out ++ part)) ∙ take_all len (out ++ part) (omega (arith, all))
