-- A message whose body is written into its room, at the end of what is appended.
use Rattle.std.proofs.Common.{◌≡◌, ℕ, ◌+◌, ◌-◌, List, ◌++◌, length, take, drop, ap, ◌∙◌, sym, arith, append_assoc, length-append}
use Rattle.std.proofs.lemmas.List.{length-replicate, length-take, length-drop}
use borrow.Rule.Slice.PartMut.{put_mid}
use Rattle.h5_bytes.specs.Numbers.{short, zeros}
use Rattle.h5_bytes.specs.Texts.{pad8}
use Rattle.h5_model.specs.Format.Bodies.{padded_body}
use Rattle.h5_model.specs.Format.Plain.{with_zeros, message_bytes}
use Rattle.h5_bytes.proofs.TailLaws.{tail_written}
use Rattle.h5_model.proofs.PaddedLaws.{length-raised}
use Rattle.h5_repack.specs.Blocks.Parts.{message_head, message_room}

module _ (kind size len at : ℕ) (out room whole : List ℕ) (made : room ≡ out ++ message_room kind size) (place : at ≡ length out + 8)
    (lent : whole ≡ room) (counted : length whole ≡ len) where
  long : length whole ≡ at + pad8 size
  long = ap length (lent ∙ made) ∙ length-append out (message_room kind size) ∙ omega (arith, place, length-replicate {A = ℕ} (pad8 size) 0)

  -- the room of the body, which is lent
  abbrev lent_part : List ℕ
  lent_part = take (length whole - at) (drop at whole)

  pub length-lent : length lent_part ≡ pad8 size
  length-lent = length-take (length whole - at) (drop at whole) ∙ omega (arith, long, length-drop at whole)

  -- the bytes when it is given back
  abbrev put : List ℕ → List ℕ
  put part = put_mid at (length whole - at) whole part

  abbrev after : List ℕ → List ℕ
  after part = take len (put part ++ drop (length (put part)) room)

  abbrev head : List ℕ
  head = message_head kind (pad8 size)

  -- a body that fills its room
  pub part_written : (part : List ℕ) → length part ≡ pad8 size → after part ≡ out ++ message_bytes (kind, part)
  part_written part fills =
      let split : room ≡ (out ++ head) ++ zeros (pad8 size) = made ∙ sym (append_assoc out head (zeros (pad8 size))) in
      let front : at ≡ length (out ++ head) = omega (arith, place, length-append out head) in
      tail_written len at (out ++ head) (zeros (pad8 size)) room whole part split front lent counted (omega (arith, fills, length-replicate {A = ℕ} (pad8 size) 0))
      ∙ append_assoc out head part ∙ ap (λ n. out ++ (short kind ++ (short n ++ (zeros 4 ++ part)))) (sym fills)

  -- a body with zeros behind it
  pub body_written : (part body : List ℕ) → length body ≡ size → part ≡ with_zeros body (length lent_part) → after part ≡ out ++ message_bytes (kind, padded_body body)
  body_written part body full is =
      let same : part ≡ padded_body body = is ∙ ap (with_zeros body) (length-lent ∙ ap pad8 (sym full)) in
      part_written part (ap length same ∙ length-raised body ∙ ap pad8 full) ∙ ap (λ xs. out ++ message_bytes (kind, xs)) same
