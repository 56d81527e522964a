-- Messages that were written one after another: where they stand, and that they name no block.
use Rattle.std.proofs.Common.{◌≡◌, ℕ, ◌+◌, List, [], ◌∷◌, map, length, refl, sym, ◌∙◌, ap₂, arith}
use Rattle.std.specs.List.{AllByRecursion}
use Rattle.h5_bytes.specs.Bytes.{part}
use Rattle.h5_model.specs.Format.Messages.{Message, IsMessage}
pub use Rattle.h5_model.proofs.PlainMessages.{no_continuations as no_names, none_continued as no_continuation}
use Rattle.h5_header.specs.Listed.{messages_in, IsWithin}
use Rattle.h5_header.specs.declared.message.Message.{Message as Placed}
use Rattle.h5_header.proofs.StretchLaws.{IsHeaded, message_long}

-- where a message stands
abbrev pub placed : Message → Placed
placed y = record { kind = y.kind; at = y.at; size = length y.body }

-- at their places in the image stand these messages
pub placed_back : (image : List ℕ) (ms : List Message) → AllByRecursion (IsHeaded image) ms → messages_in image (map placed ms) ≡ ms
placed_back image [] all = refl
placed_back image (y ∷ ms) all =
    let at = (all.0).0 in
    let is : IsMessage 0 image at y = (all.0).1 in
    let place : at + 8 ≡ y.at = omega (arith, is.place) in
    let body : part y.at (length y.body) image ≡ y.body = ap₂ (λ p n. part p n image) (sym place) (message_long image at y is) ∙ sym is.body in
    ap₂ (λ (bs : List ℕ) (zs : List Message). record y { body = bs } ∷ zs) body (placed_back image ms all.1)

pub placed_within : (image : List ℕ) (ms : List Message) → AllByRecursion (IsHeaded image) ms → IsWithin (length image) (map placed ms)
placed_within image [] all = tt
placed_within image (y ∷ ms) all =
    let is = (all.0).1 in
    (omega (arith, is.whole, is.place, message_long image (all.0).0 y is), placed_within image ms all.1)
