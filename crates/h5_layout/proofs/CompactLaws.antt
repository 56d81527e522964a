-- Cells of a compact array, which stand in its Data Layout message: where they do, and the array after some of them were written.
use Rattle.std.proofs.Common.{◌≡◌, ℕ, ◌+◌, ◌≤◌, ◌==◌, List, length, refl, sym, ap, ◌∙◌, arith, Option, Some, None}
use Rattle.std.specs.Prelude.{option_map}
use Rattle.std.specs.Borrow.{Bor}
use Rattle.std.specs.Option.{option_copied, IsSome}
use Rattle.std.specs.List.{find}
use Rattle.std.proofs.lemmas.Option.{same_Some}
use Rattle.h5_model.specs.Format.MessageTypes.{data_layout_kind}
use Rattle.h5_model.specs.Format.Messages.{count_of, first_body}
use Rattle.h5_header.specs.Listed.{messages_in, IsWithin}
use Rattle.h5_header.specs.declared.message.Message.{Message as Placed}
use Rattle.h5_layout.specs.Compact.{compact_at}
use Rattle.h5_layout.specs.LayoutEdits.{HasLayoutRoom}
use Rattle.h5_header.proofs.FoundLaws.{first_body-in, none_stands, within_at}

-- where there is one message, it is found
pub message_found : (image : List ℕ) (list : List Placed) (r : Option (Bor Placed)) → option_copied r ≡ find (λ (m : Placed). m.kind == data_layout_kind) list
    → count_of data_layout_kind (messages_in image list) ≡ 1 → IsSome r
message_found image list None is once =
    let none : first_body data_layout_kind (messages_in image list) ≡ None = first_body-in image 8 list ∙ ap (option_map (λ (m : Placed). _)) (sym is) in
    absurd (omega (arith, none_stands data_layout_kind (messages_in image list) none, once))
message_found image list (Some b) is once = refl

pub found_is : (list : List Placed) (r : Option (Bor Placed)) (b : Bor Placed) → option_copied r ≡ find (λ (m : Placed). m.kind == data_layout_kind) list → r ≡ Some b
    → find (λ (m : Placed). m.kind == data_layout_kind) list ≡ Some b.now
found_is list r b is here = sym is ∙ ap option_copied here

-- it lies in the image
pub message_within : (image : List ℕ) (list : List Placed) (r : Option (Bor Placed)) (b : Bor Placed) → IsWithin (length image) list
    → option_copied r ≡ find (λ (m : Placed). m.kind == data_layout_kind) list → r ≡ Some b → b.now.at + b.now.size ≤ length image
message_within image list r b within is here = within_at (length image) 8 list b.now within (found_is list r b is here)

-- the place behind its front
pub place_told : (list : List Placed) (r : Option (Bor Placed)) (b : Bor Placed) → option_copied r ≡ find (λ (m : Placed). m.kind == data_layout_kind) list → r ≡ Some b
    → compact_at list ≡ Some (b.now.at + 4)
place_told list r b is here = ap (option_map (λ (m : Placed). m.at + 4)) (found_is list r b is here)

-- it is the one that is known to be there
pub message_met : (list : List Placed) (r : Option (Bor Placed)) (b : Bor Placed) (x : Placed) → option_copied r ≡ find (λ (m : Placed). m.kind == data_layout_kind) list → r ≡ Some b
    → find (λ (m : Placed). m.kind == data_layout_kind) list ≡ Some x → b.now ≡ x
message_met list r b x is here known = same_Some b.now x (sym (found_is list r b is here) ∙ known)

-- it lies in the image, with the room that it is known to have
pub message_lent : (image : List ℕ) (list : List Placed) (r : Option (Bor Placed)) (b : Bor Placed) (n : ℕ) → IsWithin (length image) list → HasLayoutRoom list n
    → option_copied r ≡ find (λ (m : Placed). m.kind == data_layout_kind) list → r ≡ Some b → (b.now.at + b.now.size ≤ length image) × (n ≤ b.now.size)
message_lent image list r b n within room is here =
    let size = ap (λ (m : Placed). m.size) (message_met list r b room.place is here room.found) in
    (message_within image list r b within is here, omega (arith, size, room.long))
