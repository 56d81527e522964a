-- A message that was read from its place in the image is the one that the definition gives.
use Rattle.std.proofs.Common.{◌≡◌, ℕ, ◌+◌, ◌<◌, ◌≤◌, List, [], ◌∷◌, length, Some, refl, sym, ◌∙◌, ap, arith, get_or}
use Rattle.std.specs.Prelude.{true, nat_le, option_map, slice_get}
use Rattle.std.proofs.lemmas.Option.{slice_get-map, slice_get_read}
use Rattle.std.proofs.lemmas.Bool.Decides.{nat_tests}
use Rattle.h5_bytes.specs.Bytes.{number_at, byte_at, part}
use Rattle.h5_bytes.specs.Blocks.{block}
use Rattle.h5_bytes.specs.declared.Block.{Block}
use Rattle.h5_bytes.proofs.PartLaws.{length-part, part-part}
use Rattle.h5_bytes.proofs.FieldLaws.{number_at-part}
use Rattle.h5_model.specs.Format.Addresses.{continuation_of}
use Rattle.h5_model.specs.Format.MessageTypes.{continuation_kind}
use Rattle.h5_model.specs.Format.Messages.{Message, IsMessage, continuation}
use Rattle.h5_model.proofs.BodyLaws.{byte_at-part}
use Rattle.h5_header.specs.Heads.{IsHead}
use Rattle.h5_header.specs.Listed.{message_in, messages_in}
use Rattle.h5_header.specs.Progress.{IsTaken}
use Rattle.h5_header.specs.declared.message.Message.{Message as Placed}

continuation_of-long : (body : List ℕ) → 16 ≤ length body → continuation_of body ≡ Some (block (number_at body 0 8) (number_at body 8 8))
unfolding continuation_of
continuation_of-long body long = let holds : nat_le 16 (length body) ≡ true = grind (arith, nat_tests) in rw holds refl

pub continuation_of-part : (image : List ℕ) (at size : ℕ) → 16 ≤ size → at + size ≤ length image
    → continuation_of (part at size image) ≡ Some (block (number_at image at 8) (number_at image (at + 8) 8))
continuation_of-part image at size long inside =
    let len : length (part at size image) ≡ size = length-part at size image inside in
    let none : at + 0 ≡ at = omega arith in
    let first : number_at (part at size image) 0 8 ≡ number_at image at 8 = rw none at (number_at-part 0 8 at size image (omega arith)) in
    let second : number_at (part at size image) 8 8 ≡ number_at image (at + 8) 8 = number_at-part 8 8 at size image (omega arith) in
    rw (← first, ← second) (continuation_of-long (part at size image) (omega arith))

pub continuation-is : (image : List ℕ) (m : Placed) → m.kind ≡ continuation_kind → 16 ≤ m.size → m.at + m.size ≤ length image
    → continuation (message_in image m) ≡ block (number_at image m.at 8) (number_at image (m.at + 8) 8) ∷ []
continuation-is image m kind long inside = rw (kind, continuation_of-part image m.at m.size long inside) refl

-- the message in the definition's form, in the bytes of its block
pub message-is : (image : List ℕ) (b : Block) (to : ℕ) (m : Placed) → b.at + b.len ≤ length image → IsHead image (b.at + to) (b.at + b.len) m
    → IsMessage b.at (part b.at b.len image) to (message_in image m)
message-is image b to m inside head =
    let len : length (part b.at b.len image) ≡ b.len = length-part b.at b.len image inside in
    let whole : b.at + to + 8 + m.size ≤ b.at + b.len = head.whole in
    let kind : number_at (part b.at b.len image) to 2 ≡ number_at image (b.at + to) 2 = number_at-part to 2 b.at b.len image (omega arith) in
    let over : b.at + (to + 2) ≡ b.at + to + 2 = omega arith in
    let flags : b.at + (to + 4) ≡ b.at + to + 4 = omega arith in
    let body : b.at + (to + 8) ≡ b.at + to + 8 = omega arith in
    let size : number_at (part b.at b.len image) (to + 2) 2 ≡ m.size = number_at-part (to + 2) 2 b.at b.len image (omega arith) ∙ ap (λ (p : ℕ). number_at image p 2) over ∙ sym head.size in
    let byte : byte_at (part b.at b.len image) (to + 4) ≡ byte_at image (b.at + to + 4) = byte_at-part (to + 4) b.at b.len image (omega arith) ∙ ap (byte_at image) flags in
    record {
      kind = head.kind ∙ sym kind;
      place = head.place;
      body = rw (size, head.place, ← body) (sym (part-part (to + 8) m.size b.at b.len image (omega arith)));
      whole = rw (size, len) (omega arith);
      padded = rw size head.padded;
      own = rw byte head.own;
    }

pub size-is : (image : List ℕ) (b : Block) (to : ℕ) (m : Placed) → IsHead image (b.at + to) (b.at + b.len) m
    → number_at (part b.at b.len image) (to + 2) 2 ≡ m.size
size-is image b to m head =
    let whole : b.at + to + 8 + m.size ≤ b.at + b.len = head.whole in
    let over : b.at + (to + 2) ≡ b.at + to + 2 = omega arith in
    number_at-part (to + 2) 2 b.at b.len image (omega arith) ∙ ap (λ (p : ℕ). number_at image p 2) over ∙ sym head.size

pub taken-is : (image : List ℕ) (b : Block) (to : ℕ) (m : Placed) → b.at + b.len ≤ length image → IsHead image (b.at + to) (b.at + b.len) m
    → IsTaken (message_in image m)
taken-is image b to m inside head = record {
  continued = λ kind. rw (continuation_of-part image m.at m.size (head.continued kind) (omega (arith, head.place, head.whole))) refl;
  read = head.read;
}

-- the body of the message at a place of the list
pub body-of : (image : List ℕ) (list : List Placed) (k : ℕ) (m : Placed) → k < length list → m ≡ get_or list k m
    → option_map (λ (x : Message). x.body) (slice_get (messages_in image list) k) ≡ Some (part m.at m.size image)
body-of image list k m low is =
    let at : slice_get list k ≡ Some m = slice_get_read list (length list) k m refl low is in
    ap (option_map (λ (x : Message). x.body)) (slice_get-map (message_in image) list k ∙ ap (option_map (message_in image)) at)
