-- The heads in the bytes of a header that is to be made give its messages.
use Rattle.std.proofs.Common.{◌≡◌, ℕ, ◌+◌, ◌<◌, ◌≤◌, List, [], ◌∷◌, ◌++◌, length, refl, sym, ◌∙◌, ap, subst, arith, append_assoc, append-nil}
use Rattle.std.proofs.lemmas.List.{length-replicate, map-append}
use Rattle.std.proofs.lemmas.List.Concat.{flat_map-append}
use Rattle.std.specs.List.{flat_map}
use Rattle.h5_bytes.specs.Bytes.{number_at, part}
use Rattle.h5_bytes.specs.Blocks.{block}
use Rattle.h5_bytes.specs.Numbers.{zeros}
use Rattle.h5_bytes.specs.declared.Block.{Block}
use Rattle.h5_bytes.proofs.BlockLaws.{all_append}
use Rattle.h5_bytes.proofs.FieldLaws.{number_at-part}
use Rattle.h5_bytes.proofs.PartLaws.{length-part, part-part, part-appended}
use Rattle.h5_model.specs.Format.Messages.{Message, IsMessage, Fills, FillBlocks, HasMessages, continuation, continuations, prefix_at, first_size, first_block}
use Rattle.h5_model.proofs.OneReading.{one_messages}
use Rattle.h5_header.specs.Laid.{IsHeaderBytes}
use Rattle.h5_header.specs.Listed.{message_in, messages_in, IsWithin}
use Rattle.h5_header.specs.declared.message.Message.{Message as Placed}

-- ---- the messages fill the bytes behind the prefix

no_front : (xs ys : List Block) → xs ++ ys ≡ [] → xs ≡ []
no_front [] ys none = refl
no_front (x ∷ xs) ys none = cc

-- parts whose messages name no block are one part
one_part : (image : List ℕ) (b : Block) (parts : List (List Message)) → FillBlocks image (b ∷ []) parts
    → continuations (flat_map (λ (ms : List Message). ms) parts) ≡ []
    → Fills b.at (part b.at b.len image) 0 (flat_map (λ (ms : List Message). ms) parts)
one_part image b [] fills none = absurd fills
one_part image b (p ∷ []) fills none = subst (Fills b.at (part b.at b.len image) 0) (sym (append-nil p)) fills.0
one_part image b (p ∷ (q ∷ parts)) fills none =
    let all : continuations p ++ continuations (flat_map (λ (ms : List Message). ms) (q ∷ parts)) ≡ []
    = sym (flat_map-append continuation p (flat_map (λ (ms : List Message). ms) (q ∷ parts))) ∙ none in
    let first : continuations p ≡ [] = no_front (continuations p) (continuations (flat_map (λ (ms : List Message). ms) (q ∷ parts))) all in
    absurd (subst (λ bs. FillBlocks image bs (q ∷ parts)) first fills.1)

-- the bytes behind the prefix, and that the messages fill them
record IsFilled (bytes : List ℕ) (header : ℕ) (ms : List Message) : Type 0 where
  size : ℕ
  long : 16 + size ≡ length bytes
  fills : Fills (header + 16) (part 16 size bytes) 0 ms

module _ (bytes : List ℕ) (header : ℕ) (ms : List Message) (made : IsHeaderBytes bytes header ms) where
  -- an image that has the bytes there
  image : List ℕ
  image = zeros header ++ bytes

  there : part header (length bytes) image ≡ bytes
  unfolding image
  there =
      let long : length (zeros header) ≡ header = length-replicate header 0 in
      ap (λ n. part n (length bytes) (zeros header ++ bytes)) (sym long) ∙ part-appended (zeros header) bytes

  has : HasMessages image header ms (block header (length bytes) ∷ [])
  has = made image there

  size : ℕ
  size = first_size (prefix_at image header)

  long : 16 + size ≡ length bytes
  unfolding size
  long = let e : block header (length bytes) ≡ block header (16 + first_size (prefix_at image header)) = cc (has.laid) in sym (ap (λ (b : Block). b.len) e)

  filled : Fills (header + 16) (part 16 size bytes) 0 ms
  unfolding size
  filled =
      let none : continuations ms ≡ [] = cc (has.laid) in
      let fills : Fills (header + 16) (part (header + 16) size image) 0 ms
      = subst (Fills (header + 16) (part (header + 16) size image) 0) (sym has.all) (one_part image (first_block image header) has.parts has.filled (ap continuations (sym has.all) ∙ none)) in
      let body : part 16 size bytes ≡ part (header + 16) size image = ap (part 16 size) (sym there) ∙ part-part 16 size header (length bytes) image (omega (arith, long)) in
      subst (λ bs. Fills (header + 16) bs 0 ms) (sym body) fills

  is_filled : IsFilled bytes header ms
  is_filled = record { size = size; long = long; fills = filled }

-- ---- the loop over the heads

-- These messages were met in the bytes of a header up to a place; they are the first of its messages.
pub record LaidTo (bytes : List ℕ) (header : ℕ) (ms : List Message) (list : List Placed) (at : ℕ) : Type 0 where
  pub size : ℕ
  pub long : 16 + size ≡ length bytes
  pub to : ℕ
  pub place : at ≡ 16 + to
  pub rest : List Message
  pub fills : Fills (header + 16) (part 16 size bytes) to rest
  pub within : IsWithin (header + length bytes) list
  pub met : (image : List ℕ) → part header (length bytes) image ≡ bytes → messages_in image list ++ rest ≡ ms

pub laid_first : (bytes : List ℕ) (header : ℕ) (ms : List Message) → IsHeaderBytes bytes header ms → LaidTo bytes header ms [] 16
laid_first bytes header ms made =
    let whole = is_filled bytes header ms made in
    record { size = whole.size; long = whole.long; to = 0; place = refl; rest = ms; fills = whole.fills; within = tt; met = λ image there. refl }

-- the message whose head stands at a place of the bytes
abbrev pub placed_at : List ℕ → ℕ → ℕ → Placed
placed_at bytes header at = record { kind = number_at bytes at 2; at = header + at + 8; size = number_at bytes (at + 2) 2 }

-- there is a message where the bytes go on
record Next (bytes : List ℕ) (header size to : ℕ) (rest : List Message) : Type 0 where
  m : Message
  more : List Message
  are : rest ≡ m ∷ more
  is : IsMessage (header + 16) (part 16 size bytes) to m
  fills : Fills (header + 16) (part 16 size bytes) (to + 8 + number_at (part 16 size bytes) (to + 2) 2) more

next : (bytes : List ℕ) (header size to : ℕ) (rest : List Message) → 16 + size ≡ length bytes → to < size
    → Fills (header + 16) (part 16 size bytes) to rest → Next bytes header size to rest
next bytes header size to [] long low fills = absurd (omega (arith, fills, length-part 16 size bytes (omega arith)))
next bytes header size to (m ∷ more) long low fills = record { m = m; more = more; are = refl; is = fills.0; fills = fills.1 }

-- there is none where they end
last : (bytes : List ℕ) (header size to : ℕ) (rest : List Message) → 16 + size ≡ length bytes → size ≤ to
    → Fills (header + 16) (part 16 size bytes) to rest → rest ≡ []
last bytes header size to [] long high fills = refl
last bytes header size to (m ∷ more) long high fills = absurd (omega (arith, fills.0.whole, length-part 16 size bytes (omega arith)))

module _ (bytes : List ℕ) (header : ℕ) (ms : List Message) (list : List Placed) (at : ℕ) (laid : LaidTo bytes header ms list at) (low : at < length bytes) where
  n : Next bytes header laid.size laid.to laid.rest
  n = next bytes header laid.size laid.to laid.rest laid.long (omega (arith, laid.long, laid.place)) laid.fills

  body : length (part 16 laid.size bytes) ≡ laid.size
  body = length-part 16 laid.size bytes (omega (arith, laid.long))

  size-read : number_at (part 16 laid.size bytes) (laid.to + 2) 2 ≡ number_at bytes (at + 2) 2
  size-read =
      let e : 16 + (laid.to + 2) ≡ at + 2 = omega (arith, laid.place) in
      number_at-part (laid.to + 2) 2 16 laid.size bytes (omega (arith, n.is.whole, body)) ∙ ap (λ p. number_at bytes p 2) e

  kind-read : number_at (part 16 laid.size bytes) laid.to 2 ≡ number_at bytes at 2
  kind-read = number_at-part laid.to 2 16 laid.size bytes (omega (arith, n.is.whole, body)) ∙ ap (λ p. number_at bytes p 2) (sym laid.place)

  -- its body ends in the bytes
  pub next_fits : at + 8 + number_at bytes (at + 2) 2 ≤ length bytes
  next_fits = omega (arith, n.is.whole, body, size-read, laid.long, laid.place)

  message-is : (image : List ℕ) → part header (length bytes) image ≡ bytes → message_in image (placed_at bytes header at) ≡ n.m
  message-is image there =
      let kind : number_at bytes at 2 ≡ n.m.kind = sym (n.is.kind ∙ kind-read) in
      let over : header + at + 8 ≡ header + 16 + laid.to + 8 = omega (arith, laid.place) in
      let place : header + at + 8 ≡ n.m.at = over ∙ sym n.is.place in
      let size = number_at bytes (at + 2) 2 in
      let here : header + (at + 8) ≡ header + at + 8 = omega arith in
      let beside : 16 + (laid.to + 8) ≡ at + 8 = omega (arith, laid.place) in
      let read : n.m.body ≡ part (at + 8) size bytes
      = n.is.body ∙ ap (λ s. part (laid.to + 8) s (part 16 laid.size bytes)) size-read
      ∙ part-part (laid.to + 8) size 16 laid.size bytes (omega (arith, n.is.whole, body, size-read)) ∙ ap (λ p. part p size bytes) beside in
      let same : part (header + at + 8) size image ≡ part (at + 8) size bytes
      = ap (λ p. part p size image) (sym here) ∙ sym (part-part (at + 8) size header (length bytes) image (omega (arith, next_fits))) ∙ ap (part (at + 8) size) there in
      let text : part (header + at + 8) size image ≡ n.m.body = same ∙ sym read in
      λ i. record { kind = kind i; at = place i; body = text i }

  -- with it, one message more was met
  pub laid_more : LaidTo bytes header ms (list ++ placed_at bytes header at ∷ []) (at + 8 + number_at bytes (at + 2) 2)
  laid_more = record {
    size = laid.size;
    long = laid.long;
    to = laid.to + 8 + number_at bytes (at + 2) 2;
    place = omega (arith, laid.place);
    rest = n.more;
    fills = subst (λ s. Fills (header + 16) (part 16 laid.size bytes) (laid.to + 8 + s) n.more) size-read n.fills;
    within = all_append (λ (m : Placed). m.at + m.size ≤ header + length bytes) list (placed_at bytes header at ∷ []) laid.within (omega (arith, next_fits), tt);
    met = λ image there.
        let grown : messages_in image (list ++ placed_at bytes header at ∷ []) ≡ messages_in image list ++ n.m ∷ []
        = map-append (message_in image) list (placed_at bytes header at ∷ []) ∙ ap (λ m. messages_in image list ++ m ∷ []) (message-is image there) in
        ap (λ x. x ++ n.more) grown ∙ append_assoc (messages_in image list) (n.m ∷ []) n.more ∙ ap (λ x. messages_in image list ++ x) (sym n.are) ∙ laid.met image there;
  }

-- where the bytes end, all messages of the header were met
pub laid_whole : (bytes : List ℕ) (header : ℕ) (ms : List Message) (list : List Placed) (at : ℕ) → LaidTo bytes header ms list at → length bytes ≤ at
    → IsHeaderBytes bytes header ms → (ns : List Message) → IsHeaderBytes bytes header ns
    → (image : List ℕ) → part header (length bytes) image ≡ bytes → messages_in image list ≡ ns
laid_whole bytes header ms list at laid high made ns made' image there =
    let none : laid.rest ≡ [] = last bytes header laid.size laid.to laid.rest laid.long (omega (arith, laid.long, laid.place)) laid.fills in
    sym (append-nil (messages_in image list)) ∙ ap (λ x. messages_in image list ++ x) (sym none) ∙ laid.met image there
    ∙ one_messages image header ms ns (block header (length bytes) ∷ []) (block header (length bytes) ∷ []) (made image there) (made' image there)
