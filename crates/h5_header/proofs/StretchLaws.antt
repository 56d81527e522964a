-- Messages by their own bytes of an image, a head of 8 bytes and a body, whatever block they stand in.
use Rattle.std.proofs.Common.{◌≡◌, ℕ, ◌+◌, ◌-◌, ◌≤◌, List, [], ◌∷◌, ◌++◌, map, length, refl, sym, ◌∙◌, ap, ap₂, subst, arith}
use Rattle.std.specs.List.{AllByRecursion, flat_map}
use Rattle.std.proofs.lemmas.List.{map-append}
use Rattle.std.proofs.lemmas.List.Concat.{flat_map-append}
use Rattle.h5_bytes.specs.Bytes.{number_at, byte_at, part}
use Rattle.h5_bytes.specs.Blocks.{block, holds, cover, Inside, IsKept, Keeps}
use Rattle.h5_bytes.specs.declared.Block.{Block}
use Rattle.h5_bytes.proofs.BlockLaws.{holds_join, holds_none, cover-append, all_append, all_left, all_right}
use Rattle.h5_bytes.proofs.FieldLaws.{number_at-part}
use Rattle.h5_bytes.proofs.PartLaws.{part-part, length-part}
use Rattle.h5_model.specs.Format.Messages.{Message, IsMessage, Fills, FillBlocks, continuations}
use Rattle.h5_model.proofs.BodyLaws.{byte_at-part}

-- the bytes of a message with its head
abbrev pub stretch : Message → Block
stretch m = block (m.at - 8) (8 + length m.body)

-- these messages follow each other in the image, from a place to another
abbrev pub Follow : List ℕ → ℕ → List Message → ℕ → Type 0
Follow image at [] end = at ≡ end
Follow image at (m ∷ ms) end = IsMessage 0 image at m × Follow image (at + 8 + number_at image (at + 2) 2) ms end

-- a message's size, by its head
pub message_long : (image : List ℕ) (at : ℕ) (m : Message) → IsMessage 0 image at m → length m.body ≡ number_at image (at + 2) 2
message_long image at m is = ap length is.body ∙ length-part (at + 8) (number_at image (at + 2) 2) image is.whole

-- ---- messages of a block

module _ (image : List ℕ) (b : Block) (inside : b.at + b.len ≤ length image) where
  long : length (part b.at b.len image) ≡ b.len
  long = length-part b.at b.len image inside

  size_out : (to : ℕ) → to + 4 ≤ b.len → number_at (part b.at b.len image) (to + 2) 2 ≡ number_at image (b.at + to + 2) 2
  size_out to low =
      let over : b.at + (to + 2) ≡ b.at + to + 2 = omega arith in
      number_at-part (to + 2) 2 b.at b.len image (omega (arith, low)) ∙ ap (λ (p : ℕ). number_at image p 2) over

  message_out : (to : ℕ) (m : Message) → IsMessage b.at (part b.at b.len image) to m → IsMessage 0 image (b.at + to) m
  message_out to m is =
      let low : to + 8 + number_at (part b.at b.len image) (to + 2) 2 ≤ b.len = omega (arith, is.whole, long) in
      let size = size_out to (omega (arith, low)) in
      let over : b.at + (to + 8) ≡ b.at + to + 8 = omega arith in
      let flag : b.at + (to + 4) ≡ b.at + to + 4 = omega arith in
      record {
        kind = is.kind ∙ number_at-part to 2 b.at b.len image (omega (arith, low));
        place = omega (arith, is.place);
        body = is.body ∙ part-part (to + 8) (number_at (part b.at b.len image) (to + 2) 2) b.at b.len image low ∙ ap₂ (λ p n. part p n image) over size;
        whole = omega (arith, low, size, inside);
        padded = rw (← size) is.padded;
        own = rw (← (byte_at-part (to + 4) b.at b.len image (omega (arith, low)) ∙ ap (byte_at image) flag)) is.own;
      }

  message_back : (to : ℕ) (m : Message) → b.at + to + 8 + number_at image (b.at + to + 2) 2 ≤ b.at + b.len → IsMessage 0 image (b.at + to) m
      → IsMessage b.at (part b.at b.len image) to m
  message_back to m low is =
      let size = size_out to (omega (arith, low)) in
      let over : b.at + (to + 8) ≡ b.at + to + 8 = omega arith in
      let flag : b.at + (to + 4) ≡ b.at + to + 4 = omega arith in
      record {
        kind = is.kind ∙ sym (number_at-part to 2 b.at b.len image (omega (arith, low)));
        place = omega (arith, is.place);
        body = is.body ∙ sym (part-part (to + 8) (number_at (part b.at b.len image) (to + 2) 2) b.at b.len image (omega (arith, low, size)) ∙ ap₂ (λ p n. part p n image) over size);
        whole = omega (arith, low, size, long);
        padded = rw size is.padded;
        own = rw (byte_at-part (to + 4) b.at b.len image (omega (arith, low)) ∙ ap (byte_at image) flag) is.own;
      }

  pub follow_of : (to : ℕ) (ms : List Message) → Fills b.at (part b.at b.len image) to ms → Follow image (b.at + to) ms (b.at + b.len)
  follow_of to [] fills = omega (arith, fills, long)
  follow_of to (m ∷ ms) fills =
      let is = message_out to m fills.0 in
      let low : to + 8 + number_at (part b.at b.len image) (to + 2) 2 ≤ b.len = omega (arith, (fills.0).whole, long) in
      let size = size_out to (omega (arith, low)) in
      let next : b.at + (to + 8 + number_at (part b.at b.len image) (to + 2) 2) ≡ b.at + to + 8 + number_at image (b.at + to + 2) 2 = omega (arith, size) in
      (is, subst (λ (p : ℕ). Follow image p ms (b.at + b.len)) next (follow_of (to + 8 + number_at (part b.at b.len image) (to + 2) 2) ms fills.1))

follow_low : (image : List ℕ) (at : ℕ) (ms : List Message) (end : ℕ) → Follow image at ms end → at ≤ end
follow_low image at [] end follow = omega (arith, follow)
follow_low image at (m ∷ ms) end follow = omega (arith, follow_low image (at + 8 + number_at image (at + 2) 2) ms end follow.1)

pub fills_of : (image : List ℕ) (b : Block) (inside : b.at + b.len ≤ length image) (to : ℕ) (ms : List Message) → Follow image (b.at + to) ms (b.at + b.len)
    → Fills b.at (part b.at b.len image) to ms
fills_of image b inside to [] follow = omega (arith, follow, long image b inside)
fills_of image b inside to (m ∷ ms) follow =
    let low = follow_low image (b.at + to + 8 + number_at image (b.at + to + 2) 2) ms (b.at + b.len) follow.1 in
    let size = size_out image b inside to (omega (arith, low)) in
    let next : b.at + to + 8 + number_at image (b.at + to + 2) 2 ≡ b.at + (to + 8 + number_at (part b.at b.len image) (to + 2) 2) = omega (arith, size) in (
      message_back image b inside to m low follow.0,
      fills_of image b inside (to + 8 + number_at (part b.at b.len image) (to + 2) 2) ms (subst (λ (p : ℕ). Follow image p ms (b.at + b.len)) next follow.1),
    )

-- ---- one after another

pub follow_join : (image : List ℕ) (at : ℕ) (xs : List Message) (mid : ℕ) (ys : List Message) (end : ℕ) → Follow image at xs mid → Follow image mid ys end
    → Follow image at (xs ++ ys) end
follow_join image at [] mid ys end left right = subst (λ (p : ℕ). Follow image p ys end) (sym left) right
follow_join image at (x ∷ xs) mid ys end left right = (left.0, follow_join image (at + 8 + number_at image (at + 2) 2) xs mid ys end left.1 right)

pub follow_split : (image : List ℕ) (at : ℕ) (xs ys : List Message) (end : ℕ) → Follow image at (xs ++ ys) end
    → (mid : ℕ) × Follow image at xs mid × Follow image mid ys end
follow_split image at [] ys end follow = (at, refl, follow)
follow_split image at (x ∷ xs) ys end follow =
    let rest = follow_split image (at + 8 + number_at image (at + 2) 2) xs ys end follow.1 in
    (rest.0, (follow.0, rest.1), rest.2)

-- ---- whose bytes the messages have

-- the bytes of messages that follow each other are those from the first to the end
pub follow_cover : (p : ℕ) (image : List ℕ) (at : ℕ) (ms : List Message) (end : ℕ) → Follow image at ms end → cover p (map stretch ms) ≡ holds p at (end - at)
follow_cover p image at [] end follow = let none : end - at ≡ 0 = omega (arith, follow) in rw none (sym (holds_none p at))
follow_cover p image at (m ∷ ms) end follow =
    let is = follow.0 in
    let size = number_at image (at + 2) 2 in
    let low = follow_low image (at + 8 + size) ms end follow.1 in
    let place : m.at - 8 ≡ at = omega (arith, is.place) in
    let len : length m.body ≡ size = message_long image at m is in
    let rest = follow_cover p image (at + 8 + size) ms end follow.1 in
    let whole : 8 + size + (end - (at + 8 + size)) ≡ end - at = omega (arith, low) in
    let next : at + (8 + size) ≡ at + 8 + size = omega arith in
    let join : holds p at (end - at) ≡ holds p at (8 + size) + holds p (at + 8 + size) (end - (at + 8 + size))
    = rw (whole, next) at (holds_join p at (8 + size) (end - (at + 8 + size))) in
    rw (place, len) (omega (arith, rest, join))

-- a message that stands in the image, wherever its head is
abbrev pub IsHeaded : List ℕ → Message → Type 0
IsHeaded image m = (at : ℕ) × IsMessage 0 image at m

pub follow_headed : (image : List ℕ) (at : ℕ) (ms : List Message) (end : ℕ) → Follow image at ms end → AllByRecursion (IsHeaded image) ms
follow_headed image at [] end follow = tt
follow_headed image at (m ∷ ms) end follow = ((at, follow.0), follow_headed image (at + 8 + number_at image (at + 2) 2) ms end follow.1)

abbrev pub all_of : List (List Message) → List Message
all_of parts = flat_map (λ ms. ms) parts

module _ (image : List ℕ) where
  abbrev IsIn : Block → Type 0
  IsIn b = b.at + b.len ≤ length image

  -- each message of some blocks stands in the image
  pub parts_headed : (waiting : List Block) (parts : List (List Message)) → Inside (length image) waiting → Inside (length image) (continuations (all_of parts))
      → FillBlocks image waiting parts → AllByRecursion (IsHeaded image) (all_of parts)
  parts_headed [] [] low more fills = tt
  parts_headed [] (p ∷ parts) low more fills = absurd fills
  parts_headed (b ∷ waiting) [] low more fills = tt
  parts_headed (b ∷ waiting) (p ∷ parts) low more fills =
      let named = subst (Inside (length image)) (flat_map-append _ p (all_of parts)) more in
      let next = all_append IsIn waiting (continuations p) low.1 (all_left IsIn (continuations p) (continuations (all_of parts)) named) in
      all_append (IsHeaded image) p (all_of parts) (follow_headed image (b.at + 0) p (b.at + b.len) (follow_of image b low.0 0 p fills.0))
      (parts_headed (waiting ++ continuations p) parts next (all_right IsIn (continuations p) (continuations (all_of parts)) named) fills.1)

  -- and they have just the bytes of the blocks
  pub parts_cover : (q : ℕ) (waiting : List Block) (parts : List (List Message)) → Inside (length image) waiting → Inside (length image) (continuations (all_of parts))
      → FillBlocks image waiting parts → cover q (map stretch (all_of parts)) ≡ cover q waiting + cover q (continuations (all_of parts))
  parts_cover q [] [] low more fills = refl
  parts_cover q [] (p ∷ parts) low more fills = absurd fills
  parts_cover q (b ∷ waiting) [] low more fills = absurd fills
  parts_cover q (b ∷ waiting) (p ∷ parts) low more fills =
      let split = flat_map-append _ p (all_of parts) in
      let named = subst (Inside (length image)) split more in
      let next = all_append IsIn waiting (continuations p) low.1 (all_left IsIn (continuations p) (continuations (all_of parts)) named) in
      let rest = parts_cover q (waiting ++ continuations p) parts next (all_right IsIn (continuations p) (continuations (all_of parts)) named) fills.1 in
      let from : b.at + 0 ≡ b.at = omega arith in
      let len : b.at + b.len - b.at ≡ b.len = omega arith in
      let this : cover q (map stretch p) ≡ holds q b.at b.len = rw (from, len) at (follow_cover q image (b.at + 0) p (b.at + b.len) (follow_of image b low.0 0 p fills.0)) in
      let both : cover q (map stretch (p ++ all_of parts)) ≡ cover q (map stretch p) + cover q (map stretch (all_of parts))
      = ap (cover q) (map-append stretch p (all_of parts)) ∙ cover-append q (map stretch p) (map stretch (all_of parts)) in
      let names : cover q (continuations (p ++ all_of parts)) ≡ cover q (continuations p) + cover q (continuations (all_of parts))
      = ap (cover q) split ∙ cover-append q (continuations p) (continuations (all_of parts)) in
      omega (arith, rest, this, both, names, cover-append q waiting (continuations p))

-- their bytes lie in the image
pub stretches_inside : (image : List ℕ) (ms : List Message) → AllByRecursion (IsHeaded image) ms → Inside (length image) (map stretch ms)
stretches_inside image [] all = tt
stretches_inside image (m ∷ ms) all =
    let is = (all.0).1 in
    (omega (arith, is.whole, is.place, message_long image (all.0).0 m is), stretches_inside image ms all.1)

-- ---- what stays

module _ (old new : List ℕ) (grown : length old ≤ length new) where
  pub message_kept : (at : ℕ) (m : Message) → IsMessage 0 old at m → IsKept old new (stretch m) → IsMessage 0 new at m
  message_kept at m is kept =
      let place : m.at - 8 ≡ at = omega (arith, is.place) in
      let size = number_at old (at + 2) 2 in
      let len : length m.body ≡ size = message_long old at m is in
      let same : part at (8 + size) new ≡ part at (8 + size) old = rw (place, len) at kept in
      let field_same : (k n : ℕ) → k + n ≤ 8 → number_at new (at + k) n ≡ number_at old (at + k) n
      = λ k n low. sym (number_at-part k n at (8 + size) new (omega (arith, low))) ∙ ap (λ bs. number_at bs k n) same ∙ number_at-part k n at (8 + size) old (omega (arith, low)) in
      let zero : at + 0 ≡ at = omega arith in
      let s : number_at new (at + 2) 2 ≡ size = field_same 2 2 (omega arith) in
      let flag : byte_at new (at + 4) ≡ byte_at old (at + 4)
      = sym (byte_at-part 4 at (8 + size) new (omega arith)) ∙ ap (λ bs. byte_at bs 4) same ∙ byte_at-part 4 at (8 + size) old (omega arith) in
      record {
        kind = is.kind ∙ sym (rw zero at (field_same 0 2 (omega arith)));
        place = is.place;
        body = is.body ∙ sym (part-part 8 size at (8 + size) old (omega arith)) ∙ sym (ap (part 8 size) same) ∙ part-part 8 size at (8 + size) new (omega arith)
            ∙ sym (ap (λ n. part (at + 8) n new) s);
        whole = omega (arith, s, is.whole, grown);
        padded = rw s is.padded;
        own = rw flag is.own;
      }

  pub follow_kept : (at : ℕ) (ms : List Message) (end : ℕ) → Keeps old new (map stretch ms) → Follow old at ms end → Follow new at ms end
  follow_kept at [] end kept follow = follow
  follow_kept at (m ∷ ms) end kept follow =
      let is = message_kept at m follow.0 kept.0 in
      let len : number_at old (at + 2) 2 ≡ number_at new (at + 2) 2 = sym (message_long old at m follow.0) ∙ message_long new at m is in
      (is, subst (λ (n : ℕ). Follow new (at + 8 + n) ms end) len (follow_kept (at + 8 + number_at old (at + 2) 2) ms end kept.1 follow.1))

  pub headed_kept : (ms : List Message) → AllByRecursion (IsHeaded old) ms → Keeps old new (map stretch ms) → AllByRecursion (IsHeaded new) ms
  headed_kept [] all kept = tt
  headed_kept (m ∷ ms) all kept = (((all.0).0, message_kept (all.0).0 m (all.0).1 kept.0), headed_kept ms all.1 kept.1)
