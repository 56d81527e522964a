-- A header where one of its messages is rewritten: by one message, or by some that have its bytes together.
use Rattle.std.proofs.Common.{◌≡◌, ℕ, ◌+◌, ◌-◌, ◌≤◌, ◌⊎◌, inl, inr, List, [], ◌∷◌, ◌++◌, map, length, refl, sym, ◌∙◌, ap, ap₂, subst, arith, append_assoc, append-nil}
use Rattle.std.proofs.lemmas.List.Concat.{flat_map-append}
use Rattle.std.proofs.lemmas.List.{map-append}
use Rattle.h5_bytes.specs.Bytes.{number_at, part}
use Rattle.h5_bytes.specs.Blocks.{Inside, IsKept, Keeps}
use Rattle.h5_bytes.specs.declared.Block.{Block}
use Rattle.h5_bytes.proofs.BlockLaws.{all_append, all_left, all_right}
use Rattle.h5_model.specs.Format.Messages.{Message, IsMessage, Fills, FillBlocks, continuation, continuations}
use Rattle.h5_header.proofs.StretchLaws.{stretch, Follow, all_of, message_long, follow_of, fills_of, follow_join, follow_split, follow_kept}

-- ---- two ways to cut a list

-- a list p ++ q with m behind front: m stands in p, or p stands in front
abbrev pub Cut : (p q front : List Message) (m : Message) (back : List Message) → Type 0
Cut p q front m back = ((ys : List Message) × (p ≡ front ++ m ∷ ys) × (back ≡ ys ++ q))
    ⊎ ((rest : List Message) × (front ≡ p ++ rest) × (q ≡ rest ++ m ∷ back))

pub cut_of : (p q front : List Message) (m : Message) (back : List Message) → p ++ q ≡ front ++ m ∷ back → Cut p q front m back
cut_of [] q front m back e = inr (front, refl, e)
cut_of (x ∷ p) q [] m back e =
    let head : x ≡ m = cc in
    let tail : p ++ q ≡ back = cc in
    inl (p, ap (λ y. y ∷ p) head, sym tail)
cut_of (x ∷ p) q (y ∷ front) m back e =
    let head : x ≡ y = cc in
    let tail : p ++ q ≡ front ++ m ∷ back = cc in
    elim (cut_of p q front m back tail) [
      | inl (ys, is, behind) ↦ inl (ys, ap₂ (λ (a : Message) (b : List Message). a ∷ b) head is, behind)
      | inr (rest, is, behind) ↦ inr (rest, ap₂ (λ (a : Message) (b : List Message). a ∷ b) (sym head) is, behind)
    ]

-- ---- one block, and all blocks

module _ (old new : List ℕ) (grown : length old ≤ length new) where
  -- some messages of a block, with others in the place of one
  pub fills_splice : (b : Block) → b.at + b.len ≤ length old → (xs : List Message) (m : Message) (ys ws : List Message)
      → Fills b.at (part b.at b.len old) 0 (xs ++ m ∷ ys) → Keeps old new (map stretch xs) → Keeps old new (map stretch ys)
      → Follow new (m.at - 8) ws (m.at + length m.body) → Fills b.at (part b.at b.len new) 0 (xs ++ (ws ++ ys))
  fills_splice b inside xs m ys ws fills left right made =
      let there = follow_of old b inside 0 (xs ++ m ∷ ys) fills in
      let cut = follow_split old (b.at + 0) xs (m ∷ ys) (b.at + b.len) there in
      let mid = cut.0 in
      let here : Follow old mid (m ∷ ys) (b.at + b.len) = cut.2 in
      let is : IsMessage 0 old mid m = here.0 in
      let size = number_at old (mid + 2) 2 in
      let len : length m.body ≡ size = message_long old mid m is in
      let begin : m.at - 8 ≡ mid = omega (arith, is.place) in
      let end : m.at + length m.body ≡ mid + 8 + size = omega (arith, is.place, len) in
      let first : Follow new (b.at + 0) xs mid = follow_kept old new grown (b.at + 0) xs mid left cut.1 in
      let last : Follow new (mid + 8 + size) ys (b.at + b.len) = follow_kept old new grown (mid + 8 + size) ys (b.at + b.len) right here.1 in
      let put : Follow new mid ws (mid + 8 + size) = rw (begin, end) at made in
      fills_of new b (omega (arith, inside, grown)) 0 (xs ++ (ws ++ ys))
      (follow_join new (b.at + 0) xs mid (ws ++ ys) (b.at + b.len) first (follow_join new mid ws (mid + 8 + size) ys (b.at + b.len) put last))

  -- a block all of whose messages stay
  pub fills_stay : (b : Block) → b.at + b.len ≤ length old → (ms : List Message) → Fills b.at (part b.at b.len old) 0 ms → Keeps old new (map stretch ms)
      → Fills b.at (part b.at b.len new) 0 ms
  fills_stay b inside ms fills kept =
      fills_of new b (omega (arith, inside, grown)) 0 ms (follow_kept old new grown (b.at + 0) ms (b.at + b.len) kept (follow_of old b inside 0 ms fills))

  pub keeps_left : (xs ys : List Message) → Keeps old new (map stretch (xs ++ ys)) → Keeps old new (map stretch xs)
  keeps_left xs ys kept = all_left (IsKept old new) (map stretch xs) (map stretch ys) (subst (Keeps old new) (map-append stretch xs ys) kept)

  pub keeps_right : (xs ys : List Message) → Keeps old new (map stretch (xs ++ ys)) → Keeps old new (map stretch ys)
  keeps_right xs ys kept = all_right (IsKept old new) (map stretch xs) (map stretch ys) (subst (Keeps old new) (map-append stretch xs ys) kept)

  pub blocks_stay : (waiting : List Block) (parts : List (List Message)) → Inside (length old) waiting → Inside (length old) (continuations (all_of parts))
      → FillBlocks old waiting parts → Keeps old new (map stretch (all_of parts)) → FillBlocks new waiting parts
  blocks_stay [] [] low more fills kept = tt
  blocks_stay [] (p ∷ parts) low more fills kept = fills
  blocks_stay (b ∷ waiting) [] low more fills kept = fills
  blocks_stay (b ∷ waiting) (p ∷ parts) low more fills kept =
      let named = subst (Inside (length old)) (flat_map-append continuation p (all_of parts)) more in
      let here = all_left (λ (x : Block). x.at + x.len ≤ length old) (continuations p) (continuations (all_of parts)) named in
      let rest = all_right (λ (x : Block). x.at + x.len ≤ length old) (continuations p) (continuations (all_of parts)) named in (
        fills_stay b low.0 p fills.0 (keeps_left p (all_of parts) kept),
        blocks_stay (waiting ++ continuations p) parts (all_append (λ (x : Block). x.at + x.len ≤ length old) waiting (continuations p) low.1 here) rest fills.1 (keeps_right p (all_of parts) kept),
      )

  named_in : (xs ms ys : List Message) → continuations (xs ++ (ms ++ ys)) ≡ continuations xs ++ (continuations ms ++ continuations ys)
  named_in xs ms ys = flat_map-append continuation xs (ms ++ ys) ∙ ap (λ (bs : List Block). continuations xs ++ bs) (flat_map-append continuation ms ys)

  -- what these messages are, in blocks, with others in the place of one
  pub record IsSpliced (waiting : List Block) (messages : List Message) : Type 0 where
    pub parts : List (List Message)
    pub fills : FillBlocks new waiting parts
    pub all : all_of parts ≡ messages

  module _ (m : Message) (ws : List Message) (names : continuations ws ≡ continuation m) (made : Follow new (m.at - 8) ws (m.at + length m.body)) where
    pub splice : (waiting : List Block) (parts : List (List Message)) → Inside (length old) waiting → Inside (length old) (continuations (all_of parts))
        → FillBlocks old waiting parts → (front back : List Message) → all_of parts ≡ front ++ m ∷ back → Keeps old new (map stretch front) → Keeps old new (map stretch back)
        → IsSpliced waiting (front ++ (ws ++ back))
    splice [] [] low more fills [] back e left right = let none : [] ≡ m ∷ back = e in cc
    splice [] [] low more fills (x ∷ front) back e left right = let none : [] ≡ x ∷ (front ++ m ∷ back) = e in cc
    splice [] (p ∷ parts) low more fills front back e left right = absurd fills
    splice (b ∷ waiting) [] low more fills front back e left right = absurd fills
    splice (b ∷ waiting) (p ∷ parts) low more fills front back e left right =
        let P : Block → Type 0 = λ x. x.at + x.len ≤ length old in
        let named = subst (Inside (length old)) (flat_map-append continuation p (all_of parts)) more in
        let here : Inside (length old) (continuations p) = all_left P (continuations p) (continuations (all_of parts)) named in
        let rest : Inside (length old) (continuations (all_of parts)) = all_right P (continuations p) (continuations (all_of parts)) named in
        let next : Inside (length old) (waiting ++ continuations p) = all_append P waiting (continuations p) low.1 here in
        elim (cut_of p (all_of parts) front m back e) [
          | inl (ys, is, behind) ↦
              let after : Keeps old new (map stretch (ys ++ all_of parts)) = subst (λ (xs : List Message). Keeps old new (map stretch xs)) behind right in
              let filled : Fills b.at (part b.at b.len new) 0 (front ++ (ws ++ ys))
              = fills_splice b low.0 front m ys ws (subst (λ (xs : List Message). Fills b.at (part b.at b.len old) 0 xs) is fills.0) left (keeps_left ys (all_of parts) after) made in
              let same : continuations p ≡ continuations (front ++ (ws ++ ys))
              = ap continuations is ∙ named_in front (m ∷ []) ys ∙ ap (λ (bs : List Block). continuations front ++ (bs ++ continuations ys)) (append-nil (continuation m) ∙ sym names) ∙ sym (named_in front ws ys) in
              let others : FillBlocks new (waiting ++ continuations p) parts = blocks_stay (waiting ++ continuations p) parts next rest fills.1 (keeps_right ys (all_of parts) after) in
              record {
                parts = (front ++ (ws ++ ys)) ∷ parts;
                fills = (filled, subst (λ (bs : List Block). FillBlocks new (waiting ++ bs) parts) same others);
                all = append_assoc front (ws ++ ys) (all_of parts) ∙ ap (λ (xs : List Message). front ++ xs) (append_assoc ws ys (all_of parts) ∙ ap (λ (xs : List Message). ws ++ xs) (sym behind));
              }
          | inr (xs, is, behind) ↦
              let before : Keeps old new (map stretch (p ++ xs)) = subst (λ (zs : List Message). Keeps old new (map stretch zs)) is left in
              let further = splice (waiting ++ continuations p) parts next rest fills.1 xs back behind (keeps_right p xs before) right in
              record {
                parts = p ∷ further.parts;
                fills = (fills_stay b low.0 p fills.0 (keeps_left p xs before), further.fills);
                all = ap (λ (zs : List Message). p ++ zs) further.all ∙ sym (append_assoc p xs (ws ++ back)) ∙ ap (λ (zs : List Message). zs ++ (ws ++ back)) (sym is);
              }
        ]
