-- A header after a write in the bytes of one message.
use Rattle.std.proofs.Common.{◌≡◌, ℕ, ◌+◌, ◌-◌, ◌≤◌, List, [], ◌∷◌, ◌++◌, map, length, length-append, append-nil, sym, ap, ◌∙◌, subst, arith}
use Rattle.std.specs.List.{AllByRecursion, flat_map}
use Rattle.std.proofs.lemmas.List.{map-append}
use Rattle.std.proofs.lemmas.List.Concat.{flat_map-append}
use Rattle.h5_bytes.specs.Bytes.{with_part, byte_at}
use Rattle.h5_bytes.specs.Blocks.{block, holds, cover, Separate, Inside, IsKept, Keeps}
use Rattle.h5_bytes.specs.declared.Block.{Block}
use Rattle.h5_bytes.proofs.BlockLaws.{holds-inner, holds_join, cover-append, all_append, all_left, all_right}
use Rattle.h5_bytes.proofs.PartLaws.{length-with_part}
use Rattle.h5_model.specs.Format.Messages.{Message, FillBlocks, IsContinued, continuation, continuations, HasMessages, first_block, first_size, prefix_at, total_in}
use Rattle.h5_header.specs.Listed.{Listed, messages_in, IsWithin}
use Rattle.h5_header.specs.Standing.{IsStanding}
use Rattle.h5_header.proofs.StretchLaws.{stretch, Follow, IsHeaded, stretches_inside, parts_headed, parts_cover}
use Rattle.h5_header.proofs.SpliceLaws.{splice}
use Rattle.h5_header.proofs.BesideLaws.{kept_beside}
use Rattle.h5_header.proofs.BodiesNow.{all_now_same, listed_now}
use Rattle.h5_header.specs.declared.message.Message.{Message as Placed}

append_nil_is : (x y : Message) → continuation y ≡ continuation x → continuations (y ∷ []) ≡ continuation x
append_nil_is x y e = append-nil (continuation y) ∙ e

named_one : (xs : List Message) (y : Message) (ys : List Message) → continuations (xs ++ y ∷ ys) ≡ continuations xs ++ (continuation y ++ continuations ys)
named_one xs y ys = flat_map-append continuation xs (y ∷ ys)

-- messages that are kept say the same where their bytes stay
pub same_messages : (old new : List ℕ) (grown : length old ≤ length new) (list : List Placed) → IsWithin (length old) list
    → AllByRecursion (IsHeaded old) (messages_in old list) → Keeps old new (map stretch (messages_in old list)) → messages_in new list ≡ messages_in old list
same_messages old new grown list within all kept = listed_now old new grown list within ∙ all_now_same old new grown (messages_in old list) all kept

module _ (old : List ℕ) (m : Listed) (is : IsStanding old m) where
  abbrev pub first : ℕ
  first = first_size (prefix_at old m.header)

  abbrev pub said : List Message
  said = messages_in old m.list

  pub laid_inside : Inside (length old) (block m.header (16 + first) ∷ continuations said)
  laid_inside = subst (Inside (length old)) (is.has).laid is.inside

  pub header_room : m.header + 16 ≤ length old
  header_room = omega (arith, laid_inside.0)

  pub laid_separate : Separate (block m.header (16 + first) ∷ continuations said)
  laid_separate = subst Separate (is.has).laid is.separate

  pub first_inside : Inside (length old) (first_block old m.header ∷ [])
  first_inside = (omega (arith, laid_inside.0), tt)

  pub named_inside : Inside (length old) (continuations (flat_map (λ ms. ms) (is.has).parts))
  named_inside = subst (λ (ms : List Message). Inside (length old) (continuations ms)) (is.has).all laid_inside.1

  pub headed : AllByRecursion (IsHeaded old) said
  headed = subst (AllByRecursion (IsHeaded old)) (sym (is.has).all)
      (parts_headed old (first_block old m.header ∷ []) (is.has).parts first_inside named_inside (is.has).filled)

  pub stretches_cover : (p : ℕ) → cover p (map stretch said) ≡ holds p (m.header + 16) first + cover p (continuations said)
  stretches_cover p =
      let all = parts_cover old p (first_block old m.header ∷ []) (is.has).parts first_inside named_inside (is.has).filled in
      let said_all : cover p (map stretch said) ≡ cover p (map stretch (flat_map (λ ms. ms) (is.has).parts)) = ap (λ (ms : List Message). cover p (map stretch ms)) (is.has).all in
      let named_all : cover p (continuations said) ≡ cover p (continuations (flat_map (λ ms. ms) (is.has).parts)) = ap (λ (ms : List Message). cover p (continuations ms)) (is.has).all in
      omega (arith, all, said_all, named_all)

  module _ (front : List Message) (x : Message) (back : List Message) (cut : said ≡ front ++ x ∷ back)
      (w : List ℕ) (at : ℕ) (low : x.at - 8 ≤ at) (high : at + length w ≤ x.at - 8 + (8 + length x.body)) where
    abbrev new : List ℕ
    new = with_part at w old

    all_headed : AllByRecursion (IsHeaded old) (front ++ x ∷ back)
    all_headed = subst (AllByRecursion (IsHeaded old)) cut headed

    front_headed : AllByRecursion (IsHeaded old) front
    front_headed = all_left (IsHeaded old) front (x ∷ back) all_headed

    back_headed : AllByRecursion (IsHeaded old) (x ∷ back)
    back_headed = all_right (IsHeaded old) front (x ∷ back) all_headed

    pub beside : Separate (stretch x ∷ block m.header 16 ∷ (map stretch front ++ map stretch back))
    beside p =
        let whole = stretches_cover p in
        let same : cover p (map stretch said) ≡ cover p (map stretch front) + cover p (map stretch (x ∷ back))
        = ap (λ (ms : List Message). cover p (map stretch ms)) cut ∙ ap (cover p) (map-append stretch front (x ∷ back)) ∙ cover-append p (map stretch front) (map stretch (x ∷ back)) in
        omega (arith, whole, same, laid_separate p, holds_join p m.header 16 first, cover-append p (map stretch front) (map stretch back))

    kept : Keeps old new (block m.header 16 ∷ (map stretch front ++ map stretch back))
    kept = kept_beside old w at (stretch x) (block m.header 16 ∷ (map stretch front ++ map stretch back)) low high (stretches_inside old (x ∷ back) back_headed).0 beside (
      omega (arith, laid_inside.0),
      all_append (λ (b : Block). b.at + b.len ≤ length old) (map stretch front) (map stretch back)
          (stretches_inside old front front_headed) (stretches_inside old (x ∷ back) back_headed).1,
    )

    pub prefix_stays : prefix_at new m.header ≡ prefix_at old m.header
    prefix_stays = kept.0

    pub front_stays : Keeps old new (map stretch front)
    front_stays = all_left (IsKept old new) (map stretch front) (map stretch back) kept.1

    pub back_stays : Keeps old new (map stretch back)
    back_stays = all_right (IsKept old new) (map stretch front) (map stretch back) kept.1

    pub same_length : length new ≡ length old
    same_length = length-with_part at w old (omega (arith, high, (stretches_inside old (x ∷ back) back_headed).0))

    -- one message in the place of one
    pub message_rewritten : (y : Message) → Follow new (x.at - 8) (y ∷ []) (x.at + length x.body) → continuation y ≡ continuation x → IsContinued y
        → HasMessages new m.header (front ++ y ∷ back) m.blocks
    message_rewritten y made names continued =
        let grown : length old ≤ length new = omega (arith, same_length) in
        let none : continuations (y ∷ []) ≡ continuation x = append_nil_is x y names in
        let made_all = splice old new grown x (y ∷ []) none made (first_block old m.header ∷ []) (is.has).parts first_inside named_inside (is.has).filled
        front back (sym (is.has).all ∙ cut) front_stays back_stays in
        let all_continued : AllByRecursion IsContinued (front ++ x ∷ back) = subst (AllByRecursion IsContinued) cut (is.has).continued in
        let names_same : continuations (front ++ y ∷ back) ≡ continuations said
        = named_one front y back ∙ ap (λ (bs : List Block). continuations front ++ (bs ++ continuations back)) names ∙ sym (named_one front x back) ∙ sym (ap continuations cut) in
        record {
          version = rw prefix_stays (is.has).version;
          parts = made_all.parts;
          filled = subst (λ (prefix : List ℕ). FillBlocks new (block (m.header + 16) (first_size prefix) ∷ []) made_all.parts) (sym prefix_stays) made_all.fills;
          all = sym made_all.all;
          total = rw prefix_stays ((is.has).total ∙ ap length cut ∙ length-append front (x ∷ back) ∙ sym (length-append front (y ∷ back)));
          continued = all_append IsContinued front (y ∷ back) (all_left IsContinued front (x ∷ back) all_continued)
              (continued, (all_right IsContinued front (x ∷ back) all_continued).1);
          laid = rw (prefix_stays, names_same) (is.has).laid;
        }

-- a message's bytes are among those of the header's blocks
pub stretch_covered : (old : List ℕ) (m : Listed) (is : IsStanding old m) (front : List Message) (x : Message) (back : List Message)
    → messages_in old m.list ≡ front ++ x ∷ back → (p : ℕ) → holds p (x.at - 8) (8 + length x.body) ≤ cover p m.blocks
stretch_covered old m is front x back cut p =
    let same : cover p (map stretch (messages_in old m.list)) ≡ cover p (map stretch front) + cover p (map stretch (x ∷ back))
    = ap (λ (ms : List Message). cover p (map stretch ms)) cut ∙ ap (cover p) (map-append stretch front (x ∷ back)) ∙ cover-append p (map stretch front) (map stretch (x ∷ back)) in
    let laid : cover p m.blocks ≡ holds p m.header (16 + first_size (prefix_at old m.header)) + cover p (continuations (messages_in old m.list)) = ap (cover p) (is.has).laid in
    omega (arith, stretches_cover old m is p, same, laid, holds_join p m.header 16 (first_size (prefix_at old m.header)))

-- a part of a header's first block is among its blocks
pub prefix_covered : (old : List ℕ) (m : Listed) → IsStanding old m → (from n : ℕ) → m.header ≤ from → from + n ≤ m.header + 16 → (p : ℕ) → holds p from n ≤ cover p m.blocks
prefix_covered old m is from n low high p =
    let laid : cover p m.blocks ≡ holds p m.header (16 + first_size (prefix_at old m.header)) + cover p (continuations (messages_in old m.list)) = ap (cover p) (is.has).laid in
    omega (arith, laid, holds-inner p from n m.header (16 + first_size (prefix_at old m.header)) low (omega (arith, high)))

-- Some messages in the place of one, with the total of the prefix as it then is: whatever was written, the other messages keep their bytes.
pub messages_rewritten : (old new : List ℕ) (m : Listed) (is : IsStanding old m) → length old ≤ length new
    → (front : List Message) (x : Message) (back ws : List Message) → messages_in old m.list ≡ front ++ x ∷ back
    → Keeps old new (map stretch front) → Keeps old new (map stretch back) → Follow new (x.at - 8) ws (x.at + length x.body)
    → continuations ws ≡ continuation x → AllByRecursion IsContinued ws
    → byte_at (prefix_at new m.header) 0 ≡ 1 → first_size (prefix_at new m.header) ≡ first_size (prefix_at old m.header)
    → total_in (prefix_at new m.header) ≡ length (front ++ (ws ++ back))
    → HasMessages new m.header (front ++ (ws ++ back)) m.blocks
messages_rewritten old new m is grown front x back ws cut left right made names continued version size total =
    let made_all = splice old new grown x ws names made (first_block old m.header ∷ []) (is.has).parts (first_inside old m is) (named_inside old m is) (is.has).filled
    front back (sym (is.has).all ∙ cut) left right in
    let all_continued : AllByRecursion IsContinued (front ++ x ∷ back) = subst (AllByRecursion IsContinued) cut (is.has).continued in
    let after : continuations (front ++ (ws ++ back)) ≡ continuations front ++ (continuations ws ++ continuations back)
    = flat_map-append continuation front (ws ++ back) ∙ ap (λ (bs : List Block). continuations front ++ bs) (flat_map-append continuation ws back) in
    let names_same : continuations (front ++ (ws ++ back)) ≡ continuations (messages_in old m.list)
    = after ∙ ap (λ (bs : List Block). continuations front ++ (bs ++ continuations back)) names ∙ sym (named_one front x back) ∙ sym (ap continuations cut) in
    record {
      version = version;
      parts = made_all.parts;
      filled = subst (λ (n : ℕ). FillBlocks new (block (m.header + 16) n ∷ []) made_all.parts) (sym size) made_all.fills;
      all = sym made_all.all;
      total = total;
      continued = all_append IsContinued front (ws ++ back) (all_left IsContinued front (x ∷ back) all_continued)
          (all_append IsContinued ws back continued (all_right IsContinued front (x ∷ back) all_continued).1);
      laid = rw (size, names_same) (is.has).laid;
    }
