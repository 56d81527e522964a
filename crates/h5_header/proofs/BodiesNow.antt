-- Messages whose heads stay where bytes are written: a header has them still, with the bodies that stand there now.
use Rattle.std.proofs.Common.{◌≡◌, ℕ, ◌+◌, ◌-◌, ◌≤◌, List, [], ◌∷◌, ◌++◌, map, length, refl, sym, ◌∙◌, ap, ap₂, subst, arith, Bool, true, false, ◌==◌, eqb-true}
use Rattle.std.specs.List.{AllByRecursion}
use Rattle.std.proofs.lemmas.List.{map-append, length-map}
use Rattle.std.proofs.lemmas.List.Concat.{flat_map-append}
use Rattle.h5_bytes.specs.Bytes.{number_at, byte_at, part}
use Rattle.h5_bytes.specs.Blocks.{block, Inside, IsKept, Keeps}
use Rattle.h5_bytes.specs.declared.Block.{Block}
use Rattle.h5_bytes.proofs.BlockLaws.{all_append, all_left, all_right}
use Rattle.h5_bytes.proofs.FieldLaws.{number_at-same}
use Rattle.h5_bytes.proofs.PartLaws.{length-part}
use Rattle.h5_model.specs.Format.MessageTypes.{continuation_kind}
use Rattle.h5_model.specs.Format.Messages.{Message, IsMessage, Fills, FillBlocks, IsContinued, continuation, continuations, HasMessages, first_block, first_size, prefix_at}
use Rattle.h5_model.proofs.Frames.{front-same, rest-same}
use Rattle.h5_model.proofs.BodyLaws.{byte_at-part}
use Rattle.h5_header.specs.Listed.{messages_in, IsWithin}
use Rattle.h5_header.specs.declared.message.Message.{Message as Placed}
use Rattle.h5_header.proofs.StretchLaws.{stretch, Follow, IsHeaded, all_of, message_long, follow_of, fills_of}

module _ (old new : List ℕ) (grown : length old ≤ length new) where
  -- the message with the body that stands at its place now
  abbrev pub now : Message → Message
  now m = record m { body = part m.at (length m.body) new }

  -- its head stays, and of a Continuation the body
  abbrev pub Stays : Message → Type 0
  Stays m = IsKept old new (block (m.at - 8) 8) × (m.kind ≡ continuation_kind → part m.at (length m.body) new ≡ m.body)

  message_now : (at : ℕ) (m : Message) → IsMessage 0 old at m → IsKept old new (block (m.at - 8) 8) → IsMessage 0 new at (now m)
  message_now at m is kept =
      let head : m.at - 8 ≡ at = omega (arith, is.place) in
      let place : m.at ≡ at + 8 = omega (arith, is.place) in
      let size = number_at old (at + 2) 2 in
      let len : length m.body ≡ size = message_long old at m is in
      let same : part at 8 new ≡ part at 8 old = rw head at kept in
      let none : at + 0 ≡ at = omega arith in
      let kind : number_at new at 2 ≡ number_at old at 2 = rw none at (number_at-same old new at 8 0 2 same (omega arith)) in
      let sized : number_at new (at + 2) 2 ≡ size = number_at-same old new at 8 2 2 same (omega arith) in
      let flag : byte_at new (at + 4) ≡ byte_at old (at + 4)
      = sym (byte_at-part 4 at 8 new (omega arith)) ∙ ap (λ bs. byte_at bs 4) same ∙ byte_at-part 4 at 8 old (omega arith) in
      record {
        kind = is.kind ∙ sym kind;
        place = is.place;
        body = ap₂ (λ p n. part p n new) place (len ∙ sym sized);
        whole = omega (arith, sized, is.whole, grown);
        padded = rw sized is.padded;
        own = rw flag is.own;
      }

  follow_now : (at : ℕ) (ms : List Message) (end : ℕ) → AllByRecursion Stays ms → Follow old at ms end → Follow new at (map now ms) end
  follow_now at [] end stay follow = follow
  follow_now at (m ∷ ms) end stay follow =
      let is = message_now at m follow.0 (stay.0).0 in
      let head : m.at - 8 ≡ at = omega (arith, (follow.0).place) in
      let same : part at 8 new ≡ part at 8 old = rw head at (stay.0).0 in
      let sized : number_at old (at + 2) 2 ≡ number_at new (at + 2) 2 = sym (number_at-same old new at 8 2 2 same (omega arith)) in
      (is, subst (λ (n : ℕ). Follow new (at + 8 + n) (map now ms) end) sized (follow_now (at + 8 + number_at old (at + 2) 2) ms end stay.1 follow.1))

  fills_now : (b : Block) → b.at + b.len ≤ length old → (ms : List Message) → AllByRecursion Stays ms → Fills b.at (part b.at b.len old) 0 ms
      → Fills b.at (part b.at b.len new) 0 (map now ms)
  fills_now b inside ms stay fills =
      fills_of new b (omega (arith, inside, grown)) 0 (map now ms) (follow_now (b.at + 0) ms (b.at + b.len) stay (follow_of old b inside 0 ms fills))

  -- the same blocks are named
  names_now : (m : Message) → Stays m → continuation (now m) ≡ continuation m
  names_now m stays = go (m.kind == continuation_kind) refl where
    go : (t : Bool) → (m.kind == continuation_kind) ≡ t → continuation (now m) ≡ continuation m
    go true same = ap (λ (bs : List ℕ). continuation (record m { body = bs })) (stays.1 (eqb-true m.kind continuation_kind same))
    go false other = rw other refl

  all_names_now : (ms : List Message) → AllByRecursion Stays ms → continuations (map now ms) ≡ continuations ms
  all_names_now [] stay = refl
  all_names_now (m ∷ ms) stay = ap₂ (λ (a b : List Block). a ++ b) (names_now m stay.0) (all_names_now ms stay.1)

  abbrev IsIn : Block → Type 0
  IsIn b = b.at + b.len ≤ length old

  blocks_now : (waiting : List Block) (parts : List (List Message)) → Inside (length old) waiting → Inside (length old) (continuations (all_of parts))
      → AllByRecursion Stays (all_of parts) → FillBlocks old waiting parts → FillBlocks new waiting (map (map now) parts)
  blocks_now [] [] low more stay fills = tt
  blocks_now [] (p ∷ parts) low more stay fills = fills
  blocks_now (b ∷ waiting) [] low more stay fills = fills
  blocks_now (b ∷ waiting) (p ∷ parts) low more stay fills =
      let named = subst (Inside (length old)) (flat_map-append continuation p (all_of parts)) more in
      let next = all_append IsIn waiting (continuations p) low.1 (all_left IsIn (continuations p) (continuations (all_of parts)) named) in
      let rest = all_right IsIn (continuations p) (continuations (all_of parts)) named in
      let here = all_left Stays p (all_of parts) stay in (
        fills_now b low.0 p here fills.0,
        subst (λ (bs : List Block). FillBlocks new (waiting ++ bs) (map (map now) parts)) (sym (all_names_now p here))
            (blocks_now (waiting ++ continuations p) parts next rest (all_right Stays p (all_of parts) stay) fills.1),
      )

  all_now : (parts : List (List Message)) → map now (all_of parts) ≡ all_of (map (map now) parts)
  all_now [] = refl
  all_now (p ∷ parts) = map-append now p (all_of parts) ∙ ap (λ (ms : List Message). map now p ++ ms) (all_now parts)

  continued_now : (ms : List Message) → AllByRecursion Stays ms → AllByRecursion IsContinued ms → AllByRecursion IsContinued (map now ms)
  continued_now [] stay continued = tt
  continued_now (m ∷ ms) stay continued =
      (λ is. subst (λ (bs : List ℕ). IsContinued (record m { body = bs })) (sym ((stay.0).1 is)) continued.0 is, continued_now ms stay.1 continued.1)

  -- a header has its messages still, with the bodies that stand there now
  pub has_now : (header : ℕ) (ms : List Message) (blocks : List Block) → HasMessages old header ms blocks → Inside (length old) blocks
      → prefix_at new header ≡ prefix_at old header → AllByRecursion Stays ms → HasMessages new header (map now ms) blocks
  has_now header ms blocks has inside prefix stay =
      let laid : Inside (length old) (block header (16 + first_size (prefix_at old header)) ∷ continuations ms) = subst (Inside (length old)) has.laid inside in
      let first : Inside (length old) (first_block old header ∷ []) = (omega (arith, laid.0), tt) in
      let named : Inside (length old) (continuations (all_of has.parts)) = subst (λ (xs : List Message). Inside (length old) (continuations xs)) has.all laid.1 in
      let filled = blocks_now (first_block old header ∷ []) has.parts first named (subst (AllByRecursion Stays) has.all stay) has.filled in
      record {
        version = rw prefix has.version;
        parts = map (map now) has.parts;
        filled = subst (λ (p : List ℕ). FillBlocks new (block (header + 16) (first_size p) ∷ []) (map (map now) has.parts)) (sym prefix) filled;
        all = ap (map now) has.all ∙ all_now has.parts;
        total = rw prefix (has.total ∙ sym (length-map ms now));
        continued = continued_now ms stay has.continued;
        laid = rw prefix (has.laid ∙ ap (λ (bs : List Block). block header (16 + first_size (prefix_at old header)) ∷ bs) (sym (all_names_now ms stay)));
      }

  -- those that are kept of it are these
  pub listed_now : (list : List Placed) → IsWithin (length old) list → messages_in new list ≡ map now (messages_in old list)
  listed_now [] within = refl
  listed_now (m ∷ list) within =
      let long : m.size ≡ length (part m.at m.size old) = sym (length-part m.at m.size old within.0) in
      ap₂ (λ (n : ℕ) (ms : List Message). record { kind = m.kind; at = m.at; body = part m.at n new } ∷ ms) long (listed_now list within.1)

  -- ---- messages of which each byte stays

  now_same : (m : Message) → IsHeaded old m → IsKept old new (stretch m) → now m ≡ m
  now_same m (at, is) kept =
      let head : m.at - 8 + 8 ≡ m.at = omega (arith, is.place) in
      let place : at + 8 ≡ m.at = omega (arith, is.place) in
      let same : part m.at (length m.body) new ≡ part m.at (length m.body) old = rw head at (rest-same old new (m.at - 8) (length m.body) 8 kept) in
      let body : part m.at (length m.body) old ≡ m.body = ap₂ (λ p n. part p n old) (sym place) (message_long old at m is) ∙ sym is.body in
      ap (λ (bs : List ℕ). record m { body = bs }) (same ∙ body)

  pub all_now_same : (ms : List Message) → AllByRecursion (IsHeaded old) ms → Keeps old new (map stretch ms) → map now ms ≡ ms
  all_now_same [] headed kept = refl
  all_now_same (m ∷ ms) headed kept = ap₂ (λ (x : Message) (xs : List Message). x ∷ xs) (now_same m headed.0 kept.0) (all_now_same ms headed.1 kept.1)

  pub all_stay : (ms : List Message) → AllByRecursion (IsHeaded old) ms → Keeps old new (map stretch ms) → AllByRecursion Stays ms
  all_stay [] headed kept = tt
  all_stay (m ∷ ms) headed kept = (
    (front-same old new (m.at - 8) (8 + length m.body) 8 (omega arith) kept.0, λ is. ap (λ (x : Message). x.body) (now_same m headed.0 kept.0)),
    all_stay ms headed.1 kept.1,
  )
