-- A header in which a message stands in the place of a NIL message, which has its size or more.
use Rattle.std.proofs.Common.{◌≡◌, ◌≢◌, ℕ, suc, ◌+◌, ◌-◌, ◌%◌, ◌<◌, ◌≤◌, nat_lt, if◌then◌else◌, Bool, true, false, List, [], ◌∷◌, ◌++◌, map, length, length-append, take, drop, refl, sym, ap, ◌∙◌, subst, arith}
use Rattle.std.specs.List.{AllByRecursion}
use Rattle.std.proofs.lemmas.List.{length-drop}
use Rattle.std.proofs.lemmas.Bool.Decides.{nat_tests}
use Rattle.h5_bytes.specs.Bytes.{part, with_part, little_bytes}
use Rattle.h5_bytes.specs.Blocks.{holds, cover}
use Rattle.h5_bytes.proofs.PartLaws.{length-part, length-with_part}
use Rattle.h5_space.specs.Space.{Space}
use Rattle.h5_space.specs.Moves.{Moves}
use Rattle.h5_space.proofs.MovesLaws.{moves_then}
use Rattle.h5_model.specs.Format.MessageTypes.{nil_kind, continuation_kind}
use Rattle.h5_model.specs.Format.Messages.{Message, prefix_at, reference_count, most_messages}
use Rattle.h5_model.specs.Format.Plain.{messages_bytes}
use Rattle.h5_model.proofs.PlainMessages.{IsPlain, messages_from}
use Rattle.h5_header.specs.Listed.{Listed, message_in, messages_in}
use Rattle.h5_header.specs.Standing.{IsStanding, kept_at, kept_with_nil, said_in}
use Rattle.h5_header.specs.Added.{IsPutInNil}
use Rattle.h5_header.specs.declared.message.Message.{Message as Placed}
use Rattle.h5_header.proofs.BesideLaws.{moves_covered}
use Rattle.h5_header.proofs.BlankLaws.{back, behind_head, body_inside, cut_messages, front, size_padded}
use Rattle.h5_header.proofs.PlacedLaws.{placed}
use Rattle.h5_header.proofs.PutLaws.{put_list, put_list_is, room, list_long, put_messages, put_standing, put_covered, put_count, total_covered}
use Rattle.h5_header.proofs.RewriteLaws.{header_room}

module _ (x : Placed) (bytes : List ℕ) (head : 8 ≤ x.at) (long : length bytes ≡ x.size + 8) (size_padded : x.size % 8 ≡ 0) (size_low : x.size < 65536)
    (kind : ℕ) (kind_low : kind < 65536) (own : kind ≢ continuation_kind) (body : List ℕ) (body_padded : length body % 8 ≡ 0) (fits : length body ≤ x.size) where
  abbrev n : ℕ
  n = length body

  -- what is left has room for a head
  pub gap : n < x.size → n + 8 ≤ x.size
  gap less = omega (arith, less, size_padded, body_padded)

  abbrev rest : List ℕ
  rest = drop 8 (drop (8 + n) bytes)

  rest_long : length rest ≡ x.size - n - 8
  rest_long = omega (arith, length-drop 8 (drop (8 + n) bytes), length-drop (8 + n) bytes, long)

  rest_padded : 8 + n < length bytes → length rest % 8 ≡ 0
  rest_padded less = omega (arith, rest_long, gap, size_padded, body_padded, less, long)

  said_plain : IsPlain (kind, body)
  said_plain = record {
    kind = kind_low;
    own = grind (arith, nat_tests, own);
    padded = body_padded;
    low = omega (arith, fits, size_low);
  }

  abbrev left_in : Bool → List (ℕ × List ℕ)
  left_in t = if t then (0, rest) ∷ [] else []

  less_of : nat_lt (8 + n) (length bytes) ≡ true → 8 + n < length bytes
  less_of same = grind (arith, nat_tests, same)

  more_of : nat_lt (8 + n) (length bytes) ≡ false → length bytes ≤ 8 + n
  more_of other = grind (arith, nat_tests, other)

  pub all_plain : AllByRecursion IsPlain (said_in kind body bytes)
  all_plain = go (nat_lt (8 + n) (length bytes)) refl where
    go : (t : Bool) → nat_lt (8 + n) (length bytes) ≡ t → AllByRecursion IsPlain ((kind, body) ∷ left_in t)
    go true same = (said_plain, (record { kind = omega arith; own = refl; padded = rest_padded (less_of same); low = omega (arith, rest_long, size_low) }, tt))
    go false other = (said_plain, tt)

  pub said_long : length (messages_bytes (said_in kind body bytes)) ≡ 8 + x.size
  said_long = go (nat_lt (8 + n) (length bytes)) refl where
    go : (t : Bool) → nat_lt (8 + n) (length bytes) ≡ t → length (messages_bytes ((kind, body) ∷ left_in t)) ≡ 8 + x.size
    go true same = simp length-append (omega (arith, rest_long, less_of same, gap, long))
    go false other = simp length-append (omega (arith, more_of other, long, fits))

  pub said_count : length (said_in kind body bytes) ≤ 2
  said_count = go (nat_lt (8 + n) (length bytes)) where
    go : (t : Bool) → length ((kind, body) ∷ left_in t) ≤ 2
    go true = omega arith
    go false = omega arith

  same_test : nat_lt n x.size ≡ nat_lt (8 + n) (length bytes)
  same_test = grind (arith, nat_tests, long)

  pub kept_is : map placed (messages_from (x.at - 8) (said_in kind body bytes)) ≡ kept_with_nil kind n x
  kept_is =
      subst (λ (t : Bool). map placed (messages_from (x.at - 8) (said_in kind body bytes)) ≡ record { kind = kind; at = x.at; size = n }
      ∷ (if t then record { kind = nil_kind; at = x.at + n + 8; size = x.size - n - 8 } ∷ [] else [])) (sym same_test) (go (nat_lt (8 + n) (length bytes))) where
        go : (t : Bool) → map placed (messages_from (x.at - 8) ((kind, body) ∷ left_in t)) ≡ record { kind = kind; at = x.at; size = n }
            ∷ (if t then record { kind = nil_kind; at = x.at + n + 8; size = x.size - n - 8 } ∷ [] else [])
        go true =
            let first : x.at - 8 + 8 ≡ x.at = omega (arith, head) in
            let second : x.at - 8 + 8 + n + 8 ≡ x.at + n + 8 = omega (arith, head) in
            rw (second, rest_long, first) refl
        go false = let first : x.at - 8 + 8 ≡ x.at = omega (arith, head) in rw first refl

  -- what is left of the NIL message, at its place
  abbrev pub left : List Message
  left = messages_from (x.at - 8 + 8 + n) (left_in (nat_lt (8 + n) (length bytes)))

  pub left_nil : AllByRecursion (λ (y : Message). y.kind ≡ nil_kind) left
  left_nil = go (nat_lt (8 + n) (length bytes)) where
    go : (t : Bool) → AllByRecursion (λ (y : Message). y.kind ≡ nil_kind) (messages_from (x.at - 8 + 8 + n) (left_in t))
    go true = (refl, tt)
    go false = tt

  pub said_at : messages_from (x.at - 8) (said_in kind body bytes) ≡ record { kind = kind; at = x.at; body = body } ∷ left
  said_at = let first : x.at - 8 + 8 ≡ x.at = omega (arith, head) in ap (λ (p : ℕ). record { kind = kind; at = p; body = body } ∷ left) first

module _ (old : List ℕ) (m : Listed) (is : IsStanding old m) (k : ℕ) (low : k < length m.list) (nil : (kept_at m.list k).kind ≡ nil_kind)
    (size_low : (kept_at m.list k).size < 65536) (kind : ℕ) (kind_low : kind < 65536) (own : kind ≢ continuation_kind) (body : List ℕ) (body_padded : length body % 8 ≡ 0)
    (fits : length body ≤ (kept_at m.list k).size) (total_low : length m.list < most_messages) where
  abbrev x : Placed
  x = kept_at m.list k

  no_name : x.kind ≢ continuation_kind
  no_name same = absurd (omega (arith, nil, same))

  pub nil_head : 8 ≤ x.at
  nil_head = behind_head old m is k low no_name

  pub nil_inside : x.at + x.size ≤ length old
  nil_inside = body_inside old m is k low no_name

  nil_padded : x.size % 8 ≡ 0
  nil_padded = size_padded old m is k low no_name

  abbrev pub bytes : List ℕ
  bytes = part (x.at - 8) (x.size + 8) old

  bytes_long : length bytes ≡ x.size + 8
  bytes_long = length-part (x.at - 8) (x.size + 8) old (omega (arith, nil_head, nil_inside))

  abbrev pub said : List (ℕ × List ℕ)
  said = said_in kind body bytes

  plain : AllByRecursion IsPlain said
  plain = all_plain x bytes nil_head bytes_long nil_padded size_low kind kind_low own body body_padded fits

  long : length (messages_bytes said) ≡ 8 + x.size
  long = said_long x bytes nil_head bytes_long nil_padded size_low kind kind_low own body body_padded fits

  small : length m.list - 1 + length said < 65536
  small = omega (arith, total_low, low, said_count x bytes nil_head bytes_long nil_padded size_low kind kind_low own body body_padded fits)

  -- the messages that are kept then
  abbrev pub list' : List Placed
  list' = take k m.list ++ (kept_with_nil kind (length body) x ++ drop (k + 1) m.list)

  abbrev there : List Placed
  there = put_list old m is k low no_name said plain long small

  list_is : there ≡ list'
  list_is =
      let next : k + 1 ≡ suc k = omega arith in
      put_list_is old m is k low no_name said plain long small ∙ rw next (ap (λ (zs : List Placed). take k m.list ++ (zs ++ drop (suc k) m.list))
      (kept_is x bytes nil_head bytes_long nil_padded size_low kind kind_low own body body_padded fits))

  total_is : length list' ≡ length m.list - 1 + length said
  total_is = ap length (sym list_is) ∙ list_long old m is k low no_name said plain long small

  abbrev pub one : List ℕ
  one = with_part (x.at - 8) (messages_bytes said) old

  abbrev pub new : List ℕ
  new = with_part (m.header + 2) (little_bytes 2 (length list')) one

  pub one_long : length one ≡ length old
  one_long = length-with_part (x.at - 8) (messages_bytes said) old (omega (arith, long, nil_head, nil_inside))

  pub nil_standing : (room : ℕ) → IsStanding new (record m { list = list'; room = room })
  nil_standing room =
      let s : IsStanding new (record m { list = list' }) = rw (total_is, ← list_is) (put_standing old m is k low no_name said plain long small) in
      record { has = s.has; inside = s.inside; within = s.within; separate = s.separate }

  pub nil_added : IsPutInNil (messages_in old m.list) (messages_in new list') kind body
  nil_added = record {
    front = front old m is k low no_name;
    nil = message_in old x;
    back = back old m is k low no_name;
    rest = left x bytes nil_head bytes_long nil_padded size_low kind kind_low own body body_padded fits;
    is_nil = nil;
    left = left_nil x bytes nil_head bytes_long nil_padded size_low kind kind_low own body body_padded fits;
    before = cut_messages old m is k low no_name;
    after = (rw (total_is, ← list_is) (put_messages old m is k low no_name said plain long small))
        ∙ ap (λ (ws : List Message). front old m is k low no_name ++ (ws ++ back old m is k low no_name))
        (said_at x bytes nil_head bytes_long nil_padded size_low kind kind_low own body body_padded fits);
  }

  pub nil_count : reference_count (prefix_at new m.header) ≡ reference_count (prefix_at old m.header)
  nil_count = rw total_is (put_count old m is k low no_name said plain long small)

  -- only bytes of the header's blocks are written
  pub nil_moves : (s t : Space) → s.bytes ≡ old → t ≡ record s { bytes = new } → Moves s t m.blocks m.blocks
  nil_moves s t before after =
      let mid : Space = record s { bytes = one } in
      let first : Moves s mid m.blocks m.blocks
      = moves_covered s mid (messages_bytes said) (x.at - 8) m.blocks (put_covered old m is k low no_name said plain long small)
      (rw before (room old m is k low no_name said plain long small)) (rw before refl) refl in
      let covered : (p : ℕ) → holds p (m.header + 2) (length (little_bytes 2 (length list'))) ≤ cover p m.blocks = total_covered old m is k low no_name said plain long small in
      let second : Moves mid t m.blocks m.blocks
      = moves_covered mid t (little_bytes 2 (length list')) (m.header + 2) m.blocks covered (omega (arith, header_room old m is, one_long)) (ap (λ (u : Space). u.bytes) after) (ap (λ (u : Space). u.free) after) in
      moves_then s mid t m.blocks m.blocks m.blocks first second
