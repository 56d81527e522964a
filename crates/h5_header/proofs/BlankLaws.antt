-- A header one of whose messages becomes NIL.
use Rattle.std.proofs.Common.{◌≡◌, ◌≢◌, ℕ, ◌+◌, ◌-◌, ◌%◌, ◌<◌, ◌≤◌, inl, inr, List, [], ◌∷◌, ◌++◌, length, get_or, set, refl, sym, ap, ap₂, ◌∙◌, subst, arith, lit≤}
use Rattle.std.specs.List.{AllByRecursion}
use Rattle.std.proofs.lemmas.List.{map-append, map-set, get_or-map}
use Rattle.h5_bytes.specs.Bytes.{part, with_part, little_bytes, number_at, byte_at}
use Rattle.h5_bytes.specs.Blocks.{holds, cover}
use Rattle.h5_bytes.proofs.BlockLaws.{all_append, all_left, all_right, holds-inner}
use Rattle.h5_bytes.proofs.PartLaws.{length-part, length-with_part, part-with_part_other}
use Rattle.h5_bytes.proofs.FieldLaws.{number_at-with_field, number_at-with_part_other}
use Rattle.h5_space.proofs.MovesLaws.{byte-with_part}
use Rattle.h5_model.specs.Format.MessageTypes.{nil_kind, continuation_kind}
use Rattle.h5_model.specs.Format.Messages.{Message, IsMessage, HasMessages, prefix_at, reference_count}
use Rattle.h5_header.specs.Listed.{Listed, message_in, messages_in, IsWithin}
use Rattle.h5_header.specs.Standing.{IsStanding, kept_at, nowhere, with_nil, none}
use Rattle.h5_header.specs.declared.message.Message.{Message as Placed}
use Rattle.h5_header.proofs.MetLaws.{continuation_cases}
use Rattle.h5_header.proofs.CutLaws.{IsCut, cut_by_place}
use Rattle.h5_header.proofs.StretchLaws.{Follow, IsHeaded, message_long}
use Rattle.h5_header.proofs.RewriteLaws.{same_messages, headed, message_rewritten, stretch_covered, prefix_stays, front_stays, back_stays, same_length}

-- ---- a message whose type is written

module _ (old : List ℕ) (at : ℕ) (m : Message) (is : IsMessage 0 old at m) (kind : ℕ) (small : kind < 65536) where
  abbrev pub kind_bytes : List ℕ
  kind_bytes = little_bytes 2 kind

  abbrev pub kind_after : List ℕ
  kind_after = with_part at kind_bytes old

  -- it stands there with the new type
  pub kind_stands : Follow kind_after at (record m { kind = kind } ∷ []) (m.at + length m.body)
  kind_stands =
      let two : length kind_bytes ≡ 2 = refl in
      let size = number_at old (at + 2) 2 in
      let len : length m.body ≡ size = message_long old at m is in
      let room : at + length kind_bytes ≤ length old = omega (arith, two, is.whole) in
      let long : length kind_after ≡ length old = length-with_part at kind_bytes old room in
      let same : number_at kind_after (at + 2) 2 ≡ size = number_at-with_part_other at kind_bytes old (at + 2) 2 room (inr (omega (arith, two))) in
      let flag : byte_at kind_after (at + 4) ≡ byte_at old (at + 4) = byte-with_part at kind_bytes old (at + 4) room (inr (omega (arith, two))) in (
        record {
          kind = sym (number_at-with_field old at 2 kind (omega (arith, is.whole)) (omega (arith, small)));
          place = is.place;
          body = is.body ∙ sym (part-with_part_other at kind_bytes old (at + 8) size room (inr (omega (arith, two)))) ∙ sym (ap (λ n. part (at + 8) n kind_after) same);
          whole = omega (arith, same, long, is.whole);
          padded = rw same is.padded;
          own = rw flag is.own;
        },
        omega (arith, same, len, is.place),
      )

module _ (old : List ℕ) (m : Listed) (is : IsStanding old m) (k : ℕ) (low : k < length m.list) (own : (kept_at m.list k).kind ≢ continuation_kind) where
  abbrev pub x : Placed
  x = kept_at m.list k

  abbrev pub new : List ℕ
  new = with_part (x.at - 8) (little_bytes 2 nil_kind) old

  abbrev pub nil : Placed
  nil = record x { kind = nil_kind }

  unfoldable pub cut : IsCut m.list k x
  cut = cut_by_place m.list k nowhere low

  abbrev pub front : List Message
  front = messages_in old cut.front

  abbrev pub back : List Message
  back = messages_in old cut.back

  pub cut_messages : messages_in old m.list ≡ front ++ message_in old x ∷ back
  cut_messages = ap (messages_in old) cut.whole ∙ map-append (message_in old) cut.front (x ∷ cut.back)

  pub all_headed : AllByRecursion (IsHeaded old) (front ++ message_in old x ∷ back)
  all_headed = subst (AllByRecursion (IsHeaded old)) cut_messages (headed old m is)

  here : IsHeaded old (message_in old x)
  here = (all_right (IsHeaded old) front (message_in old x ∷ back) all_headed).0

  pub behind_head : 8 ≤ x.at
  behind_head = omega (arith, (here.1).place)

  within_all : IsWithin (length old) (cut.front ++ x ∷ cut.back)
  within_all = subst (IsWithin (length old)) cut.whole is.within

  pub within_front : IsWithin (length old) cut.front
  within_front = all_left (λ (y : Placed). y.at + y.size ≤ length old) cut.front (x ∷ cut.back) within_all

  pub within_back : IsWithin (length old) (x ∷ cut.back)
  within_back = all_right (λ (y : Placed). y.at + y.size ≤ length old) cut.front (x ∷ cut.back) within_all

  pub body_inside : x.at + x.size ≤ length old
  body_inside = within_back.0

  -- its size is a multiple of 8
  pub size_padded : x.size % 8 ≡ 0
  size_padded =
      let long : x.size ≡ number_at old (here.0 + 2) 2 = sym (length-part x.at x.size old body_inside) ∙ message_long old here.0 (message_in old x) here.1 in
      rw long ((here.1).padded)

  two : length (little_bytes 2 nil_kind) ≡ 2
  two = refl

  high : x.at - 8 + length (little_bytes 2 nil_kind) ≤ x.at - 8 + (8 + length (message_in old x).body)
  high = omega (arith, two)

  begin : x.at - 8 ≡ here.0
  begin = omega (arith, (here.1).place)

  pub stands : HasMessages new m.header (front ++ record (message_in old x) { kind = nil_kind } ∷ back) m.blocks
  stands = message_rewritten old m is front (message_in old x) back cut_messages (little_bytes 2 nil_kind) (x.at - 8) (omega arith) high (record (message_in old x) { kind = nil_kind })
      (rw begin (kind_stands old here.0 (message_in old x) here.1 nil_kind (lit≤ tt)))
      (elim (continuation_cases (message_in old x)) [
        | inl blank ↦ sym blank
        | inr (b, is_16, says, names) ↦ absurd (own is_16)
      ])
      (λ (e : 0 ≡ 16). absurd (omega (arith, e)))

  same_long : length new ≡ length old
  same_long = same_length old m is front (message_in old x) back cut_messages (little_bytes 2 nil_kind) (x.at - 8) (omega arith) high

  grown : length old ≤ length new
  grown = omega (arith, same_long)

  same_front : messages_in new cut.front ≡ front
  same_front = same_messages old new grown cut.front within_front (all_left (IsHeaded old) front (message_in old x ∷ back) all_headed)
      (front_stays old m is front (message_in old x) back cut_messages (little_bytes 2 nil_kind) (x.at - 8) (omega arith) high)

  same_back : messages_in new cut.back ≡ back
  same_back = same_messages old new grown cut.back within_back.1 (all_right (IsHeaded old) front (message_in old x ∷ back) all_headed).1
      (back_stays old m is front (message_in old x) back cut_messages (little_bytes 2 nil_kind) (x.at - 8) (omega arith) high)

  same_body : part x.at x.size new ≡ part x.at x.size old
  same_body = part-with_part_other (x.at - 8) (little_bytes 2 nil_kind) old x.at x.size (omega (arith, two, behind_head, body_inside)) (inr (omega (arith, two, behind_head)))

  listed : messages_in new (set m.list k nil) ≡ front ++ record (message_in old x) { kind = nil_kind } ∷ back
  listed = ap (messages_in new) (cut.put nil) ∙ map-append (message_in new) cut.front (nil ∷ cut.back)
      ∙ ap₂ (λ (a : List Message) (b : List Message). a ++ record { kind = nil_kind; at = x.at; body = part x.at x.size new } ∷ b) same_front same_back
      ∙ ap (λ (bs : List ℕ). front ++ record { kind = nil_kind; at = x.at; body = bs } ∷ back) same_body

  pub blank_messages : messages_in new (set m.list k nil) ≡ with_nil (messages_in old m.list) k
  blank_messages =
      let set_old : set (messages_in old m.list) k (record (message_in old x) { kind = nil_kind }) ≡ front ++ record (message_in old x) { kind = nil_kind } ∷ back
      = sym (map-set (message_in old) m.list k nil) ∙ ap (messages_in old) (cut.put nil) ∙ map-append (message_in old) cut.front (nil ∷ cut.back) in
      let at_k : get_or (messages_in old m.list) k none ≡ message_in old x = get_or-map (message_in old) m.list k nowhere none low in
      listed ∙ sym set_old ∙ ap (λ (y : Message). set (messages_in old m.list) k (record y { kind = nil_kind })) (sym at_k)

  pub blank_standing : IsStanding new (record m { list = set m.list k nil })
  blank_standing =
      record {
        has = subst (λ (ms : List Message). HasMessages new m.header ms m.blocks) (sym listed) stands;
        inside = rw same_long is.inside;
        within = rw (same_long, cut.put nil) (all_append (λ (y : Placed). y.at + y.size ≤ length old) cut.front (nil ∷ cut.back) within_front (within_back.0, within_back.1));
        separate = is.separate;
      }

  pub blank_covered : (p : ℕ) → holds p (x.at - 8) (length (little_bytes 2 nil_kind)) ≤ cover p m.blocks
  blank_covered p = omega (
    arith,
    stretch_covered old m is front (message_in old x) back cut_messages p,
    holds-inner p (x.at - 8) (length (little_bytes 2 nil_kind)) (x.at - 8) (8 + length (message_in old x).body) (omega arith) high,
  )

  pub blank_count : reference_count (prefix_at new m.header) ≡ reference_count (prefix_at old m.header)
  blank_count = ap reference_count (prefix_stays old m is front (message_in old x) back cut_messages (little_bytes 2 nil_kind) (x.at - 8) (omega arith) high)
