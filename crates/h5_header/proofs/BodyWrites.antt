-- A header in which bytes of one body are written: its messages are the ones that it had, but for that body.
use Rattle.std.proofs.Common.{◌≡◌, ◌≢◌, ℕ, ◌+◌, ◌-◌, ◌≤◌, inl, List, ◌∷◌, ◌++◌, map, length, sym, ◌∙◌, ap, ap₂, subst, arith}
use Rattle.std.specs.List.{AllByRecursion}
use Rattle.std.proofs.lemmas.List.{map-append}
use Rattle.h5_bytes.specs.Bytes.{part, with_part}
use Rattle.h5_bytes.specs.Blocks.{holds, cover, Inside, Keeps}
use Rattle.h5_bytes.proofs.BlockLaws.{holds-inner, all_append, all_left, all_right}
use Rattle.h5_bytes.proofs.PartLaws.{length-part, part-with_part_other}
use Rattle.h5_model.specs.Format.MessageTypes.{continuation_kind}
use Rattle.h5_model.specs.Format.Messages.{Message, HasMessages, prefix_at}
use Rattle.h5_header.specs.Listed.{Listed, message_in, messages_in, IsWithin}
use Rattle.h5_header.specs.Standing.{IsStanding}
use Rattle.h5_header.specs.declared.message.Message.{Message as Placed}
use Rattle.h5_header.proofs.StretchLaws.{stretch, IsHeaded}
use Rattle.h5_header.proofs.RewriteLaws.{headed, same_length, front_stays, back_stays, prefix_stays as prefix_kept, stretch_covered}
use Rattle.h5_header.proofs.BodiesNow.{now, Stays, has_now, listed_now, all_now_same, all_stay}

module _ (old : List ℕ) (m : Listed) (is : IsStanding old m) (front : List Placed) (x : Placed) (back : List Placed) (cut : m.list ≡ front ++ x ∷ back) where
  abbrev before : List Message
  before = messages_in old front

  abbrev behind : List Message
  behind = messages_in old back

  -- the messages, cut before and behind the one
  pub said : messages_in old m.list ≡ before ++ message_in old x ∷ behind
  said = ap (messages_in old) cut ∙ map-append (message_in old) front (x ∷ back)

  headed_all : AllByRecursion (IsHeaded old) (before ++ message_in old x ∷ behind)
  headed_all = subst (AllByRecursion (IsHeaded old)) said (headed old m is)

  headed_before : AllByRecursion (IsHeaded old) before
  headed_before = all_left (IsHeaded old) before (message_in old x ∷ behind) headed_all

  headed_behind : AllByRecursion (IsHeaded old) (message_in old x ∷ behind)
  headed_behind = all_right (IsHeaded old) before (message_in old x ∷ behind) headed_all

  pub body_inside : x.at + x.size ≤ length old
  body_inside = (all_right (λ (y : Placed). y.at + y.size ≤ length old) front (x ∷ back) (subst (IsWithin (length old)) cut is.within)).0

  long : length (message_in old x).body ≡ x.size
  long = length-part x.at x.size old body_inside

  pub behind_head : 8 ≤ x.at
  behind_head = omega (arith, ((headed_behind.0).1).place)

  module _ (own : x.kind ≢ continuation_kind) (w : List ℕ) (at : ℕ) (low : x.at ≤ at) (high : at + length w ≤ x.at + x.size) where
    abbrev new : List ℕ
    new = with_part at w old

    from : x.at - 8 ≤ at
    from = omega (arith, low)

    to : at + length w ≤ x.at - 8 + (8 + length (message_in old x).body)
    to = omega (arith, high, long, behind_head)

    same_long : length new ≡ length old
    same_long = same_length old m is before (message_in old x) behind said w at from to

    grown : length old ≤ length new
    grown = omega (arith, same_long)

    before_kept : Keeps old new (map stretch before)
    before_kept = front_stays old m is before (message_in old x) behind said w at from to

    behind_kept : Keeps old new (map stretch behind)
    behind_kept = back_stays old m is before (message_in old x) behind said w at from to

    stay : AllByRecursion (Stays old new grown) (before ++ message_in old x ∷ behind)
    stay = all_append (Stays old new grown) before (message_in old x ∷ behind) (all_stay old new grown before headed_before before_kept) (
      (
        part-with_part_other at w old (x.at - 8) 8 (omega (arith, high, body_inside)) (inl (omega (arith, low, behind_head))),
        λ continued. absurd (own continued),
      ),
      all_stay old new grown behind headed_behind.1 behind_kept,
    )

    -- the prefix stays
    pub prefix_stays : prefix_at new m.header ≡ prefix_at old m.header
    prefix_stays = prefix_kept old m is before (message_in old x) behind said w at from to

    -- the messages are those before, but for the one body
    pub said_now : messages_in new m.list ≡ before ++ message_in new x ∷ behind
    said_now =
        listed_now old new grown m.list is.within ∙ ap (map (now old new grown)) said ∙ map-append (now old new grown) before (message_in old x ∷ behind)
        ∙ ap₂ (λ (a b : List Message). a ++ record { kind = x.kind; at = x.at; body = part x.at (length (message_in old x).body) new } ∷ b)
        (all_now_same old new grown before headed_before before_kept) (all_now_same old new grown behind headed_behind.1 behind_kept)
        ∙ ap (λ (n : ℕ). before ++ record { kind = x.kind; at = x.at; body = part x.at n new } ∷ behind) long

    -- the header stands still
    pub still_standing : IsStanding new m
    still_standing = record {
      has = subst (λ (ms : List Message). HasMessages new m.header ms m.blocks) (sym (listed_now old new grown m.list is.within))
          (has_now old new grown m.header (messages_in old m.list) m.blocks is.has is.inside prefix_stays (subst (AllByRecursion (Stays old new grown)) (sym said) stay));
      inside = subst (λ (n : ℕ). Inside n m.blocks) (sym same_long) is.inside;
      within = subst (λ (n : ℕ). IsWithin n m.list) (sym same_long) is.within;
      separate = is.separate;
    }

    -- what is written stands in the header's blocks
    pub body_covered : (p : ℕ) → holds p at (length w) ≤ cover p m.blocks
    body_covered p = omega (arith, stretch_covered old m is before (message_in old x) behind said p, holds-inner p at (length w) (x.at - 8) (8 + length (message_in old x).body) from to)
