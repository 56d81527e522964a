-- A header in which some messages stand in the place of one: their bytes are written over it, and the new total in the prefix.
use Rattle.std.proofs.Common.{◌≡◌, ◌≢◌, ℕ, ◌+◌, ◌-◌, ◌<◌, ◌≤◌, inl, inr, suc, take, drop, List, [], ◌∷◌, ◌++◌, map, length, length-append, refl, sym, ap, ap₂, ◌∙◌, subst, arith}
use Rattle.std.specs.List.{AllByRecursion}
use Rattle.std.proofs.lemmas.List.{map-append, length-map}
use Rattle.h5_bytes.specs.Bytes.{part, with_part, little_bytes, byte_at}
use Rattle.h5_bytes.specs.Blocks.{block, holds, cover, Separate, Keeps}
use Rattle.h5_bytes.proofs.BlockLaws.{holds-inner, cover-append, all_append, all_left, all_right}
use Rattle.h5_bytes.proofs.PartLaws.{length-part, length-with_part, part-with_part_same}
use Rattle.h5_bytes.proofs.FieldLaws.{number_at-with_field, number_at-with_part_other}
use Rattle.h5_space.proofs.MovesLaws.{byte-with_part}
use Rattle.h5_model.specs.Format.MessageTypes.{continuation_kind}
use Rattle.h5_model.specs.Format.Messages.{Message, Fills, HasMessages, continuation, continuations, first_size, prefix_at, reference_count, total_in}
use Rattle.h5_model.specs.Format.Plain.{messages_bytes}
use Rattle.h5_model.proofs.PlainMessages.{IsPlain, messages_from, fills-plain, length-messages_from}
use Rattle.h5_model.proofs.Frames.{keeps_then}
use Rattle.h5_header.specs.Listed.{Listed, message_in, messages_in, IsWithin}
use Rattle.h5_header.specs.Standing.{IsStanding, kept_at, nowhere}
use Rattle.h5_header.specs.declared.message.Message.{Message as Placed}
use Rattle.h5_header.proofs.PrefixLaws.{first_size-is, reference_count-is, total-is, version-is}
use Rattle.h5_header.proofs.MetLaws.{continuation_cases}
use Rattle.h5_header.proofs.CutLaws.{IsCut, back_is, front_is}
use Rattle.h5_header.proofs.StretchLaws.{stretch, Follow, IsHeaded, follow_of, follow_cover, follow_headed, follow_kept, headed_kept, stretches_inside}
use Rattle.h5_header.proofs.BesideLaws.{kept_beside}
use Rattle.h5_header.proofs.SpliceLaws.{keeps_left, keeps_right}
use Rattle.h5_header.proofs.RewriteLaws.{same_messages, beside, prefix_stays, front_stays, back_stays, stretch_covered, prefix_covered, messages_rewritten, header_room}
use Rattle.h5_header.proofs.PlacedLaws.{placed, placed_back, placed_within, no_names, no_continuation}
use Rattle.h5_header.proofs.BlankLaws.{all_headed, behind_head, body_inside, cut as kept_cut, cut_messages, within_back, within_front}

module _ (old : List ℕ) (m : Listed) (is : IsStanding old m) (k : ℕ) (low : k < length m.list) (own : (kept_at m.list k).kind ≢ continuation_kind)
    (ms : List (ℕ × List ℕ)) (plain : AllByRecursion IsPlain ms) (long : length (messages_bytes ms) ≡ 8 + (kept_at m.list k).size)
    (small : length m.list - 1 + length ms < 65536) where
  abbrev pub x : Placed
  x = kept_at m.list k

  abbrev pub cut : IsCut m.list k x
  cut = kept_cut old m is k low own

  abbrev pub front : List Message
  front = messages_in old cut.front

  abbrev pub back : List Message
  back = messages_in old cut.back

  body_long : length (message_in old x).body ≡ x.size
  body_long = length-part x.at x.size old (body_inside old m is k low own)

  -- ---- the messages' bytes

  abbrev pub at : ℕ
  at = x.at - 8

  abbrev pub w : List ℕ
  w = messages_bytes ms

  high : at + length w ≤ at + (8 + length (message_in old x).body)
  high = omega (arith, long, body_long)

  pub room : at + length w ≤ length old
  room = omega (arith, long, body_inside old m is k low own, behind_head old m is k low own)

  abbrev pub one : List ℕ
  one = with_part at w old

  one_long : length one ≡ length old
  one_long = length-with_part at w old room

  grown_one : length old ≤ length one
  grown_one = omega (arith, one_long)

  front_one : Keeps old one (map stretch front)
  front_one = front_stays old m is front (message_in old x) back (cut_messages old m is k low own) w at (omega arith) high

  back_one : Keeps old one (map stretch back)
  back_one = back_stays old m is front (message_in old x) back (cut_messages old m is k low own) w at (omega arith) high

  prefix_one : prefix_at one m.header ≡ prefix_at old m.header
  prefix_one = prefix_stays old m is front (message_in old x) back (cut_messages old m is k low own) w at (omega arith) high

  -- the messages that are written, at their places
  abbrev pub ws : List Message
  ws = messages_from at ms

  abbrev end : ℕ
  end = x.at + length (message_in old x).body

  made_one : Follow one at ws end
  made_one =
      let there : part at (length w) one ≡ w = part-with_part_same at (length w) w old refl room in
      let filled : Fills at w 0 (messages_from (at + 0) ms) = fills-plain at 0 w [] ms refl refl plain in
      let none : at + 0 ≡ at = omega arith in
      let fills : Fills at (part at (length w) one) 0 ws = subst (λ (bs : List ℕ). Fills at bs 0 ws) (sym there) (rw none at filled) in
      let last : at + length w ≡ end = omega (arith, long, body_long, behind_head old m is k low own) in
      rw (none, last) at (follow_of one (block at (length w)) (omega (arith, room, one_long)) 0 ws fills)

  abbrev pub after : List Message
  after = front ++ (ws ++ back)

  headed_one : AllByRecursion (IsHeaded one) after
  headed_one =
      all_append (IsHeaded one) front (ws ++ back) (headed_kept old one grown_one front (all_left (IsHeaded old) front (message_in old x ∷ back) (all_headed old m is k low own)) front_one)
      (all_append (IsHeaded one) ws back (follow_headed one at ws end made_one)
      (headed_kept old one grown_one back (all_right (IsHeaded old) front (message_in old x ∷ back) (all_headed old m is k low own)).1 back_one))

  -- ---- the total

  abbrev pub total : ℕ
  total = length m.list - 1 + length ms

  abbrev pub coded : List ℕ
  coded = little_bytes 2 total

  two : length coded ≡ 2
  two = refl

  abbrev pub new : List ℕ
  new = with_part (m.header + 2) coded one

  total_room : m.header + 2 + length coded ≤ length one
  total_room = omega (arith, two, header_room old m is, one_long)

  new_long : length new ≡ length old
  new_long = length-with_part (m.header + 2) coded one total_room ∙ one_long

  grown_new : length one ≤ length new
  grown_new = omega (arith, new_long, one_long)

  grown : length old ≤ length new
  grown = omega (arith, new_long)

  apart : Separate (block m.header 16 ∷ map stretch after)
  apart p =
      let whole : cover p (map stretch after) ≡ cover p (map stretch front) + cover p (map stretch (ws ++ back))
      = ap (cover p) (map-append stretch front (ws ++ back)) ∙ cover-append p (map stretch front) (map stretch (ws ++ back)) in
      let rest : cover p (map stretch (ws ++ back)) ≡ cover p (map stretch ws) + cover p (map stretch back)
      = ap (cover p) (map-append stretch ws back) ∙ cover-append p (map stretch ws) (map stretch back) in
      let size : end - at ≡ 8 + length (message_in old x).body = omega (arith, behind_head old m is k low own) in
      let mine : cover p (map stretch ws) ≡ holds p at (8 + length (message_in old x).body) = rw size at (follow_cover p one at ws end made_one) in
      omega (arith, whole, rest, mine, beside old m is front (message_in old x) back (cut_messages old m is k low own) w at (omega arith) high p, cover-append p (map stretch front) (map stretch back))

  kept_two : Keeps one new (map stretch after)
  kept_two = kept_beside one coded (m.header + 2) (block m.header 16) (map stretch after) (omega arith) (omega (arith, two)) (omega (arith, header_room old m is, one_long)) apart
      (stretches_inside one after headed_one)

  rest_two : Keeps one new (map stretch (ws ++ back))
  rest_two = keeps_right one new grown_new front (ws ++ back) kept_two

  front_new : Keeps old new (map stretch front)
  front_new = keeps_then old one new (map stretch front) front_one (keeps_left one new grown_new front (ws ++ back) kept_two)

  back_new : Keeps old new (map stretch back)
  back_new = keeps_then old one new (map stretch back) back_one (keeps_right one new grown_new ws back rest_two)

  made_new : Follow new at ws end
  made_new = follow_kept one new grown_new at ws end (keeps_left one new grown_new ws back rest_two) made_one

  version : byte_at (prefix_at new m.header) 0 ≡ 1
  version = version-is new m.header ∙ byte-with_part (m.header + 2) coded one m.header total_room (inl (omega arith)) ∙ sym (version-is one m.header)
      ∙ ap (λ p. byte_at p 0) prefix_one ∙ (is.has).version

  first_same : first_size (prefix_at new m.header) ≡ first_size (prefix_at old m.header)
  first_same = first_size-is new m.header ∙ number_at-with_part_other (m.header + 2) coded one (m.header + 8) 4 total_room (inr (omega (arith, two))) ∙ sym (first_size-is one m.header)
      ∙ ap first_size prefix_one

  pub put_count : reference_count (prefix_at new m.header) ≡ reference_count (prefix_at old m.header)
  put_count = reference_count-is new m.header ∙ number_at-with_part_other (m.header + 2) coded one (m.header + 4) 4 total_room (inr (omega (arith, two)))
      ∙ sym (reference_count-is one m.header) ∙ ap reference_count prefix_one

  after_long : length after ≡ total
  after_long = omega (
    arith,
    length-append front (ws ++ back),
    length-append ws back,
    length-messages_from at ms,
    length-map cut.front (message_in old),
    length-map cut.back (message_in old),
    ap length cut.whole,
    length-append cut.front (x ∷ cut.back),
  )

  total_same : total_in (prefix_at new m.header) ≡ length after
  total_same = total-is new m.header ∙ number_at-with_field one (m.header + 2) 2 total (omega (arith, header_room old m is, one_long)) (omega (arith, small)) ∙ sym after_long

  names : continuations ws ≡ continuation (message_in old x)
  names = no_names at ms plain ∙ elim (continuation_cases (message_in old x)) [
    | inl blank ↦ sym blank
    | inr (b, is_16, says, named) ↦ absurd (own is_16)
  ]

  has_after : HasMessages new m.header after m.blocks
  has_after = messages_rewritten old new m is grown front (message_in old x) back ws (cut_messages old m is k low own) front_new back_new made_new names (no_continuation at ms plain) version first_same total_same

  -- ---- what is kept of it

  abbrev pub put_list : List Placed
  put_list = cut.front ++ (map placed ws ++ cut.back)

  -- the messages are those before, with others in the place of one
  pub put_messages : messages_in new put_list ≡ after
  put_messages =
      map-append (message_in new) cut.front (map placed ws ++ cut.back)
      ∙ ap₂ (λ (a b : List Message). a ++ b)
      (same_messages old new grown cut.front (within_front old m is k low own) (all_left (IsHeaded old) front (message_in old x ∷ back) (all_headed old m is k low own)) front_new)
      (map-append (message_in new) (map placed ws) cut.back
      ∙ ap₂ (λ (a b : List Message). a ++ b) (placed_back new ws (follow_headed new at ws end made_new))
      (same_messages old new grown cut.back (within_back old m is k low own).1 (all_right (IsHeaded old) front (message_in old x ∷ back) (all_headed old m is k low own)).1 back_new))

  pub put_standing : IsStanding new (record m { list = put_list })
  put_standing = record {
    has = subst (λ (zs : List Message). HasMessages new m.header zs m.blocks) (sym put_messages) has_after;
    inside = rw new_long is.inside;
    within = rw new_long (all_append (λ (y : Placed). y.at + y.size ≤ length old) cut.front (map placed ws ++ cut.back) (within_front old m is k low own)
        (all_append (λ (y : Placed). y.at + y.size ≤ length old) (map placed ws) cut.back
        (subst (λ (n : ℕ). IsWithin n (map placed ws)) new_long (placed_within new ws (follow_headed new at ws end made_new))) (within_back old m is k low own).1));
    separate = is.separate;
  }

  -- what is written stands in the header's blocks
  pub put_covered : (p : ℕ) → holds p at (length w) ≤ cover p m.blocks
  put_covered p = omega (
    arith,
    stretch_covered old m is front (message_in old x) back (cut_messages old m is k low own) p,
    holds-inner p at (length w) at (8 + length (message_in old x).body) (omega arith) high,
  )

  pub total_covered : (p : ℕ) → holds p (m.header + 2) (length coded) ≤ cover p m.blocks
  total_covered = prefix_covered old m is (m.header + 2) (length coded) (omega arith) (omega (arith, two))

  pub put_list_is : put_list ≡ take k m.list ++ (map placed ws ++ drop (suc k) m.list)
  unfolding kept_cut
  put_list_is = ap₂ (λ (a b : List Placed). a ++ (map placed ws ++ b)) (front_is m.list k nowhere low) (back_is m.list k nowhere low)

  pub list_long : length put_list ≡ total
  list_long = sym (length-map put_list (message_in new)) ∙ ap length put_messages ∙ after_long
