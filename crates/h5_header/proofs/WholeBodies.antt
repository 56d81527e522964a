-- A header one of whose messages has another body of the same size.
use Rattle.std.proofs.Common.{◌≡◌, ◌≢◌, ℕ, ◌<◌, ◌≤◌, List, ◌∷◌, ◌++◌, length, get_or, set, sym, ap, ap₂, ◌∙◌, arith}
use Rattle.std.proofs.lemmas.List.{length-map, get_or-map}
use Rattle.std.proofs.Math.Seq.{set-append_seam}
use Rattle.h5_bytes.specs.Bytes.{part, with_part}
use Rattle.h5_bytes.specs.Blocks.{holds, cover}
use Rattle.h5_bytes.proofs.PartLaws.{part-with_part_same}
use Rattle.h5_model.specs.Format.MessageTypes.{continuation_kind}
use Rattle.h5_model.specs.Format.Messages.{Message, prefix_at, reference_count}
use Rattle.h5_header.specs.Listed.{Listed, message_in, messages_in}
use Rattle.h5_header.specs.Standing.{IsStanding, kept_at, nowhere, with_body, none}
use Rattle.h5_header.specs.declared.message.Message.{Message as Placed}
use Rattle.h5_header.proofs.CutLaws.{IsCut, cut_by_place}
use Rattle.h5_header.proofs.BodyWrites.{body_inside, body_covered, prefix_stays, said, said_now, still_standing}

module _ (old : List ℕ) (m : Listed) (is : IsStanding old m) (k : ℕ) (low : k < length m.list) (own : (kept_at m.list k).kind ≢ continuation_kind)
    (w : List ℕ) (long : length w ≡ (kept_at m.list k).size) where
  abbrev x : Placed
  x = kept_at m.list k

  abbrev new : List ℕ
  new = with_part x.at w old

  cut : IsCut m.list k x
  cut = cut_by_place m.list k nowhere low

  pub whole_standing : IsStanding new m
  whole_standing = still_standing old m is cut.front x cut.back cut.whole own w x.at (omega arith) (omega (arith, long))

  pub whole_covered : (p : ℕ) → holds p x.at (length w) ≤ cover p m.blocks
  whole_covered = body_covered old m is cut.front x cut.back cut.whole own w x.at (omega arith) (omega (arith, long))

  -- the messages are as before, but for the body
  pub whole_written : messages_in new m.list ≡ with_body (messages_in old m.list) k w
  whole_written =
      let front = messages_in old cut.front in
      let back = messages_in old cut.back in
      let body : part x.at x.size new ≡ w = part-with_part_same x.at x.size w old (sym long) (omega (arith, long, body_inside old m is cut.front x cut.back cut.whole)) in
      let now = said_now old m is cut.front x cut.back cut.whole own w x.at (omega arith) (omega (arith, long)) in
      let this : set (front ++ message_in old x ∷ back) (length front) (record (message_in old x) { body = w }) ≡ front ++ record (message_in old x) { body = w } ∷ back
      = set-append_seam front (message_in old x) back (record (message_in old x) { body = w }) in
      let at_k : get_or (messages_in old m.list) k none ≡ message_in old x = get_or-map (message_in old) m.list k nowhere none low in
      now ∙ ap (λ (bs : List ℕ). front ++ record { kind = x.kind; at = x.at; body = bs } ∷ back) body ∙ sym this
      ∙ ap₂ (λ (ms : List Message) (n : ℕ). set ms n (record (message_in old x) { body = w })) (sym (said old m is cut.front x cut.back cut.whole)) (length-map cut.front (message_in old) ∙ cut.long)
      ∙ ap (λ (y : Message). set (messages_in old m.list) k (record y { body = w })) (sym at_k)

  pub whole_count : reference_count (prefix_at new m.header) ≡ reference_count (prefix_at old m.header)
  whole_count = ap reference_count (prefix_stays old m is cut.front x cut.back cut.whole own w x.at (omega arith) (omega (arith, long)))
