-- A header that was met: what is followed when it was read, and fields that stand in its messages.
use Rattle.std.proofs.Common.{◌≡◌, ◌≢◌, ℕ, ◌+◌, ◌-◌, ◌<◌, ◌≤◌, List, [], ◌∷◌, length, refl, sym, subst, arith, Some, false}
use Rattle.std.specs.Prelude.{map, ◌==◌}
use Rattle.std.specs.List.{AllByRecursion, find}
use Rattle.h5_bytes.specs.Blocks.{holds, cover, Separate}
use Rattle.h5_bytes.specs.declared.Block.{Block}
use Rattle.h5_bytes.proofs.BlockLaws.{holds_in, all_append}
use Rattle.h5_model.specs.Format.MessageTypes.{continuation_kind}
use Rattle.h5_model.specs.Format.Messages.{Message, HasMessages}
use Rattle.h5_model.specs.Format.Reached.{Named, naming_of, ObjectHeader, Reached}
use Rattle.h5_model.specs.Faults.Breaches.{is_header}
use Rattle.h5_header.specs.Walk.Walked.{IsWalked, continuation_fields}
use Rattle.h5_header.specs.Walk.Met.{IsMet, IsHeaderMet, with_header}
use Rattle.h5_header.proofs.WalkLaws.WalkedLaws.{IsOther, not_followed}
use Rattle.h5_header.proofs.WalkLaws.ClaimLaws.{header_walked}
use Rattle.h5_header.proofs.WalkLaws.MessagePlaces.{messages_placed}
use Rattle.h5_header.proofs.WalkLaws.SpanLaws.{span_of, header_spans, all_low, found_covers, inside_apart}
use Rattle.h5_header.proofs.WalkLaws.DataLaws.{found_all}

pub header_others : (field header depth : ℕ) (followed : List Named) → AllByRecursion (λ (y : Named). y.field ≢ field) followed
    → AllByRecursion (λ (y : Named). y.at ≡ header → is_header y.role ≡ false) followed → AllByRecursion (IsOther (naming_of field ObjectHeader header depth)) followed
header_others field header depth [] fresh alone = tt
header_others field header depth (y ∷ ys) fresh alone = ((fresh.0, λ e. rw (alone.0 e) refl), header_others field header depth ys fresh.1 alone.1)

module _ (image : List ℕ) (held : List Block) (followed : List Named) (field header depth : ℕ) (is : IsHeaderMet image held followed field header depth) where
  others : AllByRecursion (IsOther (naming_of field ObjectHeader header depth)) followed
  others = header_others field header depth followed (is.met).fresh is.alone

  module _ (ms : List Message) (blocks : List Block) (has : HasMessages image header ms blocks) (now : List Block)
      (claimed : (p : ℕ) → cover p now ≡ cover p held + cover p blocks) where
    pub met_walked : IsWalked image now (with_header field header depth ms followed)
    met_walked = header_walked image held followed is.walked field header depth (is.met).reached others (is.met).behind (is.met).stands ms blocks has now claimed

    -- a place inside the first message of a type other than a Continuation's
    module _ (separate : Separate now) (k : ℕ) (m : Message) (other : (k == continuation_kind) ≡ false) (first : find (λ (x : Message). x.kind == k) ms ≡ Some m)
        (f : ℕ) (from : m.at ≤ f) (to : f < m.at + 8 + length m.body) where
      low : AllByRecursion (λ (x : Message). 8 ≤ x.at) ms
      low = all_low image header ms (messages_placed image header ms blocks has)

      least : 8 ≤ m.at
      least = found_all (λ (x : Message). 8 ≤ x.at) k ms m low first

      once : (q : ℕ) → cover q (map span_of ms) ≤ 1
      once q = omega (arith, header_spans image header ms blocks has q, claimed q, separate q)

      there : 1 ≤ cover (f - 8) blocks
      there =
          let hit : holds (f - 8) (m.at - 8) (8 + length m.body) ≡ 1 = holds_in (f - 8) (m.at - 8) (8 + length m.body) (omega (arith, from, least)) (omega (arith, from, to, least)) in
          omega (arith, hit, found_covers header depth f k (f - 8) ms m first, header_spans image header ms blocks has (f - 8))

      free : cover (f - 8) held ≡ 0
      free = omega (arith, there, claimed (f - 8), separate (f - 8))

      own : field ≢ f
      own e = let some : 1 ≤ cover (f - 8) held = subst (λ (g : ℕ). 1 ≤ cover (g - 8) held) e (is.met).stands in omega (arith, some, free)

      pub message_met : (y : Named) → y.field ≡ f → Reached image y → IsMet image now (with_header field header depth ms followed) y
      message_met y at reached = record {
        reached = reached;
        behind = omega (arith, at, from, least);
        stands = subst (λ (g : ℕ). 1 ≤ cover (g - 8) now) (sym at) (omega (arith, there, claimed (f - 8)));
        fresh = subst (λ (g : ℕ). AllByRecursion (λ (z : Named). z.field ≢ g) (with_header field header depth ms followed)) (sym at) (
          own,
          all_append (λ (z : Named). z.field ≢ f) (continuation_fields header depth ms) followed
              (inside_apart header depth f k ms m other low once first from to least)
              (not_followed image held followed is.walked f (omega (arith, from, least)) free),
        );
      }
