-- Headers of several objects in which the counts of links are set, one after another: no other header changes with one of them.
use Rattle.std.proofs.Common.{◌≡◌, inl, inr, ℕ, ◌+◌, ◌<◌, ◌≤◌, List, [], ◌++◌, length, refl, sym, ap, ◌∙◌, subst, arith, Option, Some}
use Rattle.std.proofs.lemmas.Bool.{cases_eq}
use Rattle.std.specs.Prelude.{slice_get}
use Rattle.std.specs.Option.{option_flatten, option_map_or}
use Rattle.std.proofs.lemmas.Option.{same_Some, slice_get_within}
use Rattle.h5_bytes.specs.Blocks.{cover, Keeps}
use Rattle.h5_bytes.specs.declared.Block.{Block}
use Rattle.h5_bytes.proofs.BlockLaws.{cover-append}
use Rattle.h5_model.specs.Format.Messages.{prefix_at, reference_count}
use Rattle.h5_space.specs.Moves.{Moves}
use Rattle.h5_space.specs.Space.{Space}
use Rattle.h5_space.specs.Whole.{IsApart}
use Rattle.h5_space.proofs.MovesLaws.{moves_apart, moves_kept, moves_none, moves_then}
use Rattle.h5_header.specs.Listed.{messages_in}
use Rattle.h5_header.specs.Standing.{IsStanding}
use Rattle.h5_header.proofs.BlockPuts.{count_kept, standing_kept}
use Rattle.h5_header.proofs.KeptLaws.{listed-same}
use Rattle.h5_group.proofs.ClimbSteps.{moves_within}
use Rattle.h5_laws.proofs.Lists.{in_at, in_contains, contains_in, stands_at}
use Rattle.h5_open.specs.declared.opened.object.OpenedObject.{OpenedObject}
use Rattle.h5_open.specs.LinkTaken.{AreCountsLowered, AreHeadersStanding, header_blocks_at, lowered_blocks}
use Rattle.h5_open.specs.Opened.Objects.{header_of}
use Rattle.h5_open.proofs.ListCovers.{member_cover, pair_cover}

-- An object whose header stands, with the messages that it had.
pub record IsHeaderStill (old new : List ℕ) (o : OpenedObject) : Type 0 where
  pub standing : IsStanding new o.messages
  pub messages : messages_in new o.messages.list ≡ messages_in old o.messages.list

-- The first so many of these headers count the links that are left; the others stand as they did.
pub record AreLoweredTo (old new : Space) (slots : List (Option OpenedObject)) (less : List (ℕ × ℕ)) (i : ℕ) : Type 0 where
  pub each : (k n left : ℕ) (o : OpenedObject) → slice_get less k ≡ Some (n, left) → slice_get slots n ≡ Some (Some o) → IsHeaderStill old.bytes new.bytes o
  pub counts : (k n left : ℕ) (o : OpenedObject) → k < i → slice_get less k ≡ Some (n, left) → slice_get slots n ≡ Some (Some o)
      → reference_count (prefix_at new.bytes (header_of o)) ≡ left
  pub moves : Moves old new (lowered_blocks slots less) (lowered_blocks slots less)
  pub as_long : length new.bytes ≡ length old.bytes
  pub room : new.room_blocks ≡ old.room_blocks

-- the blocks of the header in a slot
pub header_blocks_there : (slots : List (Option OpenedObject)) (n : ℕ) (o : OpenedObject) → slice_get slots n ≡ Some (Some o) → header_blocks_at slots n ≡ o.messages.blocks
header_blocks_there slots n o at = ap (λ (s : Option (Option OpenedObject)). option_map_or (λ (x : OpenedObject). x.messages.blocks) (option_flatten s) []) at

same_object : (slots : List (Option OpenedObject)) (m n : ℕ) (x o : OpenedObject) → m ≡ n → slice_get slots m ≡ Some (Some x) → slice_get slots n ≡ Some (Some o) → o ≡ x
same_object slots m n x o same at there = same_Some o x (same_Some (Some o) (Some x) (sym there ∙ ap (slice_get slots) (sym same) ∙ at))

module _ (old : Space) (slots : List (Option OpenedObject)) (less : List (ℕ × ℕ)) where
  abbrev all : List Block
  all = lowered_blocks slots less

  -- none yet
  pub none_lowered : AreHeadersStanding old.bytes slots less → AreLoweredTo old old slots less 0
  none_lowered standing = record {
    each = λ k n left o at there.
        let its = standing n left (contains_in (n, left) less (in_at less k (n, left) at)) in
        record {
          standing = subst (λ (x : OpenedObject). IsStanding old.bytes x.messages) (same_object slots n n o its.0 refl there its.1) its.2;
          messages = refl;
        };
    counts = λ k n left o low at there. absurd (omega (arith, low));
    moves = moves_none old all;
    as_long = refl;
    room = refl;
  }

  -- one more
  module _ (apart : IsApart all old.free (length old.bytes)) (now next : Space) (i n left : ℕ) (o : OpenedObject) (at : slice_get less i ≡ Some (n, left))
      (there : slice_get slots n ≡ Some (Some o)) (so_far : AreLoweredTo old now slots less i) (standing : IsStanding next.bytes o.messages)
      (messages : messages_in next.bytes o.messages.list ≡ messages_in now.bytes o.messages.list) (count : reference_count (prefix_at next.bytes (header_of o)) ≡ left)
      (moves : Moves now next o.messages.blocks o.messages.blocks) (long : length next.bytes ≡ length now.bytes) (room : next.room_blocks ≡ now.room_blocks) where
    abbrev header : List Block
    header = o.messages.blocks

    abbrev own : ℕ × ℕ → List Block
    own l = header_blocks_at slots l.0

    apart_now : IsApart all now.free (length now.bytes)
    apart_now q =
        let was : IsApart (all ++ []) old.free (length old.bytes) = λ r. omega (arith, apart r, cover-append r all []) in
        omega (arith, moves_apart old now all all [] so_far.moves was q, cover-append q all [])

    here : (q : ℕ) → cover q (own (n, left)) ≡ cover q header
    here q = ap (cover q) (header_blocks_there slots n o there)

    within : (q : ℕ) → cover q header ≤ cover q all
    within q =
        let same = here q in
        omega (arith, same, member_cover own q less (n, left) (in_at less i (n, left) at))

    -- the header of another of them keeps its bytes
    module _ (k m rest : ℕ) (x : OpenedObject) (at' : slice_get less k ≡ Some (m, rest)) (there' : slice_get slots m ≡ Some (Some x)) (other : k ≡ i → ⊥) where
      was : IsHeaderStill old.bytes now.bytes x
      was = so_far.each k m rest x at' there'

      keeps : Keeps now.bytes next.bytes x.messages.blocks
      keeps = moves_kept now next header header x.messages.blocks moves
          (λ q.
          let first = here q in
          let second = ap (cover q) (header_blocks_there slots m x there') in
          omega (
            arith,
            apart_now q,
            first,
            second,
            pair_cover own q less i k (n, left) (m, rest) at at' (λ e. other (sym e)),
            cover-append q header x.messages.blocks,
          ))
          was.standing.inside

      stays : IsHeaderStill old.bytes next.bytes x
      stays = record {
        standing = standing_kept now.bytes next.bytes x.messages (omega (arith, long)) was.standing keeps;
        messages = listed-same now.bytes next.bytes x.messages was.standing.has was.standing.within keeps ∙ was.messages;
      }

      as_many : reference_count (prefix_at next.bytes (header_of x)) ≡ reference_count (prefix_at now.bytes (header_of x))
      as_many = count_kept now.bytes next.bytes x.messages was.standing keeps

    still : IsHeaderStill old.bytes next.bytes o
    still = record { standing = standing; messages = messages ∙ (so_far.each i n left o at there).messages }

    one_of : (k m rest : ℕ) → k ≡ i → slice_get less k ≡ Some (m, rest) → ◌≡◌ {A = ℕ × ℕ} (n, left) (m, rest)
    one_of k m rest same at' = same_Some (n, left) (m, rest) (sym at ∙ ap (slice_get less) (sym same) ∙ at')

    object_is : (k m rest : ℕ) (x : OpenedObject) → k ≡ i → slice_get less k ≡ Some (m, rest) → slice_get slots m ≡ Some (Some x) → o ≡ x
    object_is k m rest x same at' there' =
        same_object slots m n x o (sym (ap (λ (l : ℕ × ℕ). l.0) (one_of k m rest same at'))) there' there

    each_next : (k m rest : ℕ) (x : OpenedObject) → slice_get less k ≡ Some (m, rest) → slice_get slots m ≡ Some (Some x) → IsHeaderStill old.bytes next.bytes x
    each_next k m rest x at' there' = elim (cases_eq k i) [
      | inl same ↦ subst (IsHeaderStill old.bytes next.bytes) (object_is k m rest x same at' there') still
      | inr other ↦ stays k m rest x at' there' other
    ]

    counts_next : (k m rest : ℕ) (x : OpenedObject) → k < i + 1 → slice_get less k ≡ Some (m, rest) → slice_get slots m ≡ Some (Some x)
        → reference_count (prefix_at next.bytes (header_of x)) ≡ rest
    counts_next k m rest x low at' there' = elim (cases_eq k i) [
      | inl same ↦
          ap (λ (y : OpenedObject). reference_count (prefix_at next.bytes (header_of y))) (sym (object_is k m rest x same at' there')) ∙ count
          ∙ ap (λ (l : ℕ × ℕ). l.1) (one_of k m rest same at')
      | inr other ↦ as_many k m rest x at' there' other ∙ so_far.counts k m rest x (omega (arith, low, other)) at' there'
    ]

    pub one_lowered : AreLoweredTo old next slots less (i + 1)
    one_lowered = record {
      each = each_next;
      counts = counts_next;
      moves = moves_then old now next all all all so_far.moves (moves_within now next header all all moves within (λ q. refl));
      as_long = long ∙ so_far.as_long;
      room = room ∙ so_far.room;
    }

  -- and so all
  pub all_lowered : (new : Space) (i : ℕ) → length less ≤ i → AreLoweredTo old new slots less i → AreCountsLowered old new slots less
  all_lowered new i high is = record {
    each = λ n left o there at.
        let k = stands_at (n, left) less (in_contains (n, left) less there) in
        let its = is.each k.0 n left o k.1 at in
        record {
          standing = its.standing;
          messages = its.messages;
          count = is.counts k.0 n left o (omega (arith, high, slice_get_within less k.0 (n, left) k.1)) k.1 at;
        };
    moves = is.moves;
    as_long = is.as_long;
  }
