-- A header with a message more in a new block, from the image before the block was taken.
use Rattle.std.proofs.Common.{◌≡◌, ◌≢◌, ℕ, ◌+◌, ◌^◌, ◌%◌, ◌<◌, ◌≤◌, ◌==◌, ◌⊎◌, List, [], ◌∷◌, length, take, set, refl, sym, ap, ◌∙◌, subst, arith, count_by}
use Rattle.std.specs.List.{insert}
use Rattle.h5_bytes.specs.Bytes.{part}
use Rattle.h5_bytes.specs.Blocks.{holds, cover}
use Rattle.h5_bytes.specs.declared.Block.{Block}
use Rattle.h5_space.specs.Moves.{Moves, Spends}
use Rattle.h5_space.specs.Space.{Space}
use Rattle.h5_space.specs.Whole.{IsApart}
use Rattle.h5_space.proofs.MovesLaws.{moves_kept}
use Rattle.h5_model.specs.Format.MessageTypes.{datatype_kind, continuation_kind, symbol_table_kind}
use Rattle.h5_model.specs.Format.Messages.{Message, prefix_at, reference_count}
use Rattle.h5_header.specs.Added.{IsPutInBlock, lengths, named_in, spans}
use Rattle.h5_header.specs.Listed.{Listed, messages_in}
use Rattle.h5_header.specs.Standing.{IsStanding, kept_at}
use Rattle.h5_header.specs.declared.message.Message.{Message as Placed}
use Rattle.h5_header.proofs.KeptLaws.{listed-same}
use Rattle.h5_header.proofs.BlockPuts.{apart_taken, count_kept, standing_taken}
use Rattle.h5_header.proofs.BlockKept as kept

-- a block was taken for a message of this type and body, and for message k, which moves
pub record IsTaken (s t : Space) (m : Listed) (k : ℕ) (b : Block) (kind : ℕ) (body : List ℕ) : Type 0 where
  pub standing : IsStanding s.bytes m
  pub known : k < length m.list
  pub may : ((kept_at m.list k).kind ≡ symbol_table_kind) ⊎ ((kept_at m.list k).kind ≡ datatype_kind)
  pub wide : 16 ≤ (kept_at m.list k).size
  pub taken : Moves s t [] (b ∷ [])
  pub free : IsApart m.blocks s.free (length s.bytes)
  pub there : b.at + b.len ≤ length t.bytes
  pub at_low : b.at < 2 ^ 64
  pub sized : b.len ≡ 32 + length body
  pub kind_low : kind < 65536
  pub own : kind ≢ continuation_kind
  pub padded : length body % 8 ≡ 0
  pub low : length body < 65536
  pub total : length m.list < 65534

module _ {s t : Space} {m : Listed} {k : ℕ} {b : Block} {kind : ℕ} {body : List ℕ} (can : IsTaken s t m k b kind body) where
  pub is_t : IsStanding t.bytes m
  is_t = standing_taken s t m b can.taken can.free can.standing

  pub apart : (p : ℕ) → cover p m.blocks + holds p b.at b.len ≤ 1
  apart = apart_taken s t m b can.taken can.free

  same_messages : messages_in t.bytes m.list ≡ messages_in s.bytes m.list
  same_messages = listed-same s.bytes t.bytes m (can.standing).has (can.standing).within (moves_kept s t [] (b ∷ []) m.blocks can.taken can.free (can.standing).inside)

  abbrev pub after : List ℕ
  after = kept.new t.bytes m is_t k can.known can.may can.wide b can.there apart can.at_low kind can.kind_low can.own body can.padded can.low can.sized can.total

  abbrev pub x : Placed
  x = kept_at m.list k

  -- the image before the total is written
  abbrev pub with_name : List ℕ
  with_name = named_in x (part x.at 16 t.bytes) b kind body t.bytes

  pub block_room : m.header + 16 ≤ length with_name
  block_room = kept.named_room t.bytes m is_t k can.known can.may can.wide b can.there apart can.at_low kind can.kind_low can.own body can.padded can.low can.sized can.total

  -- so many blocks are named before the new one, and so many messages stand in them
  abbrev pub named : ℕ
  named = 1 + count_by (λ (y : Placed). y.kind == continuation_kind) (take k m.list)

  pub named_le : named ≤ length m.blocks
  named_le = kept.named_le t.bytes m is_t k can.known can.may can.wide b can.there apart can.at_low kind can.kind_low can.own body can.padded can.low can.sized can.total

  abbrev pub IsPlace : ℕ → Type 0
  IsPlace at = 16 + spans (take at m.list) ≡ lengths (take named m.blocks)

  pub filled : (at : ℕ) × (at ≤ length m.list) × IsPlace at
  filled = (kept.upto t.bytes m is_t k can.known can.may can.wide b can.there apart can.at_low kind can.kind_low can.own body can.padded can.low can.sized can.total, kept.upto_le t.bytes m is_t k can.known can.may can.wide b can.there apart can.at_low kind can.kind_low can.own body can.padded can.low can.sized can.total, kept.upto_filled t.bytes m is_t k can.known can.may can.wide b can.there apart can.at_low kind can.kind_low can.own body can.padded can.low can.sized can.total)

  -- what is kept where the new messages stand at a place of the list
  abbrev pub list' : ℕ → List Placed
  list' at = insert (insert (set m.list k (record x { kind = continuation_kind })) at (record { kind = x.kind; at = b.at + 8; size = 16 }))
      (at + 1) (record { kind = kind; at = b.at + 32; size = length body })

  abbrev pub blocks' : List Block
  blocks' = insert m.blocks named b

  module _ (at : ℕ) (high : at ≤ length m.list) (fills : IsPlace at) where
    list_is : list' at ≡ kept.list' t.bytes m is_t k can.known can.may can.wide b can.there apart can.at_low kind can.kind_low can.own body can.padded can.low can.sized can.total
    list_is = rw (kept.upto_is t.bytes m is_t k can.known can.may can.wide b can.there apart can.at_low kind can.kind_low can.own body can.padded can.low can.sized can.total at high fills) refl

    pub block_long : length (list' at) ≡ length m.list + 2
    block_long = ap length list_is ∙ kept.kept_long t.bytes m is_t k can.known can.may can.wide b can.there apart can.at_low kind can.kind_low can.own body can.padded can.low can.sized can.total

    pub block_standing : (room : ℕ) → IsStanding after (record { header = m.header; list = list' at; blocks = blocks'; room = room })
    block_standing room = subst (λ (ys : List Placed). IsStanding after (record { header = m.header; list = ys; blocks = blocks'; room = room })) (sym list_is) (kept.kept_standing t.bytes m is_t k can.known can.may can.wide b can.there apart can.at_low kind can.kind_low can.own body can.padded can.low can.sized can.total room)

    pub block_added : IsPutInBlock (messages_in s.bytes m.list) (messages_in after (list' at)) kind body
    block_added = subst (λ (ys : List Placed). IsPutInBlock (messages_in s.bytes m.list) (messages_in after ys) kind body) (sym list_is)
        (subst (λ (ms : List Message). IsPutInBlock ms (messages_in after (kept.list' t.bytes m is_t k can.known can.may can.wide b can.there apart can.at_low kind can.kind_low can.own body can.padded can.low can.sized can.total)) kind body) same_messages (kept.kept_added t.bytes m is_t k can.known can.may can.wide b can.there apart can.at_low kind can.kind_low can.own body can.padded can.low can.sized can.total))

  pub block_count : reference_count (prefix_at after m.header) ≡ reference_count (prefix_at s.bytes m.header)
  block_count = kept.kept_count t.bytes m is_t k can.known can.may can.wide b can.there apart can.at_low kind can.kind_low can.own body can.padded can.low can.sized can.total ∙ count_kept s.bytes t.bytes m can.standing (moves_kept s t [] (b ∷ []) m.blocks can.taken can.free (can.standing).inside)

  pub block_moves : (u : Space) → u.bytes ≡ after → u.free ≡ t.free → Moves s u m.blocks blocks'
  block_moves u ended free = kept.kept_moves t.bytes m is_t k can.known can.may can.wide b can.there apart can.at_low kind can.kind_low can.own body can.padded can.low can.sized can.total s t u refl ended free can.taken

  pub block_spends : (u : Space) → u.bytes ≡ after → u.room_bytes ≡ t.room_bytes → u.room_blocks ≡ t.room_blocks → Spends s t b.len 1 → Spends s u (32 + length body) 1
  block_spends u ended bytes blocks spent =
      let long : length u.bytes ≡ length t.bytes = ap length ended ∙ kept.kept_same t.bytes m is_t k can.known can.may can.wide b can.there apart can.at_low kind can.kind_low can.own body can.padded can.low can.sized can.total in
      record {
        grown = omega (arith, long, spent.grown, can.sized);
        bytes_left = omega (arith, bytes, spent.bytes_left, can.sized);
        blocks_left = omega (arith, blocks, spent.blocks_left);
      }
