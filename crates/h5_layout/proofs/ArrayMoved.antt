-- An array whose data are moved, or whose Data Layout message is written: its header stands still, and says of all else what it said.
use Rattle.std.proofs.Common.{◌≡◌, ◌≢◌, ℕ, ◌+◌, ◌≤◌, List, [], ◌∷◌, ◌++◌, length, map, refl, sym, ap, ◌∙◌, subst, arith, Some}
use Rattle.std.specs.Prelude.{option_and_then, option_map}
use Rattle.std.specs.List.{filter}
use Rattle.h5_bytes.specs.Bytes.{part, with_part}
use Rattle.h5_bytes.specs.Blocks.{block, cover, holds, Inside, Keeps}
use Rattle.h5_bytes.specs.declared.Block.{Block}
use Rattle.h5_bytes.proofs.BlockLaws.{cover-append}
use Rattle.h5_bytes.proofs.PartLaws.{length-part, length-with_part, part-with_part_same, with_part-with_part}
use Rattle.h5_model.specs.Format.MessageTypes.{data_layout_kind}
use Rattle.h5_model.specs.Format.Layout.{Layout, layout_of}
use Rattle.h5_model.specs.Format.Messages.{Message, count_of, first_body, reference_count}
use Rattle.h5_model.specs.Format.Reads.{is_attribute_message, is_kept, kept_of}
use Rattle.h5_model.specs.Format.Superblock.{k_values, highest_k}
use Rattle.h5_model.specs.Format.Described.{IsChunkSmall, Described, HasArray}
use Rattle.h5_model.proofs.KLaws.{same_chunk, same_length}
use Rattle.h5_space.specs.Moves.{Moves, Spends}
use Rattle.h5_space.specs.Space.{Space}
use Rattle.h5_space.specs.Whole.{IsApart}
use Rattle.h5_space.proofs.MovesLaws.{moves_apart, moves_beside, moves_kept, moves_same, moves_then}
use Rattle.h5_header.specs.Kinds.{IsOfDataset}
use Rattle.h5_header.specs.Listed.{Listed, messages_in}
use Rattle.h5_header.specs.Standing.{IsStanding}
use Rattle.h5_header.specs.declared.message.Message.{Message as Placed}
use Rattle.h5_header.proofs.BesideLaws.{moves_covered, spends_write}
use Rattle.h5_header.proofs.BlockPuts.{count_kept, standing_kept}
use Rattle.h5_header.proofs.FirstWritten.{HasNewBody, IsBodyWritten, body_written, same_count, same_filter, written_covered}
use Rattle.h5_header.proofs.FoundLaws.{first_body-in, within_at}
use Rattle.h5_header.proofs.KeptLaws.{listed-same}
use Rattle.h5_chunks.proofs.SuperblockStays.{k_stays, superblock_of}
use Rattle.h5_layout.specs.ArrayEdits.{IsArrayApart, IsArrayMoved, array_blocks, described_in}
use Rattle.h5_layout.specs.Data.{AreDataRead, data_blocks}
use Rattle.h5_layout.specs.LayoutEdits.{IsLayoutWritten}
use Rattle.h5_layout.specs.Told.{array_told}
use Rattle.h5_layout.proofs.Relaid.{relaid}
use Rattle.h5_layout.proofs.ToldLaws.{told}

-- what is apart from the superblock is apart from one of the same length
pub beside_superblock : (s t : Space) → k_values t.bytes ≡ k_values s.bytes → (bs : List Block) → IsApart (superblock_of s ∷ bs) t.free (length t.bytes)
    → IsApart (superblock_of t ∷ bs) t.free (length t.bytes)
beside_superblock s t k bs apart = subst (λ n. IsApart (block 0 n ∷ bs) t.free (length t.bytes)) (sym (same_length t.bytes s.bytes k)) apart

-- ---- the data are moved

module _ (s t : Space) (m : Listed) (was : IsArrayApart s m) (a b : List Block)
    (blocks_were : data_blocks s.bytes (described_in s.bytes m).fixed (described_in s.bytes m).layout ≡ a) (moves : Moves s t a b) where
  abbrev others : List Block
  others = superblock_of s ∷ m.blocks

  pub others_apart : IsApart (a ++ others) s.free (length s.bytes)
  others_apart p =
      let laid = ap (cover p) blocks_were in
      omega (arith, was.apart p, laid, cover-append p a others, cover-append p m.blocks (data_blocks s.bytes (described_in s.bytes m).fixed (described_in s.bytes m).layout))

  pub header_keeps : Keeps s.bytes t.bytes m.blocks
  header_keeps = (moves_kept s t a b others moves others_apart (omega (arith, was.long), was.standing.inside)).1

  pub header_stands : IsStanding t.bytes m
  header_stands = standing_kept s.bytes t.bytes m moves.grown was.standing header_keeps

  pub said_still : messages_in t.bytes m.list ≡ messages_in s.bytes m.list
  said_still = listed-same s.bytes t.bytes m was.standing.has was.standing.within header_keeps

  pub array_still : described_in t.bytes m ≡ described_in s.bytes m
  array_still = ap array_told said_still

  -- the superblock is none of the blocks that are moved
  pub k_still : k_values t.bytes ≡ k_values s.bytes
  k_still = k_stays s t a b m.blocks moves others_apart was.long

  now_apart : IsApart (b ++ others) t.free (length t.bytes)
  now_apart = moves_apart s t a b others moves others_apart

  module _ (read : AreDataRead t.bytes (described_in s.bytes m).fixed (described_in s.bytes m).layout)
      (blocks_are : data_blocks t.bytes (described_in s.bytes m).fixed (described_in s.bytes m).layout ≡ b) where
    blocks_now : data_blocks t.bytes (described_in t.bytes m).fixed (described_in t.bytes m).layout ≡ b
    blocks_now = ap (λ (x : Described). data_blocks t.bytes x.fixed x.layout) array_still ∙ blocks_are

    still_apart : IsArrayApart t m
    still_apart = record {
      standing = header_stands;
      kinds = subst IsOfDataset (sym said_still) was.kinds;
      array = subst (λ (ms : List Message). HasArray ms (array_told ms)) (sym said_still) was.array;
      read = subst (λ (x : Described). AreDataRead t.bytes x.fixed x.layout) (sym array_still) read;
      apart = beside_superblock s t k_still (array_blocks t.bytes m) (λ p.
          let laid = ap (cover p) blocks_now in
          omega (arith, now_apart p, laid, cover-append p b others, cover-append p m.blocks (data_blocks t.bytes (described_in t.bytes m).fixed (described_in t.bytes m).layout)));
      long = omega (arith, was.long, moves.grown, same_length t.bytes s.bytes k_still);
      k_some = subst (λ n. 1 ≤ n) (sym (same_chunk t.bytes s.bytes k_still)) was.k_some;
      k_few = subst (λ n. n ≤ highest_k) (sym (same_chunk t.bytes s.bytes k_still)) was.k_few;
    }

    pub data_moved : IsArrayMoved s t m m
    data_moved = record {
      stand = still_apart;
      header = refl;
      count = count_kept s.bytes t.bytes m was.standing header_keeps;
      known = λ known. known;
      others = record {
        attributes = ap (λ (ms : List Message). map (λ (x : Message). x.body) (filter is_attribute_message ms)) said_still;
        kept = ap (λ (ms : List Message). map kept_of (filter is_kept ms)) said_still;
      };
      moves = moves_same s t (a ++ m.blocks) (b ++ m.blocks) (array_blocks s.bytes m) (array_blocks t.bytes m)
          (λ p. let laid = ap (cover p) blocks_were in
          omega (arith, laid, cover-append p a m.blocks, cover-append p m.blocks (data_blocks s.bytes (described_in s.bytes m).fixed (described_in s.bytes m).layout)))
          (λ p. let laid = ap (cover p) blocks_now in
          omega (arith, laid, cover-append p b m.blocks, cover-append p m.blocks (data_blocks t.bytes (described_in t.bytes m).fixed (described_in t.bytes m).layout)))
          (moves_beside s t a b m.blocks moves);
      k = k_still;
    }

-- ---- one move after another, of which the first leaves the messages as they are

pub moved_then : (s t u : Space) (m m' : Listed) → IsArrayMoved s t m m → IsArrayMoved t u m m' → IsArrayMoved s u m m'
moved_then s t u m m' first second = record {
  stand = second.stand;
  header = second.header;
  count = second.count ∙ first.count;
  known = second.known;
  others = record {
    attributes = second.others.attributes ∙ first.others.attributes;
    kept = second.others.kept ∙ first.others.kept;
  };
  moves = moves_then s t u (array_blocks s.bytes m) (array_blocks t.bytes m) (array_blocks u.bytes m') first.moves second.moves;
  k = second.k ∙ first.k;
}

-- ---- blocks are taken, and the Data Layout message is written

module _ (old mid new : Space) (m : Listed) (was : IsArrayApart old m)
    (none : data_blocks old.bytes (described_in old.bytes m).fixed (described_in old.bytes m).layout ≡ []) (bs : List Block) (taken : Moves old mid [] bs)
    (from : ℕ) (w : List ℕ) (wrote : IsLayoutWritten mid new m.list from w) where
  abbrev a : Described
  a = described_in old.bytes m

  abbrev x : Placed
  x = wrote.place

  abbrev was_said : List Message
  was_said = messages_in old.bytes m.list

  abbrev said : List Message
  said = messages_in new.bytes m.list

  mid_stands : IsStanding mid.bytes m
  mid_stands = header_stands old mid m was [] bs none taken

  low : x.at ≤ x.at + from
  low = omega arith

  high : x.at + from + length w ≤ x.at + x.size
  high = omega (arith, wrote.room)

  bytes_are : new.bytes ≡ with_part (x.at + from) w mid.bytes
  bytes_are = ap (λ (s : Space). s.bytes) wrote.image

  free_is : new.free ≡ mid.free
  free_is = ap (λ (s : Space). s.free) wrote.image

  not_continued : ◌≢◌ {A = ℕ} 8 16
  not_continued is = absurd (omega (arith, is))

  written : IsBodyWritten mid.bytes new.bytes m data_layout_kind x
  written = subst (λ (bytes : List ℕ). IsBodyWritten mid.bytes bytes m data_layout_kind x) (sym bytes_are) (body_written mid.bytes m mid_stands data_layout_kind not_continued x wrote.found w (x.at + from) low high)

  covered : (p : ℕ) → holds p (x.at + from) (length w) ≤ cover p m.blocks
  covered = written_covered mid.bytes m mid_stands 8 not_continued x wrote.found w (x.at + from) low high

  inside : x.at + x.size ≤ length mid.bytes
  inside = within_at (length mid.bytes) 8 m.list x mid_stands.within wrote.found

  fit : x.at + from + length w ≤ length mid.bytes
  fit = omega (arith, high, inside)

  -- nothing is spent by the write
  pub layout_spends : Spends mid new 0 0
  layout_spends = spends_write mid new w (x.at + from) fit wrote.image

  pub layout_long : length new.bytes ≡ length mid.bytes
  layout_long = ap length bytes_are ∙ length-with_part (x.at + from) w mid.bytes fit

  -- the blocks that were taken, and the header's, are apart from each other
  abbrev all : List Block
  all = m.blocks ++ (superblock_of old ∷ bs)

  mid_apart : IsApart all mid.free (length mid.bytes)
  mid_apart p =
      let others = superblock_of old ∷ m.blocks in
      let both = moves_apart old mid [] bs others taken (others_apart old mid m was [] bs none taken) p in
      omega (arith, both, cover-append p bs others, cover-append p m.blocks (superblock_of old ∷ bs))

  header_writes : Moves mid new m.blocks m.blocks
  header_writes = moves_covered mid new w (x.at + from) m.blocks covered fit bytes_are free_is

  k_mid : k_values mid.bytes ≡ k_values old.bytes
  k_mid = k_still old mid m was [] bs none taken

  -- nor is it written
  pub layout_k : k_values new.bytes ≡ k_values mid.bytes
  layout_k =
      let same = same_length mid.bytes old.bytes k_mid in
      k_stays mid new m.blocks m.blocks bs header_writes (subst (λ n. IsApart (m.blocks ++ (block 0 n ∷ bs)) mid.free (length mid.bytes)) (sym same) mid_apart)
      (omega (arith, was.long, taken.grown, same))

  k_new : k_values new.bytes ≡ k_values old.bytes
  k_new = layout_k ∙ k_mid

  pub taken_keeps : Inside (length mid.bytes) bs → Keeps mid.bytes new.bytes bs
  taken_keeps within =
      (moves_kept mid new m.blocks m.blocks (superblock_of old ∷ bs) header_writes mid_apart (omega (arith, was.long, taken.grown), within)).1

  -- the body is the old one with these bytes
  abbrev pub body_now : List ℕ
  body_now = with_part from w (part wrote.place.at wrote.place.size old.bytes)

  messages : HasNewBody data_layout_kind was_said said (part x.at x.size new.bytes)
  messages = subst (λ (ms : List Message). HasNewBody data_layout_kind ms said (part x.at x.size new.bytes)) (said_still old mid m was [] bs none taken) written.messages

  body_was : first_body data_layout_kind was_said ≡ Some (part x.at x.size old.bytes)
  body_was = first_body-in old.bytes 8 m.list ∙ ap (option_map (λ (y : Placed). part y.at y.size old.bytes)) wrote.found

  body_still : part x.at x.size mid.bytes ≡ part x.at x.size old.bytes
  body_still =
      let now : first_body data_layout_kind (messages_in mid.bytes m.list) ≡ Some (part x.at x.size mid.bytes)
      = first_body-in mid.bytes 8 m.list ∙ ap (option_map (λ (y : Placed). part y.at y.size mid.bytes)) wrote.found in
      same_body (part x.at x.size mid.bytes) (part x.at x.size old.bytes) (sym now ∙ ap (first_body data_layout_kind) (said_still old mid m was [] bs none taken) ∙ body_was) where
        same_body : (p q : List ℕ) → Some p ≡ Some q → p ≡ q
        same_body p q same = cc

  body_there : part x.at x.size new.bytes ≡ body_now
  body_there =
      let long : length (part x.at x.size mid.bytes) ≡ x.size = length-part x.at x.size mid.bytes inside in
      let inner : List ℕ = with_part from w (part x.at x.size mid.bytes) in
      let same : length inner ≡ x.size = length-with_part from w (part x.at x.size mid.bytes) (omega (arith, long, wrote.room)) ∙ long in
      ap (part x.at x.size) (bytes_are ∙ sym (with_part-with_part x.at x.size from w mid.bytes inside wrote.room))
      ∙ part-with_part_same x.at x.size inner mid.bytes (sym same) (omega (arith, same, inside))
      ∙ ap (with_part from w) body_still

  -- which was that of a layout
  pub layout_was : layout_of a.sizes a.fixed.size (part x.at x.size old.bytes) ≡ Some a.layout
  layout_was = sym (ap (option_and_then (layout_of a.sizes a.fixed.size)) body_was) ∙ was.array.laid_out

  -- and is that of another
  module _ (l : Layout) (named : layout_of a.sizes a.fixed.size body_now ≡ Some l) (small : IsChunkSmall a.fixed l)
      (read : AreDataRead new.bytes a.fixed l) (blocks_are : data_blocks new.bytes a.fixed l ≡ bs) where
    abbrev pub array_now : Described
    array_now = record a { layout = l }

    same_one : (k : ℕ) → count_of k said ≡ count_of k was_said
    same_one = same_count data_layout_kind was_said said (part x.at x.size new.bytes) messages

    has_now : HasArray said array_now
    has_now = relaid was_said said (part x.at x.size new.bytes) messages a was.array l (ap (layout_of a.sizes a.fixed.size) body_there ∙ named) small

    pub layout_told_now : described_in new.bytes m ≡ array_now
    layout_told_now = told said array_now has_now

    blocks_now_are : data_blocks new.bytes (described_in new.bytes m).fixed (described_in new.bytes m).layout ≡ bs
    blocks_now_are = ap (λ (y : Described). data_blocks new.bytes y.fixed y.layout) layout_told_now ∙ blocks_are

    new_apart : IsApart all new.free (length new.bytes)
    new_apart = moves_apart mid new m.blocks m.blocks (superblock_of old ∷ bs) header_writes mid_apart

    kinds_now : IsOfDataset said
    kinds_now = record {
      no_table = same_one 17 ∙ was.kinds.no_table;
      once = (same_one 1 ∙ (was.kinds.once).0, (same_one 3 ∙ (was.kinds.once).1.0, (same_one 8 ∙ (was.kinds.once).1.1.0, tt)));
      fills = (omega (arith, same_one 4, (was.kinds.fills).0), (omega (arith, same_one 5, (was.kinds.fills).1.0), tt));
    }

    pub layout_moved : IsArrayMoved old new m m
    layout_moved = record {
      stand = record {
        standing = written.standing;
        kinds = kinds_now;
        array = subst (HasArray said) (sym layout_told_now) has_now;
        read = subst (λ (y : Described). AreDataRead new.bytes y.fixed y.layout) (sym layout_told_now) read;
        apart = beside_superblock old new k_new (array_blocks new.bytes m) (λ p.
            let laid = ap (cover p) blocks_now_are in
            omega (
              arith,
              new_apart p,
              laid,
              cover-append p m.blocks (superblock_of old ∷ bs),
              cover-append p m.blocks (data_blocks new.bytes (described_in new.bytes m).fixed (described_in new.bytes m).layout),
            ));
        long = omega (arith, was.long, taken.grown, layout_long, same_length new.bytes old.bytes k_new);
        k_some = subst (λ n. 1 ≤ n) (sym (same_chunk new.bytes old.bytes k_new)) was.k_some;
        k_few = subst (λ n. n ≤ highest_k) (sym (same_chunk new.bytes old.bytes k_new)) was.k_few;
      };
      header = refl;
      count = ap reference_count written.prefix ∙ count_kept old.bytes mid.bytes m was.standing (header_keeps old mid m was [] bs none taken);
      known = λ known. known;
      others = record {
        attributes = ap (map (λ (y : Message). y.body)) (same_filter data_layout_kind was_said said (part x.at x.size new.bytes) messages (λ k. is_attribute_message (record { kind = k; at = 0; body = [] })) refl);
        kept = ap (map kept_of) (same_filter data_layout_kind was_said said (part x.at x.size new.bytes) messages (λ k. is_kept (record { kind = k; at = 0; body = [] })) refl);
      };
      moves = moves_same old new m.blocks (bs ++ m.blocks) (array_blocks old.bytes m) (array_blocks new.bytes m)
          (λ p. let laid = ap (cover p) none in omega (arith, laid, cover-append p m.blocks (data_blocks old.bytes a.fixed a.layout)))
          (λ p. let laid = ap (cover p) blocks_now_are in
          omega (arith, laid, cover-append p bs m.blocks, cover-append p m.blocks (data_blocks new.bytes (described_in new.bytes m).fixed (described_in new.bytes m).layout)))
          (moves_then old mid new m.blocks (bs ++ m.blocks) (bs ++ m.blocks) (moves_beside old mid [] bs m.blocks taken)
          (moves_same mid new (m.blocks ++ bs) (m.blocks ++ bs) (bs ++ m.blocks) (bs ++ m.blocks)
          (λ p. omega (arith, cover-append p bs m.blocks, cover-append p m.blocks bs)) (λ p. omega (arith, cover-append p bs m.blocks, cover-append p m.blocks bs))
          (moves_beside mid new m.blocks m.blocks bs header_writes)));
      k = k_new;
    }
