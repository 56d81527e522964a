-- A header with a message more in a new block: what is kept of it, and what its image is.
use Rattle.std.proofs.Common.{◌≡◌, ◌≢◌, ℕ, suc, ◌+◌, ◌-◌, ◌^◌, ◌%◌, ◌<◌, ◌≤◌, ◌==◌, ◌⊎◌, inl, inr, List, [], ◌∷◌, ◌++◌, map, length, length-append, append_assoc, take, drop, set, refl, sym, ap, ap₂, ◌∙◌, subst, arith, count_by}
use Rattle.std.specs.List.{AllByRecursion, insert}
use Rattle.std.proofs.lemmas.Bool.Decides.{nat_tests}
use Rattle.std.proofs.lemmas.List.{length-map, length-set, length-take, map-append, take-append-drop, take-map}
use Rattle.std.proofs.lemmas.List.Edits.{insert-append_right, length-insert}
use Rattle.std.proofs.Math.Seq.{drop-append-add, drop-append_seam, take-append-add, take-append_seam}
use Rattle.h5_bytes.specs.Bytes.{part, with_part, with_field, little_bytes, number_at}
use Rattle.h5_bytes.specs.Blocks.{block, holds, cover}
use Rattle.h5_bytes.specs.Numbers.{word, zeros}
use Rattle.h5_bytes.specs.declared.Block.{Block}
use Rattle.h5_bytes.proofs.BlockLaws.{all_left}
use Rattle.h5_bytes.proofs.PartLaws.{length-part, part-part}
use Rattle.h5_bytes.proofs.FieldLaws.{number_at-with_field}
use Rattle.h5_space.specs.Moves.{Moves}
use Rattle.h5_space.specs.Space.{Space}
use Rattle.h5_model.specs.Format.MessageTypes.{datatype_kind, continuation_kind, symbol_table_kind}
use Rattle.h5_model.specs.Format.Messages.{Message, IsContinued, continuations, first_block, first_size, prefix_at, reference_count}
use Rattle.h5_model.specs.Format.Plain.{messages_bytes}
use Rattle.h5_model.proofs.PlainMessages.{IsPlain}
use Rattle.h5_header.specs.Added.{IsPutInBlock, lengths, named_in, spans}
use Rattle.h5_header.specs.Listed.{Listed, message_in, messages_in, IsWithin}
use Rattle.h5_header.specs.Standing.{IsStanding, kept_at}
use Rattle.h5_header.specs.declared.message.Message.{Message as Placed}
use Rattle.h5_header.proofs.BlankLaws.{behind_head, body_inside}
use Rattle.h5_header.proofs.BlockPlaces.{lengths-cons, lengths_in, names_counted, one_place, spans_said}
use Rattle.h5_header.proofs.BlockPuts as puts
use Rattle.h5_header.proofs.CutLaws.{IsCut}
use Rattle.h5_header.proofs.FillInserts.{bytes_in, bytes_of}
use Rattle.h5_header.proofs.PlacedLaws.{placed}
use Rattle.h5_header.proofs.RewriteLaws.{header_room}

-- two elements that are put in one behind the other
inserted : {X : Type 0} (xs : List X) (j : ℕ) (y z : X) → j ≤ length xs → insert (insert xs j y) (j + 1) z ≡ take j xs ++ y ∷ z ∷ drop j xs
inserted xs j y z low =
    let one : j + 1 - j ≡ 1 = omega arith in
    insert-append_right (take j xs) (y ∷ drop j xs) j (j + 1) z (omega (arith, length-take j xs, low)) (omega arith)
    ∙ ap (λ (n : ℕ). take j xs ++ insert (y ∷ drop j xs) n z) one

-- so many from the beginning, and one that is put in behind them
first_of : {X : Type 0} (x : X) (xs ys : List X) (n : ℕ) → n ≡ suc (length xs) → take n (x ∷ (xs ++ ys)) ≡ x ∷ xs
first_of {X = X} x xs ys n is = ap (λ (i : ℕ). take i (x ∷ (xs ++ ys))) is ∙ ap (λ (zs : List X). x ∷ zs) (take-append_seam xs ys)

put_behind : {X : Type 0} (x : X) (xs ys : List X) (n : ℕ) (y : X) → n ≡ suc (length xs) → insert (x ∷ (xs ++ ys)) n y ≡ x ∷ (xs ++ y ∷ ys)
put_behind {X = X} x xs ys n y is = ap (λ (i : ℕ). insert (x ∷ (xs ++ ys)) i y) is
    ∙ ap₂ (λ (us vs : List X). x ∷ (us ++ y ∷ vs)) (take-append_seam xs ys) (drop-append_seam xs ys)

-- the name of a block, in the body of a Continuation
named_at : (b : Block) → b.at < 2 ^ 64 → number_at (word b.at ++ word b.len) 0 8 ≡ b.at
unfolding with_part
named_at b low =
    let is : word b.at ++ word b.len ≡ with_field (zeros 8 ++ word b.len) 0 8 b.at = refl in
    ap (λ (bs : List ℕ). number_at bs 0 8) is ∙ number_at-with_field (zeros 8 ++ word b.len) 0 8 b.at (omega arith) (omega (arith, low))

named_len : (b : Block) → b.len < 2 ^ 64 → number_at (word b.at ++ word b.len) 8 8 ≡ b.len
unfolding with_part
named_len b low =
    let is : word b.at ++ word b.len ≡ with_field (word b.at ++ zeros 8) 8 8 b.len = refl in
    ap (λ (bs : List ℕ). number_at bs 8 8) is ∙ number_at-with_field (word b.at ++ zeros 8) 8 8 b.len (omega arith) (omega (arith, low))

module _ (old : List ℕ) (m : Listed) (is : IsStanding old m) (k : ℕ) (low : k < length m.list)
    (may : ((kept_at m.list k).kind ≡ symbol_table_kind) ⊎ ((kept_at m.list k).kind ≡ datatype_kind)) (wide : 16 ≤ (kept_at m.list k).size)
    (b : Block) (there : b.at + b.len ≤ length old) (apart : (p : ℕ) → cover p m.blocks + holds p b.at b.len ≤ 1) (at_low : b.at < 2 ^ 64)
    (kind : ℕ) (kind_low : kind < 65536) (own : kind ≢ continuation_kind) (body : List ℕ) (body_padded : length body % 8 ≡ 0) (body_low : length body < 65536)
    (sized : b.len ≡ 32 + length body) (total_low : length m.list < 65534) where
  abbrev pub x : Placed
  x = kept_at m.list k

  pub no_name : x.kind ≢ continuation_kind
  no_name same = elim may [
    | inl table ↦ absurd (omega (arith, table, same))
    | inr datatype ↦ absurd (omega (arith, datatype, same))
  ]

  pub x_inside : x.at + x.size ≤ length old
  x_inside = body_inside old m is k low no_name

  pub x_head : 8 ≤ x.at
  x_head = behind_head old m is k low no_name

  abbrev pub first : List ℕ
  first = part x.at 16 old

  first_long : length first ≡ 16
  first_long = length-part x.at 16 old (omega (arith, wide, x_inside))

  abbrev pub said : List (ℕ × List ℕ)
  said = (x.kind, first) ∷ (kind, body) ∷ []

  pub plain : AllByRecursion IsPlain said
  plain = (
    record {
      kind = elim may [
        | inl table ↦ omega (arith, table)
        | inr datatype ↦ omega (arith, datatype)
      ];
      own = grind (arith, nat_tests, no_name);
      padded = omega (arith, first_long);
      low = omega (arith, first_long);
    },
    (record { kind = kind_low; own = grind (arith, nat_tests, own); padded = body_padded; low = body_low }, tt),
  )

  pub long : length (messages_bytes said) ≡ b.len
  long = simp length-append (omega (arith, first_long, sized))

  abbrev pub name : List ℕ
  name = word b.at ++ word b.len

  pub sixteen : length name ≡ 16
  sixteen = refl

  pub small : length m.list + length said < 65536
  small = omega (arith, total_low)

  pub at_said : number_at name 0 8 ≡ b.at
  at_said = named_at b at_low

  pub len_said : number_at name 8 8 ≡ b.len
  len_said = named_len b (omega (arith, sized, body_low))

  abbrev pub new : List ℕ
  new = with_part (m.header + 2) (little_bytes 2 (length m.list + 2)) (named_in x first b kind body old)

  -- ---- where they stand

  abbrev pub two : List ℕ
  two = puts.two old m is k low no_name wide b there apart said plain long name sixteen at_said len_said small

  abbrev pub front : List Message
  front = puts.front old m is k low no_name wide b there apart said plain long name sixteen at_said len_said small

  abbrev pub back : List Message
  back = puts.back old m is k low no_name wide b there apart said plain long name sixteen at_said len_said small

  abbrev pub place : ℕ
  place = puts.place old m is k low no_name wide b there apart said plain long name sixteen at_said len_said small

  abbrev pub cutting : IsCut m.list k x
  cutting = puts.cut old m is k low no_name wide b there apart said plain long name sixteen at_said len_said small

  -- so many messages stand before them
  abbrev pub upto : ℕ
  upto = length cutting.front + suc place

  -- so many blocks are named before theirs
  abbrev pub named : ℕ
  named = 1 + count_by (λ (y : Placed). y.kind == continuation_kind) (take k m.list)

  front_list : cutting.front ≡ take k m.list
  front_list = sym (ap (take k) cutting.whole ∙ ap (λ (n : ℕ). take n (cutting.front ++ x ∷ cutting.back)) (sym cutting.long)
      ∙ take-append_seam cutting.front (x ∷ cutting.back))

  pub upto_le : upto ≤ length m.list
  upto_le = omega (
    arith,
    ap length cutting.whole,
    length-append cutting.front (x ∷ cutting.back),
    length-map cutting.back (message_in two),
    ap length (puts.named_four old m is k low no_name wide b there apart said plain long name sixteen at_said len_said small).cut,
    length-append (puts.named_four old m is k low no_name wide b there apart said plain long name sixteen at_said len_said small).middle (puts.named_four old m is k low no_name wide b there apart said plain long name sixteen at_said len_said small).behind,
  )

  said_upto : messages_in two (take upto m.list) ≡ front ++ message_in two x ∷ (puts.named_four old m is k low no_name wide b there apart said plain long name sixteen at_said len_said small).middle
  said_upto = ap (messages_in two) (ap (take upto) cutting.whole ∙ take-append-add cutting.front (x ∷ cutting.back) (suc place))
      ∙ map-append (message_in two) cutting.front (x ∷ take place cutting.back)
      ∙ ap (λ (ys : List Message). front ++ message_in two x ∷ ys) (sym (take-map (message_in two) place cutting.back) ∙ ap (take place) (puts.named_four old m is k low no_name wide b there apart said plain long name sixteen at_said len_said small).cut
      ∙ take-append_seam (puts.named_four old m is k low no_name wide b there apart said plain long name sixteen at_said len_said small).middle (puts.named_four old m is k low no_name wide b there apart said plain long name sixteen at_said len_said small).behind)

  within_upto : IsWithin (length two) (take upto m.list)
  within_upto = all_left (λ (y : Placed). y.at + y.size ≤ length two) (take upto m.list) (drop upto m.list)
      (subst (IsWithin (length two)) (sym (take-append-drop upto m.list)) (puts.is_two old m is k low no_name wide b there apart said plain long name sixteen at_said len_said small).within)

  spans_upto : spans (take upto m.list) ≡ bytes_in (first_block two m.header ∷ continuations front)
  spans_upto = sym (spans_said two (take upto m.list) within_upto) ∙ ap bytes_of said_upto ∙ (puts.named_four old m is k low no_name wide b there apart said plain long name sixteen at_said len_said small).place

  front_continued : AllByRecursion IsContinued front
  front_continued = all_left IsContinued front (message_in two x ∷ back) (subst (AllByRecursion IsContinued) (puts.cut_messages old m is k low no_name wide b there apart said plain long name sixteen at_said len_said small) ((puts.is_two old m is k low no_name wide b there apart said plain long name sixteen at_said len_said small).has).continued)

  front_counted : length (continuations front) ≡ count_by (λ (y : Placed). y.kind == continuation_kind) (take k m.list)
  front_counted = names_counted two cutting.front front_continued ∙ ap (count_by (λ (y : Placed). y.kind == continuation_kind)) front_list

  abbrev header_block : Block
  header_block = block m.header (16 + first_size (prefix_at two m.header))

  named_blocks : take named m.blocks ≡ header_block ∷ continuations front
  named_blocks = ap (take named) (puts.blocks_are old m is k low no_name wide b there apart said plain long name sixteen at_said len_said small)
      ∙ first_of header_block (continuations front) (continuations back) named (omega (arith, front_counted))

  pub named_le : named ≤ length m.blocks
  named_le = omega (arith, front_counted, ap length (puts.blocks_are old m is k low no_name wide b there apart said plain long name sixteen at_said len_said small), length-append (continuations front) (continuations back))

  -- they fill these blocks
  pub upto_filled : 16 + spans (take upto m.list) ≡ lengths (take named m.blocks)
  upto_filled = omega (arith, spans_upto, ap lengths named_blocks, lengths-cons header_block (continuations front), lengths_in (continuations front))

  pub upto_is : (at : ℕ) → at ≤ length m.list → 16 + spans (take at m.list) ≡ lengths (take named m.blocks) → at ≡ upto
  upto_is at high filled = one_place m.list at upto high upto_le (omega (arith, filled, upto_filled))

  -- ---- what is kept then

  abbrev pub continues : Placed
  continues = record x { kind = continuation_kind }

  abbrev pub moved : Placed
  moved = record { kind = x.kind; at = b.at + 8; size = 16 }

  abbrev pub put : Placed
  put = record { kind = kind; at = b.at + 32; size = length body }

  abbrev pub list' : List Placed
  list' = insert (insert (set m.list k continues) upto moved) (upto + 1) put

  abbrev pub blocks' : List Block
  blocks' = insert m.blocks named b

  continues_is : continues ≡ placed (puts.c old m is k low no_name wide b there apart said plain long name sixteen at_said len_said small)
  continues_is = ap (λ (n : ℕ). record { kind = continuation_kind; at = x.at; size = n }) (sym (length-part x.at x.size two (omega (arith, x_inside, puts.two_long old m is k low no_name wide b there apart said plain long name sixteen at_said len_said small))))

  both_are : moved ∷ put ∷ [] ≡ map placed (puts.ws old m is k low no_name wide b there apart said plain long name sixteen at_said len_said small)
  both_are =
      let second : b.at + 32 ≡ b.at + 8 + length first + 8 = omega (arith, first_long) in
      ap₂ (λ (n p : ℕ). record { kind = x.kind; at = b.at + 8; size = n } ∷ record { kind = kind; at = p; size = length body } ∷ []) (sym first_long) second

  list_is : list' ≡ puts.after_list old m is k low no_name wide b there apart said plain long name sixteen at_said len_said small
  list_is =
      let fs = cutting.front in
      let bs = cutting.back in
      let same : set m.list k continues ≡ fs ++ continues ∷ bs = cutting.put continues in
      let long_set : length (set m.list k continues) ≡ length m.list = omega (
        arith,
        ap length same,
        length-append fs (continues ∷ bs),
        ap length cutting.whole,
        length-append fs (x ∷ bs),
      ) in
      inserted (set m.list k continues) upto moved put (omega (arith, upto_le, long_set))
      ∙ ap (λ (zs : List Placed). take upto zs ++ moved ∷ put ∷ drop upto zs) same
      ∙ ap₂ (λ (us vs : List Placed). us ++ moved ∷ put ∷ vs) (take-append-add fs (continues ∷ bs) (suc place)) (drop-append-add fs (continues ∷ bs) (suc place))
      ∙ append_assoc fs (continues ∷ take place bs) (moved ∷ put ∷ drop place bs)
      ∙ ap₂ (λ (y : Placed) (zs : List Placed). fs ++ y ∷ (take place bs ++ (zs ++ drop place bs))) continues_is both_are

  blocks_is : blocks' ≡ puts.blocks_after old m is k low no_name wide b there apart said plain long name sixteen at_said len_said small
  blocks_is = ap (λ (bs : List Block). insert bs named b) (puts.blocks_are old m is k low no_name wide b there apart said plain long name sixteen at_said len_said small)
      ∙ put_behind header_block (continuations front) (continuations back) named b (omega (arith, front_counted))

  pub kept_long : length list' ≡ length m.list + 2
  kept_long = omega (
    arith,
    length-insert (insert (set m.list k continues) upto moved) (upto + 1) put (omega (arith, upto_le, length-set m.list k continues, length-insert (set m.list k continues) upto moved (omega (arith, upto_le, length-set m.list k continues)))),
    length-insert (set m.list k continues) upto moved (omega (arith, upto_le, length-set m.list k continues)),
    length-set m.list k continues,
  )

  -- ---- what a caller is told

  pub kept_standing : (room : ℕ) → IsStanding new (record { header = m.header; list = list'; blocks = blocks'; room = room })
  kept_standing room = rw (list_is, blocks_is) (puts.standing_four old m is k low no_name wide b there apart said plain long name sixteen at_said len_said small room)

  pub kept_added : IsPutInBlock (messages_in old m.list) (messages_in new list') kind body
  kept_added =
      let none : x.at + 0 ≡ x.at = omega arith in
      let same : first ≡ part 0 16 (message_in old x).body = sym (part-part 0 16 x.at x.size old (omega (arith, wide)) ∙ ap (λ (p : ℕ). part p 16 old) none) in
      rw list_is (puts.block_added old m is k low no_name wide b there apart said plain long name sixteen at_said len_said small kind body may (ap (λ (bs : List ℕ). (x.kind, bs) ∷ (kind, body) ∷ []) same))

  pub kept_count : reference_count (prefix_at new m.header) ≡ reference_count (prefix_at old m.header)
  kept_count = puts.count_four old m is k low no_name wide b there apart said plain long name sixteen at_said len_said small

  pub kept_moves : (s t u : Space) → t.bytes ≡ old → u.bytes ≡ new → u.free ≡ t.free → Moves s t [] (b ∷ []) → Moves s u m.blocks blocks'
  kept_moves s t u begun ended free taken = rw blocks_is (puts.block_moves old m is k low no_name wide b there apart said plain long name sixteen at_said len_said small s t u begun ended free taken)

  pub kept_same : length new ≡ length old
  kept_same = puts.four_long old m is k low no_name wide b there apart said plain long name sixteen at_said len_said small

  pub named_room : m.header + 16 ≤ length (named_in x first b kind body old)
  named_room = omega (arith, header_room old m is, puts.three_long old m is k low no_name wide b there apart said plain long name sixteen at_said len_said small)
