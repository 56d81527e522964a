-- A header with a new block: messages are written in it, and one of the header's messages becomes the Continuation that names it.
use Rattle.std.proofs.Common.{◌≡◌, ◌≢◌, ℕ, ◌+◌, ◌-◌, ◌<◌, ◌≤◌, ◌⊎◌, inl, inr, take, drop, List, [], ◌∷◌, ◌++◌, map, append-nil, append_assoc, length, refl, sym, ap, ap₂, ◌∙◌, subst, arith, Some, nat_le, true}
use Rattle.std.proofs.lemmas.Bool.Decides.{nat_tests}
use Rattle.std.specs.List.{AllByRecursion}
use Rattle.std.proofs.lemmas.List.{map-append, length-map, take-append-drop, take-map, drop-map}
use Rattle.std.proofs.lemmas.List.Concat.{flat_map-append}
use Rattle.std.proofs.Math.Seq.{take-append_seam, drop-append_seam}
use Rattle.h5_bytes.specs.Bytes.{part, with_part, little_bytes, number_at, byte_at}
use Rattle.h5_bytes.specs.Blocks.{block, holds, cover, Inside, IsKept, Keeps, Separate}
use Rattle.h5_bytes.specs.declared.Block.{Block}
use Rattle.h5_bytes.proofs.BlockLaws.{cover-append, holds-inner, holds-le, all_append, all_left, all_right}
use Rattle.h5_bytes.proofs.PartLaws.{length-part, length-with_part, part-with_part_same}
use Rattle.h5_bytes.proofs.FieldLaws.{number_at-part, number_at-with_field, number_at-with_part_other}
use Rattle.h5_space.specs.Moves.{Moves}
use Rattle.h5_space.specs.Space.{Space}
use Rattle.h5_space.specs.Whole.{IsApart}
use Rattle.h5_space.proofs.MovesLaws.{byte-with_part, moves_apart, moves_beside, moves_kept, moves_same, moves_then}
use Rattle.h5_model.specs.Format.MessageTypes.{datatype_kind, continuation_kind, symbol_table_kind}
use Rattle.h5_model.specs.Format.Messages.{Message, Fills, IsContinued, HasMessages, continuation, continuations, first_block, first_size, prefix_at, reference_count, total_in}
use Rattle.h5_model.specs.Format.Addresses.{continuation_of}
use Rattle.h5_model.specs.Format.Plain.{messages_bytes}
use Rattle.h5_model.proofs.Frames.{front-same, keeps_then}
use Rattle.h5_model.proofs.PlainMessages.{IsPlain, messages_from, fills-plain, length-messages_from}
use Rattle.h5_header.specs.Listed.{Listed, message_in, messages_in, IsWithin}
use Rattle.h5_header.specs.Added.{IsPutInBlock}
use Rattle.h5_header.specs.Standing.{IsStanding, kept_at}
use Rattle.h5_header.specs.declared.message.Message.{Message as Placed}
use Rattle.h5_header.proofs.PrefixLaws.{first_size-is, reference_count-is, total-is, version-is}
use Rattle.h5_header.proofs.MetLaws.{continuation_cases}
use Rattle.h5_header.proofs.KeptLaws.{header-same, listed-same}
use Rattle.h5_header.proofs.CutLaws.{IsCut}
use Rattle.h5_header.proofs.StretchLaws.{all_of, stretch, Follow, IsHeaded, follow_headed, follow_kept, follow_of, stretches_inside}
use Rattle.h5_header.proofs.BesideLaws.{kept_beside, moves_covered}
use Rattle.h5_header.proofs.BodyWrites.{behind_head, body_covered, body_inside, said_now, still_standing, prefix_stays as body_prefix}
use Rattle.h5_header.proofs.RewriteLaws.{first_inside, named_inside, same_messages, headed, beside, prefix_stays, front_stays, back_stays, stretch_covered, prefix_covered, header_room}
use Rattle.h5_header.proofs.BlankLaws.{kind_stands, cut as kept_cut, within_back, within_front}
use Rattle.h5_header.proofs.PlacedLaws.{placed, placed_back, placed_within, no_names, no_continuation}
use Rattle.h5_header.proofs.FillInserts.{bytes_filled_all, bytes_in, bytes_of, bytes_of-append}
use Rattle.h5_header.proofs.NamedSplices.{IsNaming}
use Rattle.h5_header.proofs.NamedLaws.{naming, has_named}

-- a header stands still where its blocks keep their bytes
pub standing_kept : (old new : List ℕ) (m : Listed) → length old ≤ length new → IsStanding old m → Keeps old new m.blocks → IsStanding new m
standing_kept old new m grown is kept = record {
  has = header-same old new m is.has is.within kept;
  inside = inside_more m.blocks is.inside;
  within = within_more m.list is.within;
  separate = is.separate;
} where
  inside_more : (bs : List Block) → Inside (length old) bs → Inside (length new) bs
  inside_more [] low = tt
  inside_more (b ∷ bs) low = (omega (arith, grown, low.0), inside_more bs low.1)

  within_more : (xs : List Placed) → IsWithin (length old) xs → IsWithin (length new) xs
  within_more [] low = tt
  within_more (x ∷ xs) low = (omega (arith, grown, low.0), within_more xs low.1)

-- and its reference count stays
pub count_kept : (old new : List ℕ) (m : Listed) → IsStanding old m → Keeps old new m.blocks
    → reference_count (prefix_at new m.header) ≡ reference_count (prefix_at old m.header)
count_kept old new m is kept =
    let laid : Keeps old new (block m.header (16 + first_size (prefix_at old m.header)) ∷ continuations (messages_in old m.list)) = subst (Keeps old new) (is.has).laid kept in
    ap reference_count (front-same old new m.header (16 + first_size (prefix_at old m.header)) 16 (omega arith) laid.0)

-- ---- parts of lists that are the same

same_parts : (f g : Placed → Message) (xs ys : List Placed) → map f (xs ++ ys) ≡ map g (xs ++ ys) → (map f xs ≡ map g xs) × (map f ys ≡ map g ys)
same_parts f g [] ys e = (refl, e)
same_parts f g (x ∷ xs) ys e =
    let head : f x ≡ g x = cc in
    let tail : map f (xs ++ ys) ≡ map g (xs ++ ys) = cc in
    let rest = same_parts f g xs ys tail in
    (ap₂ (λ (y : Message) (zs : List Message). y ∷ zs) head rest.0, rest.1)

same_halves : (fs gs xs ys : List Message) → length fs ≡ length gs → fs ++ xs ≡ gs ++ ys → (fs ≡ gs) × (xs ≡ ys)
same_halves [] [] xs ys long e = (refl, e)
same_halves [] (b ∷ gs) xs ys long e = absurd (omega (arith, long))
same_halves (a ∷ fs) [] xs ys long e = absurd (omega (arith, long))
same_halves (a ∷ fs) (b ∷ gs) xs ys long e =
    let head : a ≡ b = cc in
    let tail : fs ++ xs ≡ gs ++ ys = cc in
    let rest = same_halves fs gs xs ys (omega (arith, long)) tail in
    (ap₂ (λ (y : Message) (zs : List Message). y ∷ zs) head rest.0, rest.1)

same_tail : (x y : Message) (xs ys : List Message) → x ∷ xs ≡ y ∷ ys → xs ≡ ys
same_tail x y xs ys e = cc

-- a header stands still while a block is taken that is none of its own, and the block shares no byte with it
module _ (s t : Space) (m : Listed) (b : Block) (taken : Moves s t [] (b ∷ [])) (apart : IsApart m.blocks s.free (length s.bytes)) where
  pub standing_taken : IsStanding s.bytes m → IsStanding t.bytes m
  standing_taken is = standing_kept s.bytes t.bytes m taken.grown is (moves_kept s t [] (b ∷ []) m.blocks taken apart is.inside)

  pub apart_taken : (p : ℕ) → cover p m.blocks + holds p b.at b.len ≤ 1
  apart_taken p = omega (arith, moves_apart s t [] (b ∷ []) m.blocks taken apart p, holds-le p 0 (length t.bytes))

module _ (old : List ℕ) (m : Listed) (is : IsStanding old m) (k : ℕ) (low : k < length m.list) (own : (kept_at m.list k).kind ≢ continuation_kind) (wide : 16 ≤ (kept_at m.list k).size)
    (b : Block) (there : b.at + b.len ≤ length old) (apart : (p : ℕ) → cover p m.blocks + holds p b.at b.len ≤ 1)
    (ms : List (ℕ × List ℕ)) (plain : AllByRecursion IsPlain ms) (long : length (messages_bytes ms) ≡ b.len)
    (name : List ℕ) (sixteen : length name ≡ 16) (at_said : number_at name 0 8 ≡ b.at) (len_said : number_at name 8 8 ≡ b.len)
    (total_low : length m.list + length ms < 65536) where
  abbrev pub x : Placed
  x = kept_at m.list k

  abbrev pub cut : IsCut m.list k x
  cut = kept_cut old m is k low own

  -- ---- the block is written

  abbrev pub w : List ℕ
  w = messages_bytes ms

  abbrev pub one : List ℕ
  one = with_part b.at w old

  one_long : length one ≡ length old
  one_long = length-with_part b.at w old (omega (arith, long, there))

  block_kept : Keeps old one m.blocks
  block_kept = kept_beside old w b.at b m.blocks (omega arith) (omega (arith, long)) there (λ p. omega (arith, apart p)) is.inside

  pub is_one : IsStanding one m
  is_one = standing_kept old one m (omega (arith, one_long)) is block_kept

  pub one_messages : messages_in one m.list ≡ messages_in old m.list
  one_messages = listed-same old one m is.has is.within block_kept

  -- ---- the body names it

  abbrev pub two : List ℕ
  two = with_part x.at name one

  x_inside : x.at + x.size ≤ length one
  x_inside = body_inside one m is_one cut.front x cut.back cut.whole

  x_head : 8 ≤ x.at
  x_head = behind_head one m is_one cut.front x cut.back cut.whole

  pub two_long : length two ≡ length old
  two_long = length-with_part x.at name one (omega (arith, sixteen, wide, x_inside)) ∙ one_long

  pub is_two : IsStanding two m
  is_two = still_standing one m is_one cut.front x cut.back cut.whole own name x.at (omega arith) (omega (arith, sixteen, wide))

  abbrev pub front : List Message
  front = messages_in two cut.front

  abbrev pub back : List Message
  back = messages_in two cut.back

  pub cut_messages : messages_in two m.list ≡ front ++ message_in two x ∷ back
  cut_messages = ap (messages_in two) cut.whole ∙ map-append (message_in two) cut.front (x ∷ cut.back)

  -- ---- it becomes a Continuation

  abbrev pub kind_bytes : List ℕ
  kind_bytes = little_bytes 2 continuation_kind

  abbrev pub at : ℕ
  at = x.at - 8

  abbrev pub three : List ℕ
  three = with_part at kind_bytes two

  all : AllByRecursion (IsHeaded two) (front ++ message_in two x ∷ back)
  all = subst (AllByRecursion (IsHeaded two)) cut_messages (headed two m is_two)

  here : IsHeaded two (message_in two x)
  here = (all_right (IsHeaded two) front (message_in two x ∷ back) all).0

  two_bytes : length kind_bytes ≡ 2
  two_bytes = refl

  pub three_long : length three ≡ length old
  three_long = length-with_part at kind_bytes two (omega (arith, two_bytes, x_inside, x_head, two_long, one_long)) ∙ two_long

  high : at + length kind_bytes ≤ at + (8 + length (message_in two x).body)
  high = omega (arith, two_bytes)

  -- the Continuation
  abbrev pub c : Message
  c = record (message_in two x) { kind = continuation_kind }

  made_three : Follow three at (c ∷ []) (x.at + length (message_in two x).body)
  made_three =
      let begin : at ≡ here.0 = omega (arith, (here.1).place) in
      rw begin (kind_stands two here.0 (message_in two x) here.1 continuation_kind (omega arith))

  -- ---- the total

  abbrev pub total : ℕ
  total = length m.list + length ms

  abbrev pub coded : List ℕ
  coded = little_bytes 2 total

  coded_long : length coded ≡ 2
  coded_long = refl

  abbrev pub four : List ℕ
  four = with_part (m.header + 2) coded three

  total_room : m.header + 2 + length coded ≤ length three
  total_room = omega (arith, coded_long, header_room old m is, three_long)

  pub four_long : length four ≡ length old
  four_long = length-with_part (m.header + 2) coded three total_room ∙ three_long

  grown_four : length three ≤ length four
  grown_four = omega (arith, four_long, three_long)

  pub grown : length two ≤ length four
  grown = omega (arith, four_long, two_long)

  -- ---- what stays

  front_three : Keeps two three (map stretch front)
  front_three = front_stays two m is_two front (message_in two x) back cut_messages kind_bytes at (omega arith) high

  back_three : Keeps two three (map stretch back)
  back_three = back_stays two m is_two front (message_in two x) back cut_messages kind_bytes at (omega arith) high

  prefix_three : prefix_at three m.header ≡ prefix_at two m.header
  prefix_three = prefix_stays two m is_two front (message_in two x) back cut_messages kind_bytes at (omega arith) high

  beside_two : Separate (stretch (message_in two x) ∷ block m.header 16 ∷ (map stretch front ++ map stretch back))
  beside_two = beside two m is_two front (message_in two x) back cut_messages kind_bytes at (omega arith) high

  inside_two : Inside (length two) (map stretch front ++ stretch (message_in two x) ∷ map stretch back)
  inside_two = subst (Inside (length two)) (map-append stretch front (message_in two x ∷ back)) (stretches_inside two (front ++ message_in two x ∷ back) all)

  abbrev IsIn : Block → Type 0
  IsIn y = y.at + y.len ≤ length two

  inside_behind : Inside (length two) (stretch (message_in two x) ∷ map stretch back)
  inside_behind = all_right IsIn (map stretch front) (stretch (message_in two x) ∷ map stretch back) inside_two

  inside_others : Inside (length two) (stretch (message_in two x) ∷ (map stretch front ++ map stretch back))
  inside_others = (
    inside_behind.0,
    all_append IsIn (map stretch front) (map stretch back)
        (all_left IsIn (map stretch front) (stretch (message_in two x) ∷ map stretch back) inside_two) inside_behind.1,
  )

  three_two : length two ≡ length three
  three_two = omega (arith, three_long, two_long)

  kept_four : Keeps three four (stretch (message_in two x) ∷ (map stretch front ++ map stretch back))
  kept_four = kept_beside three coded (m.header + 2) (block m.header 16) (stretch (message_in two x) ∷ (map stretch front ++ map stretch back)) (omega arith) (omega (arith, coded_long))
      (omega (arith, header_room old m is, three_long)) (λ p. omega (arith, beside_two p))
      (subst (λ (n : ℕ). Inside n (stretch (message_in two x) ∷ (map stretch front ++ map stretch back))) three_two inside_others)

  front_four : Keeps two four (map stretch front)
  front_four = keeps_then two three four (map stretch front) front_three (all_left (IsKept three four) (map stretch front) (map stretch back) kept_four.1)

  back_four : Keeps two four (map stretch back)
  back_four = keeps_then two three four (map stretch back) back_three (all_right (IsKept three four) (map stretch front) (map stretch back) kept_four.1)

  pub made_four : Follow four at (c ∷ []) (x.at + length (message_in two x).body)
  made_four = follow_kept three four grown_four at (c ∷ []) (x.at + length (message_in two x).body) (kept_four.0, tt) made_three

  -- ---- the prefix

  version : byte_at (prefix_at four m.header) 0 ≡ 1
  version = version-is four m.header ∙ byte-with_part (m.header + 2) coded three m.header total_room (inl (omega arith)) ∙ sym (version-is three m.header)
      ∙ ap (λ p. byte_at p 0) prefix_three ∙ (is_two.has).version

  first_same : first_size (prefix_at four m.header) ≡ first_size (prefix_at two m.header)
  first_same = first_size-is four m.header ∙ number_at-with_part_other (m.header + 2) coded three (m.header + 8) 4 total_room (inr (omega (arith, coded_long)))
      ∙ sym (first_size-is three m.header) ∙ ap first_size prefix_three

  pub count_four : reference_count (prefix_at four m.header) ≡ reference_count (prefix_at old m.header)
  count_four = reference_count-is four m.header ∙ number_at-with_part_other (m.header + 2) coded three (m.header + 4) 4 total_room (inr (omega (arith, coded_long)))
      ∙ sym (reference_count-is three m.header)
      ∙ ap reference_count (prefix_three ∙ body_prefix one m is_one cut.front x cut.back cut.whole own name x.at (omega arith) (omega (arith, sixteen, wide)))
      ∙ count_kept old one m is block_kept

  -- ---- the new block

  abbrev pub ws : List Message
  ws = messages_from b.at ms

  x_covered : (p : ℕ) → holds p at (8 + length (message_in two x).body) ≤ cover p m.blocks
  x_covered p = stretch_covered two m is_two front (message_in two x) back cut_messages p

  pub name_covered : (p : ℕ) → holds p x.at (length name) ≤ cover p m.blocks
  name_covered = body_covered one m is_one cut.front x cut.back cut.whole own name x.at (omega arith) (omega (arith, sixteen, wide))

  pub kind_covered : (p : ℕ) → holds p at (length kind_bytes) ≤ cover p m.blocks
  kind_covered p = omega (arith, x_covered p, holds-inner p at (length kind_bytes) at (8 + length (message_in two x).body) (omega arith) high)

  pub total_covered : (p : ℕ) → holds p (m.header + 2) (length coded) ≤ cover p m.blocks
  total_covered = prefix_covered old m is (m.header + 2) (length coded) (omega arith) (omega (arith, coded_long))

  -- a write in the header's blocks leaves the new one
  beside_block : (image v : List ℕ) (from : ℕ) → length image ≡ length old → from + length v ≤ length old → ((p : ℕ) → holds p from (length v) ≤ cover p m.blocks)
      → part b.at b.len (with_part from v image) ≡ part b.at b.len image
  beside_block image v from same room covered =
      (kept_beside image v from (block from (length v)) (b ∷ []) (omega arith) (omega arith) (omega (arith, room, same)) (λ p. omega (arith, apart p, covered p)) (omega (arith, there, same), tt)).0

  block_there : part b.at b.len four ≡ w
  block_there =
      beside_block three coded (m.header + 2) three_long (omega (arith, coded_long, header_room old m is)) total_covered
      ∙ beside_block two kind_bytes at two_long (omega (arith, two_bytes, x_inside, x_head, one_long)) kind_covered
      ∙ beside_block one name x.at one_long (omega (arith, sixteen, wide, x_inside, one_long)) name_covered
      ∙ part-with_part_same b.at b.len w old (sym long) (omega (arith, long, there))

  pub fill : Fills b.at (part b.at b.len four) 0 ws
  fill =
      let filled : Fills b.at w 0 (messages_from (b.at + 0) ms) = fills-plain b.at 0 w [] ms refl refl plain in
      let none : b.at + 0 ≡ b.at = omega arith in
      subst (λ (bs : List ℕ). Fills b.at bs 0 ws) (sym block_there) (rw none at filled)

  -- ---- it is named

  read_name : (j : ℕ) → j + 8 ≤ 16 → number_at (part x.at x.size two) j 8 ≡ number_at name j 8
  read_name j low_j =
      let same : part x.at 16 two ≡ name = part-with_part_same x.at 16 name one (sym sixteen) (omega (arith, sixteen, wide, x_inside)) in
      number_at-part j 8 x.at x.size two (omega (arith, low_j, wide)) ∙ sym (number_at-part j 8 x.at 16 two low_j) ∙ ap (λ bs. number_at bs j 8) same

  says : continuation_of (part x.at x.size two) ≡ Some b
  unfolding continuation_of
  says =
      let body : length (part x.at x.size two) ≡ x.size = length-part x.at x.size two (omega (arith, x_inside, two_long, one_long)) in
      let test : nat_le 16 (length (part x.at x.size two)) ≡ true = grind (arith, nat_tests, body, wide) in
      rw test (ap₂ (λ (p n : ℕ). Some (block p n)) (read_name 0 (omega arith) ∙ at_said) (read_name 8 (omega arith) ∙ len_said))

  pub names : continuation c ≡ b ∷ []
  names = rw says refl

  continued : IsContinued c
  continued sixteenth = rw says refl

  pub none : continuation (message_in two x) ≡ []
  none = elim (continuation_cases (message_in two x)) [
    | inl blank ↦ blank
    | inr (y, is_16, said, named) ↦ absurd (own is_16)
  ]

  total_same : total_in (prefix_at four m.header) ≡ length m.list + length ws
  total_same = total-is four m.header ∙ number_at-with_field three (m.header + 2) 2 total (omega (arith, header_room old m is, three_long)) (omega (arith, total_low))
      ∙ omega (arith, length-messages_from b.at ms)

  pub named_four : IsNaming two four grown (message_in two x) c b ws none names (no_names b.at ms plain) fill made_four (first_block two m.header ∷ []) front back
  named_four = naming two four m is_two grown front (message_in two x) back cut_messages front_four back_four none c b names continued made_four ws (no_names b.at ms plain) fill
      (no_continuation b.at ms plain) version first_same total_same

  -- the header has the messages of the new block, and the Continuation in the place of the one
  pub has_four : HasMessages four m.header (front ++ c ∷ (named_four.middle ++ (ws ++ named_four.behind)))
      (block m.header (16 + first_size (prefix_at two m.header)) ∷ (continuations front ++ b ∷ continuations back))
  unfolding named_four
  has_four = has_named two four m is_two grown front (message_in two x) back cut_messages front_four back_four none c b names continued made_four ws (no_names b.at ms plain) fill
      (no_continuation b.at ms plain) version first_same total_same (length-map m.list (message_in two))

  -- ---- what is kept of it

  -- the other messages say what they said
  one_parts : (messages_in one cut.front ≡ messages_in old cut.front) × (messages_in one (x ∷ cut.back) ≡ messages_in old (x ∷ cut.back))
  one_parts = same_parts (message_in one) (message_in old) cut.front (x ∷ cut.back)
      (ap (messages_in one) (sym cut.whole) ∙ one_messages ∙ ap (messages_in old) cut.whole)

  two_parts : (front ≡ messages_in one cut.front) × (message_in two x ∷ back ≡ message_in two x ∷ messages_in one cut.back)
  two_parts = same_halves front (messages_in one cut.front) (message_in two x ∷ back) (message_in two x ∷ messages_in one cut.back)
      (length-map cut.front (message_in two) ∙ sym (length-map cut.front (message_in one)))
      (sym cut_messages ∙ said_now one m is_one cut.front x cut.back cut.whole own name x.at (omega arith) (omega (arith, sixteen, wide)))

  pub front_is : front ≡ messages_in old cut.front
  front_is = two_parts.0 ∙ one_parts.0

  pub back_is : back ≡ messages_in old cut.back
  back_is =
      let one_back : messages_in one cut.back ≡ messages_in old cut.back = same_tail (message_in one x) (message_in old x) (messages_in one cut.back) (messages_in old cut.back) one_parts.1 in
      same_tail (message_in two x) (message_in two x) back (messages_in one cut.back) two_parts.1 ∙ one_back

  -- the messages before, cut where the new ones stand
  pub said_before : messages_in old m.list ≡ messages_in old cut.front ++ message_in old x ∷ (named_four.middle ++ named_four.behind)
  said_before = ap (messages_in old) cut.whole ∙ map-append (message_in old) cut.front (x ∷ cut.back)
      ∙ ap (λ (ys : List Message). messages_in old cut.front ++ message_in old x ∷ ys) (sym back_is ∙ named_four.cut)

  abbrev pub place : ℕ
  place = length named_four.middle

  abbrev pub after_list : List Placed
  after_list = cut.front ++ placed c ∷ (take place cut.back ++ (map placed ws ++ drop place cut.back))

  front_within : IsWithin (length two) cut.front
  front_within = subst (λ (n : ℕ). IsWithin n cut.front) (sym two_long) (within_front old m is k low own)

  back_within : IsWithin (length two) cut.back
  back_within = subst (λ (n : ℕ). IsWithin n cut.back) (sym two_long) (within_back old m is k low own).1

  four_front : messages_in four cut.front ≡ front
  four_front = same_messages two four grown cut.front front_within (all_left (IsHeaded two) front (message_in two x ∷ back) all) front_four

  four_back : messages_in four cut.back ≡ named_four.middle ++ named_four.behind
  four_back = same_messages two four grown cut.back back_within (all_right (IsHeaded two) front (message_in two x ∷ back) all).1 back_four ∙ named_four.cut

  four_middle : messages_in four (take place cut.back) ≡ named_four.middle
  four_middle = sym (take-map (message_in four) place cut.back) ∙ ap (take place) four_back ∙ take-append_seam named_four.middle named_four.behind

  four_behind : messages_in four (drop place cut.back) ≡ named_four.behind
  four_behind = sym (drop-map (message_in four) place cut.back) ∙ ap (drop place) four_back ∙ drop-append_seam named_four.middle named_four.behind

  named_headed : AllByRecursion (IsHeaded four) (c ∷ [])
  named_headed = follow_headed four at (c ∷ []) (x.at + length (message_in two x).body) made_four

  new_headed : AllByRecursion (IsHeaded four) ws
  new_headed = follow_headed four (b.at + 0) ws (b.at + b.len) (follow_of four b (omega (arith, there, four_long)) 0 ws fill)

  new_messages : messages_in four (map placed ws) ≡ ws
  new_messages = placed_back four ws new_headed

  -- the messages then
  pub said_after : messages_in four after_list ≡ messages_in old cut.front ++ c ∷ (named_four.middle ++ (ws ++ named_four.behind))
  said_after =
      map-append (message_in four) cut.front (placed c ∷ (take place cut.back ++ (map placed ws ++ drop place cut.back)))
      ∙ ap₂ (λ (a b : List Message). a ++ b) (four_front ∙ front_is)
      (ap₂ (λ (a b : List Message). a ++ b) (placed_back four (c ∷ []) named_headed)
      (map-append (message_in four) (take place cut.back) (map placed ws ++ drop place cut.back)
      ∙ ap₂ (λ (a b : List Message). a ++ b) four_middle
      (map-append (message_in four) (map placed ws) (drop place cut.back) ∙ ap₂ (λ (a b : List Message). a ++ b) new_messages four_behind)))

  -- ---- the header stands

  abbrev pub blocks_after : List Block
  blocks_after = block m.header (16 + first_size (prefix_at two m.header)) ∷ (continuations front ++ b ∷ continuations back)

  -- the new block comes behind those that are named before
  pub blocks_are : m.blocks ≡ block m.header (16 + first_size (prefix_at two m.header)) ∷ (continuations front ++ continuations back)
  blocks_are = (is_two.has).laid ∙ ap (λ (bs : List Block). block m.header (16 + first_size (prefix_at two m.header)) ∷ bs)
      (ap continuations cut_messages ∙ flat_map-append continuation front (message_in two x ∷ back) ∙ ap (λ (bs : List Block). continuations front ++ (bs ++ continuations back)) none)

  pub cover_after : (p : ℕ) → cover p blocks_after ≡ cover p m.blocks + holds p b.at b.len
  cover_after p = omega (arith, ap (cover p) blocks_are, cover-append p (continuations front) (continuations back), cover-append p (continuations front) (b ∷ continuations back))

  abbrev Ends : Block → Type 0
  Ends y = y.at + y.len ≤ length four

  inside_after : Inside (length four) blocks_after
  inside_after =
      let all_inside : Inside (length four) (block m.header (16 + first_size (prefix_at two m.header)) ∷ (continuations front ++ continuations back))
      = subst (λ (n : ℕ). Inside n (block m.header (16 + first_size (prefix_at two m.header)) ∷ (continuations front ++ continuations back))) (sym four_long)
      (subst (Inside (length old)) blocks_are is.inside) in (
        all_inside.0,
        all_append Ends (continuations front) (b ∷ continuations back) (all_left Ends (continuations front) (continuations back) all_inside.1)
            (omega (arith, there, four_long), all_right Ends (continuations front) (continuations back) all_inside.1),
      )

  abbrev Fits : Placed → Type 0
  Fits y = y.at + y.size ≤ length four

  two_four : length two ≡ length four
  two_four = omega (arith, two_long, four_long)

  back_fits : IsWithin (length four) (take place cut.back ++ drop place cut.back)
  back_fits = subst (IsWithin (length four)) (sym (take-append-drop place cut.back)) (subst (λ (n : ℕ). IsWithin n cut.back) two_four back_within)

  within_after : IsWithin (length four) after_list
  within_after = all_append Fits cut.front (placed c ∷ (take place cut.back ++ (map placed ws ++ drop place cut.back)))
      (subst (λ (n : ℕ). IsWithin n cut.front) two_four front_within) (
        (placed_within four (c ∷ []) named_headed).0,
        all_append Fits (take place cut.back) (map placed ws ++ drop place cut.back) (all_left Fits (take place cut.back) (drop place cut.back) back_fits)
            (all_append Fits (map placed ws) (drop place cut.back) (placed_within four ws new_headed) (all_right Fits (take place cut.back) (drop place cut.back) back_fits)),
      )

  pub standing_four : (room : ℕ) → IsStanding four (record { header = m.header; list = after_list; blocks = blocks_after; room = room })
  standing_four room = record {
    has = subst (λ (zs : List Message). HasMessages four m.header zs blocks_after)
        (sym (said_after ∙ ap (λ (zs : List Message). zs ++ c ∷ (named_four.middle ++ (ws ++ named_four.behind))) (sym front_is))) has_four;
    inside = inside_after;
    within = within_after;
    separate = λ p. omega (arith, cover_after p, apart p);
  }

  -- ---- what a caller is told

  pub block_added : (kind : ℕ) (body : List ℕ) → (x.kind ≡ symbol_table_kind) ⊎ (x.kind ≡ datatype_kind) → ms ≡ (x.kind, part 0 16 (message_in old x).body) ∷ (kind, body) ∷ []
      → IsPutInBlock (messages_in old m.list) (messages_in four after_list) kind body
  block_added kind body may are =
      let first : List ℕ = part 0 16 (message_in old x).body in
      let body_long : length (message_in old x).body ≡ x.size = length-part x.at x.size old (omega (arith, x_inside, one_long)) in
      let long_first : length first ≡ 16 = length-part 0 16 (message_in old x).body (omega (arith, body_long, wide)) in
      let second : b.at + 8 + length first + 8 ≡ b.at + 32 = omega (arith, long_first) in
      let ws_are : ws ≡ record { kind = x.kind; at = b.at + 8; body = first } ∷ record { kind = kind; at = b.at + 32; body = body } ∷ []
      = ap (messages_from b.at) are ∙ ap (λ (p : ℕ). record { kind = x.kind; at = b.at + 8; body = first } ∷ record { kind = kind; at = p; body = body } ∷ []) second in
      record {
        front = messages_in old cut.front;
        moved = message_in old x;
        middle = named_four.middle;
        back = named_four.behind;
        place = b.at;
        named = c;
        may_move = may;
        wide = omega (arith, body_long, wide);
        names = refl;
        before = said_before;
        after = said_after ∙ ap (λ (ys : List Message). messages_in old cut.front ++ c ∷ (named_four.middle ++ (ys ++ named_four.behind))) ws_are;
      }

  -- where the block was taken, and then only bytes of the header's blocks and of it are written
  pub block_moves : (s t u : Space) → t.bytes ≡ old → u.bytes ≡ four → u.free ≡ t.free → Moves s t [] (b ∷ []) → Moves s u m.blocks blocks_after
  block_moves s t u begun ended free taken =
      let s1 : Space = record t { bytes = one } in
      let s2 : Space = record t { bytes = two } in
      let s3 : Space = record t { bytes = three } in
      let all_blocks : List Block = b ∷ m.blocks in
      let m0 : Moves s t m.blocks all_blocks = moves_beside s t [] (b ∷ []) m.blocks taken in
      let m1 : Moves t s1 all_blocks all_blocks = moves_covered t s1 w b.at all_blocks (λ p. holds_all p) (rw begun (omega (arith, long, there))) (rw begun refl) refl in
      let m2 : Moves s1 s2 all_blocks all_blocks = moves_covered s1 s2 name x.at all_blocks (λ p. omega (arith, name_covered p)) (omega (arith, sixteen, wide, x_inside)) refl refl in
      let m3 : Moves s2 s3 all_blocks all_blocks = moves_covered s2 s3 kind_bytes at all_blocks (λ p. omega (arith, kind_covered p)) (omega (arith, two_bytes, x_inside, x_head, two_long, one_long)) refl refl in
      let m4 : Moves s3 u all_blocks all_blocks = moves_covered s3 u coded (m.header + 2) all_blocks (λ p. omega (arith, total_covered p)) total_room ended free in
      moves_same s u m.blocks all_blocks m.blocks blocks_after (λ p. refl) (λ p. omega (arith, cover_after p))
      (moves_then s s3 u m.blocks all_blocks all_blocks
      (moves_then s s2 s3 m.blocks all_blocks all_blocks (moves_then s s1 s2 m.blocks all_blocks all_blocks (moves_then s t s1 m.blocks all_blocks all_blocks m0 m1) m2) m3) m4) where
        holds_all : (p : ℕ) → holds p b.at (length w) ≤ cover p (b ∷ m.blocks)
        holds_all p = let same : holds p b.at (length w) ≡ holds p b.at b.len = ap (holds p b.at) long in omega (arith, same)

  -- ---- the usual case: no Continuation stands behind the message that moves

  no_bytes : (zs : List Message) → bytes_of zs ≡ 0 → zs ≡ []
  no_bytes [] none_left = refl
  no_bytes (z ∷ zs) some = absurd (omega (arith, some))

  -- then the new messages stand behind all others
  pub behind_none : continuations back ≡ [] → named_four.behind ≡ []
  behind_none last =
      let parts = (is_two.has).parts in
      let all_bytes = bytes_filled_all two (first_block two m.header ∷ []) parts (first_inside two m is_two) (named_inside two m is_two) (is_two.has).filled in
      let said_bytes : bytes_of (front ++ message_in two x ∷ back) ≡ bytes_of (all_of parts) = ap bytes_of (sym cut_messages ∙ (is_two.has).all) in
      let named_bytes : bytes_in (continuations (all_of parts)) ≡ bytes_in (continuations front)
      = ap (λ (zs : List Message). bytes_in (continuations zs)) (sym (is_two.has).all ∙ cut_messages)
      ∙ ap bytes_in (flat_map-append continuation front (message_in two x ∷ back) ∙ ap₂ (λ (us vs : List Block). continuations front ++ (us ++ vs)) none last ∙ append-nil (continuations front)) in
      let place_bytes : bytes_of (front ++ message_in two x ∷ named_four.middle) ≡ bytes_in (first_block two m.header ∷ continuations front) = named_four.place in
      let split : bytes_of (front ++ message_in two x ∷ back) ≡ bytes_of (front ++ message_in two x ∷ named_four.middle) + bytes_of named_four.behind
      = ap (λ (zs : List Message). bytes_of (front ++ message_in two x ∷ zs)) named_four.cut ∙ ap bytes_of (sym (append_assoc front (message_in two x ∷ named_four.middle) named_four.behind))
      ∙ bytes_of-append (front ++ message_in two x ∷ named_four.middle) named_four.behind in
      no_bytes named_four.behind (omega (arith, all_bytes, said_bytes, named_bytes, place_bytes, split))
