-- Cells of a compact array that were written in its Data Layout message: the messages describe the same array, with these cells.
use Rattle.std.proofs.Common.{◌≡◌, ℕ, suc, ◌+◌, ◌-◌, ◌*◌, ◌<◌, ◌≤◌, Bool, true, false, cond, ◌==◌, List, [], ◌∷◌, length, take, drop, refl, sym, ap, ap₂, ◌∙◌, arith, inl, Option, Some, None, ℤ}
use Rattle.std.proofs.lemmas.Bool.{and_parts}
use Rattle.std.specs.Prelude.{◌&&◌, nat_le, option_map, option_and_then}
use Rattle.std.specs.FinMap.{empty}
use Rattle.std.specs.List.{find, list_all, range_with_len, slice_range}
use Rattle.std.proofs.lemmas.Option.{same_Some, cond_some}
use Rattle.std.proofs.Math.Nat.{mul-le-mul_right}
use Rattle.std.proofs.lemmas.Bool.Decides.{nat_tests}
use Rattle.h5_bytes.specs.Bytes.{part, with_part, byte_at, number_at}
use Rattle.h5_bytes.specs.declared.Block.{Block}
use Rattle.h5_bytes.proofs.FieldLaws.{number_at-same}
use Rattle.h5_bytes.proofs.PartLaws.{length-part, length-with_part, part-part, part-with_part_same, part-with_part_other, with_part-with_part}
use Rattle.h5_bytes.proofs.TableLaws.{table_same}
use Rattle.h5_model.specs.Format.MessageTypes.{data_layout_kind}
use Rattle.h5_model.specs.Edits.Applied.{with_cells}
use Rattle.h5_model.specs.Format.Cells.{value_in, cells_of}
use Rattle.h5_model.specs.Format.Chunks.{Chunks}
use Rattle.h5_model.specs.Format.Fixed.{Fixed, IsFixed, fits, bytes_of}
use Rattle.h5_model.specs.Format.Layout.{Layout, InMessage, InBlock, InChunks, layout_of, compact_layout, contiguous_layout, chunked_layout}
use Rattle.h5_model.specs.Format.Messages.{Message, first_body}
use Rattle.h5_model.specs.Format.Plain.{cells_bytes}
use Rattle.h5_model.specs.Format.Described.{Described, HasArray}
use Rattle.h5_model.specs.Tree.Places.{cells, place_of, index_of}
use Rattle.h5_model.proofs.FixedLaws.{length-bytes_of}
use Rattle.h5_model.proofs.PlaceLaws.{place-index}
use Rattle.h5_model.proofs.PlainValues.{length-cells_bytes}
use Rattle.h5_model.proofs.BodyLaws.{byte_at-part}
use Rattle.h5_header.specs.Listed.{messages_in, IsWithin}
use Rattle.h5_header.specs.declared.message.Message.{Message as Placed}
use Rattle.h5_header.proofs.FirstWritten.{HasNewBody}
use Rattle.h5_header.proofs.FoundLaws.{first_body-in, within_at}
use Rattle.h5_laws.proofs.InPlace.CellWrites.{cells_in, cell_written}
use Rattle.h5_layout.specs.Compact.{compact_at}
use Rattle.h5_layout.specs.Data.{dataset_told}
use Rattle.h5_layout.proofs.Relaid.{relaid}
use Rattle.h5_layout.proofs.WriteLaws.{with_part-none, with_part-append}

-- ---- a compact layout by its bytes

contiguous_not : (a b c : Bool) (x : Block) (bytes : List ℕ) → cond a (cond b (Some (InBlock None)) (cond c (Some (InBlock (Some x))) None)) None ≡ Some (InMessage bytes) → ⊥
contiguous_not false b c x bytes h = cc
contiguous_not true true c x bytes h = let never : InBlock None ≡ InMessage bytes = same_Some (InBlock None) (InMessage bytes) h in cc
contiguous_not true false true x bytes h = let never : InBlock (Some x) ≡ InMessage bytes = same_Some (InBlock (Some x)) (InMessage bytes) h in cc
contiguous_not true false false x bytes h = cc

chunked_not : (a : Bool) (sizes : List ℕ) (root : Option ℕ) (bytes : List ℕ) → cond a (Some (InChunks sizes root)) None ≡ Some (InMessage bytes) → ⊥
chunked_not false sizes root bytes h = cc
chunked_not true sizes root bytes h = let never : InChunks sizes root ≡ InMessage bytes = same_Some (InChunks sizes root) (InMessage bytes) h in cc

-- the tests that the layout met
by_class : (a b c d : Bool) (x y z : Option Layout) (bytes : List ℕ) → (y ≡ Some (InMessage bytes) → ⊥) → (z ≡ Some (InMessage bytes) → ⊥)
    → cond a (cond b x (cond c y (cond d z None))) None ≡ Some (InMessage bytes) → (a ≡ true) × (b ≡ true) × (x ≡ Some (InMessage bytes))
by_class false b c d x y z bytes p q h = absurd (cc)
by_class true true c d x y z bytes p q h = (refl, refl, h)
by_class true false true d x y z bytes p q h = absurd (p h)
by_class true false false true x y z bytes p q h = absurd (q h)
by_class true false false false x y z bytes p q h = absurd (cc)

abbrev is_front : List ℕ → Bool
is_front body = nat_le 2 (length body) && byte_at body 0 == 3

abbrev has_data : ℕ → List ℕ → Bool
has_data need body = nat_le 4 (length body) && nat_le (4 + number_at body 2 2) (length body) && nat_le need (number_at body 2 2)

record IsCompact (sizes : List ℕ) (size : ℕ) (body bytes : List ℕ) : Type 0 where
  front : is_front body ≡ true
  class : (byte_at body 1 == 0) ≡ true
  data_there : has_data (cells sizes * size) body ≡ true
  room : 4 + cells sizes * size ≤ length body
  bytes_are : bytes ≡ part 4 (cells sizes * size) body

behind_front : (need : ℕ) (body : List ℕ) → slice_range body 4 (4 + need) ≡ part 4 need body
unfolding part
behind_front need body = let long : 4 + need - 4 ≡ need = omega arith in ap (λ (n : ℕ). take n (drop 4 body)) long

same_data : (a b : List ℕ) → InMessage a ≡ InMessage b → a ≡ b
same_data a b same = cc

is_compact : (sizes : List ℕ) (size : ℕ) (body bytes : List ℕ) → layout_of sizes size body ≡ Some (InMessage bytes) → IsCompact sizes size body bytes
unfolding layout_of
is_compact sizes size body bytes h =
    let need = cells sizes * size in
    let tests = by_class _ _ _ _ (compact_layout need body) (contiguous_layout need body) (chunked_layout (length sizes) size body) bytes
    (contiguous_not _ _ _ _ bytes) (chunked_not _ _ _ bytes) h in
    let p = cond_some _ _ _ tests.2 in
    record {
      front = tests.0;
      class = tests.1;
      data_there = p.0;
      room = grind (arith, nat_tests, p.0);
      bytes_are = sym (same_data (slice_range body 4 (4 + need)) bytes p.1) ∙ behind_front need body;
    }

front_byte : (body body' : List ℕ) (k : ℕ) → k < 4 → part 0 4 body' ≡ part 0 4 body → byte_at body' k ≡ byte_at body k
front_byte body body' k low same =
    let none : 0 + k ≡ k = omega arith in
    rw none at (sym (byte_at-part k 0 4 body' low) ∙ ap (λ (bs : List ℕ). byte_at bs k) same ∙ byte_at-part k 0 4 body low)

-- a body that differs behind its front alone is as good
compact_again : (sizes : List ℕ) (size : ℕ) (body bytes body' : List ℕ) → IsCompact sizes size body bytes → length body' ≡ length body → part 0 4 body' ≡ part 0 4 body
    → layout_of sizes size body' ≡ Some (InMessage (part 4 (cells sizes * size) body'))
unfolding layout_of
compact_again sizes size body bytes body' is long same =
    let need = cells sizes * size in
    let first : is_front body' ≡ true = ap₂ (λ (n b : ℕ). nat_le 2 n && b == 3) long (front_byte body body' 0 (omega arith) same) ∙ is.front in
    let class : (byte_at body' 1 == 0) ≡ true = ap (λ (b : ℕ). b == 0) (front_byte body body' 1 (omega arith) same) ∙ is.class in
    let sized : number_at body' 2 2 ≡ number_at body 2 2 = number_at-same body body' 0 4 2 2 same (omega arith) in
    let stored : has_data need body' ≡ true = ap₂ (λ (n s : ℕ). nat_le 4 n && nat_le (4 + s) n && nat_le need s) long sized ∙ is.data_there in
    rw (first, class, stored) (ap (λ (bs : List ℕ). Some (InMessage bs)) (behind_front need body'))

-- ---- cells in line

cells_line : (image : List ℕ) (t : Fixed) (fill : ℤ) (sizes : List ℕ) (bytes : List ℕ) (chunks : Chunks)
    → cells_of image t fill sizes (InMessage bytes) chunks ≡ cells_in t bytes (cells sizes)
cells_line image t fill sizes bytes chunks =
    table_same (value_in t bytes) (λ place. value_in t bytes (place_of sizes (index_of sizes place))) (cells sizes) 0
    (λ j low. ap (value_in t bytes) (place-index sizes j low))

-- the cells are those before, but these
line_written : (t : Fixed) (is : IsFixed t) (n : ℕ) (values : List ℤ) (place : ℕ) (bytes : List ℕ) → list_all (fits t) values ≡ true → place + length values ≤ n → n * t.size ≤ length bytes
    → cells_in t (with_part (place * t.size) (cells_bytes t values) bytes) n ≡ with_cells (cells_in t bytes n) (range_with_len place (length values)) values
line_written t is n [] place bytes all low room =
    let past = mul-le-mul_right t.size (let l : place ≤ n = omega (arith, low) in l) in
    ap (λ bs. cells_in t bs n) (with_part-none (place * t.size) bytes (omega (arith, past, room)))
line_written t is n (v ∷ vs) place bytes all low room =
    let first : List ℕ = with_part (place * t.size) (bytes_of t v) bytes in
    let wide = length-bytes_of t v in
    let rest = length-cells_bytes t vs in
    let past = mul-le-mul_right t.size low in
    let end : (place + suc (length vs)) * t.size ≡ place * t.size + (t.size + length vs * t.size) = omega arith in
    let next : place * t.size + length (bytes_of t v) ≡ (place + 1) * t.size = omega (arith, wide) in
    let fit = (and_parts (fits t v) (list_all (fits t) vs) all).0 in
    let fits_rest = (and_parts (fits t v) (list_all (fits t) vs) all).1 in
    let long : length first ≡ length bytes = length-with_part (place * t.size) (bytes_of t v) bytes (omega (arith, wide, past, end, room)) in
    ap (λ bs. cells_in t bs n) (with_part-append (place * t.size) (bytes_of t v) (cells_bytes t vs) bytes (omega (arith, wide, rest, past, end, room))
    ∙ ap (λ at. with_part at (cells_bytes t vs) first) next)
    ∙ line_written t is n vs (place + 1) first fits_rest (omega (arith, low)) (omega (arith, long, room))
    ∙ ap (λ cells. with_cells cells (range_with_len (place + 1) (length vs)) vs) (cell_written t bytes n place v is fit (omega (arith, low)) room)

-- ---- an array whose cells stand in a message that is kept

module _ (old : List ℕ) (list : List Placed) (within : IsWithin (length old) list) (a : Described) (has : HasArray (messages_in old list) a)
    (bytes : List ℕ) (laid : a.layout ≡ InMessage bytes) (x : Placed) (found : find (λ (m : Placed). m.kind == data_layout_kind) list ≡ Some x) where
  abbrev need : ℕ
  need = cells a.sizes * a.fixed.size

  inside : x.at + x.size ≤ length old
  inside = within_at (length old) 8 list x within found

  long : length (part x.at x.size old) ≡ x.size
  long = length-part x.at x.size old inside

  form : IsCompact a.sizes a.fixed.size (part x.at x.size old) bytes
  form =
      let body : first_body data_layout_kind (messages_in old list) ≡ Some (part x.at x.size old) = first_body-in old 8 list ∙ ap (option_map (λ (m : Placed). part m.at m.size old)) found in
      is_compact a.sizes a.fixed.size (part x.at x.size old) bytes
      (sym (ap (option_and_then (layout_of a.sizes a.fixed.size)) body) ∙ has.laid_out ∙ ap (λ (l : Layout). Some l) laid)

  data_room : 4 + need ≤ x.size
  data_room = omega (arith, form.room, long)

  -- the cells end in the image
  pub compact_end : x.at + 4 + cells a.sizes * a.fixed.size ≤ length old
  compact_end = omega (arith, data_room, inside)

  data_at : (image : List ℕ) → part 4 need (part x.at x.size image) ≡ part (x.at + 4) need image
  data_at image = part-part 4 need x.at x.size image data_room

  bytes_there : bytes ≡ part (x.at + 4) need old
  bytes_there = form.bytes_are ∙ data_at old

  -- values that are written into its cells from a place on
  module _ (place : ℕ) (values : List ℤ) (room : place + length values ≤ cells a.sizes) where
    abbrev at : ℕ
    at = x.at + 4 + place * a.fixed.size

    abbrev w : List ℕ
    w = cells_bytes a.fixed values

    abbrev new : List ℕ
    new = with_part at w old

    wide : length w ≡ length values * a.fixed.size
    wide = length-cells_bytes a.fixed values

    fit : place * a.fixed.size + length w ≤ need
    fit =
        let low = mul-le-mul_right a.fixed.size room in
        let end : (place + length values) * a.fixed.size ≡ place * a.fixed.size + length values * a.fixed.size = omega arith in
        omega (arith, low, end, wide)

    -- they stand in the message's body, behind its front
    pub compact_low : x.at ≤ x.at + 4 + place * a.fixed.size
    compact_low = omega arith

    pub compact_high : x.at + 4 + place * a.fixed.size + length (cells_bytes a.fixed values) ≤ x.at + x.size
    compact_high = omega (arith, fit, data_room)

    pub compact_inside : x.at + 4 + place * a.fixed.size + length values * a.fixed.size ≤ length old
    compact_inside = omega (arith, fit, wide, data_room, inside)

    -- the array with what then stands in the message
    abbrev pub array_with : Described
    array_with = record a { layout = InMessage (part (x.at + 4) (cells a.sizes * a.fixed.size) (with_part (x.at + 4 + place * a.fixed.size) (cells_bytes a.fixed values) old)) }

    pub compact_told : list_all (fits a.fixed) values ≡ true → IsFixed a.fixed
        → dataset_told new array_with ≡ record (dataset_told old a) { cells = with_cells (dataset_told old a).cells (range_with_len place (length values)) values }
    compact_told of_type fixed =
        let line = part (x.at + 4) need old in
        let size : length line ≡ need = length-part (x.at + 4) need old (omega (arith, data_room, inside)) in
        let inner : List ℕ = with_part (place * a.fixed.size) w line in
        let same : length inner ≡ need = length-with_part (place * a.fixed.size) w line (omega (arith, size, fit)) ∙ size in
        let there : part (x.at + 4) need new ≡ inner
        = ap (part (x.at + 4) need) (sym (with_part-with_part (x.at + 4) need (place * a.fixed.size) w old (omega (arith, data_room, inside)) fit))
        ∙ part-with_part_same (x.at + 4) need inner old (sym same) (omega (arith, same, data_room, inside)) in
        let before : (dataset_told old a).cells ≡ cells_in a.fixed line (cells a.sizes)
        = ap (λ (l : Layout). (dataset_told old (record a { layout = l })).cells) laid ∙ cells_line old a.fixed a.fill a.sizes bytes empty
        ∙ ap (λ (bs : List ℕ). cells_in a.fixed bs (cells a.sizes)) bytes_there in
        let after : (dataset_told new array_with).cells ≡ with_cells (dataset_told old a).cells (range_with_len place (length values)) values
        = cells_line new a.fixed a.fill a.sizes (part (x.at + 4) need new) empty ∙ ap (λ (bs : List ℕ). cells_in a.fixed bs (cells a.sizes)) there
        ∙ line_written a.fixed fixed (cells a.sizes) values place line of_type room (omega (arith, size))
        ∙ ap (λ (cs : List ℤ). with_cells cs (range_with_len place (length values)) values) (sym before) in
        ap (λ (l : Layout). record (dataset_told old (record a { layout = l })) { cells = (dataset_told new array_with).cells }) (sym laid)
        ∙ ap (λ (cs : List ℤ). record (dataset_told old a) { cells = cs }) after

    -- what the messages then describe
    pub compact_array : (ms : List Message) → HasNewBody data_layout_kind (messages_in old list) ms (part x.at x.size new) → HasArray ms array_with
    compact_array ms is =
        let was = messages_in old list in
        let body = part x.at x.size new in
        let long_now : length body ≡ x.size = length-part x.at x.size new (omega (arith, length-with_part at w old (omega (arith, compact_high, inside)), inside)) in
        let front : part 0 4 body ≡ part 0 4 (part x.at x.size old)
        = part-part 0 4 x.at x.size new (omega (arith, data_room)) ∙ part-with_part_other at w old (x.at + 0) 4 (omega (arith, compact_high, inside)) (inl (omega arith))
        ∙ sym (part-part 0 4 x.at x.size old (omega (arith, data_room))) in
        relaid was ms body is a has (InMessage (part (x.at + 4) need new))
        (compact_again a.sizes a.fixed.size (part x.at x.size old) bytes body form (long_now ∙ sym long) front ∙ ap (λ (bs : List ℕ). Some (InMessage bs)) (data_at new)) tt

-- ---- by the address of the data

-- the message behind whose front they stand
pub compact_message : (list : List Placed) (base : ℕ) → compact_at list ≡ Some base → (x : Placed) × (find (λ (m : Placed). m.kind == data_layout_kind) list ≡ Some x) × (x.at + 4 ≡ base)
compact_message list base is = go (find (λ (m : Placed). m.kind == data_layout_kind) list) refl is where
  go : (found : Option Placed) → find (λ (m : Placed). m.kind == data_layout_kind) list ≡ found → option_map (λ (m : Placed). m.at + 4) found ≡ Some base
      → (x : Placed) × (find (λ (m : Placed). m.kind == data_layout_kind) list ≡ Some x) × (x.at + 4 ≡ base)
  go None none never = absurd (let n : None ≡ Some base = never in cc)
  go (Some x) here at = (x, here, same_Some (x.at + 4) base at)

-- each cell begins in the image, or at its end
pub compact_place_low : (old : List ℕ) (list : List Placed) → IsWithin (length old) list → (a : Described) → HasArray (messages_in old list) a → (bytes : List ℕ) → a.layout ≡ InMessage bytes
    → (base : ℕ) → compact_at list ≡ Some base → (place : ℕ) → place ≤ cells a.sizes → base + place * a.fixed.size ≤ length old
compact_place_low old list within a has bytes laid base there place low =
    let found = compact_message list base there in
    let most = mul-le-mul_right a.fixed.size low in
    omega (arith, compact_end old list within a has bytes laid found.0 found.1, found.2, most)
