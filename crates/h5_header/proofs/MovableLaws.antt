-- A header that is read as a group's or as a dataset's has a message that may move into a new block: its Symbol Table, or its
-- Datatype, whose body has the 16 bytes that count, since bodies are multiples of 8 bytes.
use Rattle.std.proofs.Common.{◌≡◌, ℕ, ◌%◌, ◌≤◌, ◌⊎◌, inl, inr, ◌==◌, ◌||◌, cond, Bool, true, false, nat_le, nat_lt, List, [], ◌∷◌, length, Option, Some, None, refl, sym, ap, ap₂, ◌∙◌, arith, eqb-true, ◌+◌, ◌<◌, ◌&&◌, lt-ltb}
use Rattle.std.specs.Prelude.{option_map, option_and_then}
use Rattle.std.specs.List.{AllByRecursion, find, list_any, position, position_or_len}
use Rattle.std.specs.Option.{IsSome}
use Rattle.std.proofs.lemmas.Bool.{and_from, and_parts, leb-true, or_cases, or_left, or_right}
use Rattle.std.proofs.lemmas.Bool.Decides.{nat_tests}
use Rattle.std.proofs.lemmas.List.Quantifiers.{position-Some}
use Rattle.std.proofs.lemmas.Option.{same_Some}
use Rattle.h5_bytes.specs.Bytes.{number_at}
use Rattle.h5_bytes.proofs.PartLaws.{length-part}
use Rattle.h5_model.specs.Format.MessageTypes.{datatype_kind, symbol_table_kind, nil_kind}
use Rattle.h5_model.specs.Format.Addresses.{SymbolTable, symbol_table_of}
use Rattle.h5_model.specs.Format.Datatype.{fixed_of, is_fixed_point, type_size, is_signed, is_high_first}
use Rattle.h5_model.specs.Format.Fixed.{Fixed, fixed_from}
use Rattle.h5_model.specs.Format.Messages.{Message, first_body}
use Rattle.h5_header.specs.Added.{is_movable, may_move, HasMovable}
use Rattle.h5_header.specs.Listed.{Listed, message_in, messages_in, IsWithin}
use Rattle.h5_header.specs.Standing.{IsStanding, kept_at, nowhere}
use Rattle.h5_header.specs.declared.message.Message.{Message as Placed}
use Rattle.h5_header.proofs.StretchLaws.{IsHeaded, message_long}
use Rattle.h5_header.proofs.RewriteLaws.{headed}

movable_here : (m : Message) (kind : ℕ) → (kind ≡ symbol_table_kind) ⊎ (kind ≡ datatype_kind) → m.kind ≡ kind → 16 ≤ length m.body → is_movable m ≡ true
movable_here m kind may same wide =
    let long : nat_le 16 (length m.body) ≡ true = grind (arith, nat_tests, wide) in
    elim may [
      | inl table ↦ let is : (m.kind == symbol_table_kind) ≡ true = grind (arith, nat_tests, table, same) in rw (is, long) refl
      | inr datatype ↦ let is : (m.kind == datatype_kind) ≡ true = grind (arith, nat_tests, datatype, same) in and_from (m.kind == symbol_table_kind || m.kind == datatype_kind) (nat_le 16 (length m.body)) (or_right (m.kind == symbol_table_kind) (m.kind == datatype_kind) is) long
    ]

-- the first message of such a type may move
pub movable_first : (kind : ℕ) (ms : List Message) (body : List ℕ) → (kind ≡ symbol_table_kind) ⊎ (kind ≡ datatype_kind) → 16 ≤ length body → first_body kind ms ≡ Some body → HasMovable ms
movable_first kind [] body may wide h = absurd (cc)
movable_first kind (m ∷ ms) body may wide h = elim (m.kind == kind) as (λ b. (m.kind == kind) ≡ b
    → option_map (λ (x : Message). x.body) (cond b (Some m) (find (λ (x : Message). x.kind == kind) ms)) ≡ Some body → HasMovable (m ∷ ms)) [
      | true ↦ λ e is.
          let wide_here : 16 ≤ length m.body = omega (arith, wide, ap length (same_Some m.body body is)) in
          or_left (is_movable m) (list_any is_movable ms) (movable_here m kind may (eqb-true m.kind kind e) wide_here)
      | false ↦ λ e is. or_right (is_movable m) (list_any is_movable ms) (movable_first kind ms body may wide is)
    ] refl h

table_wide : (body : List ℕ) (table : SymbolTable) → symbol_table_of body ≡ Some table → 16 ≤ length body
unfolding symbol_table_of
table_wide body table says = go (nat_le 16 (length body)) refl says where
  go : (t : Bool) → nat_le 16 (length body) ≡ t → cond t (Some (record { tree = number_at body 0 8; heap = number_at body 8 8 })) None ≡ Some table → 16 ≤ length body
  go true holds is = leb-true 16 (length body) holds
  go false fails is = absurd (cc)

pub type_wide : (body : List ℕ) (fixed : Fixed) → fixed_of body ≡ Some fixed → 12 ≤ length body
unfolding fixed_of
type_wide body fixed says = go (is_fixed_point body) refl says where
  go : (t : Bool) → is_fixed_point body ≡ t → cond t (fixed_from (type_size body) (is_signed body) (is_high_first body)) None ≡ Some fixed → 12 ≤ length body
  go true holds is = grind (arith, nat_tests, holds)
  go false fails is = absurd (cc)

-- what is read as a group's
pub movable_table : (ms : List Message) (table : SymbolTable) → option_and_then symbol_table_of (first_body symbol_table_kind ms) ≡ Some table → HasMovable ms
movable_table ms table says = go (first_body symbol_table_kind ms) refl says where
  go : (o : Option (List ℕ)) → first_body symbol_table_kind ms ≡ o → option_and_then symbol_table_of o ≡ Some table → HasMovable ms
  go None is chosen = absurd (cc)
  go (Some body) is chosen = movable_first symbol_table_kind ms body (inl refl) (table_wide body table chosen) is

abbrev pub IsPadded : Message → Type 0
IsPadded m = length m.body % 8 ≡ 0

-- what is read as a dataset's
pub movable_type : (ms : List Message) (fixed : Fixed) → AllByRecursion IsPadded ms → option_and_then fixed_of (first_body datatype_kind ms) ≡ Some fixed → HasMovable ms
movable_type ms fixed padded says = go (first_body datatype_kind ms) refl says where
  first_padded : (xs : List Message) (body : List ℕ) → AllByRecursion IsPadded xs → first_body datatype_kind xs ≡ Some body → length body % 8 ≡ 0
  first_padded [] body all is = absurd (cc)
  first_padded (x ∷ xs) body all is = elim (x.kind == datatype_kind) as (λ b.
      option_map (λ (y : Message). y.body) (cond b (Some x) (find (λ (y : Message). y.kind == datatype_kind) xs)) ≡ Some body → length body % 8 ≡ 0) [
        | true ↦ λ here. ap (λ (bs : List ℕ). length bs % 8) (sym (same_Some x.body body here)) ∙ all.0
        | false ↦ λ behind. first_padded xs body all.1 behind
      ] is

  go : (o : Option (List ℕ)) → first_body datatype_kind ms ≡ o → option_and_then fixed_of o ≡ Some fixed → HasMovable ms
  go None is chosen = absurd (cc)
  go (Some body) is chosen = movable_first datatype_kind ms body (inr refl) (omega (arith, type_wide body fixed chosen, first_padded ms body padded is)) is

all_padded : (image : List ℕ) (ms : List Message) → AllByRecursion (IsHeaded image) ms → AllByRecursion IsPadded ms
all_padded image [] all = tt
all_padded image (m ∷ ms) all =
    let is = (all.0).1 in
    (ap (λ (n : ℕ). n % 8) (message_long image (all.0).0 m is) ∙ is.padded, all_padded image ms all.1)

-- the bodies of a header's messages are multiples of 8 bytes
pub standing_padded : (image : List ℕ) (m : Listed) → IsStanding image m → AllByRecursion IsPadded (messages_in image m.list)
standing_padded image m is = all_padded image (messages_in image m.list) (headed image m is)

-- ---- as it is kept

or_other : (a b : Bool) → a ≡ false → (a || b) ≡ true → b ≡ true
or_other true b other some = absurd (cc)
or_other false b other some = some

same_movable : (image : List ℕ) (x : Placed) → x.at + x.size ≤ length image → is_movable (message_in image x) ≡ may_move x
same_movable image x inside = ap (λ (n : ℕ). (x.kind == symbol_table_kind || x.kind == datatype_kind) && nat_le 16 n) (length-part x.at x.size image inside)

movable_kept : (image : List ℕ) (xs : List Placed) → IsWithin (length image) xs → list_any is_movable (messages_in image xs) ≡ list_any may_move xs
movable_kept image [] within = refl
movable_kept image (x ∷ xs) within = ap₂ (λ (a b : Bool). a || b) (same_movable image x within.0) (movable_kept image xs within.1)

first_below : (xs : List Placed) → list_any may_move xs ≡ true → position_or_len may_move xs < length xs
first_below [] some = absurd (cc)
first_below (x ∷ xs) some = go (may_move x) refl (first_below xs) where
  go : (t : Bool) → may_move x ≡ t → (list_any may_move xs ≡ true → position_or_len may_move xs < length xs) → position_or_len may_move (x ∷ xs) < length (x ∷ xs)
  go true here later = rw here (omega arith)
  go false other later = rw other (omega (arith, later (or_other (may_move x) (list_any may_move xs) other some)))

-- one that may move is found
pub movable_found : (image : List ℕ) (xs : List Placed) → IsWithin (length image) xs → HasMovable (messages_in image xs) → IsSome (position may_move xs)
movable_found image xs within has =
    let test : nat_lt (position_or_len may_move xs) (length xs) ≡ true = lt-ltb (position_or_len may_move xs) (length xs) (first_below xs (sym (movable_kept image xs within) ∙ has)) in
    rw test refl

-- what is found may move
pub found_movable : (xs : List Placed) (k : ℕ) → position may_move xs ≡ Some k
    → (k < length xs) × (((kept_at xs k).kind ≡ symbol_table_kind) ⊎ ((kept_at xs k).kind ≡ datatype_kind)) × (16 ≤ (kept_at xs k).size)
found_movable xs k is =
    let at = position-Some may_move xs k nowhere is in
    let x = kept_at xs k in
    let both = and_parts (x.kind == symbol_table_kind || x.kind == datatype_kind) (nat_le 16 x.size) at.1 in (
      at.0,
      elim (or_cases (x.kind == symbol_table_kind) (x.kind == datatype_kind) both.0) [
        | inl table ↦ inl (eqb-true x.kind symbol_table_kind table)
        | inr datatype ↦ inr (eqb-true x.kind datatype_kind datatype)
      ],
      leb-true 16 x.size both.1,
    )

-- and what is found among NIL messages is one, and has the size
pub found_nil : (xs : List Placed) (size k : ℕ) → position (λ (m : Placed). m.kind == nil_kind && nat_le size m.size) xs ≡ Some k
    → (k < length xs) × ((kept_at xs k).kind ≡ nil_kind) × (size ≤ (kept_at xs k).size)
found_nil xs size k is =
    let at = position-Some (λ (m : Placed). m.kind == nil_kind && nat_le size m.size) xs k nowhere is in
    let x = kept_at xs k in
    let both = and_parts (x.kind == nil_kind) (nat_le size x.size) at.1 in
    (at.0, eqb-true x.kind nil_kind both.0, leb-true size x.size both.1)
