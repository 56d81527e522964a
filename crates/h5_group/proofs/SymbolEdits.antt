-- Symbol nodes that are written where they stand.
use Rattle.std.proofs.Common.{◌≡◌, ℕ, ◌+◌, ◌*◌, ◌≤◌, List, length, refl, sym, ap, ◌∙◌, arith}
use Rattle.std.proofs.lemmas.List.{places}
use Rattle.h5_bytes.specs.Bytes.{byte_at, part, with_part}
use Rattle.h5_bytes.proofs.PartLaws.{length-with_part, part-part, part-with_part_same}
use Rattle.h5_model.specs.Format.Symbols.{Entry, IsSymbolNode, entries_of, symbol_bytes, symbols_at, symbols_in}
use Rattle.h5_space.specs.Lending.{with_bytes_at}
use Rattle.h5_space.specs.Space.{Space}
use Rattle.h5_space.proofs.MovesLaws.{moves_write}
use Rattle.h5_snod.proofs.EntryLaws.{length-entries}
use Rattle.h5_group.specs.SymbolEdits.{IsSymbolsRewritten}

byte_in_front : (bytes : List ℕ) → byte_at (part 0 6 bytes) 4 ≡ byte_at bytes 4
unfolding part
byte_in_front bytes = grind (arith, places)

-- where the head stays, it is a symbol node still
form_kept : (leaf : ℕ) (old new : List ℕ) → part 0 6 new ≡ part 0 6 old → length (entries_of new) ≤ 2 * leaf → IsSymbolNode leaf old → IsSymbolNode leaf new
form_kept leaf old new front few is = record {
  signed = sym (part-part 0 4 0 6 new (omega arith)) ∙ ap (part 0 4) front ∙ part-part 0 4 0 6 old (omega arith) ∙ is.signed;
  version = sym (byte_in_front new) ∙ ap (λ (b : List ℕ). byte_at b 4) front ∙ byte_in_front old ∙ is.version;
  roomy = let n = length-entries new in omega (arith, n, few);
}

-- one is written
pub symbols_rewritten : (old new : Space) (leaf at : ℕ) (w : List ℕ) (entries : List Entry) → length w ≡ 8 + 80 * leaf → at + (8 + 80 * leaf) ≤ length old.bytes
    → new ≡ with_bytes_at old at w → entries_of w ≡ entries → IsSymbolNode leaf w → IsSymbolsRewritten old new leaf at entries
symbols_rewritten old new leaf at w entries size inside is says form =
    let bytes : new.bytes ≡ with_part at w old.bytes = ap (λ (s : Space). s.bytes) is in
    let there : symbol_bytes new.bytes leaf at ≡ w
    = ap (part at (8 + 80 * leaf)) bytes ∙ part-with_part_same at (8 + 80 * leaf) w old.bytes (sym size) (omega (arith, size, inside)) in
    let long : length new.bytes ≡ length old.bytes = ap (λ (b : List ℕ). length b) bytes ∙ length-with_part at w old.bytes (omega (arith, size, inside)) in
    let room : new.room_bytes ≡ old.room_bytes = ap (λ (s : Space). s.room_bytes) is in
    let calls : new.room_blocks ≡ old.room_blocks = ap (λ (s : Space). s.room_blocks) is in
    record {
      says = ap entries_of there ∙ says;
      form = rw there form;
      moves = moves_write old new at (8 + 80 * leaf) w size inside bytes (ap (λ (s : Space). s.free) is);
      free = ap (λ (s : Space). s.free) is;
      size = long;
      spends = record { grown = omega (arith, long); bytes_left = omega (arith, room); blocks_left = omega (arith, calls) };
    }

-- The bytes of a symbol node that stands in the image, as they are lent.
pub record IsLent (s : Space) (leaf at : ℕ) (lent : List ℕ) : Type 0 where
  pub inside : at + (8 + 80 * leaf) ≤ length s.bytes
  pub form : IsSymbolNode leaf (symbol_bytes s.bytes leaf at)
  pub is : lent ≡ symbol_bytes s.bytes leaf at
  pub long : length lent ≡ 8 + 80 * leaf
  -- how many entries there are, for all of which they have room
  pub count : symbols_in lent ≡ length (symbols_at s.bytes leaf at)
  pub roomy : symbols_in lent ≤ 2 * leaf

pub is_lent : (s : Space) (leaf at n : ℕ) → n ≡ leaf → at + (8 + 80 * leaf) ≤ length s.bytes → IsSymbolNode leaf (symbol_bytes s.bytes leaf at)
    → (lent : List ℕ) → lent ≡ part at (8 + 80 * n) s.bytes → length lent ≡ 8 + 80 * n → IsLent s leaf at lent
is_lent s leaf at n same inside form lent value size =
    let is : lent ≡ symbol_bytes s.bytes leaf at = value ∙ ap (λ (l : ℕ). part at (8 + 80 * l) s.bytes) same in
    let count = ap symbols_in is in
    let roomy = form.roomy in
    record {
      inside = inside;
      form = form;
      is = is;
      long = size ∙ ap (λ (l : ℕ). 8 + 80 * l) same;
      count = count ∙ sym (length-entries (symbol_bytes s.bytes leaf at));
      roomy = omega (arith, roomy, count);
    }

-- they come back with other entries behind the same head
pub lent_rewritten : (s : Space) (leaf at : ℕ) (lent : List ℕ) → IsLent s leaf at lent → (w : List ℕ) (change : List Entry → List Entry) → length w ≡ length lent
    → entries_of w ≡ change (entries_of lent) → part 0 6 w ≡ part 0 6 lent → length (change (symbols_at s.bytes leaf at)) ≤ 2 * leaf
    → IsSymbolsRewritten s (with_bytes_at s at w) leaf at (change (symbols_at s.bytes leaf at))
lent_rewritten s leaf at lent l w change long says head few =
    let now = says ∙ ap (λ (bytes : List ℕ). change (entries_of bytes)) l.is in
    symbols_rewritten s (with_bytes_at s at w) leaf at w (change (symbols_at s.bytes leaf at)) (long ∙ l.long) l.inside refl now
    (form_kept leaf (symbol_bytes s.bytes leaf at) w (head ∙ ap (part 0 6) l.is) (omega (arith, few, ap (λ (es : List Entry). length es) now)) l.form)
