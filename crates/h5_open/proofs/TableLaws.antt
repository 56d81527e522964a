-- The Symbol Table of a header in a walk: its two fields are met.
use Rattle.std.proofs.Common.{◌≡◌, ℕ, ◌+◌, ◌≤◌, inl, inr, List, length, refl, sym, ◌∙◌, ap, subst, arith, Option, Some, None, Bool, true, false}
use Rattle.std.specs.Prelude.{◌==◌, nat_le, if◌then◌else◌, option_map, option_and_then}
use Rattle.std.specs.List.{find}
use Rattle.std.proofs.lemmas.Option.{same_Some}
use Rattle.std.proofs.lemmas.Bool.Decides.{nat_tests}
use Rattle.h5_bytes.specs.Bytes.{number_at}
use Rattle.h5_bytes.specs.Blocks.{cover, Separate, Inside}
use Rattle.h5_bytes.specs.declared.Block.{Block}
use Rattle.h5_bytes.proofs.FieldLaws.{number_at-part}
use Rattle.h5_model.specs.Format.MessageTypes.{symbol_table_kind}
use Rattle.h5_model.specs.Format.Addresses.{SymbolTable, symbol_table_of}
use Rattle.h5_model.specs.Format.Messages.{Message, HasMessages, first_body}
use Rattle.h5_model.specs.Format.Reached.{Named, naming_of, HeapHeader, Reached, by_block, group_root, kind_at, size_at}
use Rattle.h5_header.proofs.MetLaws.{length-part-le}
use Rattle.h5_header.specs.Walk.Met.{IsMet, IsHeaderMet, with_header}
use Rattle.h5_header.proofs.WalkLaws.DataLaws.{found_all}
use Rattle.h5_header.proofs.WalkLaws.MessagePlaces.{IsPlacedMessage, messages_placed}
use Rattle.h5_header.proofs.WalkLaws.MetHeader.{message_met}
use Rattle.h5_open.proofs.FoundLaws.{found_kind}

-- ---- the fields of the Symbol Table

-- the two numbers of a body
pub table_numbers : (body : List ℕ) (table : SymbolTable) → symbol_table_of body ≡ Some table → (16 ≤ length body) × (table.tree ≡ number_at body 0 8) × (table.heap ≡ number_at body 8 8)
unfolding symbol_table_of
table_numbers body table is = go (nat_le 16 (length body)) refl is where
  go : (b : Bool) → nat_le 16 (length body) ≡ b → (if b then Some (record { tree = number_at body 0 8; heap = number_at body 8 8 }) else None) ≡ Some table
      → (16 ≤ length body) × (table.tree ≡ number_at body 0 8) × (table.heap ≡ number_at body 8 8)
  go true long e =
      let same : record { tree = number_at body 0 8; heap = number_at body 8 8 } ≡ table = same_Some (record { tree = number_at body 0 8; heap = number_at body 8 8 }) table e in
      (grind (arith, nat_tests, long), sym (ap (λ (t : SymbolTable). t.tree) same), sym (ap (λ (t : SymbolTable). t.heap) same))
  go false short e = absurd (cc)

-- the message that is found, with what its body says
pub found_table : (ms : List Message) (table : SymbolTable) → option_and_then symbol_table_of (first_body symbol_table_kind ms) ≡ Some table
    → (m : Message) × (find (λ (x : Message). x.kind == symbol_table_kind) ms ≡ Some m) × (symbol_table_of m.body ≡ Some table)
found_table ms table is = go (find (λ (x : Message). x.kind == symbol_table_kind) ms) refl is where
  go : (o : Option Message) → find (λ (x : Message). x.kind == symbol_table_kind) ms ≡ o → option_and_then symbol_table_of (option_map (λ (x : Message). x.body) o) ≡ Some table
      → (m : Message) × (find (λ (x : Message). x.kind == symbol_table_kind) ms ≡ Some m) × (symbol_table_of m.body ≡ Some table)
  go None e said = absurd (cc)
  go (Some m) e said = (m, e, said)

module _ (image : List ℕ) (header : ℕ) (ms : List Message) (blocks : List Block) (has : HasMessages image header ms blocks) (inside : Inside (length image) blocks)
    (held : List Block) (followed : List Named) (field depth : ℕ) (met : IsHeaderMet image held followed field header depth)
    (now : List Block) (claimed : (p : ℕ) → cover p now ≡ cover p held + cover p blocks) (separate : Separate now)
    (table : SymbolTable) (m : Message) (first : find (λ (x : Message). x.kind == symbol_table_kind) ms ≡ Some m) (said : symbol_table_of m.body ≡ Some table) where
  placed : IsPlacedMessage image header m
  placed = found_all (IsPlacedMessage image header) 17 ms m (messages_placed image header ms blocks has) first

  abbrev at : ℕ
  at = placed.0

  numbers : (16 ≤ length m.body) × (table.tree ≡ number_at m.body 0 8) × (table.heap ≡ number_at m.body 8 8)
  numbers = table_numbers m.body table said

  long : length m.body ≤ size_at image at
  long = subst (λ (bs : List ℕ). length bs ≤ size_at image at) (sym (placed.1).body) (length-part-le (at + 8) (size_at image at) image)

  is_table : kind_at image at ≡ symbol_table_kind
  is_table = sym (placed.1).kind ∙ found_kind symbol_table_kind ms m first

  tree_is : number_at image (at + 8) 8 ≡ table.tree
  tree_is =
      let none : at + 8 + 0 ≡ at + 8 = omega arith in
      sym (numbers.1 ∙ ap (λ (bs : List ℕ). number_at bs 0 8) (placed.1).body ∙ number_at-part 0 8 (at + 8) (size_at image at) image (omega (arith, numbers.0, long)) ∙ ap (λ (p : ℕ). number_at image p 8) none)

  heap_is : number_at image (at + 16) 8 ≡ table.heap
  heap_is =
      let over : at + 8 + 8 ≡ at + 16 = omega arith in
      sym (numbers.2 ∙ ap (λ (bs : List ℕ). number_at bs 8 8) (placed.1).body ∙ number_at-part 8 8 (at + 8) (size_at image at) image (omega (arith, numbers.0, long)) ∙ ap (λ (p : ℕ). number_at image p 8) over)

  there : at + 8 + size_at image at ≤ length image
  there = (placed.1).there

  pub tree_reached : Reached image (naming_of m.at (group_root image table.tree table.heap) table.tree depth)
  tree_reached =
      let place : at + 8 ≡ m.at = sym (placed.1).place in
      by_block {y = naming_of m.at (group_root image table.tree table.heap) table.tree depth} (met.met).reached
      (inl (at, (placed.1).fits, omega (arith, numbers.0, long), inr (inl (is_table, λ i. naming_of (sym place i) (group_root image (sym tree_is i) (sym heap_is i)) (sym tree_is i) depth))))
      (omega (arith, numbers.0, long, there, (placed.1).place))

  pub heap_reached : Reached image (naming_of (m.at + 8) (HeapHeader table.tree) table.heap depth)
  heap_reached =
      let place : m.at + 8 ≡ at + 16 = omega (arith, (placed.1).place) in
      by_block {y = naming_of (m.at + 8) (HeapHeader table.tree) table.heap depth} (met.met).reached
      (inl (at, (placed.1).fits, omega (arith, numbers.0, long), inr (inr (is_table, λ i. naming_of (place i) (HeapHeader (sym tree_is i)) (sym heap_is i) depth))))
      (omega (arith, numbers.0, long, there, (placed.1).place))

  pub tree_met : IsMet image now (with_header field header depth ms followed) (naming_of m.at (group_root image table.tree table.heap) table.tree depth)
  tree_met = message_met image held followed field header depth met ms blocks has now claimed separate 17 m refl first m.at (omega arith) (omega arith) _ refl tree_reached

  pub heap_met : IsMet image now (with_header field header depth ms followed) (naming_of (m.at + 8) (HeapHeader table.tree) table.heap depth)
  heap_met = message_met image held followed field header depth met ms blocks has now claimed separate 17 m refl first (m.at + 8) (omega arith) (omega (arith, numbers.0)) _ refl heap_reached
