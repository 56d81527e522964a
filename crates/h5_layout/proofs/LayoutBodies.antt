-- The body of a Data Layout message that named no block or no tree, and names one now (File Format Specification 3.0, section IV.A.2.i).
use Rattle.std.proofs.Common.{◌≡◌, ℕ, ◌+◌, ◌-◌, ◌*◌, ◌^◌, ◌<◌, ◌≤◌, Bool, true, false, cond, not, ◌==◌, List, ◌++◌, length, map, refl, ap, ap₂, ◌∙◌, arith, inl, inr, Option, Some, None}
use Rattle.std.specs.Prelude.{◌&&◌, nat_le}
use Rattle.std.specs.List.{list_any, range_with_len}
use Rattle.std.proofs.lemmas.Bool.Decides.{nat_tests}
use Rattle.std.proofs.lemmas.Option.{same_Some, cond_some}
use Rattle.h5_bytes.specs.Bytes.{byte_at, little_bytes, number_at, undefined_address, with_part}
use Rattle.h5_bytes.specs.Blocks.{block}
use Rattle.h5_bytes.specs.declared.Block.{Block}
use Rattle.h5_bytes.proofs.FieldLaws.{number_at-with_field, number_at-with_part_other}
use Rattle.h5_bytes.proofs.PartLaws.{length-with_part}
use Rattle.h5_model.specs.Format.Layout.{Layout, InMessage, InBlock, InChunks, address_from, layout_of, compact_layout, contiguous_layout, chunked_layout, short_numbers_at}
use Rattle.h5_model.specs.Tree.Places.{cells}
use Rattle.h5_space.proofs.MovesLaws.{byte-with_part}
use Rattle.h5_layout.proofs.WriteLaws.{with_part-append}

-- ---- the class

-- the tests that a layout of the second class met
second_class : (a b c d : Bool) (x y z : Option Layout) (l : Layout) → (x ≡ Some l → ⊥) → (z ≡ Some l → ⊥)
    → cond a (cond b x (cond c y (cond d z None))) None ≡ Some l → (a ≡ true) × (b ≡ false) × (c ≡ true) × (y ≡ Some l)
second_class false b c d x y z l p q h = absurd (cc)
second_class true true c d x y z l p q h = absurd (p h)
second_class true false true d x y z l p q h = (refl, refl, refl, h)
second_class true false false true x y z l p q h = absurd (q h)
second_class true false false false x y z l p q h = absurd (cc)

-- and of the third
third_class : (a b c d : Bool) (x y z : Option Layout) (l : Layout) → (x ≡ Some l → ⊥) → (y ≡ Some l → ⊥)
    → cond a (cond b x (cond c y (cond d z None))) None ≡ Some l → (a ≡ true) × (b ≡ false) × (c ≡ false) × (d ≡ true) × (z ≡ Some l)
third_class false b c d x y z l p q h = absurd (cc)
third_class true true c d x y z l p q h = absurd (p h)
third_class true false true d x y z l p q h = absurd (q h)
third_class true false false true x y z l p q h = (refl, refl, refl, refl, h)
third_class true false false false x y z l p q h = absurd (cc)

no_block : (a : Bool) (bytes : List ℕ) (b : Option Block) → cond a (Some (InMessage bytes)) None ≡ Some (InBlock b) → ⊥
no_block false bytes b h = cc
no_block true bytes b h = let never : InMessage bytes ≡ InBlock b = same_Some (InMessage bytes) (InBlock b) h in cc

pub no_chunks : (a : Bool) (bytes : List ℕ) (chunk : List ℕ) (root : Option ℕ) → cond a (Some (InMessage bytes)) None ≡ Some (InChunks chunk root) → ⊥
no_chunks false bytes chunk root h = cc
no_chunks true bytes chunk root h = let never : InMessage bytes ≡ InChunks chunk root = same_Some (InMessage bytes) (InChunks chunk root) h in cc

chunks_no_block : (a : Bool) (chunk : List ℕ) (root : Option ℕ) (b : Option Block) → cond a (Some (InChunks chunk root)) None ≡ Some (InBlock b) → ⊥
chunks_no_block false chunk root b h = cc
chunks_no_block true chunk root b h = let never : InChunks chunk root ≡ InBlock b = same_Some (InChunks chunk root) (InBlock b) h in cc

pub block_no_chunks : (a b c : Bool) (x : Block) (chunk : List ℕ) (root : Option ℕ) → cond a (cond b (Some (InBlock None)) (cond c (Some (InBlock (Some x))) None)) None ≡ Some (InChunks chunk root) → ⊥
block_no_chunks false b c x chunk root h = cc
block_no_chunks true true c x chunk root h = let never : InBlock None ≡ InChunks chunk root = same_Some (InBlock None) (InChunks chunk root) h in cc
block_no_chunks true false true x chunk root h = let never : InBlock (Some x) ≡ InChunks chunk root = same_Some (InBlock (Some x)) (InChunks chunk root) h in cc
block_no_chunks true false false x chunk root h = cc

both_fields : (a b c : Bool) (x : Block) (l : Option Block) → cond a (cond b (Some (InBlock None)) (cond c (Some (InBlock (Some x))) None)) None ≡ Some (InBlock l) → a ≡ true
both_fields false b c x l h = absurd (cc)
both_fields true b c x l h = refl

-- ---- a block

eight : (n : ℕ) → length (little_bytes 8 n) ≡ 8
eight n = refl

module _ (sizes : List ℕ) (size : ℕ) (body : List ℕ) (l : Option Block) (was : layout_of sizes size body ≡ Some (InBlock l)) where
  of_block : ((nat_le 2 (length body) && byte_at body 0 == 3) ≡ true) × ((byte_at body 1 == 0) ≡ false) × ((byte_at body 1 == 1) ≡ true)
      × (contiguous_layout (cells sizes * size) body ≡ Some (InBlock l))
  unfolding layout_of
  of_block = second_class _ _ _ _ (compact_layout (cells sizes * size) body) (contiguous_layout (cells sizes * size) body) (chunked_layout (length sizes) size body) (InBlock l)
      (no_block _ _ l) (chunks_no_block _ _ _ l) was

  -- both fields are there
  pub block_room : 18 ≤ length body
  block_room = let there : nat_le 18 (length body) ≡ true = both_fields _ _ _ _ l of_block.3 in grind (arith, nat_tests, there)

  module _ (at len : ℕ) (low : at < 2 ^ 64 - 1) (short : len < 2 ^ 64) (enough : cells sizes * size ≤ len) where
    abbrev first : List ℕ
    first = with_part 2 (little_bytes 8 at) body

    abbrev body' : List ℕ
    body' = with_part 2 (little_bytes 8 at ++ little_bytes 8 len) body

    long_first : length first ≡ length body
    long_first = length-with_part 2 (little_bytes 8 at) body (omega (arith, eight at, block_room))

    in_turn : body' ≡ with_part 10 (little_bytes 8 len) first
    in_turn = with_part-append 2 (little_bytes 8 at) (little_bytes 8 len) body (omega (arith, eight at, eight len, block_room))

    long : length body' ≡ length body
    long = ap length in_turn ∙ length-with_part 10 (little_bytes 8 len) first (omega (arith, eight len, long_first, block_room)) ∙ long_first

    address : number_at body' 2 8 ≡ at
    address =
        ap (λ (bs : List ℕ). number_at bs 2 8) in_turn
        ∙ number_at-with_part_other 10 (little_bytes 8 len) first 2 8 (omega (arith, eight len, long_first, block_room)) (inl (omega arith))
        ∙ number_at-with_field body 2 8 at (omega (arith, block_room)) (omega (arith, low))

    length_there : number_at body' 10 8 ≡ len
    length_there = ap (λ (bs : List ℕ). number_at bs 10 8) in_turn ∙ number_at-with_field first 10 8 len (omega (arith, long_first, block_room)) (omega (arith, short))

    front : (k : ℕ) → k < 2 → byte_at body' k ≡ byte_at body k
    front k few = byte-with_part 2 (little_bytes 8 at ++ little_bytes 8 len) body k (omega (arith, block_room, (let sixteen : length (little_bytes 8 at ++ little_bytes 8 len) ≡ 16 = refl in sixteen))) (inl few)

    pub block_named : layout_of sizes size body' ≡ Some (InBlock (Some (block at len)))
    unfolding layout_of
    block_named =
        let head : (nat_le 2 (length body') && byte_at body' 0 == 3) ≡ true = ap₂ (λ (n b : ℕ). nat_le 2 n && b == 3) long (front 0 (omega arith)) ∙ of_block.0 in
        let not_compact : (byte_at body' 1 == 0) ≡ false = ap (λ (b : ℕ). b == 0) (front 1 (omega arith)) ∙ of_block.1 in
        let class : (byte_at body' 1 == 1) ≡ true = ap (λ (b : ℕ). b == 1) (front 1 (omega arith)) ∙ of_block.2 in
        let there : nat_le 18 (length body') ≡ true = grind (arith, nat_tests, long, block_room) in
        let defined : (number_at body' 2 8 == undefined_address) ≡ false = grind (arith, nat_tests, address, low) in
        let fits : nat_le (cells sizes * size) (number_at body' 10 8) ≡ true = grind (arith, nat_tests, length_there, enough) in
        rw (head, not_compact, class, there, defined, fits) (ap₂ (λ (a n : ℕ). Some (InBlock (Some (block a n)))) address length_there)

-- ---- a tree

same_sizes : (c d : List ℕ) (p q : Option ℕ) → InChunks c p ≡ InChunks d q → c ≡ d
same_sizes c d p q same = cc

same_root : (c d : List ℕ) (p q : Option ℕ) → InChunks c p ≡ InChunks d q → p ≡ q
same_root c d p q same = cc

module _ (sizes : List ℕ) (size : ℕ) (body chunk : List ℕ) (l : Option ℕ) (was : layout_of sizes size body ≡ Some (InChunks chunk l)) where
  abbrev rank : ℕ
  rank = length sizes

  of_chunks : ((nat_le 2 (length body) && byte_at body 0 == 3) ≡ true) × ((byte_at body 1 == 0) ≡ false) × ((byte_at body 1 == 1) ≡ false) × ((byte_at body 1 == 2) ≡ true)
      × (chunked_layout (length sizes) size body ≡ Some (InChunks chunk l))
  unfolding layout_of
  of_chunks = third_class _ _ _ _ (compact_layout (cells sizes * size) body) (contiguous_layout (cells sizes * size) body) (chunked_layout (length sizes) size body) (InChunks chunk l)
      (no_chunks _ _ chunk l) (block_no_chunks _ _ _ _ chunk l) was

  abbrev is_chunked : ℕ → ℕ → List ℕ → ℕ → Bool
  is_chunked n count numbers last =
      nat_le (11 + 4 * (length sizes + 1)) n && count == length sizes + 1 && nat_le 1 (length sizes) && not (list_any (λ m. m == 0) numbers) && last == size

  met : is_chunked (length body) (byte_at body 2) (short_numbers_at body 11 (length sizes)) (number_at body (11 + 4 * length sizes) 4) ≡ true
  met = (cond_some _ _ _ of_chunks.4).0

  numbers : short_numbers_at body 11 (length sizes) ≡ chunk
  numbers = same_sizes (short_numbers_at body 11 (length sizes)) chunk (address_from (number_at body 3 8)) l (cond_some _ _ _ of_chunks.4).1

  -- the address is there, and there is a dimension
  pub tree_room : 11 ≤ length body
  tree_room = let there : 11 + 4 * (length sizes + 1) ≤ length body = grind (arith, nat_tests, met) in omega (arith, there)

  pub tree_address : address_from (number_at body 3 8) ≡ l
  tree_address = same_root (short_numbers_at body 11 (length sizes)) chunk (address_from (number_at body 3 8)) l (cond_some _ _ _ of_chunks.4).1

  pub some_rank : 1 ≤ length sizes
  some_rank = grind (arith, nat_tests, met)

  module _ (root : ℕ) (low : root < 2 ^ 64 - 1) where
    abbrev named : List ℕ
    named = with_part 3 (little_bytes 8 root) body

    named_room : 3 + length (little_bytes 8 root) ≤ length body
    named_room = omega (arith, eight root, tree_room)

    named_long : length named ≡ length body
    named_long = length-with_part 3 (little_bytes 8 root) body named_room

    named_front : (k : ℕ) → k < 3 → byte_at named k ≡ byte_at body k
    named_front k few = byte-with_part 3 (little_bytes 8 root) body k named_room (inl few)

    behind : (at : ℕ) → 11 ≤ at → number_at named at 4 ≡ number_at body at 4
    behind at past = number_at-with_part_other 3 (little_bytes 8 root) body at 4 named_room (inr (omega (arith, eight root, past)))

    same_numbers : short_numbers_at named 11 (length sizes) ≡ short_numbers_at body 11 (length sizes)
    same_numbers = ap (λ (f : ℕ → ℕ). map f (range_with_len 0 (length sizes))) (λ j i. behind (11 + 4 * i) (omega arith) j)

    still_met : is_chunked (length named) (byte_at named 2) (short_numbers_at named 11 (length sizes)) (number_at named (11 + 4 * length sizes) 4) ≡ true
    still_met =
        (λ i. is_chunked (named_long i) (named_front 2 (omega arith) i) (same_numbers i) (behind (11 + 4 * length sizes) (omega arith) i)) ∙ met

    pub tree_named : layout_of sizes size (with_part 3 (little_bytes 8 root) body) ≡ Some (InChunks chunk (Some root))
    unfolding layout_of
    tree_named =
        let head : (nat_le 2 (length named) && byte_at named 0 == 3) ≡ true = ap₂ (λ (n b : ℕ). nat_le 2 n && b == 3) named_long (named_front 0 (omega arith)) ∙ of_chunks.0 in
        let not_compact : (byte_at named 1 == 0) ≡ false = ap (λ (b : ℕ). b == 0) (named_front 1 (omega arith)) ∙ of_chunks.1 in
        let no_block : (byte_at named 1 == 1) ≡ false = ap (λ (b : ℕ). b == 1) (named_front 1 (omega arith)) ∙ of_chunks.2 in
        let class : (byte_at named 1 == 2) ≡ true = ap (λ (b : ℕ). b == 2) (named_front 1 (omega arith)) ∙ of_chunks.3 in
        let address : number_at named 3 8 ≡ root = number_at-with_field body 3 8 root (omega (arith, tree_room)) (omega (arith, low)) in
        let defined : (number_at named 3 8 == undefined_address) ≡ false = grind (arith, nat_tests, address, low) in
        rw (head, not_compact, no_block, class, still_met, defined) (ap₂ (λ (c : List ℕ) (r : ℕ). Some (InChunks c (Some r))) (same_numbers ∙ numbers) address)
