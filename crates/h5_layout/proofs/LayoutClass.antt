-- The class in the body of a Data Layout message tells whether the cells are in chunks (File Format Specification 3.0, section
-- IV.A.2.i).
use Rattle.std.proofs.Common.{◌≡◌, ℕ, ◌*◌, ◌≤◌, Bool, true, false, cond, ◌==◌, List, length, ◌⊎◌, inl, inr, refl, sym, ap, ◌∙◌, Option, Some, None, arith}
use Rattle.std.specs.Prelude.{◌&&◌, nat_le}
use Rattle.std.proofs.lemmas.Bool.Decides.{nat_tests}
use Rattle.std.proofs.lemmas.Option.{same_Some, cond_some}
use Rattle.h5_bytes.specs.Bytes.{byte_at}
use Rattle.h5_bytes.specs.declared.Block.{Block}
use Rattle.h5_model.specs.Edits.Refusal.{is_chunked}
use Rattle.h5_model.specs.Format.Layout.{Layout, InMessage, InBlock, InChunks, layout_of, compact_layout, contiguous_layout, chunked_layout}
use Rattle.h5_model.specs.Format.Described.{storage_of}
use Rattle.h5_model.specs.Tree.Places.{cells}

-- a layout is of one of three classes
by_class : (a b c d : Bool) (x y z : Option Layout) (l : Layout) → cond a (cond b x (cond c y (cond d z None))) None ≡ Some l
    → (a ≡ true) × (((b ≡ true) × (x ≡ Some l)) ⊎ (((c ≡ true) × (y ≡ Some l)) ⊎ ((d ≡ true) × (z ≡ Some l))))
by_class false b c d x y z l h = absurd (cc)
by_class true true c d x y z l h = (refl, inl (refl, h))
by_class true false true d x y z l h = (refl, inr (inl (refl, h)))
by_class true false false true x y z l h = (refl, inr (inr (refl, h)))
by_class true false false false x y z l h = absurd (cc)

module _ (sizes : List ℕ) where
  in_message : (test : Bool) (bytes : List ℕ) (l : Layout) → cond test (Some (InMessage bytes)) None ≡ Some l → is_chunked (storage_of sizes l) ≡ false
  in_message test bytes l h = ap (λ (x : Layout). is_chunked (storage_of sizes x)) (sym (cond_some test (InMessage bytes) l h).1)

  in_block : (a b c : Bool) (x : Block) (l : Layout) → cond a (cond b (Some (InBlock None)) (cond c (Some (InBlock (Some x))) None)) None ≡ Some l
      → is_chunked (storage_of sizes l) ≡ false
  in_block false b c x l h = absurd (cc)
  in_block true true c x l h = ap (λ (y : Layout). is_chunked (storage_of sizes y)) (sym (same_Some (InBlock None) l h))
  in_block true false c x l h = ap (λ (y : Layout). is_chunked (storage_of sizes y)) (sym (cond_some c (InBlock (Some x)) l h).1)

  in_chunks : (test : Bool) (chunk : List ℕ) (root : Option ℕ) (l : Layout) → cond test (Some (InChunks chunk root)) None ≡ Some l → is_chunked (storage_of sizes l) ≡ true
  in_chunks test chunk root l h = ap (λ (x : Layout). is_chunked (storage_of sizes x)) (sym (cond_some test (InChunks chunk root) l h).1)

module _ (sizes : List ℕ) (size : ℕ) (body : List ℕ) (l : Layout) (is : layout_of sizes size body ≡ Some l) where
  class : ((nat_le 2 (length body) && byte_at body 0 == 3) ≡ true) × ((((byte_at body 1 == 0) ≡ true) × (compact_layout (cells sizes * size) body ≡ Some l))
      ⊎ ((((byte_at body 1 == 1) ≡ true) × (contiguous_layout (cells sizes * size) body ≡ Some l)) ⊎ (((byte_at body 1 == 2) ≡ true) × (chunked_layout (length sizes) size body ≡ Some l))))
  unfolding layout_of
  class = by_class _ _ _ _ (compact_layout (cells sizes * size) body) (contiguous_layout (cells sizes * size) body) (chunked_layout (length sizes) size body) l is

  -- there is a class
  pub class_room : 2 ≤ length body
  class_room = grind (arith, nat_tests, class.0)

  pub class_chunked : (byte_at body 1 == 2) ≡ is_chunked (storage_of sizes l)
  class_chunked = elim class.1 [
    | inl compact ↦ (let other : (byte_at body 1 == 2) ≡ false = grind (arith, nat_tests, compact.0) in other) ∙ sym (in_message sizes _ _ l compact.1)
    | inr stored ↦ elim stored [
      | inl contiguous ↦ (let other : (byte_at body 1 == 2) ≡ false = grind (arith, nat_tests, contiguous.0) in other) ∙ sym (in_block sizes _ _ _ _ l contiguous.1)
      | inr chunked ↦ chunked.0 ∙ sym (in_chunks sizes _ _ _ l chunked.1)
    ]
  ]
