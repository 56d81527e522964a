-- The body of a message is a part of the image, and what a contiguous layout says stands in it.
use Rattle.std.proofs.Common.{◌≡◌, ◌⊎◌, inl, inr, ℕ, ◌+◌, ◌*◌, ◌≤◌, List, [], ◌∷◌, ◌++◌, length, refl, sym, ap, ◌∙◌, subst, arith, Option, Some, None, true, false, Bool}
use Rattle.std.proofs.lemmas.Bool.Decides.{nat_tests}
use Rattle.std.specs.Prelude.{◌==◌, ◌&&◌, not, nat_le, if◌then◌else◌}
use Rattle.std.specs.List.{flat_map, list_any}
use Rattle.h5_bytes.specs.Bytes.{number_at, byte_at, part, undefined_address}
use Rattle.h5_bytes.specs.Blocks.{block, Inside}
use Rattle.h5_bytes.specs.declared.Block.{Block}
use Rattle.h5_bytes.proofs.BlockLaws.{all_append, all_left, all_right}
use Rattle.h5_model.specs.Format.Messages.{Message, Fills, FillBlocks, HasMessages, continuation, continuations, first_block, prefix_at, first_size}
use Rattle.h5_model.specs.Format.Layout.{InBlock, InChunks, layout_of, compact_layout, contiguous_layout, chunked_layout, short_numbers_at, address_from}
use Rattle.h5_model.specs.Tree.Places.{cells}
use Rattle.h5_model.specs.Format.Reached.{size_at}
use Rattle.h5_model.proofs.BodyLaws.{no_compact}
use Rattle.h5_laws.proofs.Lists.{In, in_all, all_in, in_either, in_flat, from_flat}
use Rattle.h5_laws.proofs.Heads.{fit, size, body}

-- the body is so many bytes of the image
pub record Bodied (image : List ℕ) (m : Message) : Type 0 where
  pub size : ℕ
  pub is : m.body ≡ part m.at size image
  pub inside : m.at + size ≤ length image

fills_bodied : (image : List ℕ) (b : Block) (from : ℕ) (rest : List Message) → b.at + b.len ≤ length image → Fills b.at (part b.at b.len image) from rest
    → (m : Message) → In m rest → Bodied image m
fills_bodied image b from [] within fills m at = absurd at
fills_bodied image b from (x ∷ rest) within fills m (inl e) =
    let low = fit image (x ∷ rest) b from x rest within fills.0 fills.1 (λ y at. at) in
    let same = size image (x ∷ rest) b from x rest within fills.0 fills.1 (λ y at. at) in
    let place : x.at ≡ b.at + from + 8 = fills.0.place in
    subst (Bodied image) e (record {
      size = size_at image (b.at + from);
      is = body image (x ∷ rest) b from x rest within fills.0 fills.1 (λ y at. at) ∙ ap (λ (p : ℕ). part p (size_at image (b.at + from)) image) (sym place);
      inside = omega (arith, low, same, place, within);
    })
fills_bodied image b from (x ∷ rest) within fills m (inr at) =
    fills_bodied image b (from + 8 + number_at (part b.at b.len image) (from + 2) 2) rest within fills.1 m at

parts_bodied : (image : List ℕ) (waiting : List Block) (parts : List (List Message)) → FillBlocks image waiting parts → Inside (length image) waiting
    → Inside (length image) (flat_map continuations parts) → (m : Message) → In m (flat_map (λ (ms : List Message). ms) parts) → Bodied image m
parts_bodied image [] [] fills inside more m at = absurd at
parts_bodied image [] (ms ∷ parts) fills inside more m at = absurd fills
parts_bodied image (b ∷ waiting) [] fills inside more m at = absurd fills
parts_bodied image (b ∷ waiting) (ms ∷ parts) fills inside more m at = elim (in_either m ms (flat_map (λ (x : List Message). x) parts) at) [
  | inl here ↦ fills_bodied image b 0 ms inside.0 fills.0 m here
  | inr later ↦ parts_bodied image (waiting ++ continuations ms) parts fills.1
      (all_append (λ (c : Block). c.at + c.len ≤ length image) waiting (continuations ms) inside.1
      (all_left (λ (c : Block). c.at + c.len ≤ length image) (continuations ms) (flat_map continuations parts) more))
      (all_right (λ (c : Block). c.at + c.len ≤ length image) (continuations ms) (flat_map continuations parts) more) m later
]

pub parts_named : (b : Block) (parts : List (List Message)) → In b (flat_map continuations parts) → In b (continuations (flat_map (λ (ms : List Message). ms) parts))
parts_named b parts at =
    let of = from_flat continuations b parts at in
    let by = from_flat continuation b of.0 of.2 in
    in_flat continuation by.0 b (flat_map (λ (ms : List Message). ms) parts) (in_flat (λ (ms : List Message). ms) of.0 by.0 parts of.1 by.1) by.2

-- each message of a header has its body in the image
pub message_bodied : (image : List ℕ) (header : ℕ) (messages : List Message) (blocks : List Block) → HasMessages image header messages blocks
    → Inside (length image) blocks → (m : Message) → In m messages → Bodied image m
message_bodied image header messages blocks has inside m at =
    let laid = subst (Inside (length image)) has.laid inside in
    let first : first_size (prefix_at image header) + (header + 16) ≤ length image = omega (arith, laid.0) in
    parts_bodied image (first_block image header ∷ []) has.parts has.filled (omega (arith, first), tt)
    (all_in (λ (c : Block). c.at + c.len ≤ length image) (flat_map continuations has.parts)
    (λ b named. in_all (λ (c : Block). c.at + c.len ≤ length image) b (continuations messages) laid.1
    (subst (λ (ms : List Message). In b (continuations ms)) (sym has.all) (parts_named b has.parts named))))
    m (subst (In m) has.all at)

-- ---- contiguous layouts

pick : {X : Type 0} (t : Bool) (x y : Option X) (v : X) → (if t then x else y) ≡ Some v → ((t ≡ true) × (x ≡ Some v)) ⊎ ((t ≡ false) × (y ≡ Some v))
pick true x y v h = inl (refl, h)
pick false x y v h = inr (refl, h)

chunked_not : (rank size : ℕ) (body : List ℕ) (b : Block) → chunked_layout rank size body ≡ Some (InBlock (Some b)) → ⊥
chunked_not rank size body b h =
    elim (pick (nat_le (11 + 4 * (rank + 1)) (length body) && byte_at body 2 == rank + 1 && nat_le 1 rank
    && not (list_any (λ n. n == 0) (short_numbers_at body 11 rank)) && number_at body (11 + 4 * rank) 4 == size)
    (Some (InChunks (short_numbers_at body 11 rank) (address_from (number_at body 3 8)))) None (InBlock (Some b)) h) [
      | inl yields ↦ absurd (let e : Some (InChunks (short_numbers_at body 11 rank) (address_from (number_at body 3 8))) ≡ Some (InBlock (Some b)) = yields.1 in cc)
      | inr none ↦ absurd (let e : None ≡ Some (InBlock (Some b)) = none.1 in cc)
    ]

contiguous_says : (need : ℕ) (body : List ℕ) (b : Block) → contiguous_layout need body ≡ Some (InBlock (Some b)) → (18 ≤ length body) × (b.len ≡ number_at body 10 8)
contiguous_says need body b h =
    let there = block (number_at body 2 8) (number_at body 10 8) in
    elim (pick (nat_le 18 (length body)) (if number_at body 2 8 == undefined_address then Some (InBlock None)
    else (if nat_le need (number_at body 10 8) then Some (InBlock (Some there)) else None)) None (InBlock (Some b)) h) [
      | inr none ↦ absurd (let e : None ≡ Some (InBlock (Some b)) = none.1 in cc)
      | inl room ↦ elim (pick (number_at body 2 8 == undefined_address) (Some (InBlock None)) (if nat_le need (number_at body 10 8) then Some (InBlock (Some there)) else None)
          (InBlock (Some b)) room.1) [
            | inl unset ↦ absurd (let e : Some (InBlock None) ≡ Some (InBlock (Some b)) = unset.1 in cc)
            | inr set ↦ elim (pick (nat_le need (number_at body 10 8)) (Some (InBlock (Some there))) None (InBlock (Some b)) set.1) [
              | inl whole ↦
                  let e : Some (InBlock (Some there)) ≡ Some (InBlock (Some b)) = whole.1 in
                  let same : there ≡ b = cc in
                  let long : 18 ≤ length body = grind (arith, nat_tests, room.0) in
                  (long, sym (ap (λ (x : Block). x.len) same))
              | inr none ↦ absurd (let e : None ≡ Some (InBlock (Some b)) = none.1 in cc)
            ]
          ]
    ]

-- the length of the bytes that a layout names
pub block_says : (sizes : List ℕ) (size : ℕ) (body : List ℕ) (b : Block) → layout_of sizes size body ≡ Some (InBlock (Some b)) → (18 ≤ length body) × (b.len ≡ number_at body 10 8)
unfolding layout_of
block_says sizes size body b h =
    let need = cells sizes * size in
    let third = if byte_at body 1 == 2 then chunked_layout (length sizes) size body else None in
    let second = if byte_at body 1 == 1 then contiguous_layout need body else third in
    let first = if byte_at body 1 == 0 then compact_layout need body else second in
    elim (pick (nat_le 2 (length body) && byte_at body 0 == 3) first None (InBlock (Some b)) h) [
      | inr none ↦ absurd (let e : None ≡ Some (InBlock (Some b)) = none.1 in cc)
      | inl here ↦ elim (pick (byte_at body 1 == 0) (compact_layout need body) second (InBlock (Some b)) here.1) [
        | inl compact ↦ absurd (no_compact need body b compact.1)
        | inr past ↦ elim (pick (byte_at body 1 == 1) (contiguous_layout need body) third (InBlock (Some b)) past.1) [
          | inl contiguous ↦ contiguous_says need body b contiguous.1
          | inr last ↦ elim (pick (byte_at body 1 == 2) (chunked_layout (length sizes) size body) None (InBlock (Some b)) last.1) [
            | inl chunked ↦ absurd (chunked_not (length sizes) size body b chunked.1)
            | inr none ↦ absurd (let e : None ≡ Some (InBlock (Some b)) = none.1 in cc)
          ]
        ]
      ]
    ]
