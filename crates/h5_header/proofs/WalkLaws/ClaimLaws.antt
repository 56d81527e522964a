-- When a header was read, the walk has followed the field that named it and those of its Continuations.
use Rattle.std.proofs.Common.{◌≡◌, ℕ, ◌+◌, ◌-◌, ◌≤◌, inl, inr, List, [], ◌∷◌, ◌++◌, refl, sym, ◌∙◌, ap, subst, arith}
use Rattle.std.specs.Prelude.{map}
use Rattle.std.specs.List.{AllByRecursion}
use Rattle.h5_bytes.specs.Blocks.{holds, cover}
use Rattle.h5_bytes.specs.declared.Block.{Block}
use Rattle.h5_bytes.proofs.BlockLaws.{holds-inner, all_append, cover-append}
use Rattle.h5_model.specs.Format.Messages.{Message, HasMessages, prefix_at, first_size, first_block, continuation, continuations}
use Rattle.h5_model.specs.Format.Reached.{Named, naming_of, ObjectHeader, Continuation, Reached, block_of}
use Rattle.h5_header.proofs.MetLaws.{IsNamedBy, IsNaming, has_naming, continuation_cases, whole_filled}
use Rattle.h5_header.proofs.CrossLaws.{heads, filled_heads, head_here}
use Rattle.h5_space.specs.Walk.Walked.{IsFollowed, IsWalked}
use Rattle.h5_space.proofs.WalkLaws.WalkedLaws.{IsOther}
use Rattle.h5_space.proofs.WalkLaws.FieldLaws.{still_followed}
use Rattle.h5_header.specs.Walk.Walked.{continuation_fields}
use Rattle.h5_header.proofs.WalkLaws.HeaderLaws.{z_block, z_reached}

-- what two lists of fields cover together
pub cover-fields : (image : List ℕ) (p : ℕ) (xs ys : List Named) → cover p (map (block_of image) (xs ++ ys)) ≡ cover p (map (block_of image) xs) + cover p (map (block_of image) ys)
cover-fields image p [] ys = omega arith
cover-fields image p (x ∷ xs) ys = omega (arith, cover-fields image p xs ys)

-- each message has its head in one of the header's blocks
module _ (image : List ℕ) (header : ℕ) (ms : List Message) (blocks : List Block) (has : HasMessages image header ms blocks) where
  pub head_held : (q : ℕ) → 1 ≤ heads q ms → 1 ≤ cover q blocks
  head_held q one =
      let all = filled_heads image q (first_block image header ∷ []) has.parts [] (whole_filled image (first_block image header ∷ []) has.parts has.filled) in
      let here : heads q ms + 0 ≤ cover q (first_block image header ∷ []) + cover q (continuations ms)
      = subst (λ (xs : List Message). heads q xs + 0 ≤ cover q (first_block image header ∷ []) + cover q (continuations xs)) (sym has.all) all in
      let within : holds q (header + 16) (first_size (prefix_at image header)) ≤ holds q header (16 + first_size (prefix_at image header))
      = holds-inner q (header + 16) (first_size (prefix_at image header)) header (16 + first_size (prefix_at image header)) (omega arith) (omega arith) in
      let covered : cover q blocks ≡ holds q header (16 + first_size (prefix_at image header)) + cover q (continuations ms) = ap (cover q) has.laid in
      omega (arith, one, here, within, covered)

module _ (image : List ℕ) (held' : List Block) (followed : List Named) (walked : IsWalked image held' followed)
    (field header depth : ℕ) (reached : Reached image (naming_of field ObjectHeader header depth))
    (others : AllByRecursion (IsOther (naming_of field ObjectHeader header depth)) followed)
    (behind : 8 ≤ field) (stands : 1 ≤ cover (field - 8) held')
    (ms : List Message) (blocks : List Block) (has : HasMessages image header ms blocks)
    (now : List Block) (claimed : (p : ℕ) → cover p now ≡ cover p held' + cover p blocks) where
  abbrev field_by : Message → Block → Named
  field_by m b = naming_of m.at (Continuation header) b.at depth

  -- the field of a message that names a block
  module _ (m : Message) (b : Block) (by : IsNamedBy image header m b) where
    names_block : block_of image (field_by m b) ≡ b
    names_block = ap (λ (f : ℕ). block_of image (naming_of f (Continuation header) b.at depth)) by.1
        ∙ z_block image held' followed walked field header depth reached others behind stands by.0 b by.2

    is_reached : Reached image (field_by m b)
    is_reached = subst (λ (f : ℕ). Reached image (naming_of f (Continuation header) b.at depth)) (sym by.1)
        (z_reached image held' followed walked field header depth reached others behind stands by.0 b by.2)

    is_followed : 1 ≤ heads by.0 ms → IsFollowed image now (field_by m b)
    is_followed one =
        let back : m.at - 8 ≡ by.0 = omega (arith, by.1) in
        record {
          reached = is_reached;
          behind = omega (arith, by.1);
          stands = rw back (omega (arith, head_held image header ms blocks has by.0 one, claimed by.0));
        }

  one_message : (p : ℕ) (m : Message) → IsNaming image header m → cover p (map (block_of image) (map (field_by m) (continuation m))) ≡ cover p (continuation m)
  one_message p m naming = elim (continuation_cases m) [
    | inl none ↦ rw none refl
    | inr one ↦
        let by : IsNamedBy image header m one.0 = (subst (AllByRecursion (IsNamedBy image header m)) one.3 naming).0 in
        rw one.3 (ap (λ (b : Block). cover p (b ∷ [])) (names_block m one.0 by))
  ]

  pub fields_cover : (p : ℕ) (sub : List Message) → AllByRecursion (IsNaming image header) sub
      → cover p (map (block_of image) (continuation_fields header depth sub)) ≡ cover p (continuations sub)
  fields_cover p [] naming = refl
  fields_cover p (m ∷ sub) naming =
      let here = one_message p m naming.0 in
      let there = fields_cover p sub naming.1 in
      omega (arith, here, there, cover-fields image p (map (field_by m) (continuation m)) (continuation_fields header depth sub), cover-append p (continuation m) (continuations sub))

  one_followed : (m : Message) → IsNaming image header m → ((q : ℕ) → m.at ≡ q + 8 → 1 ≤ heads q ms) → AllByRecursion (IsFollowed image now) (map (field_by m) (continuation m))
  one_followed m naming one = elim (continuation_cases m) [
    | inl none ↦ rw none tt
    | inr some ↦
        let by : IsNamedBy image header m some.0 = (subst (AllByRecursion (IsNamedBy image header m)) some.3 naming).0 in
        rw some.3 (is_followed m some.0 by (one by.0 by.1), tt)
  ]

  all_followed : (sub : List Message) → ((q : ℕ) → heads q sub ≤ heads q ms) → AllByRecursion (IsNaming image header) sub
      → AllByRecursion (IsFollowed image now) (continuation_fields header depth sub)
  unfolding heads
  all_followed [] under naming = tt
  all_followed (m ∷ sub) under naming =
      all_append (IsFollowed image now) (map (field_by m) (continuation m)) (continuation_fields header depth sub)
      (one_followed m naming.0 (λ q e. let one : heads q (m ∷ sub) ≡ 1 + heads q sub = head_here q m sub e in omega (arith, one, under q)))
      (all_followed sub (λ q. omega (arith, under q)) naming.1)

  pub header_walked : IsWalked image now ((naming_of field ObjectHeader header depth ∷ continuation_fields header depth ms) ++ followed)
  header_walked =
      let naming = has_naming image header ms blocks has in
      record {
        all = (
          record { reached = reached; behind = behind; stands = omega (arith, stands, claimed (field - 8)) },
          all_append (IsFollowed image now) (continuation_fields header depth ms) followed
              (all_followed ms (λ q. omega arith) naming)
              (still_followed image held' now followed (λ p. omega (arith, claimed p)) walked.all),
        );
        covered = λ p.
            let own : cover p blocks ≡ holds p header (16 + first_size (prefix_at image header)) + cover p (continuations ms) = ap (cover p) has.laid in
            omega (arith, claimed p, walked.covered p, own, fields_cover p ms naming, cover-fields image p (continuation_fields header depth ms) followed);
      }
