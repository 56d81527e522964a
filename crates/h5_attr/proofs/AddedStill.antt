-- A message more, an attribute's: the others say what they said, though a Symbol Table or a Datatype may have moved to make room.
use Rattle.std.proofs.Common.{◌≡◌, ℕ, suc, ◌==◌, ◌+◌, ◌≤◌, Bool, true, false, cond, if◌then◌else◌, inl, inr, IsTrue, List, [], ◌∷◌, ◌++◌, Option, Some, None, option_map, length, refl, sym, ap, ◌∙◌, subst, arith}
use Rattle.std.specs.Option.{option_and_then}
use Rattle.std.specs.List.{AllByRecursion, filter, find}
use Rattle.h5_bytes.specs.Bytes.{part}
use Rattle.h5_bytes.proofs.BlockLaws.{all_append, all_left, all_right}
use Rattle.h5_model.specs.Format.Addresses.{symbol_table_of}
use Rattle.h5_model.specs.Format.Datatype.{fixed_of}
use Rattle.h5_model.specs.Format.MessageTypes.{nil_kind, attribute_kind, continuation_kind, datatype_kind, symbol_table_kind}
use Rattle.h5_model.specs.Format.Messages.{Message, count_of, first_body}
use Rattle.h5_header.specs.Added.{AddsMessage, IsPutInNil, IsPutInBlock}
use Rattle.h5_header.proofs.AddedLaws.{adds_among, adds_count, count_append}
use Rattle.h5_header.proofs.MovedLaws.{moved_table, moved_type}
use Rattle.h5_attr.specs.Still.{IsSaidStill}

-- ---- the first message of a type

-- the first of these, else of those
abbrev or_else : {X : Type 0} → Option X → Option X → Option X
or_else None other = other
or_else (Some x) other = Some x

module _ (kind : ℕ) where
  first_append : (xs ys : List Message) → first_body kind (xs ++ ys) ≡ or_else (first_body kind xs) (first_body kind ys)
  first_append [] ys = refl
  first_append (x ∷ xs) ys =
      elim (x.kind == kind) as (λ b. option_map (λ (m : Message). m.body) (cond b (Some x) (find (λ (m : Message). m.kind == kind) (xs ++ ys)))
      ≡ or_else (option_map (λ (m : Message). m.body) (cond b (Some x) (find (λ (m : Message). m.kind == kind) xs))) (first_body kind ys)) [
        | true ↦ refl
        | false ↦ first_append xs ys
      ]

  -- one of another type is passed over
  first_past : (m : Message) (ms : List Message) → (m.kind == kind) ≡ false → first_body kind (m ∷ ms) ≡ first_body kind ms
  first_past m ms other = rw other refl

  first_here : (m : Message) (ms : List Message) → (m.kind == kind) ≡ true → first_body kind (m ∷ ms) ≡ Some m.body
  first_here m ms same = rw same refl

  -- a type that is not counted has none
  pub none_first : (ms : List Message) → count_of kind ms ≡ 0 → first_body kind ms ≡ None
  none_first [] none = refl
  none_first (m ∷ ms) none = go (none_first ms) (m.kind == kind) refl where
    go : (count_of kind ms ≡ 0 → first_body kind ms ≡ None) → (b : Bool) → (m.kind == kind) ≡ b → first_body kind (m ∷ ms) ≡ None
    go rest true is = absurd (let more : (if true then 1 else 0) + count_of kind ms ≡ 0 = rw is at none in omega arith)
    go rest false is = first_past m ms is ∙ rest (let less : (if false then 1 else 0) + count_of kind ms ≡ 0 = rw is at none in omega arith)

  nils_past : (nil_kind == kind) ≡ false → (nils ms : List Message) → AllByRecursion (λ (m : Message). m.kind ≡ nil_kind) nils → first_body kind (nils ++ ms) ≡ first_body kind ms
  nils_past other [] ms all = refl
  nils_past other (m ∷ nils) ms all = first_past m (nils ++ ms) (ap (λ k. k == kind) all.0 ∙ other) ∙ nils_past other nils ms all.1

  -- behind the same messages
  behind : (front xs ys : List Message) → first_body kind xs ≡ first_body kind ys → first_body kind (front ++ xs) ≡ first_body kind (front ++ ys)
  behind front xs ys same = first_append front xs ∙ ap (or_else (first_body kind front)) same ∙ sym (first_append front ys)

  -- behind messages of other types
  behind_others : (front ms : List Message) → count_of kind front ≡ 0 → first_body kind (front ++ ms) ≡ first_body kind ms
  behind_others front ms none = first_append front ms ∙ ap (λ (o : Option (List ℕ)). or_else o (first_body kind ms)) (none_first front none)

-- ---- what the first message of a type says

module _ (kind : ℕ) (no_nil : (nil_kind == kind) ≡ false) (no_attribute : (attribute_kind == kind) ≡ false) (ms ms' : List Message) (body : List ℕ) where
  body_in_nil : IsPutInNil ms ms' attribute_kind body → first_body kind ms' ≡ first_body kind ms
  body_in_nil is =
      let put : Message = record { kind = attribute_kind; at = (is.nil).at; body = body } in
      ap (first_body kind) is.after
      ∙ behind kind is.front _ _ (first_past kind put (is.rest ++ is.back) no_attribute
      ∙ nils_past kind no_nil is.rest is.back is.left
      ∙ sym (first_past kind is.nil is.back (ap (λ k. k == kind) is.is_nil ∙ no_nil)))
      ∙ ap (first_body kind) (sym is.before)

  module _ (no_continuation : (continuation_kind == kind) ≡ false) where
    -- where another message has moved
    body_in_block : (is : IsPutInBlock ms ms' attribute_kind body) → ((is.moved).kind == kind) ≡ false → first_body kind ms' ≡ first_body kind ms
    body_in_block is other =
        let put : Message = record { kind = attribute_kind; at = is.place + 32; body = body } in
        let moved : Message = record { kind = (is.moved).kind; at = is.place + 8; body = part 0 16 (is.moved).body } in
        ap (first_body kind) is.after
        ∙ behind kind is.front _ _ (first_past kind is.named (is.middle ++ (moved ∷ put ∷ is.back)) (ap (λ k. k == kind) is.names ∙ no_continuation)
        ∙ behind kind is.middle _ _ (first_past kind moved (put ∷ is.back) other ∙ first_past kind put is.back no_attribute)
        ∙ sym (first_past kind is.moved (is.middle ++ is.back) other))
        ∙ ap (first_body kind) (sym is.before)

    -- where this one has moved, with the bytes that count
    module _ {A : Type 0} (says : List ℕ → Option A) (keeps : (bytes : List ℕ) → 16 ≤ length bytes → says (part 0 16 bytes) ≡ says bytes) (once : count_of kind ms ≤ 1) where
      said_moved : (is : IsPutInBlock ms ms' attribute_kind body) → ((is.moved).kind == kind) ≡ true
          → option_and_then says (first_body kind ms') ≡ option_and_then says (first_body kind ms)
      said_moved is same =
          let put : Message = record { kind = attribute_kind; at = is.place + 32; body = body } in
          let moved : Message = record { kind = (is.moved).kind; at = is.place + 8; body = part 0 16 (is.moved).body } in
          let counted : count_of kind ms ≡ count_of kind is.front + (1 + (count_of kind is.middle + count_of kind is.back))
          = ap (count_of kind) is.before ∙ count_append kind is.front (is.moved ∷ (is.middle ++ is.back))
          ∙ ap (λ n. count_of kind is.front + n) (ap (λ (b : Bool). (if b then 1 else 0) + count_of kind (is.middle ++ is.back)) same
          ∙ ap (λ n. 1 + n) (count_append kind is.middle is.back)) in
          let front : count_of kind is.front ≡ 0 = omega (arith, counted, once) in
          let middle : count_of kind is.middle ≡ 0 = omega (arith, counted, once) in
          let after : first_body kind ms' ≡ Some (part 0 16 (is.moved).body)
          = ap (first_body kind) is.after ∙ behind_others kind is.front _ front
          ∙ first_past kind is.named (is.middle ++ (moved ∷ put ∷ is.back)) (ap (λ k. k == kind) is.names ∙ no_continuation)
          ∙ behind_others kind is.middle _ middle ∙ first_here kind moved (put ∷ is.back) same in
          let before : first_body kind ms ≡ Some (is.moved).body
          = ap (first_body kind) is.before ∙ behind_others kind is.front _ front ∙ first_here kind is.moved (is.middle ++ is.back) same in
          ap (option_and_then says) after ∙ keeps (is.moved).body is.wide ∙ sym (ap (option_and_then says) before)

      adds_said : AddsMessage ms ms' attribute_kind body → option_and_then says (first_body kind ms') ≡ option_and_then says (first_body kind ms)
      adds_said (inl is) = ap (option_and_then says) (body_in_nil is)
      adds_said (inr is) = go ((is.moved).kind == kind) refl where
        go : (b : Bool) → ((is.moved).kind == kind) ≡ b → option_and_then says (first_body kind ms') ≡ option_and_then says (first_body kind ms)
        go true same = said_moved is same
        go false other = ap (option_and_then says) (body_in_block is other)

-- ---- all of it

module _ (ms ms' : List Message) (body : List ℕ) (adds : AddsMessage ms ms' attribute_kind body) where
  adds_others : (p : ℕ → Bool) → AllByRecursion (λ kind. p kind ≡ false) (0 ∷ 3 ∷ 12 ∷ 16 ∷ 17 ∷ [])
      → filter (λ (m : Message). p m.kind) ms' ≡ filter (λ (m : Message). p m.kind) ms
  adds_others p none =
      let among = adds_among p ms ms' attribute_kind body none.0 none.1.1.1.0 none.1.1.1.1.0 none.1.0 adds in
      among.after ∙ ap (λ (b : Bool). among.front ++ ((if b then record { kind = attribute_kind; at = among.at; body = body } ∷ [] else []) ++ among.back)) none.1.1.0 ∙ sym among.before

  adds_bodies : (kind : ℕ) → AllByRecursion (λ other. (other == kind) ≡ false) (0 ∷ 3 ∷ 12 ∷ 16 ∷ 17 ∷ []) → first_body kind ms' ≡ first_body kind ms
  adds_bodies kind none = elim adds [
    | inl is ↦ body_in_nil kind none.0 none.1.1.0 ms ms' body is
    | inr is ↦
        let other : ((is.moved).kind == kind) ≡ false
        = elim is.may_move [ inl table ↦ ap (λ k. k == kind) table ∙ none.1.1.1.1.0 | inr datatype ↦ ap (λ k. k == kind) datatype ∙ none.1.0 ] in
        body_in_block kind none.0 none.1.1.0 ms ms' body none.1.1.1.0 is other
  ]

  adds_counts : (kind : ℕ) → AllByRecursion (λ other. (other == kind) ≡ false) (0 ∷ 12 ∷ 16 ∷ []) → count_of kind ms' ≡ count_of kind ms
  adds_counts kind none =
      let extra : ℕ = if 12 == kind then 1 else 0 in
      let no_more : extra ≡ 0 = ap (λ (b : Bool). (if b then suc 0 else 0)) none.1.0 in
      let more : count_of kind ms' ≡ count_of kind ms + extra = adds_count kind ms ms' attribute_kind body none.0 none.1.1.0 adds in
      omega (arith, more, no_more)

  module _ (p : ℕ → Bool) (nil : IsTrue (p nil_kind)) (attribute : IsTrue (p attribute_kind)) (continuation : IsTrue (p continuation_kind)) where
    abbrev Known : Message → Type 0
    Known m = IsTrue (p m.kind)

    known : (kind kind' : ℕ) → kind ≡ kind' → IsTrue (p kind') → IsTrue (p kind)
    known kind kind' same is = subst (λ (k : ℕ). IsTrue (p k)) (sym same) is

    nils_known : (nils : List Message) → AllByRecursion (λ (m : Message). m.kind ≡ nil_kind) nils → AllByRecursion Known nils
    nils_known [] all = tt
    nils_known (m ∷ nils) all = (known m.kind nil_kind all.0 nil, nils_known nils all.1)

    nil_types : IsPutInNil ms ms' attribute_kind body → AllByRecursion Known ms → AllByRecursion Known ms'
    nil_types is all =
        let these : AllByRecursion Known (is.front ++ is.nil ∷ is.back) = subst (AllByRecursion Known) is.before all in
        let back : AllByRecursion Known (is.nil ∷ is.back) = all_right Known is.front (is.nil ∷ is.back) these in
        subst (AllByRecursion Known) (sym is.after)
        (all_append Known is.front _ (all_left Known is.front (is.nil ∷ is.back) these)
        (attribute, all_append Known is.rest is.back (nils_known is.rest is.left) back.1))

    block_types : IsPutInBlock ms ms' attribute_kind body → AllByRecursion Known ms → AllByRecursion Known ms'
    block_types is all =
        let these : AllByRecursion Known (is.front ++ is.moved ∷ (is.middle ++ is.back)) = subst (AllByRecursion Known) is.before all in
        let others : AllByRecursion Known (is.moved ∷ (is.middle ++ is.back)) = all_right Known is.front _ these in
        subst (AllByRecursion Known) (sym is.after)
        (all_append Known is.front _ (all_left Known is.front _ these) (
          known (is.named).kind continuation_kind is.names continuation,
          all_append Known is.middle _ (all_left Known is.middle is.back others.1) (others.0, (attribute, all_right Known is.middle is.back others.1)),
        ))

  adds_types : (p : ℕ → Bool) → AllByRecursion (λ kind. IsTrue (p kind)) (0 ∷ 12 ∷ 16 ∷ []) → AllByRecursion (λ (m : Message). IsTrue (p m.kind)) ms
      → AllByRecursion (λ (m : Message). IsTrue (p m.kind)) ms'
  adds_types p these all = elim adds [
    | inl is ↦ nil_types p these.0 these.1.0 these.1.1.0 is all
    | inr is ↦ block_types p these.0 these.1.0 these.1.1.0 is all
  ]

  -- a header with an attribute more says the same otherwise
  pub added_still : IsSaidStill ms ms'
  added_still = record {
    others = adds_others;
    bodies = adds_bodies;
    counts = adds_counts;
    types = adds_types;
    table = λ once. adds_said symbol_table_kind refl refl ms ms' body refl symbol_table_of moved_table once adds;
    datatype = λ once. adds_said datatype_kind refl refl ms ms' body refl fixed_of moved_type once adds;
  }
