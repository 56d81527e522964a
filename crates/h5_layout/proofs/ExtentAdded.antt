-- A Dataspace message that becomes NIL, and another that is put in: the messages say what they said, but for the extent. A Datatype may
-- have moved, with the bytes that count.
use Rattle.std.proofs.Common.{◌≡◌, ℕ, ◌+◌, Bool, true, false, ◌==◌, eq-eqb, if◌then◌else◌, inl, inr, List, [], ◌∷◌, ◌++◌, length, Some, append_assoc, refl, sym, ap, ap₂, ◌∙◌, arith}
use Rattle.std.specs.Prelude.{option_and_then}
use Rattle.std.specs.List.{AllByRecursion, filter}
use Rattle.std.proofs.lemmas.List.{length-append, nil_from_length}
use Rattle.std.proofs.lemmas.List.Elements.{filter-append}
use Rattle.h5_bytes.specs.Bytes.{part}
use Rattle.h5_model.specs.Format.MessageTypes.{dataspace_kind, datatype_kind, symbol_table_kind, nil_kind}
use Rattle.h5_model.specs.Format.Datatype.{fixed_of}
use Rattle.h5_model.specs.Format.Extent.{Extent, extent_of}
use Rattle.h5_model.specs.Format.Messages.{Message, count_of, first_body}
use Rattle.h5_header.specs.Added.{AddsMessage, IsPutInBlock, IsPutInNil}
use Rattle.h5_header.specs.Kinds.{IsOfDataset}
use Rattle.h5_header.proofs.AddedLaws.{adds_among, adds_count}
use Rattle.h5_header.proofs.MovedLaws.{moved_type}
use Rattle.h5_layout.specs.ExtentNow.{SaysExtent}
use Rattle.h5_layout.proofs.ExtentSaid.{count_filtered, first_filtered, first_of, of_type}

-- ---- messages of one type

none_of : (k : ℕ) (ms : List Message) → count_of k ms ≡ 0 → of_type k ms ≡ []
none_of k ms none = nil_from_length (of_type k ms) (sym (count_filtered k ms) ∙ none)

-- a message of this type among others
seen : (k : ℕ) (front : List Message) (m : Message) (back : List Message) → m.kind ≡ k → of_type k (front ++ m ∷ back) ≡ of_type k front ++ m ∷ of_type k back
seen k front m back is =
    let same : (m.kind == k) ≡ true = eq-eqb m.kind k is in
    let here : of_type k (m ∷ back) ≡ m ∷ of_type k back = rw same refl in
    filter-append (λ (y : Message). y.kind == k) front (m ∷ back) ∙ ap (λ (ys : List Message). of_type k front ++ ys) here

-- which is alone of it
alone : (k : ℕ) (front : List Message) (m : Message) (back : List Message) → m.kind ≡ k → count_of k (front ++ m ∷ back) ≡ 1
    → (of_type k front ≡ []) × (of_type k back ≡ [])
alone k front m back is once =
    let long : length (of_type k front ++ m ∷ of_type k back) ≡ 1
    = ap (λ (ys : List Message). length ys) (sym (seen k front m back is)) ∙ sym (count_filtered k (front ++ m ∷ back)) ∙ once in
    let split : length (of_type k front ++ m ∷ of_type k back) ≡ length (of_type k front) + (1 + length (of_type k back))
    = omega (arith, length-append (of_type k front) (m ∷ of_type k back)) in
    (nil_from_length (of_type k front) (omega (arith, long, split)), nil_from_length (of_type k back) (omega (arith, long, split)))

only_body : (k : ℕ) (front : List Message) (m : Message) (back : List Message) → m.kind ≡ k → count_of k (front ++ m ∷ back) ≡ 1
    → first_body k (front ++ m ∷ back) ≡ Some m.body
only_body k front m back is once =
    first_filtered k (front ++ m ∷ back)
    ∙ ap first_of (seen k front m back is ∙ ap (λ (xs : List Message). xs ++ m ∷ of_type k back) (alone k front m back is once).0)

module _ (p : ℕ → Bool) where
  abbrev these : List Message → List Message
  these ms = filter (λ (m : Message). p m.kind) ms

  passed : (front : List Message) (m : Message) (back : List Message) → p m.kind ≡ false → these (front ++ m ∷ back) ≡ these front ++ these back
  passed front m back out =
      let here : these (m ∷ back) ≡ these back = rw out refl in
      filter-append (λ (y : Message). p y.kind) front (m ∷ back) ∙ ap (λ (ys : List Message). these front ++ ys) here

  nils_passed : p nil_kind ≡ false → (nils : List Message) → AllByRecursion (λ (m : Message). m.kind ≡ nil_kind) nils → these nils ≡ []
  nils_passed out [] all = refl
  nils_passed out (m ∷ nils) all = rw (all.0, out) (nils_passed out nils all.1)

  -- where the message stands in the place of a NIL message
  same_in_nil : (ms ms' : List Message) (body : List ℕ) → p nil_kind ≡ false → p dataspace_kind ≡ false → IsPutInNil ms ms' dataspace_kind body → these ms' ≡ these ms
  same_in_nil ms ms' body nil space is =
      let put : Message = record { kind = dataspace_kind; at = (is.nil).at; body = body } in
      let rest : these (is.rest ++ is.back) ≡ these is.back
      = filter-append (λ (y : Message). p y.kind) is.rest is.back ∙ ap (λ (ys : List Message). ys ++ these is.back) (nils_passed nil is.rest is.left) in
      ap these is.after ∙ passed is.front put (is.rest ++ is.back) space ∙ ap (λ (ys : List Message). these is.front ++ ys) rest
      ∙ sym (passed is.front is.nil is.back (ap p is.is_nil ∙ nil)) ∙ ap these (sym is.before)

-- ---- one is NIL

module _ (front : List Message) (x nil : Message) (back : List Message) (was : x.kind ≡ dataspace_kind) (now : nil.kind ≡ nil_kind) where
  abbrev before : List Message
  before = front ++ x ∷ back

  abbrev blank : List Message
  blank = front ++ nil ∷ back

  blank_others : (p : ℕ → Bool) → p nil_kind ≡ false → p dataspace_kind ≡ false → these p blank ≡ these p before
  blank_others p none space = passed p front nil back (ap p now ∙ none) ∙ sym (passed p front x back (ap p was ∙ space))

  blank_count : (k : ℕ) → (nil_kind == k) ≡ false → (dataspace_kind == k) ≡ false → count_of k blank ≡ count_of k before
  blank_count k none space =
      count_filtered k blank ∙ ap (λ (ys : List Message). length ys) (blank_others (λ (n : ℕ). n == k) none space) ∙ sym (count_filtered k before)

  blank_body : (k : ℕ) → (nil_kind == k) ≡ false → (dataspace_kind == k) ≡ false → first_body k blank ≡ first_body k before
  blank_body k none space = first_filtered k blank ∙ ap first_of (blank_others (λ (n : ℕ). n == k) none space) ∙ sym (first_filtered k before)

  pub blank_type : first_body datatype_kind blank ≡ first_body datatype_kind before
  blank_type = blank_body datatype_kind refl refl

  none_left : count_of dataspace_kind before ≡ 1 → count_of dataspace_kind blank ≡ 0
  none_left once =
      let others = alone 1 front x back was once in
      let none : of_type 1 blank ≡ []
      = passed (λ (k : ℕ). k == dataspace_kind) front nil back (ap (λ (k : ℕ). k == dataspace_kind) now) ∙ ap₂ (λ (ys zs : List Message). ys ++ zs) others.0 others.1 in
      count_filtered dataspace_kind blank ∙ ap (λ (ys : List Message). length ys) none

  -- ---- and another is put in

  module _ (ms' : List Message) (body : List ℕ) (adds : AddsMessage blank ms' dataspace_kind body) (is : IsOfDataset before) where
    one_space : count_of dataspace_kind ms' ≡ 1
    one_space = omega (arith, adds_count dataspace_kind blank ms' dataspace_kind body refl refl adds, none_left (is.once).0)

    space_body : first_body dataspace_kind ms' ≡ Some body
    space_body =
        let among = adds_among (λ (k : ℕ). k == dataspace_kind) blank ms' dataspace_kind body refl refl refl refl adds in
        let none : among.front ++ among.back ≡ [] = sym among.before ∙ none_of dataspace_kind blank (none_left (is.once).0) in
        first_filtered dataspace_kind ms' ∙ ap first_of among.after ∙ only among.front among.back among.at none where
          only : (fs bs : List Message) (at : ℕ) → fs ++ bs ≡ [] → first_of (fs ++ (record { kind = dataspace_kind; at = at; body = body } ∷ bs)) ≡ Some body
          only [] bs at none = refl
          only (f ∷ fs) bs at none = absurd (cc)

    types : count_of datatype_kind ms' ≡ count_of datatype_kind before
    types = omega (arith, adds_count datatype_kind blank ms' dataspace_kind body refl refl adds, blank_count datatype_kind refl refl)

    tables : count_of symbol_table_kind ms' ≡ count_of symbol_table_kind before
    tables = omega (arith, adds_count symbol_table_kind blank ms' dataspace_kind body refl refl adds, blank_count symbol_table_kind refl refl)

    moved_said : IsPutInBlock blank ms' dataspace_kind body → option_and_then fixed_of (first_body datatype_kind ms') ≡ option_and_then fixed_of (first_body datatype_kind blank)
    moved_said made = elim made.may_move [
      | inl table ↦
          let there : of_type 17 blank ≡ of_type 17 made.front ++ made.moved ∷ of_type 17 (made.middle ++ made.back)
          = ap (of_type 17) made.before ∙ seen 17 made.front made.moved (made.middle ++ made.back) table in
          let some : length (of_type 17 blank) ≡ length (of_type 17 made.front) + (1 + length (of_type 17 (made.middle ++ made.back)))
          = ap (λ (ys : List Message). length ys) there ∙ omega (arith, length-append (of_type 17 made.front) (made.moved ∷ of_type 17 (made.middle ++ made.back))) in
          absurd (omega (arith, some, count_filtered symbol_table_kind blank, blank_count symbol_table_kind refl refl, is.no_table))
      | inr datatype ↦
          let put : Message = record { kind = dataspace_kind; at = made.place + 32; body = body } in
          let moved : Message = record { kind = (made.moved).kind; at = made.place + 8; body = part 0 16 (made.moved).body } in
          let one : count_of datatype_kind before ≡ 1 = ((is.once).1).0 in
          let after : ms' ≡ (made.front ++ made.named ∷ made.middle) ++ moved ∷ (put ∷ made.back)
          = made.after ∙ sym (append_assoc made.front (made.named ∷ made.middle) (moved ∷ (put ∷ made.back))) in
          let there : first_body datatype_kind blank ≡ Some (made.moved).body
          = ap (first_body datatype_kind) made.before
          ∙ only_body datatype_kind made.front made.moved (made.middle ++ made.back) datatype (ap (count_of datatype_kind) (sym made.before) ∙ blank_count datatype_kind refl refl ∙ one) in
          let here : first_body datatype_kind ms' ≡ Some (part 0 16 (made.moved).body)
          = ap (first_body datatype_kind) after
          ∙ only_body datatype_kind (made.front ++ made.named ∷ made.middle) moved (put ∷ made.back) datatype (ap (count_of datatype_kind) (sym after) ∙ types ∙ one) in
          ap (option_and_then fixed_of) here ∙ moved_type (made.moved).body made.wide ∙ sym (ap (option_and_then fixed_of) there)
    ]

    datatype : option_and_then fixed_of (first_body datatype_kind ms') ≡ option_and_then fixed_of (first_body datatype_kind before)
    datatype = elim adds as (λ _. option_and_then fixed_of (first_body datatype_kind ms') ≡ option_and_then fixed_of (first_body datatype_kind blank)) [
      | inl there ↦
          let same : first_body datatype_kind ms' ≡ first_body datatype_kind blank
          = first_filtered datatype_kind ms' ∙ ap first_of (same_in_nil (λ (k : ℕ). k == datatype_kind) blank ms' body refl refl there) ∙ sym (first_filtered datatype_kind blank) in
          ap (option_and_then fixed_of) same
      | inr made ↦ moved_said made
    ] ∙ ap (option_and_then fixed_of) blank_type

    others : (p : ℕ → Bool) → AllByRecursion (λ (kind : ℕ). p kind ≡ false) (0 ∷ 1 ∷ 3 ∷ 16 ∷ 17 ∷ []) → these p ms' ≡ these p before
    others p none =
        let among = adds_among p blank ms' dataspace_kind body none.0 none.1.1.1.0 none.1.1.1.1.0 none.1.1.0 adds in
        among.after ∙ ap (λ (b : Bool). among.front ++ ((if b then record { kind = dataspace_kind; at = among.at; body = body } ∷ [] else []) ++ among.back)) none.1.0
        ∙ sym among.before ∙ blank_others p none.0 none.1.0

    pub extent_added : (e : Extent) → extent_of body ≡ Some e → SaysExtent before ms' e
    extent_added e says = record {
      once = one_space;
      space = ap (option_and_then extent_of) space_body ∙ says;
      types = types;
      datatype = datatype;
      tables = tables;
      others = others;
    }
