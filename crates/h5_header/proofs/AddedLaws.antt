-- What a message more in a header changes of what the messages of each type say: those of its own type have it among them, and a
-- Symbol Table or a Datatype may have moved; all others are as they were.
use Rattle.std.proofs.Common.{◌≡◌, ℕ, ◌+◌, ◌==◌, Bool, false, if◌then◌else◌, inl, inr, List, [], ◌∷◌, ◌++◌, refl, sym, ap, ◌∙◌, arith, append_assoc}
use Rattle.std.specs.List.{AllByRecursion, filter}
use Rattle.std.proofs.lemmas.List.Elements.{filter-append}
use Rattle.h5_bytes.specs.Bytes.{part}
use Rattle.h5_model.specs.Format.MessageTypes.{nil_kind, continuation_kind, datatype_kind, symbol_table_kind}
use Rattle.h5_model.specs.Format.Messages.{Message, count_of}
use Rattle.h5_header.specs.Added.{AddsMessage, IsPutInBlock, IsPutInNil}

-- of the messages of some types one more, where it is of them: it stands among the others, which keep their order
pub record IsAmong (p : ℕ → Bool) (ms ms' : List Message) (kind : ℕ) (body : List ℕ) : Type 0 where
  pub front : List Message
  pub back : List Message
  pub at : ℕ
  pub before : filter (λ (m : Message). p m.kind) ms ≡ front ++ back
  pub after : filter (λ (m : Message). p m.kind) ms' ≡ front ++ (filter (λ (m : Message). p m.kind) (record { kind = kind; at = at; body = body } ∷ []) ++ back)

module _ (p : ℕ → Bool) where
  abbrev these : List Message → List Message
  these ms = filter (λ (m : Message). p m.kind) ms

  none_of : p nil_kind ≡ false → (ms : List Message) → AllByRecursion (λ (m : Message). m.kind ≡ nil_kind) ms → these ms ≡ []
  none_of out [] all = refl
  none_of out (m ∷ ms) all = rw (all.0, out) (none_of out ms all.1)

  without : (m : Message) (ms : List Message) → p m.kind ≡ false → these (m ∷ ms) ≡ these ms
  without m ms out = rw out refl

  one_more : (m : Message) (ms : List Message) → these (m ∷ ms) ≡ these (m ∷ []) ++ these ms
  one_more m ms = filter-append (λ (y : Message). p y.kind) (m ∷ []) ms

  module _ (ms ms' : List Message) (kind : ℕ) (body : List ℕ) (out : p nil_kind ≡ false) where
    nil_among : IsPutInNil ms ms' kind body → IsAmong p ms ms' kind body
    nil_among is =
        let said : Message = record { kind = kind; at = (is.nil).at; body = body } in
        record {
          front = these is.front;
          back = these is.back;
          at = (is.nil).at;
          before = ap these is.before ∙ filter-append _ is.front (is.nil ∷ is.back)
              ∙ ap (λ (ys : List Message). these is.front ++ ys) (without is.nil is.back (ap p is.is_nil ∙ out));
          after = ap these is.after ∙ filter-append _ is.front (said ∷ (is.rest ++ is.back))
              ∙ ap (λ (ys : List Message). these is.front ++ ys) (one_more said (is.rest ++ is.back)
              ∙ ap (λ (ys : List Message). these (said ∷ []) ++ ys) (filter-append _ is.rest is.back ∙ ap (λ (ys : List Message). ys ++ these is.back) (none_of out is.rest is.left)));
        }

    block_among : p continuation_kind ≡ false → p symbol_table_kind ≡ false → p datatype_kind ≡ false → IsPutInBlock ms ms' kind body → IsAmong p ms ms' kind body
    block_among no_16 no_17 no_3 is =
        let said : Message = record { kind = kind; at = is.place + 32; body = body } in
        let moved : Message = record { kind = (is.moved).kind; at = is.place + 8; body = part 0 16 (is.moved).body } in
        let not_moved : p (is.moved).kind ≡ false = elim is.may_move [ inl table ↦ ap p table ∙ no_17 | inr datatype ↦ ap p datatype ∙ no_3 ] in
        record {
          front = these is.front ++ these is.middle;
          back = these is.back;
          at = is.place + 32;
          before = ap these is.before ∙ filter-append _ is.front (is.moved ∷ (is.middle ++ is.back))
              ∙ ap (λ (ys : List Message). these is.front ++ ys) (without is.moved (is.middle ++ is.back) not_moved ∙ filter-append _ is.middle is.back)
              ∙ sym (append_assoc (these is.front) (these is.middle) (these is.back));
          after = ap these is.after ∙ filter-append _ is.front (is.named ∷ (is.middle ++ (moved ∷ said ∷ is.back)))
              ∙ ap (λ (ys : List Message). these is.front ++ ys) (without is.named (is.middle ++ (moved ∷ said ∷ is.back)) (ap p is.names ∙ no_16)
              ∙ filter-append _ is.middle (moved ∷ said ∷ is.back)
              ∙ ap (λ (ys : List Message). these is.middle ++ ys) (without moved (said ∷ is.back) not_moved ∙ one_more said is.back))
              ∙ sym (append_assoc (these is.front) (these is.middle) (these (said ∷ []) ++ these is.back));
        }

    -- of types that are neither NIL nor Continuation, nor one that may move
    pub adds_among : p continuation_kind ≡ false → p symbol_table_kind ≡ false → p datatype_kind ≡ false → AddsMessage ms ms' kind body → IsAmong p ms ms' kind body
    adds_among no_16 no_17 no_3 adds = elim adds [
      | inl nil ↦ nil_among nil
      | inr made ↦ block_among no_16 no_17 no_3 made
    ]

-- ---- how many messages are of a type

pub count_append : (k : ℕ) (xs ys : List Message) → count_of k (xs ++ ys) ≡ count_of k xs + count_of k ys
count_append k [] ys = omega arith
count_append k (x ∷ xs) ys = omega (arith, count_append k xs ys)

none_counted : (k : ℕ) (other : (nil_kind == k) ≡ false) (ms : List Message) → AllByRecursion (λ (m : Message). m.kind ≡ nil_kind) ms → count_of k ms ≡ 0
none_counted k other [] all = refl
none_counted k other (m ∷ ms) all = rw (all.0, other) (omega (arith, none_counted k other ms all.1))

one_counted : (k : ℕ) (m : Message) (ms : List Message) (t : Bool) → (m.kind == k) ≡ t → count_of k (m ∷ ms) ≡ (if t then 1 else 0) + count_of k ms
one_counted k m ms t is = rw is refl

-- one more of its type, and of other types as many; the types themselves aside that make room
pub adds_count : (k : ℕ) (ms ms' : List Message) (kind : ℕ) (body : List ℕ) → (nil_kind == k) ≡ false → (continuation_kind == k) ≡ false → AddsMessage ms ms' kind body
    → count_of k ms' ≡ count_of k ms + (if kind == k then 1 else 0)
adds_count k ms ms' kind body out no_16 adds = elim adds [
  | inl is ↦
      let nil_not : ((is.nil).kind == k) ≡ false = ap (λ n. n == k) is.is_nil ∙ out in
      let said : Message = record { kind = kind; at = (is.nil).at; body = body } in
      omega (
        arith,
        ap (count_of k) is.before,
        count_append k is.front (is.nil ∷ is.back),
        one_counted k is.nil is.back false nil_not,
        ap (count_of k) is.after,
        count_append k is.front (said ∷ (is.rest ++ is.back)),
        count_append k is.rest is.back,
        none_counted k out is.rest is.left,
      )
  | inr is ↦
      let named_not : ((is.named).kind == k) ≡ false = ap (λ n. n == k) is.names ∙ no_16 in
      let said : Message = record { kind = kind; at = is.place + 32; body = body } in
      let moved : Message = record { kind = (is.moved).kind; at = is.place + 8; body = part 0 16 (is.moved).body } in
      omega (
        arith,
        ap (count_of k) is.before,
        count_append k is.front (is.moved ∷ (is.middle ++ is.back)),
        count_append k is.middle is.back,
        ap (count_of k) is.after,
        count_append k is.front (is.named ∷ (is.middle ++ (moved ∷ said ∷ is.back))),
        one_counted k is.named (is.middle ++ (moved ∷ said ∷ is.back)) false named_not,
        count_append k is.middle (moved ∷ said ∷ is.back),
      )
]
