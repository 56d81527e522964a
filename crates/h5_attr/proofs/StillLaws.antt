-- A message that is no attribute any more: what the others say stays.
use Rattle.std.proofs.Common.{◌≡◌, ℕ, ◌≤◌, ◌==◌, ◌+◌, Bool, true, false, cond, if◌then◌else◌, IsTrue, ◌||◌, List, [], ◌∷◌, ◌++◌, Some, option_map, refl, sym, ap, ◌∙◌, subst}
use Rattle.std.specs.List.{AllByRecursion, filter, find, list_any}
use Rattle.std.specs.Option.{option_and_then}
use Rattle.h5_model.specs.Format.Addresses.{symbol_table_of}
use Rattle.h5_model.specs.Format.Datatype.{fixed_of}
use Rattle.h5_model.specs.Format.MessageTypes.{nil_kind, attribute_kind, datatype_kind, symbol_table_kind}
use Rattle.h5_model.specs.Format.Messages.{Message, count_of, first_body}
use Rattle.h5_header.specs.Added.{is_movable}
use Rattle.h5_attr.specs.Still.{IsSaidStill}

-- one edit behind another
pub still_then : (ms next last : List Message) → IsSaidStill ms next → IsSaidStill next last → IsSaidStill ms last
still_then ms next last first second = record {
  others = λ p none. second.others p none ∙ first.others p none;
  bodies = λ kind none. second.bodies kind none ∙ first.bodies kind none;
  counts = λ kind none. second.counts kind none ∙ first.counts kind none;
  types = λ p these all. second.types p these (first.types p these all);
  table = λ once. second.table (subst (λ n. n ≤ 1) (sym (first.counts 17 (refl, (refl, (refl, tt))))) once) ∙ first.table once;
  datatype = λ once. second.datatype (subst (λ n. n ≤ 1) (sym (first.counts 3 (refl, (refl, (refl, tt))))) once) ∙ first.datatype once;
}

module _ (x y : Message) (was : x.kind ≡ attribute_kind) (now : y.kind ≡ nil_kind) where
  passed : (p : ℕ → Bool) (out : p attribute_kind ≡ false) (none : p nil_kind ≡ false) (front back : List Message)
      → filter (λ (m : Message). p m.kind) (front ++ y ∷ back) ≡ filter (λ (m : Message). p m.kind) (front ++ x ∷ back)
  passed p out none [] back = rw (was, now, out, none) refl
  passed p out none (f ∷ front) back = ap (λ (ys : List Message). if p f.kind then f ∷ ys else ys) (passed p out none front back)

  body_of : (kind : ℕ) (out : (attribute_kind == kind) ≡ false) (none : (nil_kind == kind) ≡ false) (front back : List Message)
      → first_body kind (front ++ y ∷ back) ≡ first_body kind (front ++ x ∷ back)
  body_of kind out none [] back = rw (was, now, out, none) refl
  body_of kind out none (f ∷ front) back =
      elim (f.kind == kind) as (λ b. option_map (λ (m : Message). m.body) (cond b (Some f) (find (λ (m : Message). m.kind == kind) (front ++ y ∷ back)))
      ≡ option_map (λ (m : Message). m.body) (cond b (Some f) (find (λ (m : Message). m.kind == kind) (front ++ x ∷ back)))) [
        | true ↦ refl
        | false ↦ body_of kind out none front back
      ]

  counted : (kind : ℕ) (out : (attribute_kind == kind) ≡ false) (none : (nil_kind == kind) ≡ false) (front back : List Message)
      → count_of kind (front ++ y ∷ back) ≡ count_of kind (front ++ x ∷ back)
  counted kind out none [] back = rw (was, now, out, none) refl
  counted kind out none (f ∷ front) back = ap (λ n. (if f.kind == kind then 1 else 0) + n) (counted kind out none front back)

  of_types : (p : ℕ → Bool) → IsTrue (p nil_kind) → (front back : List Message) → AllByRecursion (λ (m : Message). IsTrue (p m.kind)) (front ++ x ∷ back)
      → AllByRecursion (λ (m : Message). IsTrue (p m.kind)) (front ++ y ∷ back)
  of_types p nil [] back all = (subst (λ (k : ℕ). IsTrue (p k)) (sym now) nil, all.1)
  of_types p nil (f ∷ front) back all = (all.0, of_types p nil front back all.1)

  -- no message that may move is among them
  pub blank_movable : (front back : List Message) → list_any is_movable (front ++ y ∷ back) ≡ list_any is_movable (front ++ x ∷ back)
  blank_movable [] back = rw (was, now) refl
  blank_movable (f ∷ front) back = ap (λ (b : Bool). is_movable f || b) (blank_movable front back)

  -- a message that was an attribute is NIL
  pub blank_still : (front back : List Message) → IsSaidStill (front ++ x ∷ back) (front ++ y ∷ back)
  blank_still front back = record {
    others = λ p none. passed p none.1.1.0 none.0 front back;
    bodies = λ kind none. body_of kind none.1.1.0 none.0 front back;
    counts = λ kind none. counted kind none.1.0 none.0 front back;
    types = λ p these all. of_types p these.0 front back all;
    table = λ once. ap (option_and_then symbol_table_of) (body_of symbol_table_kind refl refl front back);
    datatype = λ once. ap (option_and_then fixed_of) (body_of datatype_kind refl refl front back);
  }
