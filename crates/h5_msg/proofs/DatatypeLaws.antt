-- A type that was written reads as that type.
use Rattle.std.proofs.Common.{◌≡◌, ℕ, inl, inr, List, length, Some, refl, ap, sym, ◌∙◌, arith, true, false, Bool}
use Rattle.std.proofs.lemmas.Bool.Decides.{nat_tests}
use Rattle.std.specs.Prelude.{nat_le}
use Rattle.h5_bytes.specs.Bytes.{number_at}
use Rattle.h5_model.specs.Format.Fixed.{Fixed, IsFixed}
use Rattle.h5_model.specs.Format.Datatype.{fixed_of}
use Rattle.h5_model.proofs.FixedLaws.{sizes_of}
use Rattle.h5_model.specs.Format.Bodies.{datatype_bytes}
use Rattle.h5_model.specs.Format.Plain.{with_zeros}

long_datatype : (t : Fixed) (n : ℕ) → nat_le 12 (length (with_zeros (datatype_bytes t) n)) ≡ true
long_datatype t n = grind (arith, nat_tests)

abbrev type_of : ℕ → Bool → Bool → Fixed
type_of size signed big = record { size = size; signed = signed; big = big }

one : (signed : Bool) (n : ℕ) → fixed_of (with_zeros (datatype_bytes (type_of 1 signed false)) n) ≡ Some (type_of 1 signed false)
unfolding fixed_of number_at
one true n = rw (long_datatype (type_of 1 true false) n) refl
one false n = rw (long_datatype (type_of 1 false false) n) refl

two : (signed big : Bool) (n : ℕ) → fixed_of (with_zeros (datatype_bytes (type_of 2 signed big)) n) ≡ Some (type_of 2 signed big)
unfolding fixed_of number_at
two true true n = rw (long_datatype (type_of 2 true true) n) refl
two true false n = rw (long_datatype (type_of 2 true false) n) refl
two false true n = rw (long_datatype (type_of 2 false true) n) refl
two false false n = rw (long_datatype (type_of 2 false false) n) refl

four : (signed big : Bool) (n : ℕ) → fixed_of (with_zeros (datatype_bytes (type_of 4 signed big)) n) ≡ Some (type_of 4 signed big)
unfolding fixed_of number_at
four true true n = rw (long_datatype (type_of 4 true true) n) refl
four true false n = rw (long_datatype (type_of 4 true false) n) refl
four false true n = rw (long_datatype (type_of 4 false true) n) refl
four false false n = rw (long_datatype (type_of 4 false false) n) refl

eight : (signed big : Bool) (n : ℕ) → fixed_of (with_zeros (datatype_bytes (type_of 8 signed big)) n) ≡ Some (type_of 8 signed big)
unfolding fixed_of number_at
eight true true n = rw (long_datatype (type_of 8 true true) n) refl
eight true false n = rw (long_datatype (type_of 8 true false) n) refl
eight false true n = rw (long_datatype (type_of 8 false true) n) refl
eight false false n = rw (long_datatype (type_of 8 false false) n) refl

along : (t u : Fixed) (n : ℕ) → t ≡ u → fixed_of (with_zeros (datatype_bytes u) n) ≡ Some u → fixed_of (with_zeros (datatype_bytes t) n) ≡ Some t
along t u n same reads = ap (λ (x : Fixed). fixed_of (with_zeros (datatype_bytes x) n)) same ∙ reads ∙ ap (λ (x : Fixed). Some x) (sym same)

pub fixed_of-written : (t : Fixed) (n : ℕ) → IsFixed t → fixed_of (with_zeros (datatype_bytes t) n) ≡ Some t
fixed_of-written t n sound = elim (sizes_of t.size sound.size) [
  | inl small ↦ elim small [
    | inl e ↦ along t (type_of 1 t.signed false) n (ap (λ (k : ℕ). type_of k t.signed t.big) e ∙ ap (λ (b : Bool). type_of 1 t.signed b) (sound.plain e)) (one t.signed n)
    | inr e ↦ along t (type_of 2 t.signed t.big) n (ap (λ (k : ℕ). type_of k t.signed t.big) e) (two t.signed t.big n)
  ]
  | inr large ↦ elim large [
    | inl e ↦ along t (type_of 4 t.signed t.big) n (ap (λ (k : ℕ). type_of k t.signed t.big) e) (four t.signed t.big n)
    | inr e ↦ along t (type_of 8 t.signed t.big) n (ap (λ (k : ℕ). type_of k t.signed t.big) e) (eight t.signed t.big n)
  ]
]

pub fixed_back : (t : Fixed) (n : ℕ) (bytes : List ℕ) → IsFixed t → bytes ≡ with_zeros (datatype_bytes t) n → fixed_of bytes ≡ Some t
fixed_back t n bytes sound same = ap fixed_of same ∙ fixed_of-written t n sound
