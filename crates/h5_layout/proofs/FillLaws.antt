-- A fill value that is read is one of the type.
use Rattle.std.proofs.Common.{◌≡◌, ℕ, ◌+◌, ◌*◌, ◌-◌, ◌^◌, ◌<◌, List, Option, Some, None, Bool, true, false, cond, ◌&&◌, ◌==◌, not, ℤ, pos, refl, subst, arith, slice_index, eq-eqb}
use Rattle.std.specs.Prelude.{nat_lt}
use Rattle.std.proofs.lemmas.Bool.Decides.{nat_tests}
use Rattle.std.proofs.lemmas.Nat.{pow_pos}
use Rattle.std.proofs.lemmas.Option.{same_Some}
use Rattle.h5_model.specs.Format.Fixed.{Fixed, IsFixed, is_size, fixed_from, fits, value_at}
use Rattle.h5_model.specs.Format.Datatype.{fixed_of, is_fixed_point, type_size, is_signed, is_high_first}
use Rattle.h5_model.specs.Format.Fill.{sized_value, fill_value, flagged_value, marked_value, old_fill_value}
use Rattle.h5_model.proofs.StoredValues.{fits_value_at}

-- the bytes are numbers below 256
abbrev AreBytes : List ℕ → Type 0
AreBytes body = (i : ℕ) → slice_index body i < 256

pub zero_fits : (t : Fixed) → fits t (pos 0) ≡ true
zero_fits t = elim (t.signed) as (λ b. nat_lt 0 (cond b (2 ^ (8 * t.size - 1)) (2 ^ (8 * t.size))) ≡ true) [
  | true ↦ let some = pow_pos (8 * t.size - 1) in grind (arith, nat_tests)
  | false ↦ let some = pow_pos (8 * t.size) in grind (arith, nat_tests)
]

-- nothing, zero or a value of the type
by_size : (a b c : Bool) (t : Fixed) (v w : ℤ) → fits t w ≡ true → cond a (cond b (Some (pos 0)) (cond c (Some w) None)) None ≡ Some v → fits t v ≡ true
by_size false b c t v w fit h = absurd (cc)
by_size true true c t v w fit h = subst (λ (x : ℤ). fits t x ≡ true) (same_Some (pos 0) v h) (zero_fits t)
by_size true false true t v w fit h = subst (λ (x : ℤ). fits t x ≡ true) (same_Some w v h) fit
by_size true false false t v w fit h = absurd (cc)

sized_fits : (t : Fixed) (body : List ℕ) (at : ℕ) (v : ℤ) → IsFixed t → AreBytes body → sized_value t body at ≡ Some v → fits t v ≡ true
sized_fits t body at v is low h = by_size _ _ _ t v (value_at t body (at + 4)) (fits_value_at t body (at + 4) is low) h

pub old_fill_fits : (t : Fixed) (body : List ℕ) (v : ℤ) → IsFixed t → AreBytes body → old_fill_value t body ≡ Some v → fits t v ≡ true
unfolding old_fill_value
old_fill_fits t body v is low h = sized_fits t body 0 v is low h

by_flag : (a b c : Bool) (t : Fixed) (v : ℤ) (o : Option ℤ) → (o ≡ Some v → fits t v ≡ true) → cond a (cond b (Some (pos 0)) (cond c o None)) None ≡ Some v → fits t v ≡ true
by_flag false b c t v o fit h = absurd (cc)
by_flag true true c t v o fit h = subst (λ (x : ℤ). fits t x ≡ true) (same_Some (pos 0) v h) (zero_fits t)
by_flag true false true t v o fit h = fit h
by_flag true false false t v o fit h = absurd (cc)

marked_fits : (t : Fixed) (body : List ℕ) (v : ℤ) → IsFixed t → AreBytes body → marked_value t body ≡ Some v → fits t v ≡ true
marked_fits t body v is low h = by_flag _ _ _ t v (sized_value t body 4) (sized_fits t body 4 v is low) h

by_flags : (a b : Bool) (t : Fixed) (v : ℤ) (o : Option ℤ) → (o ≡ Some v → fits t v ≡ true) → cond a (cond b o (Some (pos 0))) None ≡ Some v → fits t v ≡ true
by_flags false b t v o fit h = absurd (cc)
by_flags true true t v o fit h = fit h
by_flags true false t v o fit h = subst (λ (x : ℤ). fits t x ≡ true) (same_Some (pos 0) v h) (zero_fits t)

flagged_fits : (t : Fixed) (body : List ℕ) (v : ℤ) → IsFixed t → AreBytes body → flagged_value t body ≡ Some v → fits t v ≡ true
flagged_fits t body v is low h = by_flags _ _ t v (sized_value t body 2) (sized_fits t body 2 v is low) h

by_version : (a b : Bool) (x y : Option ℤ) (P : Type 0) (v : ℤ) → (x ≡ Some v → P) → (y ≡ Some v → P) → cond a x (cond b y None) ≡ Some v → P
by_version true b x y P v first second h = first h
by_version false true x y P v first second h = second h
by_version false false x y P v first second h = absurd (cc)

pub fill_fits : (t : Fixed) (body : List ℕ) (v : ℤ) → IsFixed t → AreBytes body → fill_value t body ≡ Some v → fits t v ≡ true
unfolding fill_value
fill_fits t body v is low h = by_version _ _ (marked_value t body) (flagged_value t body) _ v (marked_fits t body v is low) (flagged_fits t body v is low) h

-- ---- the type

none_big : (b c : Bool) → c ≡ true → (b && not c) ≡ false
none_big true c h = rw h refl
none_big false c h = refl

made : (size : ℕ) (signed big : Bool) (t : Fixed) → fixed_from size signed big ≡ Some t → IsFixed t
made size signed big t h = elim (is_size size) as (λ b. is_size size ≡ b → cond b (Some (record { size = size; signed = signed; big = big && not (size == 1) })) None ≡ Some t → IsFixed t) [
  | true ↦ λ e some. subst IsFixed (same_Some _ t some) (record { size = e; plain = λ one. none_big big (size == 1) (eq-eqb size 1 one) })
  | false ↦ λ e some. absurd (cc)
] refl h

pub type_sound : (body : List ℕ) (t : Fixed) → fixed_of body ≡ Some t → IsFixed t
unfolding fixed_of
type_sound body t h = elim (is_fixed_point body) as (λ b. cond b (fixed_from (type_size body) (is_signed body) (is_high_first body)) None ≡ Some t → IsFixed t) [
  | true ↦ made (type_size body) (is_signed body) (is_high_first body) t
  | false ↦ λ none. absurd (cc)
] h
