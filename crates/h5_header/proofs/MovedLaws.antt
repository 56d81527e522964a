-- What a Symbol Table and a Datatype say stands in their first 16 bytes: those that move into a new block say the same.
use Rattle.std.proofs.Common.{◌≡◌, ℕ, ◌≤◌, nat_le, true, List, length, refl, arith, lit≤}
use Rattle.std.proofs.lemmas.Bool.Decides.{nat_tests}
use Rattle.h5_bytes.specs.Bytes.{byte_at, number_at, part}
use Rattle.h5_bytes.proofs.FieldLaws.{number_at-part}
use Rattle.h5_bytes.proofs.PartLaws.{length-part}
use Rattle.h5_model.specs.Format.Addresses.{symbol_table_of}
use Rattle.h5_model.specs.Format.Datatype.{fixed_of}
use Rattle.h5_model.proofs.BodyLaws.{byte_at-part}

module _ (body : List ℕ) (wide : 16 ≤ length body) where
  long : length (part 0 16 body) ≡ 16
  long = length-part 0 16 body (omega (arith, wide))

  pub moved_table : symbol_table_of (part 0 16 body) ≡ symbol_table_of body
  unfolding symbol_table_of
  moved_table =
      let here : nat_le 16 (length (part 0 16 body)) ≡ true = grind (arith, nat_tests, long) in
      let there : nat_le 16 (length body) ≡ true = grind (arith, nat_tests, wide) in
      let tree : number_at (part 0 16 body) 0 8 ≡ number_at body 0 8 = number_at-part 0 8 0 16 body (lit≤ tt) in
      let heap : number_at (part 0 16 body) 8 8 ≡ number_at body 8 8 = number_at-part 8 8 0 16 body (lit≤ tt) in
      rw (here, there, tree, heap) refl

  pub moved_type : fixed_of (part 0 16 body) ≡ fixed_of body
  unfolding fixed_of
  moved_type =
      let here : nat_le 12 (length (part 0 16 body)) ≡ true = grind (arith, nat_tests, long) in
      let there : nat_le 12 (length body) ≡ true = grind (arith, nat_tests, wide) in
      let class : byte_at (part 0 16 body) 0 ≡ byte_at body 0 = byte_at-part 0 0 16 body (lit≤ tt) in
      let bits : byte_at (part 0 16 body) 1 ≡ byte_at body 1 = byte_at-part 1 0 16 body (lit≤ tt) in
      let more : number_at (part 0 16 body) 2 2 ≡ number_at body 2 2 = number_at-part 2 2 0 16 body (lit≤ tt) in
      let size : number_at (part 0 16 body) 4 4 ≡ number_at body 4 4 = number_at-part 4 4 0 16 body (lit≤ tt) in
      let offset : number_at (part 0 16 body) 8 2 ≡ number_at body 8 2 = number_at-part 8 2 0 16 body (lit≤ tt) in
      let precision : number_at (part 0 16 body) 10 2 ≡ number_at body 10 2 = number_at-part 10 2 0 16 body (lit≤ tt) in
      rw (here, there, class, bits, more, size, offset, precision) refl
