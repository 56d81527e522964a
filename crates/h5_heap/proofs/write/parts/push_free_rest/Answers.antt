use Rattle.std.proofs.Common.{◌≡◌, true, arith, append_assoc}
use Rattle.std.specs.Prelude.{nat_le}
use Rattle.std.proofs.lemmas.Bool.Decides.{nat_tests}
use Rattle.h5_heap.proofs.write.parts.push_free_rest.Goals as goal

pub returns : goal.returns
returns c =
    let few : nat_le c.args.used 72 ≡ true = grind (arith, nat_tests) in
    rw (few, c.in_ok-push_zeros.ensures, c.in_ok-push_word-2.ensures, c.in_ok-push_word.ensures) (simp append_assoc)
