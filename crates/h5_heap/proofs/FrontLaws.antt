-- The first bytes of a free block are free no more: what the list is then.
use Rattle.std.proofs.Common.{◌≡◌, ℕ, ◌+◌, ◌-◌, ◌<◌, ◌≤◌, ◌%◌, Option, Some, List, [], ◌∷◌, ◌++◌, nat_lt, true, false, refl, sym, ◌∙◌, ap, subst, arith}
use Rattle.std.specs.Option.{IfSome}
use Rattle.std.specs.List.{AllByRecursion, find}
use Rattle.std.proofs.lemmas.Bool.Decides.{nat_tests}
use Rattle.h5_bytes.specs.Blocks.{block, holds, cover, Separate}
use Rattle.h5_bytes.specs.declared.Block.{Block}
use Rattle.h5_bytes.proofs.BlockLaws.{holds-inner, all_so}
use Rattle.h5_model.specs.Format.Heap.{IsFree}
use Rattle.h5_heap.specs.Chain.{free_from, HasChain, ListsAt, Relists, Ascends, put_behind}
use Rattle.h5_heap.specs.Inserted.{IsFront, rest_of}
use Rattle.h5_heap.specs.Sought.{is_enough}
use Rattle.h5_heap.proofs.ChainLaws.{IsFound, found_free, free_block_at}
use Rattle.h5_heap.proofs.RelistLaws.{relists_then}
use Rattle.h5_heap.proofs.OrderLaws.{IsSplitAt, split_at, lists_stands, ascends_less, ascends_changed, ascends_past}

pub rest_none : (len : ℕ) (b : Block) → b.len - len < 16 → rest_of len b ≡ []
rest_none len b short = let e : nat_lt (b.len - len) 16 ≡ true = grind (arith, nat_tests, short) in rw e refl

pub rest_one : (len : ℕ) (b : Block) → 16 ≤ b.len - len → rest_of len b ≡ block (b.at + len) (b.len - len) ∷ []
rest_one len b long = let e : nat_lt (b.len - len) 16 ≡ false = grind (arith, nat_tests, long) in rw e refl

-- the block was taken out of the list, to which the one at a place led
module _ (s t : List ℕ) (first g len : ℕ) (b : Block) (c : HasChain s first) (found : find (is_enough len) (free_from s first) ≡ Some b)
    (place : Option ℕ) (out : Relists s t first g (free_block_at s b.at ∷ []) [])
    (listed : free_from s first ≡ put_behind place (free_block_at s b.at) (free_from t g)) (still : IfSome place (λ p. ListsAt t g p)) where
  pub front_found : IsFound (is_enough len) s (free_from s first) b
  front_found = found_free (is_enough len) s first b c found

  pub enough : len ≤ b.len
  enough = grind (arith, nat_tests, front_found.passes)

  gone : Relists s t first g (b ∷ []) []
  gone = subst (λ (x : Block). Relists s t first g (x ∷ []) []) (sym front_found.same) out

  split : IsSplitAt place (free_from t g)
  split = split_at place (free_from t g) (lists_stands t g place still)

  whole : free_from s first ≡ split.front ++ b ∷ split.back
  whole = listed ∙ ap (λ (x : Block). put_behind place x (free_from t g)) (sym front_found.same) ∙ split.put b

  -- too little is left of it
  module _ (short : b.len - len < 16) where
    pub short_relists : Relists s t first g (b ∷ []) (rest_of len b)
    short_relists = subst (Relists s t first g (b ∷ [])) (sym (rest_none len b short)) gone

    pub short_front : IsFront (free_from s first) (free_from t g) b.at len
    short_front = record {
      whole = b;
      front = split.front;
      back = split.back;
      first = found;
      begins = refl;
      before = whole;
      after = split.split ∙ ap (λ (bs : List Block). split.front ++ (bs ++ split.back)) (sym (rest_none len b short));
    }

    pub short_ascending : Ascends (free_from s first) → Ascends (free_from t g)
    short_ascending up = subst Ascends (sym split.split) (ascends_less split.front split.back b (subst Ascends whole up))

  -- the rest of it is a free block
  abbrev rest : Block
  rest = block (b.at + len) (b.len - len)

  pub rest_apart : (p : ℕ) → cover p (free_from t g) + holds p (b.at + len) (b.len - len) ≤ 1
  rest_apart p = omega (arith, gone.covered p, c.apart p, holds-inner p (b.at + len) (b.len - len) b.at b.len (omega arith) (omega (arith, enough)))

  pub rest_form : 16 ≤ b.len - len → len % 8 ≡ 0 → IsFree (block (b.at + len) (b.len - len))
  rest_form long even = record { room = long; aligned = omega (arith, even, front_found.form.aligned) }

  module _ (u : List ℕ) (h : ℕ) (long : 16 ≤ b.len - len) (put : Relists t u g h [] (block (b.at + len) (b.len - len) ∷ []))
      (new : free_from u h ≡ put_behind place (block (b.at + len) (b.len - len)) (free_from t g)) where
    pub long_relists : Relists s u first h (b ∷ []) (rest_of len b)
    long_relists = subst (Relists s u first h (b ∷ [])) (sym (rest_one len b long)) (relists_then s t u first g h (b ∷ []) [] [] (rest ∷ []) gone put)

    pub long_front : IsFront (free_from s first) (free_from u h) b.at len
    long_front = record {
      whole = b;
      front = split.front;
      back = split.back;
      first = found;
      begins = refl;
      before = whole;
      after = new ∙ split.put rest ∙ ap (λ (bs : List Block). split.front ++ (bs ++ split.back)) (sym (rest_one len b long));
    }

    pub long_ascending : Ascends (free_from s first) → Ascends (free_from u h)
    long_ascending up =
        let old : Ascends (split.front ++ b ∷ split.back) = subst Ascends whole up in
        let past = ascends_past split.front split.back b (subst (AllByRecursion IsFree) whole c.each) (subst Separate whole c.apart) old in
        subst Ascends (sym (new ∙ split.put rest)) (ascends_changed split.front split.back b rest (omega arith)
        (all_so (λ (x : Block). b.at + b.len ≤ x.at) (λ (x : Block). b.at + len < x.at) split.back (λ x far. omega (arith, far, long)) past) old)
