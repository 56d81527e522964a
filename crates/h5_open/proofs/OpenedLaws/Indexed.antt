-- The value of an opened image: its objects by their numbers, and numbers by headers.
use Rattle.std.proofs.Common.{◌≡◌, ℕ, refl, sym, ap, ◌∙◌, Option, Some, None, arith}
use Rattle.std.specs.FinMap.{get}
use Rattle.h5_model.specs.Tree.Objects.{Object}
use Rattle.h5_laws.proofs.Objects.{in_table}
use Rattle.h5_laws.proofs.SoundLaws.Read.{placed_at}
use Rattle.h5_open.specs.Opened.Objects.{number_in}
use Rattle.h5_open.specs.Opened.Sound.{IsSound}
use Rattle.h5_open.specs.Opened.State.{FileState}
use Rattle.h5_open.proofs.OpenedLaws.HeaderNumbers.{number_is}

module _ (f : FileState) (sound : IsSound f) where
  -- the number of an object's header is the object's
  pub number_at_header : (n h : ℕ) → get f.table n ≡ Some h → number_in f.table h ≡ n
  number_at_header = number_is f.table sound.reads.holds.own

  -- each object of the tree has a header
  pub header_there : (n : ℕ) (o : Object) → get f.tree n ≡ Some o → (h : ℕ) × (get f.table n ≡ Some h)
  header_there n o at =
      let x = placed_at f.image f.table f.tree sound.placed sound.reads n o at in
      (x.0.header, ap (get f.table) (sym x.2) ∙ in_table f.image f.table f.tree sound.placed sound.reads.holds x.0 x.1)

  -- so where there is none there is no object
  pub none_there : (n : ℕ) → get f.table n ≡ None → get f.tree n ≡ None
  none_there n none = go (get f.tree n) refl where
    go : (found : Option Object) → get f.tree n ≡ found → found ≡ None
    go None is = refl
    go (Some o) is = absurd (let never : None ≡ Some (header_there n o is).0 = sym none ∙ (header_there n o is).1 in cc)

  -- the next number is no object's
  pub next_free : get f.tree f.next ≡ None
  next_free = go (get f.tree f.next) refl where
    go : (found : Option Object) → get f.tree f.next ≡ found → found ≡ None
    go None is = refl
    go (Some o) is = absurd (omega (arith, sound.numbers.given f.next (rw is refl)))
