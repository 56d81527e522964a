use Rattle.std.proofs.Common.{◌≡◌, ℕ, List, Option, Some, get_or, length, sym, subst, ◌∙◌, arith}
use Rattle.std.proofs.lemmas.Option.{same_Some, slice_get_within}
use Rattle.std.proofs.lemmas.Result.{on_ok_weaker, MatchResult-weaker}
use Rattle.std.specs.Prelude.{slice_get}
use Rattle.h5_open.specs.declared.opened.object.OpenedObject.{OpenedObject}
use Rattle.h5_open.specs.Counted.Counts.{MayBeLinked, IsRefusedAgain}
use Rattle.h5_open.proofs.CountedLaws.CountLaws.{count_read}
use Rattle.h5_open.proofs.counts.tally.count_again.Goals as goal

-- what is said of the object and of the count that were read
said_of : (P : OpenedObject → ℕ → Type 0) (slots : List (Option OpenedObject)) (counts : List ℕ) (number : ℕ) (read o : OpenedObject) (count : ℕ) → length counts ≡ length slots
    → slice_get slots number ≡ Some (Some read) → slice_get slots number ≡ Some (Some o) → count ≡ get_or counts number count → P read count → P o (get_or counts number 0)
said_of P slots counts number read o count long here there is holds =
    let same : read ≡ o = same_Some read o (same_Some (Some read) (Some o) (sym here ∙ there)) in
    let low = slice_get_within slots number (Some o) there in
    subst (λ (x : OpenedObject). P x (get_or counts number 0)) same (subst (P read) (count_read counts number count (omega (arith, low, long)) is) holds)

pub returns-clause-room : goal.returns-clause-room
returns-clause-room c =
    on_ok_weaker c.count_one.result (λ room o there.
    said_of MayBeLinked c.args.tally.now.index.objects.items c.args.tally.now.counts.items c.args.number c.object_numbered-object.result.now o c.index_mut.result.now c.requires.length
    c.object_numbered-object.ensures there c.index_mut.ensures.value room) c.count_one.ensures.room

pub returns-clause-refused : goal.returns-clause-refused
returns-clause-refused c =
    MatchResult-weaker c.count_one.result c.count_one.ensures.refused (λ _ h. h) (λ fault refused o there.
    said_of (λ (x : OpenedObject) (n : ℕ). IsRefusedAgain x n fault.cause fault.address) c.args.tally.now.index.objects.items c.args.tally.now.counts.items c.args.number
    c.object_numbered-object.result.now o c.index_mut.result.now c.requires.length c.object_numbered-object.ensures there c.index_mut.ensures.value refused)
