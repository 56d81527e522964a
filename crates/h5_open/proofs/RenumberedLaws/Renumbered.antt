-- What objects tell that have the numbers of given headers.
use Rattle.std.proofs.Common.{◌≡◌, ℕ, ◌≤◌, List, Option, length, sym, ◌∙◌, subst, arith}
use Rattle.std.specs.Prelude.{OnOk, Result, Ok, Err}
use Rattle.std.specs.BTreeMap.{BTreeMap}
use Rattle.std.specs.FinMap.{len}
use Rattle.h5_model.specs.Tree.Objects.{Tree}
use Rattle.h5_model.specs.Format.Reads.{Reads}
use Rattle.h5_model.proofs.OneReading.{one_reading}
use Rattle.h5_space.specs.Space.{Space}
use Rattle.h5_open.specs.declared.opened.object.OpenedObject.{OpenedObject}
use Rattle.h5_open.specs.Opened.Kept.{IsOpened}
use Rattle.h5_open.specs.Opened.Objects.{table_of, tree_of}
use Rattle.h5_open.specs.Opened.Sound.{IsSound}
use Rattle.h5_open.specs.Opened.State.{FileState, opened_state}
use Rattle.h5_open.specs.Renumbered.Headers.{table_with}
use Rattle.h5_open.proofs.OpenedLaws.Made.{len_standing}
use Rattle.h5_open.proofs.OpenedLaws.ReadHeaders.{as_many_read, len_read}

-- an image of which no number was used up has as many as any reading has headers
pub next_at : (f : FileState) → IsSound f → f.next ≡ len f.tree → (hs : List (Option ℕ)) (tree : Tree) → Reads f.image (table_with hs) tree → f.next ≡ len (table_with hs)
next_at f sound fresh hs tree reads =
    fresh ∙ as_many_read f.image f.table (table_with hs) f.tree tree (sound.placed, sound.reads) reads ∙ len_read f.image (table_with hs) tree reads

pub next_low : (f : FileState) → IsSound f → f.next ≡ len f.tree → (hs : List (Option ℕ)) (tree : Tree) → Reads f.image (table_with hs) tree → f.next ≤ length hs
next_low f sound fresh hs tree reads = omega (arith, next_at f sound fresh hs tree reads, len_standing hs)

-- the value with these numbers differs in the table, the next number and the tree alone
pub renumbered : (image : Space) (slots slots' : List (Option OpenedObject)) (numbers' : BTreeMap ℕ ℕ) (hs : List (Option ℕ)) → IsOpened image slots' numbers'
    → table_of slots' ≡ table_with hs → length slots' ≡ length hs → (tree : Tree) → Reads image.bytes (table_with hs) tree
    → opened_state image slots' ≡ record (opened_state image slots) { table = table_with hs; next = length hs; tree = tree }
renumbered image slots slots' numbers' hs opened at long tree reads =
    let same : tree_of image.bytes slots' ≡ tree =
    one_reading image.bytes (table_of slots') (tree_of image.bytes slots') tree opened.reads (subst (λ table. Reads image.bytes table tree) (sym at) reads) in
    λ i. record { image = image.bytes; free = image.free; table = at i; next = long i; tree = same i }

-- two facts of one value
pub on_ok_both : {T E : Type 0} (P Q : Type 0) (r : Result T E) → OnOk r P → OnOk r Q → OnOk r (P × Q)
on_ok_both P Q (Ok x) p q = (p, q)
on_ok_both P Q (Err e) p q = tt
