-- What `dump` prints of an object.
use Rattle.std.proofs.Common.{◌≡◌, ℕ, zero, suc, ◌+◌, ◌-◌, ◌*◌, ◌/◌, ◌<◌, ◌≤◌, ℤ, List, [], ◌∷◌, ◌++◌, length, codes, refl, sym, ap, ◌∙◌, append-nil, replicate, subst, Option, None, arith, Bor, Vec}
use Rattle.std.specs.Prelude.{Result, Ok, Err, MatchResult}
use Rattle.std.specs.Io.KnownBytes.{Appends}
use Rattle.h5_text.specs.Printed.{IsPrinted, WritesSome}
use Rattle.h5_text.specs.declared.streams.PrintFault.{PrintFault}
use Rattle.h5_text.proofs.Printing.{printed_last, cut_last}
use Rattle.h5_model.specs.Edits.Refusal.{first_holding}
use Rattle.h5_model.specs.Scripts.Reading.{path_rules}
use Rattle.h5_model.specs.Tree.Paths.{location_of}
use Rattle.std.proofs.Math.Nat.{mul_assoc, zero-div}
use Rattle.std.proofs.lemmas.Nat.{div-mul-add}
use Rattle.std.proofs.lemmas.List.{replicate-append-replicate}
use Rattle.std.specs.declared.alloc.Global.{Global}
use Rattle.std.specs.FinMap.{entries}
use Rattle.std.specs.Fmt.{signed_decimal}
use Rattle.std.specs.List.{flat_map}
use Rattle.std.specs.Option.{option_map_or}
use Rattle.h5_model.specs.Tree.Paths.{Located, Here, Missing, NoParent, NoGroup, NoPath}
use Rattle.h5_model.specs.Scripts.Answers.{dump_of}
use Rattle.h5_model.specs.Scripts.Text.{attribute_line, cells_text, content_text, dataset_text, detail_text, dump_text, escaped_text, line_of, row_length, rows_text, storage_text}
use Rattle.h5_model.specs.Tree.Places.{cells}
use Rattle.h5_model.specs.Tree.Objects.{Tree, Links, Object, Attribute, Group, Array, Dataset, ToObject, Soft}
use Rattle.h5_text.specs.Listing.{dump_line}
use Rattle.h5_text.specs.Rows.{cells_from}
use Rattle.h5_text.proofs.RowTexts.{cells_are_rows}
use Rattle.h5_file.specs.Found.{IsFoundAs, IsUnfound}
use Rattle.h5_file.specs.FoundType.TheVariants as found
use Rattle.h5_dump.specs.Dumped.{Dumps, IsDumped, IsUndumped}
use Rattle.h5_dump.specs.declared.fault.DumpFault.{DumpFault}
use Rattle.h5_dump.specs.declared.fault.DumpFault.TheVariants.{Refused, Cut}
use Rattle.h5_model.specs.declared.object_no.ObjectNo.{ObjectNo}
use Rattle.h5_model.specs.declared.edit_fault.EditFault.{EditFault}
use Rattle.h5_model.specs.declared.edit_fault.EditFault.TheVariants.{NoMemory}

-- ---- what lines tell of the array

pub content-same : (d e : Dataset) → d.fixed ≡ e.fixed → d.sizes ≡ e.sizes → d.maxima ≡ e.maxima → content_text (Array d) ≡ content_text (Array e)
content-same d e fixed sizes maxima = rw (fixed, sizes, maxima) refl

dataset-same : (d e : Dataset) → storage_text d.storage ≡ storage_text e.storage → d.fill ≡ e.fill → dataset_text d ≡ dataset_text e
dataset-same d e storage fill = λ i. codes " " ++ storage i ++ codes " fill " ++ signed_decimal (fill i)

pub head-same : (path : List ℕ) (d e : Dataset) → d.fixed ≡ e.fixed → d.sizes ≡ e.sizes → d.maxima ≡ e.maxima → storage_text d.storage ≡ storage_text e.storage → d.fill ≡ e.fill
    → dump_line path d ≡ dump_line path e
head-same path d e fixed sizes maxima storage fill =
    λ i. path ++ codes " " ++ content-same d e fixed sizes maxima i ++ dataset-same d e storage fill i ++ codes "\n"

-- ---- the rows of the array

-- an array is so many whole rows
rows_of : (sizes : List ℕ) → (n : ℕ) × (cells sizes ≡ n * row_length sizes)
rows_of [] = (1, refl)
rows_of (d ∷ []) = (1, omega arith)
rows_of (d ∷ e ∷ ds) =
    let r = rows_of (e ∷ ds) in
    (d * r.0, ap (λ n. d * n) r.1 ∙ sym (mul_assoc d r.0 (row_length (e ∷ ds))))

pub some-width : (sizes : List ℕ) → 0 < cells sizes → 0 < row_length sizes
some-width sizes some = go (row_length sizes) refl where
  go : (w : ℕ) → w ≡ row_length sizes → 0 < row_length sizes
  go zero is =
      let none : cells sizes ≡ 0 = (rows_of sizes).1 ∙ ap (λ n. (rows_of sizes).0 * n) (sym is) ∙ (let z : (rows_of sizes).0 * 0 ≡ 0 = omega arith in z) in
      absurd (omega (arith, some, none))
  go (suc w) is = omega (arith, is)

module _ (sizes : List ℕ) (values : List ℤ) (counted : length values ≡ cells sizes) where
  abbrev width : ℕ
  width = row_length sizes

  pub no-rows : cells sizes ≡ 0 → [] ≡ rows_text (length values / width) width values
  no-rows none =
      sym (ap (λ n. rows_text n width values) (ap (λ n. n / width) (counted ∙ none) ∙ zero-div width))

  pub all-rows : 0 < cells sizes → cells_from width 0 values ≡ rows_text (length values / width) width values
  all-rows some =
      let n = (rows_of sizes).0 in
      let whole : length values ≡ n * width + 0 = omega (arith, counted, (rows_of sizes).1) in
      let many : length values / width ≡ n = ap (λ k. k / width) whole ∙ div-mul-add n width 0 (some-width sizes some) in
      let rows : length values ≡ length values / width * width = counted ∙ (rows_of sizes).1 ∙ ap (λ k. k * width) (sym many) in
      cells_are_rows (length values / width) width values (some-width sizes some) rows

-- the cells of the array
pub no-cells : (d : Dataset) → length d.cells ≡ cells d.sizes → cells d.sizes ≡ 0 → [] ≡ cells_text (Array d)
no-cells d counted none = no-rows d.sizes d.cells counted none

pub all-cells : (d : Dataset) → length d.cells ≡ cells d.sizes → 0 < cells d.sizes → (width column : ℕ) → width ≡ row_length d.sizes → column ≡ 0 → (values : List ℤ) → values ≡ d.cells
    → cells_from width column values ≡ cells_text (Array d)
all-cells d counted some w column wide first values same =
    (λ i. cells_from (wide i) (first i) (same i)) ∙ all-rows d.sizes d.cells counted some

-- what a function gives of two values
pub same-both : {A B C : Type 0} (f : A → B → C) (a b : A) (v w : B) → a ≡ b → v ≡ w → f a v ≡ f b w
same-both f a b v w first second = λ i. f (first i) (second i)

-- ---- cells of one value, part by part

pub split-replicate : (n count : ℕ) (v : ℤ) → n ≤ count → replicate count v ≡ replicate n v ++ replicate (count - n) v
split-replicate n count v few =
    let sum : n + (count - n) ≡ count = omega (arith, few) in
    sym (replicate-append-replicate n (count - n) v ∙ ap (λ k. replicate k v) sum)

pub all-replicate : (count left : ℕ) (v : ℤ) (values : List ℤ) → replicate count v ≡ values ++ replicate left v → left ≡ 0 → values ≡ replicate count v
all-replicate count left v values parts none = sym (parts ∙ ap (λ k. values ++ replicate k v) none ∙ append-nil values)

-- what is held back is written last
pub cells-written : {T : Type 0} (r : Result T PrintFault) (P : PrintFault → Type 0) (old mid new : Option (List ℕ)) (held now shown text : List ℕ) → shown ≡ now → IsPrinted old mid held now text
    → MatchResult r (λ _. Appends mid new shown) (λ e. P e × WritesSome mid new shown)
    → MatchResult r (λ _. Appends old new (held ++ text)) (λ _. WritesSome old new (held ++ text))
cells-written (Ok x) P old mid new held now shown text same so_far is = printed_last old mid new held now text so_far (subst (λ t. Appends mid new t) same is)
cells-written (Err e) P old mid new held now shown text same so_far is = cut_last old mid new held now text so_far (subst (λ t. WritesSome mid new t) same is.1)

-- ---- what is dumped of an object

pub dump-group : (path : List ℕ) (o : Object) (links : Links) → o.content ≡ Group links
    → line_of path (codes "group") ++ flat_map attribute_line (entries o.attributes) ≡ dump_text path o
dump-group path o links is =
    let lines = flat_map attribute_line (entries o.attributes) in
    sym (ap (λ c. path ++ codes " " ++ content_text c ++ detail_text c ++ codes "\n" ++ lines ++ cells_text c) is
    ∙ append-nil (path ++ codes " " ++ codes "group" ++ [] ++ codes "\n" ++ lines)
    ∙ ap (λ t. t ++ codes "\n" ++ lines) (append-nil (path ++ codes " " ++ codes "group")))

pub dump-array : (path : List ℕ) (o : Object) (d : Dataset) → o.content ≡ Array d
    → dump_line path d ++ flat_map attribute_line (entries o.attributes) ++ cells_text (Array d) ≡ dump_text path o
dump-array path o d content =
    let lines = flat_map attribute_line (entries o.attributes) in
    sym (ap (λ c. path ++ codes " " ++ content_text c ++ detail_text c ++ codes "\n" ++ lines ++ cells_text c) content)

-- ---- what was found at a path

module _ (tree : Tree) (path : List ℕ) where
  -- a group, by its number and its attributes
  pub dumped-group : (at : Located) (n : ObjectNo) (attributes : Vec (List ℕ × Attribute) Global) → IsFoundAs tree at (found.Group n attributes)
      → (group : Object) × (links : Links) × (group.content ≡ Group links) × (attributes.items ≡ entries group.attributes) × (dump_text (escaped_text path) group ≡ dump_of tree path at)
  dumped-group (Here (ToObject number)) n attributes is =
      (is.2.object, is.1, is.2.content_is, is.2.listed, sym (ap (λ x. option_map_or (dump_text (escaped_text path)) x []) is.2.found))
  dumped-group (Here (Soft text)) n attributes is = absurd is
  dumped-group Missing n attributes is = absurd is
  dumped-group NoParent n attributes is = absurd is
  dumped-group NoGroup n attributes is = absurd is
  dumped-group NoPath n attributes is = absurd is

  -- an array
  pub dumped-array : (at : Located) (n : ObjectNo) (attributes : Vec (List ℕ × Attribute) Global) (d : Dataset) → IsFoundAs tree at (found.Array n attributes d)
      → (o : Object) × (o.content ≡ Array d) × (attributes.items ≡ entries o.attributes) × (dump_text (escaped_text path) o ≡ dump_of tree path at)
  dumped-array (Here (ToObject number)) n attributes d is =
      (is.1.object, is.1.content_is, is.1.listed, sym (ap (λ x. option_map_or (dump_text (escaped_text path)) x []) is.1.found))
  dumped-array (Here (Soft text)) n attributes d is = absurd is
  dumped-array Missing n attributes d is = absurd is
  dumped-array NoParent n attributes d is = absurd is
  dumped-array NoGroup n attributes d is = absurd is
  dumped-array NoPath n attributes d is = absurd is

  -- a soft link
  pub dumped-soft : (at : Located) (shown : Bor (List ℕ)) → IsFoundAs tree at (found.Soft shown) → line_of (escaped_text path) (codes "soft " ++ escaped_text shown.now) ≡ dump_of tree path at
  dumped-soft (Here (Soft text)) shown is = ap (λ t. line_of (escaped_text path) (codes "soft " ++ escaped_text t)) is
  dumped-soft (Here (ToObject number)) shown is = absurd is
  dumped-soft Missing shown is = absurd is
  dumped-soft NoParent shown is = absurd is
  dumped-soft NoGroup shown is = absurd is
  dumped-soft NoPath shown is = absurd is

-- ---- a dump that is refused

-- before anything is written
pub unfound : (tree : Tree) (path : List ℕ) (known : Option (List ℕ)) (e : EditFault) → IsUnfound tree path e → IsUndumped tree path known known (Refused e)
unfound tree path known NoMemory is = (is, refl)
unfound tree path known e is = (is, refl)

-- what was found was dumped, or cut off
pub found-dumped : (tree : Tree) (path : List ℕ) (r : Result (Unit {0}) DumpFault) (old new : Option (List ℕ)) → first_holding (path_rules tree path) ≡ None
    → Dumps r old new (dump_of tree path (location_of tree path)) → MatchResult r (λ _. IsDumped tree path old new) (IsUndumped tree path old new)
found-dumped tree path (Ok x) old new accepted is = record { accepted = accepted; written = is }
found-dumped tree path (Err (Refused e)) old new accepted is = refused e is where
  refused : (f : EditFault) → Dumps {T = Unit {0}} (Err (Refused f)) old new (dump_of tree path (location_of tree path)) → IsUndumped tree path old new (Refused f)
  refused NoMemory is = (accepted, is)
  refused f is = absurd is
found-dumped tree path (Err (Cut reason)) old new accepted is = record { accepted = accepted; some = is }
