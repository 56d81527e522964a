-- The whole walk: it begins at the superblock, and ends when all objects are read.
use Rattle.std.proofs.Common.{◌≡◌, ◌-◌, inl, inr, ℕ, List, [], ◌++◌, length, refl, sym, ◌∙◌, subst, arith}
use Rattle.std.proofs.lemmas.Bool.{cases_lt}
use Rattle.std.specs.Prelude.{Option, Some, None, MatchOption}
use Rattle.std.specs.List.{AllByRecursion, IsDistinct}
use Rattle.std.specs.FinMap.{get}
use Rattle.std.specs.Map.{lookup}
use Rattle.std.specs.Ordering.{nat_cmp, eq_by_cmp}
use Rattle.std.specs.BTreeMap.{BTreeMap, is_at}
use Rattle.h5_bytes.specs.Blocks.{holds, Separate}
use Rattle.h5_bytes.specs.declared.Block.{Block}
use Rattle.h5_bytes.proofs.BlockLaws.{holds_in, cover_past}
use Rattle.h5_model.specs.Format.Superblock.{IsSuperblock, end_of_file, root_header, root_header_place, superblock_length}
use Rattle.h5_model.specs.Format.Reached.{by_superblock, naming_of, ObjectHeader}
use Rattle.h5_model.specs.Format.Reads.{ReadsAs}
use Rattle.h5_space.specs.Space.{Space}
use Rattle.h5_space.specs.Whole.{IsApart}
use Rattle.h5_header.specs.Walk.Met.{IsMet}
use Rattle.h5_header.specs.Walk.Walked.{IsWalked}
use Rattle.h5_open.specs.declared.opened.object.OpenedObject.{OpenedObject}
use Rattle.h5_open.specs.Opened.Kept.{IsIndex, IsOpened}
use Rattle.h5_open.specs.Opened.Objects.{objects_of, opened_blocks, table_of, tree_of}
use Rattle.h5_open.specs.Placed.Whole.{AreLed, IsWholeImage, placed_of}
use Rattle.h5_open.specs.Walk.{IsNumbered, IsUnder, IsReady, IsTreeRead}
use Rattle.h5_open.proofs.FieldsMet.{root_fields}
use Rattle.h5_open.proofs.IndexLaws.{few_objects}
use Rattle.h5_open.proofs.OpenedLaws.Entries.{get_table}

empty_distinct : IsDistinct (eq_by_cmp nat_cmp) []
unfolding IsDistinct
empty_distinct = tt

-- no object has a number yet
no_header : (n q : ℕ) → get (table_of []) n ≡ Some q → ⊥
no_header n q at = absurd (let never : None ≡ Some q = sym (get_table [] n) ∙ at in cc)

empty_index : (numbers : BTreeMap ℕ ℕ) → numbers.entries ≡ [] → IsIndex (table_of []) numbers
empty_index numbers none q =
    subst (λ (es : List (ℕ × ℕ)). MatchOption (lookup (is_at (nat_cmp q)) es) ((n : ℕ) → get (table_of []) n ≡ Some q → ⊥) (λ n. get (table_of []) n ≡ Some q))
    (sym none) (λ n. no_header n q)

pub none_numbered : (slots : List (Option OpenedObject)) (numbers : BTreeMap ℕ ℕ) → slots ≡ [] → numbers.entries ≡ [] → IsNumbered slots numbers
none_numbered slots numbers none empty =
    subst (λ (s : List (Option OpenedObject)). IsNumbered s numbers) (sym none) (record { all = refl; index = empty_index numbers empty; distinct = empty_distinct; low = tt })

-- the root's header is met first
pub root_ready : (image : List ℕ) (held : List Block) → IsSuperblock image → IsWalked image held [] → Separate held → IsReady image held [] [] (root_header_place image) (root_header image) 0
root_ready image held is walked separate = record { under = under; met = met; parent = inl refl } where
  met : IsMet image held [] (naming_of (root_header_place image) ObjectHeader (root_header image) 0)
  met = record {
    reached = (let long = is.whole in by_superblock (omega (arith, long)) refl);
    behind = omega arith;
    stands = (
        let before : ℕ = root_header_place image - 8 in
        let here : holds before 0 (superblock_length image) ≡ 1 = holds_in before 0 (superblock_length image) (omega arith) (omega arith) in
        omega (arith, here, walked.covered before));
    fresh = tt;
  }

  under : IsUnder image held [] []
  under = record {
    walked = walked;
    separate = separate;
    covered = walked.covered;
    within = tt;
    each = tt;
    distinct = empty_distinct;
    parents = tt;
    known = tt;
    named = tt;
    fields = root_fields image held met;
  }

pub ready_at : (image : List ℕ) (held : List Block) (objects : List OpenedObject) (header : ℕ) → IsSuperblock image → IsWalked image held [] → Separate held → objects ≡ [] → header ≡ root_header image
    → IsReady image held [] objects (root_header_place image) header 0
ready_at image held objects header is walked separate none at =
    subst (λ (xs : List OpenedObject). IsReady image held [] xs (root_header_place image) header 0) (sym none) (subst (λ (h : ℕ). IsReady image held [] [] (root_header_place image) h 0) (sym at) (root_ready image held is walked separate))

whole : (image : List ℕ) (held now : List Block) (objects : List OpenedObject) → IsSuperblock image → end_of_file image ≡ length image
    → IsTreeRead image held now [] [] objects (root_header_place image) (root_header image) 0 → IsWholeImage image objects
whole image held now objects is ends tree =
    let under : IsUnder image now ((tree.further).new ++ []) objects = (tree.further).under in
    record {
      superblock = is;
      whole = ends;
      begins = record {
        root = tree.object;
        others = tree.others;
        is = (tree.further).grown;
        at_root = tree.header_is;
        group = tree.top refl;
      };
      each = under.each;
      distinct = under.distinct;
      led = subst (AllByRecursion (AreLed image objects)) (sym (tree.further).grown) (tree.further).led;
      shallow = tree.shallow;
      parents = under.parents;
      apart = λ p. omega (arith, under.covered p, under.separate p);
      within = ((let long = is.whole in omega (arith, long)), under.within);
    }

pub whole_at : (image : List ℕ) (held now : List Block) (before objects : List OpenedObject) (header : ℕ) → IsSuperblock image → end_of_file image ≡ length image → before ≡ []
    → header ≡ root_header image → IsTreeRead image held now [] before objects (root_header_place image) header 0 → IsWholeImage image objects
whole_at image held now before objects header is ends none at tree =
    whole image held now objects is ends
    (subst (λ (xs : List OpenedObject). IsTreeRead image held now [] xs objects (root_header_place image) (root_header image) 0) none (subst (λ (h : ℕ). IsTreeRead image held now [] before objects (root_header_place image) h 0) at tree))

-- the blocks of the objects lie in the image, and share no byte
whole_apart : (image : List ℕ) (objects : List OpenedObject) → IsWholeImage image objects → IsApart (opened_blocks image objects) [] (length image)
whole_apart image objects is p = elim (cases_lt p (length image)) [
  | inl low ↦ omega (arith, is.apart p, holds_in p 0 (length image) (omega arith) (omega (arith, low)))
  | inr past ↦ omega (arith, cover_past p (length image) (opened_blocks image objects) is.within (omega (arith, past)))
]

pub opened : (image : Space) (slots : List (Option OpenedObject)) (numbers : BTreeMap ℕ ℕ) → image.free ≡ [] → IsWholeImage image.bytes (objects_of slots) → IsNumbered slots numbers
    → ReadsAs image.bytes (table_of slots) (tree_of image.bytes slots) (placed_of image.bytes (objects_of slots)) → IsOpened image slots numbers
opened image slots numbers none is numbered reads = record {
  reads = (placed_of image.bytes (objects_of slots), reads);
  each = is.each;
  index = numbered.index;
  low = omega (arith, few_objects slots numbers numbered);
  apart = subst (λ (free : List Block). IsApart (opened_blocks image.bytes (objects_of slots)) free (length image.bytes)) (sym none)
      (whole_apart image.bytes (objects_of slots) is);
}
