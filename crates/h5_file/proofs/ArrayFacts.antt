-- What the arrays of an opened file keep to.
use Rattle.std.proofs.Common.{◌≡◌, ℕ, ◌<◌, ◌≤◌, true, false, length, Option, Some, None, refl, subst, arith}
use Rattle.std.specs.FinMap.{get}
use Rattle.std.specs.Option.{option_and_then}
use Rattle.h5_model.specs.Edits.Refusal.{is_chunked}
use Rattle.h5_model.specs.Format.Limits.{most_cells, most_dimensions}
use Rattle.h5_model.specs.Tree.Objects.{Content, Group, Array, Dataset, Object, Storage, Compact, Contiguous, Chunked, dataset_in, dataset_of}
use Rattle.h5_model.specs.Tree.Places.{cells}
use Rattle.h5_model.specs.Tree.Sound.{IsDataset}
use Rattle.h5_model.specs.Views.Shown.{box_of}
use Rattle.h5_shape.proofs.MetLaws.{some_cells}
use Rattle.h5_shape.proofs.Products.{cells_le}
use Rattle.h5_edit.specs.Fits.Laws.{AreBytes}
use Rattle.h5_edit.specs.Opened.Sound.{IsSound}
use Rattle.h5_edit.specs.Opened.State.{FileState}
use Rattle.h5_edit.proofs.FitLaws.OpenedTrees.{opened_plain}
use Rattle.h5_edit.specs.RepackedBodies.Sound.{IsPlainArray, IsPlainStorage}
use Rattle.h5_edit.specs.PlainTrees.{IsPlain, IsPlainContent}
use Rattle.h5_file.specs.Touched.{HasBoxes}

pub record IsArraySound (d : Dataset) : Type 0 where
  pub ranked : length d.sizes ≤ most_dimensions
  pub few : cells d.sizes ≤ most_cells
  pub dataset : IsDataset d
  pub boxes : HasBoxes d

boxes_of : (d : Dataset) (s : Storage) → IsPlainStorage d s → is_chunked s ≡ true → 0 < cells (box_of (record d { storage = s }))
boxes_of d Compact stored differs = absurd (let never : false ≡ true = differs in cc)
boxes_of d (Contiguous kept) stored differs = absurd (let never : false ≡ true = differs in cc)
boxes_of d (Chunked chunk) stored holds = (some_cells chunk stored.some).0

plain_sound : (d : Dataset) (n : ℕ) → IsPlainArray d n → IsArraySound d
plain_sound d n plain = record {
  ranked = plain.ranked;
  few = omega (arith, plain.few, cells_le d.sizes);
  dataset = plain.sound;
  boxes = boxes_of d d.storage plain.stored;
}

content_sound : (d : Dataset) (n : ℕ) (c : Content) → IsPlainContent n c → dataset_in c ≡ Some d → IsArraySound d
content_sound d n (Group links) plain never = absurd (let none : None ≡ Some d = never in cc)
content_sound d n (Array e) plain is = let same : e ≡ d = cc in subst IsArraySound same (plain_sound e n plain.0)

pub array_sound : (f : FileState) → AreBytes f.image → IsSound f → (number : ℕ) (d : Dataset) → dataset_of f.tree number ≡ Some d → IsArraySound d
array_sound f low sound number d there = by_object (get f.tree number) (opened_plain f low sound number) there where
  by_object : (found : Option Object) → ((o : Object) → found ≡ Some o → IsPlain o) → option_and_then (λ o. dataset_in o.content) found ≡ Some d → IsArraySound d
  by_object None plain never = absurd (let none : None ≡ Some d = never in cc)
  by_object (Some o) plain is = let p = plain o refl in content_sound d _ o.content p.content is
