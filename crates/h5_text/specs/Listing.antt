-- The path and the dataset of a line of `ls` or `dump`.
use Rattle.std.specs.Prelude.{List, [], ◌++◌, ℕ, codes}
use Rattle.h5_model.specs.Format.Fixed.{Fixed}
use Rattle.h5_model.specs.Scripts.Text.{escaped_text, joined_path, content_text, dataset_text, type_text, sizes_text}
use Rattle.h5_model.specs.Tree.Objects.{Dataset, Array}
use Rattle.h5_text.specs.Stores.{shown_storage}
use Rattle.h5_text.specs.declared.listing.ArrayText.{ArrayText}
use Rattle.h5_text.specs.declared.listing.PathText.{PathText}
use Rattle.h5_text.specs.declared.listing.PathText.TheVariants.{Plain, Escaped, Below}

-- the path's text
abbrev pub path_text : PathText → List ℕ
path_text (Plain path) = escaped_text path.now
path_text (Escaped path) = path.now
path_text (Below path name) = joined_path path.now name.now

-- the dataset that is told; its cells are told in rows of their own
abbrev pub told_dataset : ArrayText → Dataset
told_dataset a = record {
  fixed = a.fixed;
  sizes = a.sizes.now;
  maxima = a.maxima.now;
  storage = shown_storage a.store;
  fill = a.fill;
  cells = [];
}

-- the first line of what is dumped of a dataset
abbrev pub dump_line : List ℕ → Dataset → List ℕ
dump_line path d = path ++ codes " " ++ content_text (Array d) ++ dataset_text d ++ codes "\n"

-- the line of an attribute as far as its values
abbrev pub attribute_line_head : List ℕ → Fixed → List ℕ → List ℕ
attribute_line_head name t sizes = codes "@" ++ escaped_text name ++ codes " " ++ type_text t ++ codes " " ++ sizes_text sizes
