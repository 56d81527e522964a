-- The objects to which links lead that are handed to the writer.
use Rattle.std.specs.Prelude.{ℕ, ◌==◌, List, [], Option, Some, None, reverse}
use Rattle.std.specs.List.{count_by, filter_map}
use Rattle.h5_repack.specs.declared.objects.object.NewContent.{NewContent}
use Rattle.h5_repack.specs.declared.objects.object.NewContent.TheVariants as content
use Rattle.h5_repack.specs.declared.objects.object.NewObject.{NewObject}
use Rattle.h5_model.specs.declared.object_no.ObjectNo.{ObjectNo}
use Rattle.h5_model.specs.declared.link.Link.{Link}
use Rattle.h5_model.specs.declared.link.LinkTo.{LinkTo}
use Rattle.h5_model.specs.declared.link.LinkTo.TheVariants as target

abbrev pub new_links : NewContent → List (Link ObjectNo)
new_links (content.Group links) = links.items
new_links (content.Array a c) = []

-- those of a slot
abbrev pub slot_links : Option NewObject → List (Link ObjectNo)
slot_links (Some x) = new_links x.content
slot_links None = []

-- the object that a link names
abbrev pub object_in : LinkTo ObjectNo → Option ℕ
object_in (target.Object number) = Some number.0
object_in (target.Soft text) = None

abbrev pub targets : List (Link ObjectNo) → List ℕ
targets links = filter_map (λ (l : Link ObjectNo). object_in l.to) links

-- the objects that a slot's links lead to, that of the first name last
abbrev pub waiting_objects : Option NewObject → List ℕ
waiting_objects slot = targets (reverse (slot_links slot))

-- how many of these numbers are the number
abbrev pub times : ℕ → List ℕ → ℕ
times number others = count_by (λ other. number == other) others
