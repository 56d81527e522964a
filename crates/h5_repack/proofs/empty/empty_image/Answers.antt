use Rattle.std.proofs.Common.{[], ◌∷◌, Some, refl}
use Rattle.h5_model.specs.Format.Empty.{root_tree}
use Rattle.h5_repack.specs.Objects.Objects.{stored_in}
use Rattle.h5_repack.specs.declared.objects.object.NewContent.TheVariants as content
use Rattle.h5_repack.proofs.EmptyFile.{root_held, written_empty, never_long, never_deep}
use Rattle.h5_repack.proofs.empty.empty_image.Goals as goal

pub write_tree-requires-clause-tree : goal.write_tree-requires-clause-tree
write_tree-requires-clause-tree c = (root_tree, root_held _ c.new.result refl c.new.ensures.items c.new-2.ensures)

pub returns-in-Ok : goal.returns-in-Ok
returns-in-Ok c =
    written_empty (stored_in (Some (record { content = content.Group c.new.result; others = c.new-2.result }) ∷ [])) c.in-Ok.written
    (c.in-Ok.ensures.written root_tree (root_held _ c.new.result refl c.new.ensures.items c.new-2.ensures))

pub unreachable-requires : goal.unreachable-requires
unreachable-requires c =
    never_long (stored_in (Some (record { content = content.Group c.new.result; others = c.new-2.result }) ∷ []))
    (rw c.in-Err-TooLong.field-0-is at (c.in-Err-TooLong.ensures.refused root_tree (root_held _ c.new.result refl c.new.ensures.items c.new-2.ensures)))

pub unreachable-requires-in-Err-TooDeep : goal.unreachable-requires-in-Err-TooDeep
unreachable-requires-in-Err-TooDeep c =
    never_deep (stored_in (Some (record { content = content.Group c.new.result; others = c.new-2.result }) ∷ []))
    (rw c.in-Err-TooDeep.field-0-is at (c.in-Err-TooDeep.ensures.refused root_tree (root_held _ c.new.result refl c.new.ensures.items c.new-2.ensures)))
