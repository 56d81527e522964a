use Rattle.std.proofs.Common.{sym, subst, rules}
use Rattle.h5_query.specs.Opened.Objects.{object_in}
use Rattle.h5_repack.specs.Objects.Objects.{content_chunks}
use Rattle.h5_repack.specs.declared.objects.object.NewContent.{NewContent}
use Rattle.h5_edit.specs.Repacked.{AreStoredAt}
use Rattle.h5_edit.proofs.ChangedLaws.StoredSlots.{array_stored, group_stored}
use Rattle.h5_edit.proofs.change.objects.opened_object.Goals.{in-Group+in_ok-links_in-in-Group, in-Array+in_ok-content-in-Array}
use Rattle.h5_query.proofs.Indexed.{group_read}
use Rattle.h5_query.proofs.ListedLaws.{found_led}
use Rattle.h5_edit.proofs.change.objects.opened_object.Goals as goal

pub others_in-requires-clause-attributes : goal.others_in-requires-clause-attributes
others_in-requires-clause-attributes c = rw (c.new-header.ensures, c.image.ensures.bytes) (c.requires.object.1).kept.header.attributes

pub links_in-requires-clause-read : goal.links_in-requires-clause-read
links_in-requires-clause-read c = group_read c.args.opened.now c.requires.object.0 c.args.object.now c.requires.object.1 c.in-Group.table c.in-Group.is

pub links_in-requires-clause-led : goal.links_in-requires-clause-led
links_in-requires-clause-led c =
    found_led c.args.opened.now c.image.ensures.sound c.requires.object.0 c.args.object.now c.requires.object.1 c.in-Group.table c.in-Group.is

pub returns-clause-object : goal.returns-clause-object
returns-clause-object c =
    let o = object_in c.args.opened.now.image c.args.opened.now.table c.args.object.now in
    record { content = search rules; others = (rw (c.new-header.ensures, c.image.ensures.bytes) at c.in_ok-others.ensures) o.content }

pub returns-clause-stored : goal.returns-clause-stored
returns-clause-stored c number of =
    let f = c.args.opened.now in
    elim c.match-object.branch [
      | in-Group+in_ok-links_in-in-Group w ↦ group_stored f number c.args.object.now of w.in-Group.table w.in-Group.is (content_chunks c.match-object.content)
      | in-Array+in_ok-content-in-Array w ↦
          subst (λ (x : NewContent). AreStoredAt f number (content_chunks x)) (sym w.content-is)
          (array_stored f number c.args.object.now of w.in-Array.is w.in_ok-content-in-Array.content (rw (c.new-header.ensures, c.image.ensures.bytes) at w.in_ok-content-in-Array.ensures.chunks))
    ]
