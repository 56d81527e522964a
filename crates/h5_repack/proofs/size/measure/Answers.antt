use Rattle.std.proofs.Common.{List, sym, subst}
use Rattle.std.proofs.lemmas.Result.{IfOk-weaker, IfErr-weaker}
use Rattle.h5_model.specs.declared.object_no.ObjectNo.{ObjectNo}
use Rattle.h5_model.specs.declared.link.Link.{Link}
use Rattle.h5_repack.specs.Layout.{IsArrayObject, IsGroupObject, IsHeldObject, IsSize, IsUnmeasured, StoredObject}
use Rattle.h5_repack.proofs.Sizes.{group_of, array_of}
use Rattle.h5_repack.proofs.size.measure.Goals as goal

pub measure_group-requires-clause-held : goal.measure_group-requires-clause-held
measure_group-requires-clause-held c =
    let o = c.requires.held.0 in (
      o,
      subst (λ (ls : List (Link ObjectNo)). IsGroupObject ls (c.args.object.now).others o) (sym c.deref.ensures.value)
          (group_of c.args.object.now o c.in-Group.links c.in-Group.is c.requires.held.1),
    )

pub measure_array-requires-clause-held : goal.measure_array-requires-clause-held
measure_array-requires-clause-held c = (c.requires.held.0, array_of c.args.object.now c.requires.held.0 c.in-Array.array c.in-Array.cells c.in-Array.is c.requires.held.1)

pub returns-in-Group-clause-size : goal.returns-in-Group-clause-size
returns-in-Group-clause-size c =
    let x = c.args.object.now in
    IfOk-weaker c.measure_group.result (λ s. (o : StoredObject) → IsGroupObject c.deref.result.now x.others o → IsSize c.args.k.now o s)
    (λ s. (o : StoredObject) → IsHeldObject x o → IsSize c.args.k.now o s)
    (λ s sized o held. sized o (subst (λ (ls : List (Link ObjectNo)). IsGroupObject ls x.others o) (sym c.deref.ensures.value) (group_of x o c.in-Group.links c.in-Group.is held)))
    c.measure_group.ensures.size

pub returns-in-Group-clause-refused : goal.returns-in-Group-clause-refused
returns-in-Group-clause-refused c =
    let x = c.args.object.now in
    IfErr-weaker c.measure_group.result (λ fault. (o : StoredObject) → IsGroupObject c.deref.result.now x.others o → IsUnmeasured c.args.k.now o fault)
    (λ fault. (o : StoredObject) → IsHeldObject x o → IsUnmeasured c.args.k.now o fault)
    (λ fault refused o held. refused o (subst (λ (ls : List (Link ObjectNo)). IsGroupObject ls x.others o) (sym c.deref.ensures.value) (group_of x o c.in-Group.links c.in-Group.is held)))
    c.measure_group.ensures.refused

pub returns-in-Array-clause-size : goal.returns-in-Array-clause-size
returns-in-Array-clause-size c =
    let x = c.args.object.now in
    IfOk-weaker c.measure_array.result (λ s. (o : StoredObject) → IsArrayObject c.in-Array.array c.in-Array.cells x.others o → IsSize c.args.k.now o s)
    (λ s. (o : StoredObject) → IsHeldObject x o → IsSize c.args.k.now o s)
    (λ s sized o held. sized o (array_of x o c.in-Array.array c.in-Array.cells c.in-Array.is held)) c.measure_array.ensures.size

pub returns-in-Array-clause-refused : goal.returns-in-Array-clause-refused
returns-in-Array-clause-refused c =
    let x = c.args.object.now in
    IfErr-weaker c.measure_array.result (λ fault. (o : StoredObject) → IsArrayObject c.in-Array.array c.in-Array.cells x.others o → IsUnmeasured c.args.k.now o fault)
    (λ fault. (o : StoredObject) → IsHeldObject x o → IsUnmeasured c.args.k.now o fault)
    (λ fault refused o held. refused o (array_of x o c.in-Array.array c.in-Array.cells c.in-Array.is held)) c.measure_array.ensures.refused
