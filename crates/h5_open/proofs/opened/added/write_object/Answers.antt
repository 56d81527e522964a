use Rattle.std.proofs.Common.{◌≡◌, ℕ, ℤ, ◌+◌, ◌∷◌, [], length, replicate, to_z, of_z, refl, ap, ◌∙◌, sym, subst, arith, rules}
use Rattle.std.specs.Int.{w128}
use Rattle.std.proofs.lemmas.Int.{to_z-of_z}
use Rattle.h5_bytes.specs.Blocks.{block}
use Rattle.h5_bytes.specs.Bytes.{part}
use Rattle.h5_model.specs.Format.Plain.{cells_bytes}
use Rattle.h5_space.specs.Lending.{with_bytes_at}
use Rattle.h5_space.specs.Moves.{Moves}
use Rattle.h5_open.specs.ObjectAdded.{object_bytes, stored_content}
use Rattle.h5_open.proofs.ObjectWritten.{behind_fits, cells_long, in_two, object_inside, object_spends, object_there, object_took}
use Rattle.h5_open.proofs.opened.added.write_object.Goals as goal
use Rattle.h5_open.proofs.opened.added.write_object.Goals.{After-fill_stored, After-write_bytes-in-Group}

-- ---- there is room for the content behind the header

pub write_bytes-requires-in-Group : goal.write_bytes-requires-in-Group
write_bytes-requires-in-Group c =
    let head = c.args.object.now.header.now in
    let long = ap (λ x. length (stored_content x)) c.in-Group.is in
    let fits = behind_fits c.take-at.new.self c.write_bytes.new.image c.take-at.result (c.take-at.result + length head) c.args.len head (stored_content c.args.object.now.content)
    c.write_bytes.ensures refl c.requires.size c.take-at.ensures.inside in
    record { inside = omega (arith, fits, long) }

pub fill_stored-requires-clause-inside : goal.fill_stored-requires-clause-inside
fill_stored-requires-clause-inside c =
    let head = c.args.object.now.header.now in
    let long = ap (λ x. length (stored_content x)) c.in-Cells.is ∙ cells_long c.in-Cells.fixed c.in-Cells.fill c.in-Cells.count in
    let fits = behind_fits c.take-at.new.self c.write_bytes.new.image c.take-at.result (c.take-at.result + length head) c.args.len head (stored_content c.args.object.now.content)
    c.write_bytes.ensures refl c.requires.size c.take-at.ensures.inside in
    omega (arith, fits, long)

-- ---- both are written

bytes_written : (c : After-write_bytes-in-Group) → c.write_bytes-in-Group.new.image
    ≡ with_bytes_at (with_bytes_at c.take-at.new.self c.take-at.result c.args.object.now.header.now) (c.take-at.result + length c.args.object.now.header.now)
    (stored_content c.args.object.now.content)
bytes_written c =
    let head = c.args.object.now.header.now in
    in_two c.take-at.new.self c.write_bytes.new.image c.take-at.result (c.take-at.result + length head) c.args.len head (stored_content c.args.object.now.content)
    c.write_bytes.ensures refl c.requires.size c.take-at.ensures.inside c.write_bytes-in-Group.new.image c.in-Group.bytes.now (sym (ap stored_content c.in-Group.is))
    c.write_bytes-in-Group.ensures

cells_written : (c : After-fill_stored) → c.fill_stored.new.image
    ≡ with_bytes_at (with_bytes_at c.take-at.new.self c.take-at.result c.args.object.now.header.now) (c.take-at.result + length c.args.object.now.header.now)
    (stored_content c.args.object.now.content)
cells_written c =
    let head = c.args.object.now.header.now in
    in_two c.take-at.new.self c.write_bytes.new.image c.take-at.result (c.take-at.result + length head) c.args.len head (stored_content c.args.object.now.content)
    c.write_bytes.ensures refl c.requires.size c.take-at.ensures.inside c.fill_stored.new.image
    (cells_bytes c.in-Cells.fixed (replicate c.in-Cells.count (to_z w128 (of_z w128 c.in-Cells.fill))))
    (ap (λ (v : ℤ). cells_bytes c.in-Cells.fixed (replicate c.in-Cells.count v)) (to_z-of_z w128 c.in-Cells.fill (search rules)) ∙ sym (ap stored_content c.in-Cells.is))
    c.fill_stored.ensures

-- ---- in the block that was taken

pub returns-in-Group-clause-took : goal.returns-in-Group-clause-took
returns-in-Group-clause-took c =
    let e = c.take-at.ensures in
    subst (λ (at : ℕ). Moves c.args.image.now c.write_bytes-in-Group.new.image [] (block at c.args.len ∷ [])) e.place
    (object_took c.args.image.now c.take-at.new.self c.write_bytes-in-Group.new.image c.take-at.result c.args.len e.bytes e.inside e.taken c.args.object.now.header.now
    (stored_content c.args.object.now.content) c.requires.size (bytes_written c))

pub returns-in-Group-clause-there : goal.returns-in-Group-clause-there
returns-in-Group-clause-there c =
    let e = c.take-at.ensures in
    subst (λ (at : ℕ). part at c.args.len c.write_bytes-in-Group.new.image.bytes ≡ object_bytes c.args.object.now) e.place
    (object_there c.args.image.now c.take-at.new.self c.write_bytes-in-Group.new.image c.take-at.result c.args.len e.bytes e.inside e.taken c.args.object.now.header.now
    (stored_content c.args.object.now.content) c.requires.size (bytes_written c))

pub returns-in-Group-clause-inside : goal.returns-in-Group-clause-inside
returns-in-Group-clause-inside c =
    let e = c.take-at.ensures in
    let inside = object_inside c.args.image.now c.take-at.new.self c.write_bytes-in-Group.new.image c.take-at.result c.args.len e.bytes e.inside e.taken
    c.args.object.now.header.now (stored_content c.args.object.now.content) c.requires.size (bytes_written c) in
    omega (arith, inside, e.place)

pub returns-in-Group-clause-spends : goal.returns-in-Group-clause-spends
returns-in-Group-clause-spends c =
    let e = c.take-at.ensures in
    object_spends c.args.image.now c.take-at.new.self c.write_bytes-in-Group.new.image c.take-at.result c.args.len e.bytes e.inside e.taken c.args.object.now.header.now
    (stored_content c.args.object.now.content) c.requires.size (bytes_written c) e.room_bytes e.room_blocks

pub returns-in-Cells-clause-took : goal.returns-in-Cells-clause-took
returns-in-Cells-clause-took c =
    let e = c.take-at.ensures in
    subst (λ (at : ℕ). Moves c.args.image.now c.fill_stored.new.image [] (block at c.args.len ∷ [])) e.place
    (object_took c.args.image.now c.take-at.new.self c.fill_stored.new.image c.take-at.result c.args.len e.bytes e.inside e.taken c.args.object.now.header.now
    (stored_content c.args.object.now.content) c.requires.size (cells_written c))

pub returns-in-Cells-clause-there : goal.returns-in-Cells-clause-there
returns-in-Cells-clause-there c =
    let e = c.take-at.ensures in
    subst (λ (at : ℕ). part at c.args.len c.fill_stored.new.image.bytes ≡ object_bytes c.args.object.now) e.place
    (object_there c.args.image.now c.take-at.new.self c.fill_stored.new.image c.take-at.result c.args.len e.bytes e.inside e.taken c.args.object.now.header.now
    (stored_content c.args.object.now.content) c.requires.size (cells_written c))

pub returns-in-Cells-clause-inside : goal.returns-in-Cells-clause-inside
returns-in-Cells-clause-inside c =
    let e = c.take-at.ensures in
    let inside = object_inside c.args.image.now c.take-at.new.self c.fill_stored.new.image c.take-at.result c.args.len e.bytes e.inside e.taken
    c.args.object.now.header.now (stored_content c.args.object.now.content) c.requires.size (cells_written c) in
    omega (arith, inside, e.place)

pub returns-in-Cells-clause-spends : goal.returns-in-Cells-clause-spends
returns-in-Cells-clause-spends c =
    let e = c.take-at.ensures in
    object_spends c.args.image.now c.take-at.new.self c.fill_stored.new.image c.take-at.result c.args.len e.bytes e.inside e.taken c.args.object.now.header.now
    (stored_content c.args.object.now.content) c.requires.size (cells_written c) e.room_bytes e.room_blocks
