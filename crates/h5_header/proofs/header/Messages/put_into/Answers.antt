use Rattle.std.proofs.Common.{◌≡◌, ◌≢◌, ℕ, ◌+◌, ◌-◌, ◌%◌, ◌<◌, ◌≤◌, ◌++◌, List, length, take, drop, slice_index_or, refl, ap, ◌∙◌, arith, rules}
use Rattle.h5_model.specs.Format.MessageTypes.{continuation_kind}
use Rattle.h5_bytes.specs.Bytes.{part, with_part, with_field, little_bytes}
use Rattle.h5_bytes.proofs.PartLaws.{with_part-with_part}
use Rattle.h5_space.specs.Moves.{Spends}
use Rattle.h5_space.proofs.MovesLaws.{spends_then}
use Rattle.h5_model.specs.Format.Plain.{messages_bytes}
use Rattle.h5_header.specs.Listed.{Listed}
use Rattle.h5_header.specs.Standing.{kept_at, kept_with_nil, nowhere, said_in}
use Rattle.h5_header.specs.declared.message.Message.{Message as Placed}
use Rattle.h5_header.proofs.BesideLaws.{spends_write}
use Rattle.h5_header.proofs.BlankLaws.{behind_head, body_inside, size_padded}
use Rattle.h5_header.proofs.NilPuts.{nil_added, nil_count, nil_moves, nil_standing, one_long}
use Rattle.h5_header.proofs.header.Messages.put_into.Goals as goal
use Rattle.h5_header.proofs.header.Messages.put_into.Goals.{After-header, After-list, After-put_u16}
use Rattle.h5_header.proofs.RewriteLaws.{header_room}

own : (c : After-list) → (kept_at c.args.self.now.list c.args.k).kind ≢ continuation_kind
own c same = absurd (omega (arith, c.requires.nil, same))

low : (c : After-list) → 8 ≤ (kept_at c.args.self.now.list c.args.k).at
low c = behind_head c.args.image.now.bytes c.args.self.now c.requires.standing c.args.k c.requires.known (own c)

high : (c : After-list) → (kept_at c.args.self.now.list c.args.k).at + (kept_at c.args.self.now.list c.args.k).size ≤ length c.args.image.now.bytes
high c = body_inside c.args.image.now.bytes c.args.self.now c.requires.standing c.args.k c.requires.known (own c)

eight : (c : After-list) → (kept_at c.args.self.now.list c.args.k).size % 8 ≡ 0
eight c = size_padded c.args.image.now.bytes c.args.self.now c.requires.standing c.args.k c.requires.known (own c)

pub overflow_sub-nil : goal.overflow_sub-nil
overflow_sub-nil c =
    let w = (goal.at.overflow_sub-nil c).After-list in
    rw c.list.ensures (low w)

pub part_at_mut-requires : goal.part_at_mut-requires
part_at_mut-requires c =
    let w = (goal.at.part_at_mut-requires c).After-list in
    rw c.list.ensures (omega (arith, low w, high w))

pub write_in_nil-requires-clause-head : goal.write_in_nil-requires-clause-head
write_in_nil-requires-clause-head c less =
    let w = (goal.at.write_in_nil-requires-clause-head c).After-list in
    let long : length c.part_at_mut.result.now ≡ (kept_at c.args.self.now.list c.args.k).size + 8 = rw c.list.ensures at c.part_at_mut.ensures.size in
    omega (arith, less, long, eight w, c.requires.padded)

pub keep_in-requires-clause-small : goal.keep_in-requires-clause-small
keep_in-requires-clause-small c =
    let w = (goal.at.keep_in-requires-clause-small c).After-list in
    let long : length c.bytes-bytes.result.now ≡ length c.args.image.now.bytes = ap length c.bytes-bytes.ensures in
    omega (arith, high w, long, c.bytes-bytes.type_inv.0)

-- an image with a message in the place of one
abbrev wrote_in : List ℕ → Placed → ℕ → List ℕ → List ℕ
wrote_in old x kind body = with_part (x.at - 8) (messages_bytes (said_in kind body (part (x.at - 8) (x.size + 8) old))) old

small_before : (c : After-header) → (kept_at c.args.self.now.list c.args.k).size < 65536
small_before c =
    let it : (slice_index_or c.list.result.now c.args.k nowhere).size < 65536 = search rules in
    rw c.list.ensures at it

wrote_before : (c : After-header) → with_part ((slice_index_or c.list.result.now c.args.k nowhere).at - 8) c.write_in_nil.new.bytes c.args.image.now.bytes
    ≡ wrote_in c.args.image.now.bytes (kept_at c.args.self.now.list c.args.k) c.args.kind c.args.body.now
wrote_before c =
    let x = kept_at c.args.self.now.list c.args.k in
    let this : c.write_in_nil.new.bytes ≡ messages_bytes (said_in c.args.kind c.args.body.now (part (x.at - 8) (x.size + 8) c.args.image.now.bytes))
    = rw (c.part_at_mut.ensures.value, c.list.ensures) at c.write_in_nil.ensures in
    rw c.list.ensures (ap (λ (bs : List ℕ). with_part (x.at - 8) bs c.args.image.now.bytes) this)

at_header_before : (c : After-header) → c.header.result ≡ c.args.self.now.header
at_header_before c = c.header.ensures ∙ ap (λ (s : Listed). s.header) c.keep_in.ensures

room_before : (c : After-header) → c.args.self.now.header + 16 ≤ length (wrote_in c.args.image.now.bytes (kept_at c.args.self.now.list c.args.k) c.args.kind c.args.body.now)
room_before c =
    let inside = header_room c.args.image.now.bytes c.args.self.now c.requires.standing in
    let long = one_long c.args.image.now.bytes c.args.self.now c.requires.standing c.args.k c.requires.known c.requires.nil (small_before c) c.args.kind (omega (arith, c.ranges.kind.fits)) c.requires.own
    c.args.body.now c.requires.padded c.requires.fits c.requires.total in
    omega (arith, inside, long)

pub part_at_mut-requires-2 : goal.part_at_mut-requires-2
part_at_mut-requires-2 c =
    let w = (goal.at.part_at_mut-requires-2 c).After-header in
    rw (wrote_before w, at_header_before w) (room_before w)

small : (c : After-put_u16) → (kept_at c.args.self.now.list c.args.k).size < 65536
small c =
    let it : (slice_index_or c.list.result.now c.args.k nowhere).size < 65536 = search rules in
    rw c.list.ensures at it

wrote : (c : After-put_u16) → with_part ((slice_index_or c.list.result.now c.args.k nowhere).at - 8) c.write_in_nil.new.bytes c.args.image.now.bytes
    ≡ wrote_in c.args.image.now.bytes (kept_at c.args.self.now.list c.args.k) c.args.kind c.args.body.now
wrote c =
    let x = kept_at c.args.self.now.list c.args.k in
    let this : c.write_in_nil.new.bytes ≡ messages_bytes (said_in c.args.kind c.args.body.now (part (x.at - 8) (x.size + 8) c.args.image.now.bytes))
    = rw (c.part_at_mut.ensures.value, c.list.ensures) at c.write_in_nil.ensures in
    rw c.list.ensures (ap (λ (bs : List ℕ). with_part (x.at - 8) bs c.args.image.now.bytes) this)

at_header : (c : After-put_u16) → c.header.result ≡ c.args.self.now.header
at_header c = c.header.ensures ∙ ap (λ (s : Listed). s.header) c.keep_in.ensures

room : (c : After-put_u16) → c.args.self.now.header + 16 ≤ length (wrote_in c.args.image.now.bytes (kept_at c.args.self.now.list c.args.k) c.args.kind c.args.body.now)
room c =
    let inside = header_room c.args.image.now.bytes c.args.self.now c.requires.standing in
    let long = one_long c.args.image.now.bytes c.args.self.now c.requires.standing c.args.k c.requires.known c.requires.nil (small c) c.args.kind (omega (arith, c.ranges.kind.fits)) c.requires.own
    c.args.body.now c.requires.padded c.requires.fits c.requires.total in
    omega (arith, inside, long)

-- the messages that are kept then
abbrev kept : (c : After-put_u16) → List Placed
kept c = take c.args.k c.args.self.now.list ++ (kept_with_nil c.args.kind (length c.args.body.now) (kept_at c.args.self.now.list c.args.k) ++ drop (c.args.k + 1) c.args.self.now.list)

written : (c : After-put_u16) → with_part c.header.result c.put_u16.new.bytes (with_part ((slice_index_or c.list.result.now c.args.k nowhere).at - 8) c.write_in_nil.new.bytes c.args.image.now.bytes)
    ≡ with_part (c.args.self.now.header + 2) (little_bytes 2 (length (kept c))) (wrote_in c.args.image.now.bytes (kept_at c.args.self.now.list c.args.k) c.args.kind c.args.body.now)
written c =
    let one = wrote_in c.args.image.now.bytes (kept_at c.args.self.now.list c.args.k) c.args.kind c.args.body.now in
    let h = c.args.self.now.header in
    let total : length c.list-2.result.now ≡ length (kept c) = ap length (c.list-2.ensures ∙ ap (λ (s : Listed). s.list) c.keep_in.ensures) in
    let this : c.put_u16.new.bytes ≡ with_field (part h 16 one) 2 2 (length (kept c))
    = rw (c.part_at_mut-2.ensures.value, wrote c, at_header c, total) at c.put_u16.ensures in
    rw (wrote c, at_header c) (ap (λ (bs : List ℕ). with_part h bs one) this
    ∙ with_part-with_part h 16 2 (little_bytes 2 (length (kept c))) one (room c) (omega arith))

pub returns-clause-standing : goal.returns-clause-standing
returns-clause-standing c =
    let w = (goal.at.returns-clause-standing c).After-put_u16 in
    rw (written w, c.keep_in.ensures)
    (nil_standing c.args.image.now.bytes c.args.self.now c.requires.standing c.args.k c.requires.known c.requires.nil (small w) c.args.kind (omega (arith, c.ranges.kind.fits)) c.requires.own
    c.args.body.now c.requires.padded c.requires.fits c.requires.total (c.args.self.now.room - 1))

pub returns-clause-added : goal.returns-clause-added
returns-clause-added c =
    let w = (goal.at.returns-clause-added c).After-put_u16 in
    rw (written w, c.keep_in.ensures)
    (nil_added c.args.image.now.bytes c.args.self.now c.requires.standing c.args.k c.requires.known c.requires.nil (small w) c.args.kind (omega (arith, c.ranges.kind.fits)) c.requires.own
    c.args.body.now c.requires.padded c.requires.fits c.requires.total)

pub returns-clause-count : goal.returns-clause-count
returns-clause-count c =
    let w = (goal.at.returns-clause-count c).After-put_u16 in
    rw (written w, c.keep_in.ensures)
    (nil_count c.args.image.now.bytes c.args.self.now c.requires.standing c.args.k c.requires.known c.requires.nil (small w) c.args.kind (omega (arith, c.ranges.kind.fits)) c.requires.own
    c.args.body.now c.requires.padded c.requires.fits c.requires.total)

pub returns-clause-moves : goal.returns-clause-moves
returns-clause-moves c =
    let w = (goal.at.returns-clause-moves c).After-put_u16 in
    rw c.keep_in.ensures
    (nil_moves c.args.image.now.bytes c.args.self.now c.requires.standing c.args.k c.requires.known c.requires.nil (small w) c.args.kind (omega (arith, c.ranges.kind.fits)) c.requires.own
    c.args.body.now c.requires.padded c.requires.fits c.requires.total c.args.image.now (record c.args.image.now {
      bytes = with_part c.header.result c.put_u16.new.bytes (with_part ((slice_index_or c.list.result.now c.args.k nowhere).at - 8) c.write_in_nil.new.bytes c.args.image.now.bytes);
    }) refl (ap (λ (bs : List ℕ). record c.args.image.now { bytes = bs }) (written w)))

pub returns-clause-spends : goal.returns-clause-spends
returns-clause-spends c =
    let w = (goal.at.returns-clause-spends c).After-put_u16 in
    let s = c.args.image.now in
    let one = wrote_in s.bytes (kept_at c.args.self.now.list c.args.k) c.args.kind c.args.body.now in
    let long : length one ≡ length s.bytes = one_long s.bytes c.args.self.now c.requires.standing c.args.k c.requires.known c.requires.nil (small w) c.args.kind (omega (arith, c.ranges.kind.fits)) c.requires.own
    c.args.body.now c.requires.padded c.requires.fits c.requires.total in
    let first : Spends s (record s { bytes = one }) 0 0 = record { grown = omega (arith, long); bytes_left = omega arith; blocks_left = omega arith } in
    let total : length (little_bytes 2 (length (kept w))) ≡ 2 = refl in
    let second : Spends (record s { bytes = one }) (record s { bytes = with_part (c.args.self.now.header + 2) (little_bytes 2 (length (kept w))) one }) 0 0
    = spends_write (record s { bytes = one }) (record s { bytes = with_part (c.args.self.now.header + 2) (little_bytes 2 (length (kept w))) one }) (little_bytes 2 (length (kept w)))
    (c.args.self.now.header + 2) (omega (arith, room w, total)) refl in
    rw (written w) (spends_then s (record s { bytes = one }) (record s { bytes = with_part (c.args.self.now.header + 2) (little_bytes 2 (length (kept w))) one }) 0 0 0 0 first second)
