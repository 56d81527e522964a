use Rattle.std.proofs.Common.{◌≡◌, ◌<◌, length, sym, ◌∙◌, arith}
use Rattle.h5_model.specs.Format.MessageTypes.{dataspace_kind}
use Rattle.h5_space.specs.Whole.{IsApart}
use Rattle.h5_header.specs.Added.{HasMovable}
use Rattle.h5_header.specs.Listed.{messages_in}
use Rattle.h5_header.specs.Standing.{kept_at}
use Rattle.h5_layout.proofs.ExtentPut.{extent_put, mid_ready, place_kind, place_there}
use Rattle.h5_layout.proofs.extent.add_extent.Goals as goal
use Rattle.h5_layout.proofs.extent.add_extent.Goals.{After-blank}

pub unwrap-k-requires : goal.unwrap-k-requires
unwrap-k-requires c = rw c.extent_place.ensures (place_there c.args.image.now c.args.messages.now c.requires.array)

pub blank-requires-clause-own : goal.blank-requires-clause-own
blank-requires-clause-own c is_16 =
    absurd (omega (arith, is_16, (place_kind c.args.messages.now.list c.unwrap-k.result (sym c.extent_place.ensures ∙ c.unwrap-k.ensures)).1))

-- once it is NIL
module _ (c : After-blank) where
  kind : (c.unwrap-k.result < length c.args.messages.now.list) × ((kept_at c.args.messages.now.list c.unwrap-k.result).kind ≡ dataspace_kind)
  kind = place_kind c.args.messages.now.list c.unwrap-k.result (sym c.extent_place.ensures ∙ c.unwrap-k.ensures)

  ready : HasMovable (messages_in c.blank.new.image.bytes c.blank.new.self.list) × IsApart c.blank.new.self.blocks c.blank.new.image.free (length c.blank.new.image.bytes)
  ready =
      mid_ready c.args.image.now c.blank.new.image c.args.messages.now c.blank.new.self c.requires.array c.unwrap-k.result kind.0 kind.1
      c.blank.ensures.messages c.blank.ensures.standing c.blank.ensures.moves

pub put-requires-clause-movable : goal.put-requires-clause-movable
put-requires-clause-movable c = (ready (goal.at.put-requires-clause-movable c).After-blank).0

pub put-requires-clause-apart : goal.put-requires-clause-apart
put-requires-clause-apart c = (ready (goal.at.put-requires-clause-apart c).After-blank).1

pub returns-clause-extent : goal.returns-clause-extent
returns-clause-extent c =
    let k = kind (goal.at.returns-clause-extent c).After-blank in
    extent_put c.args.image.now c.blank.new.image c.args.messages.now c.blank.new.self c.requires.array c.unwrap-k.result k.0 k.1
    c.blank.ensures.messages c.blank.ensures.standing c.blank.ensures.moves
    c.put.new.image c.put.new.self c.write_bounded_dataspace.new.bytes
    (record { sizes = c.args.sizes.now; maxima = c.args.maxima.now }) c.write_bounded_dataspace.ensures.reads
    c.put.ensures.added c.put.ensures.standing (c.put.ensures.header ∙ c.blank.ensures.header) (c.put.ensures.count ∙ c.blank.ensures.count) c.put.ensures.moves
