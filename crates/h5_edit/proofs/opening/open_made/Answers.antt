use Rattle.std.proofs.Common.{◌∙◌, ap}
use Rattle.h5_space.specs.Space.{Space}
use Rattle.h5_edit.proofs.OpenedAnew.{anew_reading, holds_image, holds_state, holds_table, holds_whole, next_within, read_at, reads_now}
use Rattle.h5_edit.proofs.opening.open_made.Goals as goal

pub open_written-requires-clause-read : goal.open_written-requires-clause-read
open_written-requires-clause-read c =
    let (f, is) = c.requires in
    rw c.new.ensures (anew_reading f c.args.image.items c.args.headers.now is)

pub renumber-requires-clause-read : goal.renumber-requires-clause-read
renumber-requires-clause-read c =
    let opened = c.in_ok-opened.ensures in
    let (f, is) = c.requires in
    read_at f c.args.image.items c.args.headers.now is c.in_ok-opened.opened opened.sound
    (opened.image.0 ∙ ap (λ (s : Space). s.bytes) c.new.ensures) opened.image.1 opened.numbers

pub renumber-requires-clause-given : goal.renumber-requires-clause-given
renumber-requires-clause-given c =
    let opened = c.in_ok-opened.ensures in
    let (f, is) = c.requires in
    next_within f c.args.image.items c.args.headers.now is c.in_ok-opened.opened opened.sound
    (opened.image.0 ∙ ap (λ (s : Space). s.bytes) c.new.ensures) opened.image.1 opened.numbers

pub returns-clause-anew : goal.returns-clause-anew
returns-clause-anew c f is =
    let opened = c.in_ok-opened.ensures in
    let image = opened.image.0 ∙ ap (λ (s : Space). s.bytes) c.new.ensures in
    holds_state f c.args.image.items c.args.headers.now is c.in_ok-opened.opened opened.sound image opened.image.1 opened.numbers
    c.renumber.new.self (c.in_ok-renumber.ensures.renumbered f.tree
    (reads_now f c.args.image.items c.args.headers.now is c.in_ok-opened.opened opened.sound image opened.image.1 opened.numbers))

pub returns-clause-whole : goal.returns-clause-whole
returns-clause-whole c =
    let opened = c.in_ok-opened.ensures in
    let image = opened.image.0 ∙ ap (λ (s : Space). s.bytes) c.new.ensures in
    let (f, is) = c.requires in
    holds_whole f c.args.image.items c.args.headers.now is c.in_ok-opened.opened opened.sound image opened.image.1 opened.numbers
    c.renumber.new.self (c.in_ok-renumber.ensures.renumbered f.tree
    (reads_now f c.args.image.items c.args.headers.now is c.in_ok-opened.opened opened.sound image opened.image.1 opened.numbers))

pub returns-clause-image : goal.returns-clause-image
returns-clause-image c =
    let opened = c.in_ok-opened.ensures in
    let image = opened.image.0 ∙ ap (λ (s : Space). s.bytes) c.new.ensures in
    let (f, is) = c.requires in
    holds_image f c.args.image.items c.args.headers.now is c.in_ok-opened.opened opened.sound image opened.image.1 opened.numbers
    c.renumber.new.self (c.in_ok-renumber.ensures.renumbered f.tree
    (reads_now f c.args.image.items c.args.headers.now is c.in_ok-opened.opened opened.sound image opened.image.1 opened.numbers))

pub returns-clause-table : goal.returns-clause-table
returns-clause-table c =
    let opened = c.in_ok-opened.ensures in
    let image = opened.image.0 ∙ ap (λ (s : Space). s.bytes) c.new.ensures in
    let (f, is) = c.requires in
    holds_table f c.args.image.items c.args.headers.now is c.in_ok-opened.opened opened.sound image opened.image.1 opened.numbers
    c.renumber.new.self (c.in_ok-renumber.ensures.renumbered f.tree
    (reads_now f c.args.image.items c.args.headers.now is c.in_ok-opened.opened opened.sound image opened.image.1 opened.numbers))
