use Rattle.std.proofs.Common.{◌≡◌, ℕ, List, ◌+◌, ◌*◌, ◌<◌, ◌≤◌, ◌++◌, OnOk, arith, length, ap, sym, subst, ◌∙◌, rules}
use Rattle.h5_model.specs.Format.Limits.{highest_level}
use Rattle.h5_btree.specs.Writing.Written.{chunks, as_children}
use Rattle.h5_btree.proofs.WriteLaws.Steps.{above_few, above_fit, above_low, above_room, from_top, place_fits, place_is, row_behind, row_room}
use Rattle.h5_btree.proofs.write.rows.+push_rows.Goals as goal

pub returns-then-count-most : goal.returns-then-count-most
returns-then-count-most g t c =
    let low : c.args.level ≤ highest_level = omega (arith, c.requires.level) in
    let few : length c.args.children.now ≤ 2 * c.args.kind.now.k = omega (arith, c.if-count-most.true, c.capacity-most.ensures.capacity) in
    subst (λ (bytes : List ℕ). OnOk c.push_node.result (c.push_node.new.out.items ≡ c.args.out.now.items ++ bytes))
    (sym (from_top c.args.kind.now g.K.TreeKey.bytes c.args.first c.args.level c.args.at c.args.children.now low few)) c.push_node.ensures

pub overflow_mul-place : goal.overflow_mul-place
overflow_mul-place g t c =
    let low : c.args.level ≤ highest_level = omega (arith, c.requires.level) in
    let many : 2 * c.args.kind.now.k < length c.args.children.now = omega (arith, c.if-count-most.false, c.capacity-most.ensures.capacity) in
    let there = place_is c.args.kind.now c.args.level c.args.at (length c.args.children.now) c.capacity-most.result c.from.result c.rows_of.result
    c.nodes_within-above.result c.node_length.result c.capacity-most.ensures.capacity c.from.ensures c.rows_of.ensures.exact c.nodes_within-above.ensures.exact
    c.node_length.ensures.length in
    omega (
      arith,
      place_fits _ _ _ _ there (row_room c.args.kind.now g.K.TreeKey.bytes c.args.first c.args.level c.args.at c.args.children.now low c.requires.low
          c.requires.first c.requires.keys many c.requires.room),
    )

pub overflow_add-place : goal.overflow_add-place
overflow_add-place g t c =
    let low : c.args.level ≤ highest_level = omega (arith, c.requires.level) in
    let many : 2 * c.args.kind.now.k < length c.args.children.now = omega (arith, c.if-count-most.false, c.capacity-most.ensures.capacity) in
    let there = place_is c.args.kind.now c.args.level c.args.at (length c.args.children.now) c.capacity-most.result c.from.result c.rows_of.result
    c.nodes_within-above.result c.node_length.result c.capacity-most.ensures.capacity c.from.ensures c.rows_of.ensures.exact c.nodes_within-above.ensures.exact
    c.node_length.ensures.length in
    omega (
      arith,
      place_fits _ _ _ _ there (row_room c.args.kind.now g.K.TreeKey.bytes c.args.first c.args.level c.args.at c.args.children.now low c.requires.low
          c.requires.first c.requires.keys many c.requires.room),
    )

pub raise-requires-clause-room : goal.raise-requires-clause-room
raise-requires-clause-room g t c =
    let low : c.args.level ≤ highest_level = omega (arith, c.requires.level) in
    let many : 2 * c.args.kind.now.k < length c.args.children.now = omega (arith, c.if-count-most.false, c.capacity-most.ensures.capacity) in
    let there = place_is c.args.kind.now c.args.level c.args.at (length c.args.children.now) c.capacity-most.result c.from.result c.rows_of.result
    c.nodes_within-above.result c.node_length.result c.capacity-most.ensures.capacity c.from.ensures c.rows_of.ensures.exact c.nodes_within-above.ensures.exact
    c.node_length.ensures.length in
    rw there (row_room c.args.kind.now g.K.TreeKey.bytes c.args.first c.args.level c.args.at c.args.children.now low c.requires.low
    c.requires.first c.requires.keys many c.requires.room)

pub push_rows-requires : goal.push_rows-requires
push_rows-requires g t c κs within =
    let kind = c.args.kind.now in
    let bytes = g.K.TreeKey.bytes in
    let low : c.args.level ≤ highest_level = omega (arith, c.requires.level) in
    let many : 2 * kind.k < length c.args.children.now = omega (arith, c.if-count-most.false, c.capacity-most.ensures.capacity) in
    let there = place_is kind c.args.level c.args.at (length c.args.children.now) c.capacity-most.result c.from.result c.rows_of.result
    c.nodes_within-above.result c.node_length.result c.capacity-most.ensures.capacity c.from.ensures c.rows_of.ensures.exact c.nodes_within-above.ensures.exact
    c.node_length.ensures.length in
    let row = c.deref.ensures.value ∙ c.in_ok-row.ensures ∙ ap (λ p. as_children kind p c.args.first (chunks (2 * kind.k) c.args.children.now)) there in (
      search rules,
      (
        search rules,
        (
          c.requires.low,
          (
            rw row (above_few kind bytes c.args.first c.args.level c.args.at c.args.children.now low c.requires.low c.requires.first c.requires.keys many c.requires.few),
            (
              rw row (above_low kind bytes c.args.first c.args.level c.args.at c.args.children.now low c.requires.low c.requires.first c.requires.keys many c.requires.level),
              (
                c.requires.first,
                (
                  rw row (above_fit kind bytes c.args.first c.args.level c.args.at c.args.children.now low c.requires.low c.requires.first c.requires.keys many),
                  rw row (above_room kind bytes c.args.first c.args.level c.args.at c.args.children.now low c.requires.low c.requires.first c.requires.keys many c.requires.room),
                ),
              ),
            ),
          ),
        ),
      ),
    )

pub push_row-requires-clause-room : goal.push_row-requires-clause-room
push_row-requires-clause-room g t c =
    let low : c.args.level ≤ highest_level = omega (arith, c.requires.level) in
    let many : 2 * c.args.kind.now.k < length c.args.children.now = omega (arith, c.if-count-most.false, c.capacity-most.ensures.capacity) in
    let there = place_is c.args.kind.now c.args.level c.args.at (length c.args.children.now) c.capacity-most.result c.from.result c.rows_of.result
    c.nodes_within-above.result c.node_length.result c.capacity-most.ensures.capacity c.from.ensures c.rows_of.ensures.exact c.nodes_within-above.ensures.exact
    c.node_length.ensures.length in
    rw there (row_room c.args.kind.now g.K.TreeKey.bytes c.args.first c.args.level c.args.at c.args.children.now low c.requires.low
    c.requires.first c.requires.keys many c.requires.room)

pub returns : goal.returns
returns g t c =
    let kind = c.args.kind.now in
    let bytes = g.K.TreeKey.bytes in
    let low : c.args.level ≤ highest_level = omega (arith, c.requires.level) in
    let many : 2 * kind.k < length c.args.children.now = omega (arith, c.if-count-most.false, c.capacity-most.ensures.capacity) in
    let there = place_is kind c.args.level c.args.at (length c.args.children.now) c.capacity-most.result c.from.result c.rows_of.result
    c.nodes_within-above.result c.node_length.result c.capacity-most.ensures.capacity c.from.ensures c.rows_of.ensures.exact c.nodes_within-above.ensures.exact
    c.node_length.ensures.length in
    let row = c.deref.ensures.value ∙ c.in_ok-row.ensures ∙ ap (λ p. as_children kind p c.args.first (chunks (2 * kind.k) c.args.children.now)) there in
    let whole = row_behind kind bytes c.args.first c.args.level c.args.at c.args.children.now low c.requires.low c.requires.first c.requires.keys many
    (c.args.at + c.nodes_within-above.result * c.node_length.result) c.deref.result.now c.args.out.now.items c.push_rows.new.out.items there row c.in_ok-push_rows.ensures in
    subst (λ (bs : List ℕ). OnOk c.push_row.result (c.push_row.new.out.items ≡ bs)) whole c.push_row.ensures
