use Rattle.std.proofs.Common.{◌≡◌, List, ℕ, ◌∷◌, Some, sym, subst}
use Rattle.std.specs.Prelude.{◌++◌}
use Rattle.h5_bytes.specs.declared.Block.{Block}
use Rattle.h5_model.specs.Format.Addresses.{SymbolTable}
use Rattle.h5_model.specs.Format.Symbols.{Target}
use Rattle.h5_space.specs.Space.{Space}
use Rattle.h5_heap.proofs.TakenLaws.{contains_head}
use Rattle.h5_btree.specs.declared.way.Step.{Step}
use Rattle.h5_snod.specs.declared.entry.SymbolEntry.{SymbolEntry}
use Rattle.h5_snod.specs.declared.entry.SymbolTarget.TheVariants as target
use Rattle.h5_group.specs.Edited.{IsGroupIn}
use Rattle.h5_group.specs.Exact.{AreKeysLooked}
use Rattle.h5_group.specs.Removal.{offsets_named}
use Rattle.h5_group.proofs.EditSteps.{moved_then, soft_offsets}
use Rattle.h5_group.proofs.Freed.{one_released, two_released}
use Rattle.h5_group.proofs.FreedExact.{looked_so, more_but, text_looked_so}
use Rattle.h5_group.proofs.KeptWays.{ways_then}
use Rattle.h5_group.proofs.edit.take.free_texts.Goals as goal

-- both texts are spare, where the entry is of a soft link
two : (s : Space) (table : SymbolTable) (e : SymbolEntry) (text read : ℕ) → e.target ≡ target.Text text → read ≡ text
    → (links : List (List ℕ × Target)) (spare : List ℕ) (blocks : List Block)
    → IsGroupIn s table links (offsets_named e ++ spare) blocks → IsGroupIn s table links (e.name ∷ read ∷ spare) blocks
two s table e text read is from links spare blocks g =
    subst (λ (offsets : List ℕ). IsGroupIn s table links offsets blocks)
    (subst (λ (t : ℕ). offsets_named e ++ spare ≡ e.name ∷ t ∷ spare) (sym from) (soft_offsets e text spare is)) g

pub free_named-requires-clause-looked : goal.free_named-requires-clause-looked
free_named-requires-clause-looked c =
    let image = c.args.image.now.bytes in
    looked_so c.args.entry.name image c.args.table c.steps.result.now c.args.exact _ c.look_along.ensures
    (λ is. subst (λ (way : List Step). AreKeysLooked c.args.entry.name (Some way) image c.args.table) (sym c.steps.ensures.steps) (c.requires.exact is).1)

pub free_named-requires-in-Text-clause-group : goal.free_named-requires-in-Text-clause-group
free_named-requires-in-Text-clause-group c =
    let (links, spare, there, g) = c.requires.group in
    let m = c.free_named.ensures.freed links (c.from.result ∷ spare) there
    (two c.args.image.now c.args.table c.args.entry c.in-Text.text c.from.result c.in-Text.is c.from.ensures links spare there g) in
    (links, spare, m.blocks, m.group)

pub free_named-requires-in-Text-clause-looked : goal.free_named-requires-in-Text-clause-looked
free_named-requires-in-Text-clause-looked c =
    let (links, spare, there, g) = c.requires.group in
    let m = c.free_named.ensures.freed links (c.from.result ∷ spare) there
    (two c.args.image.now c.args.table c.args.entry c.in-Text.text c.from.result c.in-Text.is c.from.ensures links spare there g) in
    text_looked_so c.free_named.new.image c.args.table links (c.from.result ∷ spare) m.blocks m.group c.from.result (contains_head c.from.result spare) _ c.args.exact _
    c.look_along-in-Text.ensures (λ is. c.free_named.ensures.exact (c.requires.exact is).0)

pub returns-in-Text-clause-freed : goal.returns-in-Text-clause-freed
returns-in-Text-clause-freed c = λ links spare before g.
    let m = c.free_named.ensures.freed links (c.from.result ∷ spare) before
    (two c.args.image.now c.args.table c.args.entry c.in-Text.text c.from.result c.in-Text.is c.from.ensures links spare before g) in
    moved_then c.args.image.now c.free_named.new.image c.free_named-in-Text.new.image c.args.table before links links (c.from.result ∷ spare) spare m
    (c.free_named-in-Text.ensures.freed links spare m.blocks m.group)

pub returns-in-Text-clause-released : goal.returns-in-Text-clause-released
returns-in-Text-clause-released c =
    two_released c.args.image.now.bytes c.free_named.new.image.bytes c.free_named-in-Text.new.image.bytes c.args.table.heap c.args.entry c.in-Text.text c.from.result c.in-Text.is
    c.from.ensures c.free_named.ensures.released c.free_named-in-Text.ensures.released

pub returns-in_default-clause-released : goal.returns-in_default-clause-released
returns-in_default-clause-released c =
    one_released c.args.image.now.bytes c.free_named.new.image.bytes c.args.table.heap c.args.entry c.in_default.not-Text c.free_named.ensures.released

pub returns-in-Text-clause-exact : goal.returns-in-Text-clause-exact
returns-in-Text-clause-exact c = λ but.
    c.free_named-in-Text.ensures.exact (more_but c.from.result c.free_named.new.image.bytes c.args.table (c.free_named.ensures.exact but))

pub returns-in-Text-clause-ways : goal.returns-in-Text-clause-ways
returns-in-Text-clause-ways c =
    ways_then c.args.image.now c.free_named.new.image c.free_named-in-Text.new.image c.args.table c.free_named.ensures.ways c.free_named-in-Text.ensures.ways
