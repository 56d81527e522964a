use Rattle.std.proofs.Common.{◌≡◌, ℕ, zero, suc, ◌≤◌, ◌||◌, Bool, true, false, List, length, refl, sym, ap, ◌∙◌, subst, arith}
use Rattle.std.proofs.lemmas.Bool.{false≢true}
use Rattle.std.proofs.lemmas.Bool.Decides.{nat_tests}
use Rattle.std.specs.Prelude.{IfErr, Result, nat_le}
use Rattle.h5_chunks.specs.InsertFaultType.{InsertFault}
use Rattle.h5_model.specs.Format.Reached.{Shape, level_at, shape_kind}
use Rattle.h5_model.specs.Format.Superblock.{chunk_k}
use Rattle.h5_space.specs.Space.{Space}
use Rattle.h5_chunks.specs.Read.{AreChunksRead}
use Rattle.h5_chunks.specs.Told.{chunks_told}
use Rattle.h5_chunks.specs.Bushy.{IsBushy, is_low_level}
use Rattle.h5_layout.specs.Filled.{AreToStore}
use Rattle.h5_layout.specs.Storage.{IsFullInTurn}
use Rattle.h5_chunks.proofs.BushyTrees.{bushy_start}
use Rattle.h5_layout.proofs.FilledLaws.{never_refused}
use Rattle.h5_layout.proofs.storage.add_chunks.Goals as goal

pub returns-then-is_first_full-clause-deep : goal.returns-then-is_first_full-clause-deep
returns-then-is_first_full-clause-deep c is = (0, c.is_first_full.ensures.0 c.if-is_first_full.true)

pub store_all-requires-clause-new : goal.store_all-requires-clause-new
store_all-requires-clause-new c =
    let same = ap (λ (x : Space). x.bytes) c.in_default.ensures.ok in
    subst (λ (image : List ℕ). AreToStore (chunks_told image c.args.shape.now c.args.root) c.args.shape.now c.args.new.now) (sym same) c.requires.new

pub returns-clause-deep : goal.returns-clause-deep
returns-clause-deep c is =
    let s = c.args.shape.now in
    let root = c.args.root in
    let all = c.args.new.now.offsets in
    let same = ap (λ (x : Space). x.bytes) c.in_default.ensures.ok in
    let turn = subst (λ (r : Result ℕ InsertFault). IfErr r (λ fault. (n : ℕ) × IsFullInTurn c.reserve.new.self.bytes s root all n)) is c.store_all.ensures.turn in
    (turn.0, subst (λ (image : List ℕ). IsFullInTurn image s root all turn.0) same turn.1)

-- where one chunk at most comes in, or the root is low, the first chunk alone finds no room
no_turn : (image : List ℕ) (s : Shape) (root : ℕ) (all : List (List ℕ)) → AreChunksRead image s root → (IsFullInTurn image s root all 0 → ⊥)
    → (nat_le (length all) 1 || is_low_level (chunk_k image) (level_at image (shape_kind image s) root)) ≡ true → ((n : ℕ) × IsFullInTurn image s root all n)
    → ((low : ℕ) → is_low_level (chunk_k image) low ≡ true → IsBushy image s root low → ⊥) → ⊥
no_turn image s root all read first test turn low = by_few (nat_le (length all) 1) refl test where
  by_turn : (n : ℕ) → IsFullInTurn image s root all n → length all ≤ 1 → ⊥
  by_turn zero full few = first full
  by_turn (suc n) full few = omega (arith, full.0, few)

  by_few : (b : Bool) → nat_le (length all) 1 ≡ b → (b || is_low_level (chunk_k image) (level_at image (shape_kind image s) root)) ≡ true → ⊥
  by_few true few passes = by_turn turn.0 turn.1 (let most : length all ≤ 1 = grind (arith, nat_tests, few) in most)
  by_few false many passes =
      low (level_at image (shape_kind image s) root) passes (bushy_start image s root (level_at image (shape_kind image s) root) read (omega arith))

pub returns-clause-refused : goal.returns-clause-refused
returns-clause-refused c test =
    let s = c.args.shape.now in
    let root = c.args.root in
    let all = c.args.new.now.offsets in
    let image = c.args.image.now.bytes in
    let same = ap (λ (x : Space). x.bytes) c.in_default.ensures.ok in
    let first : IsFullInTurn image s root all 0 → ⊥ = λ full. false≢true (sym c.if-is_first_full.false ∙ c.is_first_full.ensures.1 full) in
    never_refused (c.store_all.new.image ≡ c.args.image.now) c.store_all.result c.store_all.ensures.turn c.store_all.ensures.low (λ turn low.
    no_turn image s root all c.requires.chunks.read first test (turn.0, subst (λ (x : List ℕ). IsFullInTurn x s root all turn.0) same turn.1)
    (subst (λ (x : List ℕ). (n : ℕ) → is_low_level (chunk_k x) n ≡ true → IsBushy x s root n → ⊥) same low))
