use Rattle.std.proofs.Common.{◌≡◌, ◌+◌, ◌-◌, ◌*◌, ◌≤◌, ◌++◌, ◌∷◌, [], ℕ, List, length, take, get_or, sym, ap, ◌∙◌, subst, arith}
use Rattle.std.proofs.lemmas.List.{take_all, take_more}
use Rattle.std.specs.Prelude.{IsSome}
use Rattle.std.specs.FinMap.{get, remove}
use Rattle.h5_model.specs.Format.Chunks.{Chunks, offsets_in}
use Rattle.h5_model.specs.Format.Reached.{Shape}
use Rattle.h5_chunks.specs.Edited.{HasChunksNow}
use Rattle.h5_chunks.specs.Lists.{ChunkOffsets, offsets_outside}
use Rattle.h5_chunks.specs.Told.{chunks_told}
use Rattle.h5_chunks.proofs.MovedChunks.{AreTakenOut, all_taken, none_taken, one_taken}
use Rattle.h5_chunks.proofs.OutsideLaws.{last_outside}
use Rattle.h5_chunks.proofs.outside.drop_outside.Goals as goal
use Rattle.h5_chunks.proofs.outside.drop_outside.Goals.{After-key}

pub loop-k-init : goal.loop-k-init
loop-k-init c =
    let shape : Shape = c.args.shape.now in
    let offsets : List (List ℕ) = c.args.outside.now.offsets in
    let end : length offsets ≤ c.len-k.result = omega (arith, c.len-k.ensures) in
    let left : offsets_outside c.args.sizes.now (chunks_told c.args.image.now.bytes shape c.args.root) ≡ take c.len-k.result offsets
    = sym (take_all c.len-k.result offsets end ∙ ap (λ (v : ChunkOffsets). v.offsets) c.requires.outside) in
    let calls : 0 ≡ 16 * (length offsets - c.len-k.result) = omega (arith, end) in
    record {
      within = omega (arith, c.len-k.ensures);
      taken = subst (AreTakenOut shape c.args.root c.args.sizes.now c.args.image.now c.args.image.now (take c.len-k.result offsets)) calls
          (subst (λ (os : List (List ℕ)). AreTakenOut shape c.args.root c.args.sizes.now c.args.image.now c.args.image.now os 0) left
          (none_taken shape c.args.root c.args.sizes.now c.args.image.now c.requires.chunks));
    }

module _ (c : After-key) where
  abbrev shape : Shape
  shape = c.args.shape.now

  abbrev root : ℕ
  root = c.args.root

  abbrev offsets : List (List ℕ)
  offsets = c.args.outside.now.offsets

  abbrev chunks : Chunks
  chunks = chunks_told c.loop-k.image.bytes shape root

  -- the place of this chunk, its offsets, and those that are left before it
  abbrev k : ℕ
  k = c.loop-k.k - 1

  abbrev here : List ℕ
  here = get_or offsets k []

  abbrev others : List (List ℕ)
  others = take k offsets

  abbrev calls : ℕ
  calls = 16 * (length offsets - c.loop-k.k)

  next : c.loop-k.k ≡ k + 1
  next = omega (arith, c.loop-k-test.true)

  taken : AreTakenOut shape root c.args.sizes.now c.args.image.now c.loop-k.image (others ++ here ∷ []) calls
  taken = subst (λ (left : List (List ℕ)). AreTakenOut shape root c.args.sizes.now c.args.image.now c.loop-k.image left calls)
      (ap (λ (n : ℕ). take n offsets) next ∙ take_more offsets k [] (omega (arith, c.loop-k-test.true, c.loop-k.invariant.within))) c.loop-k.invariant.taken

  key_is : offsets_in (length shape.sizes) c.key.result.now ≡ here
  key_is = subst (λ (n : ℕ). offsets_in n c.key.result.now ≡ here) (ap (λ (v : ChunkOffsets). v.rank) c.requires.outside) c.key.ensures.offsets

pub take_out-requires-clause-there : goal.take_out-requires-clause-there
take_out-requires-clause-there c =
    subst (λ (o : List ℕ). IsSome (get (chunks c) o)) (sym (key_is c))
    (last_outside c.args.sizes.now (chunks c) (others c) (here c) (taken c).outside).stored

pub loop-k-preserved : goal.loop-k-preserved
loop-k-preserved c =
    let a = (goal.at.loop-k-preserved c).After-key in
    let more : calls a + 16 ≡ 16 * (length (offsets a) - k a) = omega (arith, c.loop-k-test.true, c.loop-k.invariant.within) in
    let step : HasChunksNow c.loop-k.image c.take_out.new.image (shape a) (root a) (remove (chunks a) (here a))
    = subst (λ (o : List ℕ). HasChunksNow c.loop-k.image c.take_out.new.image (shape a) (root a) (remove (chunks a) o)) (key_is a) c.take_out.ensures.taken in
    record {
      within = omega (arith, c.loop-k.invariant.within);
      taken = subst (AreTakenOut (shape a) (root a) c.args.sizes.now c.args.image.now c.take_out.new.image (others a)) more
          (one_taken (shape a) (root a) c.args.sizes.now c.args.image.now c.loop-k.image c.take_out.new.image (others a) (here a) (calls a)
          (taken a) step c.take_out.ensures.spends c.take_out.ensures.kept);
    }

pub returns-clause-dropped : goal.returns-clause-dropped
returns-clause-dropped c =
    let shape : Shape = c.args.shape.now in
    let offsets : List (List ℕ) = c.args.outside.now.offsets in
    let none : c.loop-k.k ≡ 0 = omega (arith, c.loop-k-test.false) in
    all_taken shape c.args.root c.args.sizes.now c.args.image.now c.loop-k.image (16 * (length offsets - c.loop-k.k))
    (subst (λ (left : List (List ℕ)). AreTakenOut shape c.args.root c.args.sizes.now c.args.image.now c.loop-k.image left (16 * (length offsets - c.loop-k.k)))
    (ap (λ (n : ℕ). take n offsets) none) c.loop-k.invariant.taken)
