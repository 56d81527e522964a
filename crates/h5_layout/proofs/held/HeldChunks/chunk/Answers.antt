use Rattle.std.proofs.Common.{◌≡◌, ℕ, ℤ, List, length, subst}
use Rattle.std.specs.List.{AllByRecursion}
use Rattle.h5_layout.specs.HeldChunks.{HeldCells}
use Rattle.h5_layout.specs.Kept.{array_kept}
use Rattle.h5_layout.proofs.KeptLaws.{ranked}
use Rattle.h5_layout.proofs.held.HeldChunks.chunk.Goals as goal

pub returns-clause-ranked : goal.returns-clause-ranked
returns-clause-ranked c =
    let f = c.self.inside in
    subst (λ (h : HeldCells). AllByRecursion (λ (part : List ℕ × List ℤ). length part.0 ≡ length h.chunk) h.parts) c.self.view_is
    (ranked (array_kept f.image.now.bytes f.array f.kept) f.places.items)
