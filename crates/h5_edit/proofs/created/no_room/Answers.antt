use Rattle.std.proofs.Common.{◌≡◌, ◌∙◌, true, false, refl, sym}
use Rattle.h5_edit.proofs.created.no_room.Goals as goal

pub returns-else-is_too_deep-clause-deep : goal.returns-else-is_too_deep-clause-deep
returns-else-is_too_deep-clause-deep c table group = (
  λ same. absurd (cc),
  λ filled. absurd (let never : true ≡ false = sym ((c.is_too_deep.ensures.deep table group).1 filled) ∙ c.if-is_too_deep.false in cc),
)

pub returns-else-is_too_deep-clause-full : goal.returns-else-is_too_deep-clause-full
returns-else-is_too_deep-clause-full c table group = (
  λ same filled. absurd (let never : true ≡ false = sym ((c.is_too_deep.ensures.deep table group).1 filled) ∙ c.if-is_too_deep.false in cc),
  λ none. refl,
)
