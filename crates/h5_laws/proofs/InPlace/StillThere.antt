-- What an edit leaves of an object that it doesn't touch: its bytes are as before where those of all such objects are, and it is read
-- as before with a table that still has the objects that its links name.
use Rattle.std.proofs.Common.{ℕ, List, [], ◌∷◌, ◌∙◌, subst, inl, inr}
use Rattle.std.specs.Ordering.{nat_cmp}
use Rattle.std.specs.FinMap.{FinMap, entries}
use Rattle.std.specs.List.{AllByRecursion, AllZip, flat_map}
use Rattle.h5_bytes.specs.Blocks.{Keeps, IsKept}
use Rattle.h5_bytes.specs.declared.Block.{Block}
use Rattle.h5_bytes.proofs.BlockLaws.{all_left, all_right}
use Rattle.h5_model.specs.Format.Messages.{Message}
use Rattle.h5_model.specs.Format.Symbols.{Target, Header, Text}
use Rattle.h5_model.specs.Format.Reads.{Placed, HasObject, HasContent, IsSame}
use Rattle.h5_model.specs.Tree.Objects.{Object, Content, Group, Array, Link, ToObject, Soft}
use Rattle.h5_laws.proofs.Lists.{In}
use Rattle.h5_laws.specs.InPlace.{IsStillThere, AreStillThere}

-- an object keeps its bytes where all objects of a list do
pub kept_each : (old new : List ℕ) (placed : List Placed) (x : Placed) → Keeps old new (flat_map (λ y. y.blocks) placed) → In x placed
    → Keeps old new x.blocks
kept_each old new [] x kept at = absurd at
kept_each old new (y ∷ placed) x kept (inl e) =
    subst (λ (z : Placed). Keeps old new z.blocks) e (all_left (IsKept old new) y.blocks (flat_map (λ z. z.blocks) placed) kept)
kept_each old new (y ∷ placed) x kept (inr at) =
    kept_each old new placed x (all_right (IsKept old new) y.blocks (flat_map (λ z. z.blocks) placed) kept) at

module _ (table table' : FinMap nat_cmp ℕ) where
  link-same : (l : List ℕ × Link) (f : List ℕ × Target) → IsStillThere table table' l → IsSame table l f → IsSame table' l f
  link-same (name, ToObject number) (name', Header header) there is = (is.0, there ∙ is.1)
  link-same (name, ToObject number) (name', Text text) there is = is
  link-same (name, Soft text) (name', Header header) there is = is
  link-same (name, Soft text) (name', Text text') there is = is

  links-same : (ls : List (List ℕ × Link)) (found : List (List ℕ × Target)) → AllByRecursion (IsStillThere table table') ls → AllZip (IsSame table) ls found → AllZip (IsSame table') ls found
  links-same [] [] there zip = tt
  links-same [] (f ∷ found) there zip = zip
  links-same (l ∷ ls) [] there zip = zip
  links-same (l ∷ ls) (f ∷ found) there zip = (link-same l f there.0 zip.0, links-same ls found there.1 zip.1)

  content-there : (image : List ℕ) (ms : List Message) (c : Content) (blocks : List Block) → AreStillThere table table' c → HasContent image table ms c blocks → HasContent image table' ms c blocks
  content-there image ms (Group links) blocks there has = (has.0, has.1, links-same (entries links) has.0 there has.2)
  content-there image ms (Array d) blocks there has = has

  pub object-there : (image : List ℕ) (header : ℕ) (o : Object) (blocks : List Block) → AreStillThere table table' o.content → HasObject image table header o blocks
      → HasObject image table' header o blocks
  object-there image header o blocks there has = record {
    messages = has.messages;
    header_blocks = has.header_blocks;
    listed = has.listed;
    content_blocks = has.content_blocks;
    content = content-there image has.messages o.content has.content_blocks there has.content;
    attributes = has.attributes;
    kept = has.kept;
    laid = has.laid;
  }
