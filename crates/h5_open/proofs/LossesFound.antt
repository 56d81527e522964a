-- What goes with a link, where all objects that lose links were gone through and parted.
use Rattle.std.proofs.Common.{◌≡◌, ◌∙◌, ℕ, ◌≤◌, List, Option, Result, Ok, Err, length, sym, arith}
use Rattle.std.specs.Prelude.{IfOk}
use Rattle.h5_laws.specs.Trees.Unlinked.{lost_links}
use Rattle.h5_model.specs.Tree.Objects.{Link, Tree, hard_links, object_of}
use Rattle.h5_open.specs.declared.opened.losses.Losses.{Losses}
use Rattle.h5_open.specs.declared.opened.losses.LostLinks.{LostLinks}
use Rattle.h5_open.specs.declared.opened.object.OpenedObject.{OpenedObject}
use Rattle.h5_open.specs.Losses.{AreLosses}
use Rattle.h5_open.specs.LostLinks.{AreLossesParted, links_lost}
use Rattle.h5_open.specs.Opened.Objects.{tree_of}
use Rattle.h5_open.specs.SlotsInPlace.{blocks_at}
use Rattle.h5_open.proofs.LostTree.{IsGoneThrough, through_all, through_reached}

pub all_parted : {E : Type 0} (image : List ℕ) (slots : List (Option OpenedObject)) (object : Option ℕ) (lost : LostLinks) (done : ℕ)
    → ((link : Link) → object ≡ object_of link → IsGoneThrough (tree_of image slots) link lost done) → length lost.numbers.items ≤ done → (r : Result Losses E)
    → IfOk r (λ (l : Losses). AreLossesParted (hard_links (tree_of image slots)) (links_lost lost.counts) (blocks_at image slots) lost.numbers.items l.gone.items l.less.items l.blocks.held)
    → IfOk r (λ (l : Losses). (link : Link) → object ≡ object_of link → AreLosses image slots link l.gone.items l.less.items l.blocks.held)
all_parted image slots object lost done through past (Err e) are = tt
all_parted image slots object lost done through past (Ok l) are = λ link leads.
    let tree : Tree = tree_of image slots in
    let all : (n : ℕ) → links_lost lost.counts n ≡ lost_links tree link lost.numbers.items n = through_all tree link lost done (through link leads) past in
    record {
      numbers = lost.numbers.items;
      reached = through_reached tree link lost done (through link leads) past;
      gone_once = are.gone_once;
      less_once = are.less_once;
      goes = λ n at. let goes = are.goes n at in (goes.0, sym (all n) ∙ goes.1);
      stays = λ n left at. let stays = are.stays n left at in (stays.0, stays.1, omega (arith, stays.2, all n));
      parted = are.parted;
      blocks = are.covered;
    }
