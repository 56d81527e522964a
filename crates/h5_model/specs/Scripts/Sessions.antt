-- Sessions, and what every state and session keeps to.
use Rattle.std.specs.Prelude.{◌≡◌, ℕ, ◌<◌, ◌≤◌, Some, IsSome, length}
use Rattle.std.specs.FinMap.{get, len, empty}
use Rattle.h5_model.specs.Format.Limits.{most_views, most_numbers}
use Rattle.h5_model.specs.Tree.Objects.{Dataset, dataset_of, links_of}
use Rattle.h5_model.specs.Edits.Applied.{State}
use Rattle.h5_model.specs.Views.Shown.{View, Views}

-- a session: its tree with the next object's number, the open views and the next view's number
pub record Session : Type 0 where
  pub state : State
  pub views : Views
  pub next_view : ℕ

-- a session at its beginning
abbrev pub new_session : State → Session
new_session state = record { state = state; views = empty; next_view = 0 }

-- object 0 is a group, and each object's number was given out
pub record IsState (s : State) : Type 0 where
  pub rooted : IsSome (links_of s.tree 0)
  pub given : (number : ℕ) → IsSome (get s.tree number) → number < s.next
  pub low : s.next ≤ most_numbers

-- a view goes by an object's number that was given out, with one axis for each dimension
pub record IsView (s : State) (view : View) : Type 0 where
  pub given : view.object < s.next
  pub ranked : (d : Dataset) → dataset_of s.tree view.object ≡ Some d → length view.slab ≡ length d.sizes

pub record IsSession (s : Session) : Type 0 where
  pub state : IsState s.state
  pub each : (number : ℕ) (view : View) → get s.views number ≡ Some view → IsView s.state view
  pub given : (number : ℕ) → IsSome (get s.views number) → number < s.next_view
  pub low : s.next_view ≤ most_numbers
  pub few : len s.views ≤ most_views
