pub mod Elements
pub mod DepthLaws
pub mod BetweenLaws
pub mod NodeOrder
pub mod RootLaws
