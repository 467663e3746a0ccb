pub mod CanonLaws
pub mod DepthLaws
pub mod ExactLaws
pub mod SubstLaws
