pub mod Canon
pub mod Depth
pub mod Exact
pub mod Induction
pub mod Order
pub mod OrderLaws
pub mod Subst
