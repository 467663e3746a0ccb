pub mod Program
pub mod Selected
