pub mod Elements
pub mod Grammar
pub mod Refusal
pub mod Annotation
pub mod Reading
pub mod Productions
pub mod Signatures
