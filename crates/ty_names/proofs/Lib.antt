mod Angles
mod Nested
