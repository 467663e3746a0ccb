mod Begun
mod Containing
mod Finding
mod Linkable
mod Linking
mod Pairs
mod Placed
mod Suited
