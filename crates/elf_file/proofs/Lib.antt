mod Parts
mod Loads
mod Gathering
mod Sound
