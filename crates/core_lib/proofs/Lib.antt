mod Whole
mod Fitting
