mod Rounding
mod Laying
