-- What a picture of a run is.
pub mod Drawing
pub mod Examples
pub mod Layout
pub mod Marks
pub mod Parts
pub mod Plots
pub mod Shown
pub mod Style
pub mod Titles
pub mod Unseen
pub mod Waits
