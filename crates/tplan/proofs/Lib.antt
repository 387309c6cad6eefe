-- ends
pub mod Ends
