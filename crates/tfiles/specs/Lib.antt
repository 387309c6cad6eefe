-- What the files and texts of nets mean.
pub mod Images
pub mod Logs
pub mod LogLines
pub mod Texts
pub mod Failures
pub mod Outputs
pub mod Disassembly
pub mod Examples
