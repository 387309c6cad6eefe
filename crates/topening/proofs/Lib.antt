mod OpenedFiles
pub mod LoggedReplays
