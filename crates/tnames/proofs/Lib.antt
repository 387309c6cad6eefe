pub mod Nearest
pub mod NameLines
pub mod NamedTexts
pub mod LabelledTexts
