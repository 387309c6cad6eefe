pub mod AllOf
