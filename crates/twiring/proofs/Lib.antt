pub mod WiringAnswers
pub mod WiringMessages
pub mod WiringTests
pub mod WiringValues
pub mod FlawLists
pub mod FlawLaws
pub mod NearPlaces
