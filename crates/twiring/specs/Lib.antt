-- What a wiring file means.
pub mod Messages
pub mod Wirings
pub mod WiringParts
pub mod WiringExamples
pub mod NearKeys
pub mod NearExamples
pub mod Flaws
