pub mod Asking
pub mod Believing
pub mod Broken
mod Bytes
mod Chunks
pub mod Commands
pub mod Dialogues
pub mod Formulas
mod Found
pub mod HandedOut
mod Honest
pub mod Idle
pub mod InHand
mod Known
mod ModelLines
mod Sampled
mod Scan
mod Search
mod Small
pub mod StreamHonest
pub mod StreamPieces
pub mod StreamReplies
pub mod StreamRequests
pub mod Streams
pub mod TruthRows
pub mod Truths
mod Turns
