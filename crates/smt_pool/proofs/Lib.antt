pub mod Asking
pub mod Dialogues
pub mod InHand
pub mod Starting
