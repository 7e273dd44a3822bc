pub mod Literals
pub mod OpenLists
pub mod Pieces
pub mod Printed
pub mod Refusals
pub mod View
