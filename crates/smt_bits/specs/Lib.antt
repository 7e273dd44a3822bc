pub mod BitVec
pub mod Fin
pub mod Printed
pub mod Width
