pub mod DeclarationView
pub mod EnumView
pub mod ReadAs
pub mod TermView
