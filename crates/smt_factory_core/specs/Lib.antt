pub mod AnyOf
pub mod AnyRows
pub mod FoldBy
pub mod Given
pub mod Results
