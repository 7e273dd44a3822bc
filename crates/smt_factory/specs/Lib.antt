pub use Rattle.smt_factory_core.specs.FoldBy
pub use Rattle.smt_factory_core.specs.AnyOf
pub use Rattle.smt_factory_core.specs.AnyRows
pub mod Closures
pub mod Days
pub mod Pairs
