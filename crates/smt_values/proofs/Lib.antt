pub mod Faults
mod Fields
mod LastAction
mod LastName
mod Literals
mod Parts
pub mod KeyPlaces
pub mod PutEntity
mod PutEntry
pub mod PutPairs
mod ReadBack
mod ReadTexts
mod Rows
pub mod Said
mod Shared
mod StoreRows
mod TypePairs
mod TypeRows
mod TypesGiven
mod ValuePairs
pub mod Walks
