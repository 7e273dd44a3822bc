pub mod AscendingPairs
pub mod AscendingTexts
pub mod DerivedEquality
pub mod DerivedOrder
pub mod DerivedTypeOrder
pub mod EnumEntries
pub mod ExtensionNames
pub mod ExtensionOrder
pub mod ExtensionValues
pub mod FormedTerms
pub mod FormedTypes
mod FunctionOrders
pub mod InOrder
pub mod InsertedTerms
pub mod LastPairs
pub mod LeafOrders
pub mod LiteralElements
pub mod MapOrders
pub mod NamedPairs
pub mod Orders
pub mod PatternOrder
pub mod PatternSearch
pub mod PrintedTexts
pub mod PutPairs
mod PutTerms
pub mod PutTexts
pub mod PutTypePairs
pub mod RecordFields
pub mod RecordTypes
pub mod SameType
pub mod SortedItems
pub mod SortedPairs
mod TermTables
pub mod TypeMapOrders
pub mod TypedArguments
