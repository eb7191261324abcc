mod CountedRows
mod Fronts
mod UncompressedRows
mod FoundRows
mod CountedItems
mod CountedParts
mod TransactionGtids
mod SeenTransactions
