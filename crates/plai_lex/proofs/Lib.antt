mod Comments
mod DigitRuns
mod Examples
mod QuotedItems
mod TokenLists
mod TokenPieces
