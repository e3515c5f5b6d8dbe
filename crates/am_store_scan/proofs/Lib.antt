mod Directions
mod RisingRows
mod HeadMoves
mod GatheredHeads
mod FirstHeads
mod FirstRecords
mod TakenRows
mod Pieces
