pub mod TakenPieces
