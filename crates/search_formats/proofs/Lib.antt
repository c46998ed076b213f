mod Kept
mod Parts
mod Pieces
mod Taken
mod Written
