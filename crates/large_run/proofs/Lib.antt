mod TextLemmas
mod Pieces
mod LargeProgram
mod LargeReads
