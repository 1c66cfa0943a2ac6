mod ImportLemmas
mod ExportLemmas
mod BreadthLemmas
mod PlaceLemmas
mod GatherLemmas
