mod DefaultValues
mod Arguments
mod WalkPlaces
mod FaultPlaces
mod PlaceLemmas
