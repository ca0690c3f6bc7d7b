-- Refusals: each given exactly when its list says so, and what its place names; those of a reading.
pub mod Refusing
pub mod PlacesNamed
