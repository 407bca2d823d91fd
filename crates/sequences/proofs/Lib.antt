-- Laws over an arbitrary sequence of numbers, for every kind of generator.
pub mod Least
pub mod Orbits
pub mod IndexOf
pub mod Gaps
pub mod Agreement
pub mod Isometric
pub mod Matching
pub mod Searches
pub mod Contracting
pub mod LowPlaces
pub mod Occurrences
pub mod Distinct
pub mod Counted
pub mod Common
pub mod Arcs
pub mod Table
