-- The promises of the two calls, and what the prime-modulus models are; the crates above cite `Orbits` and `LowPlaces`.
pub mod Primes
pub mod Orbits
pub mod Indices
pub mod LowPlaces
