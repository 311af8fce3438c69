-- The plain listener on lists: a device of the proofs; no promise rests on this file.
pub mod NormalText
pub mod HeardSoFar
pub mod Data
pub mod Run
pub mod Stage
