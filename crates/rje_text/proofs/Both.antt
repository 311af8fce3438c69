-- Two tests that are both true, for the crates above.
pub use Rattle.bsc_codes.proofs.Both.{both, together}
