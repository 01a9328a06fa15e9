-- The laws of this layer, for the proofs here and above.
pub mod ScanLaws
