pub mod ChangedBits
