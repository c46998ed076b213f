pub mod oracle_checks
pub mod oracle_accesses
pub mod oracle_searched
