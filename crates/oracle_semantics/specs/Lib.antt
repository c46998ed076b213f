pub mod oracle_meaning
pub mod oracle_order
