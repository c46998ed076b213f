pub mod oracle_definitions
pub mod oracle_headline
pub mod oracle_headline_laws
pub mod oracle_races
