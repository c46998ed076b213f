pub mod Ranges
pub mod Tried
pub mod TextSitesLemmas
pub mod TicketLemmas
pub mod RepeatedLemmas
pub mod TimesLemmas
pub mod LimitLemmas
