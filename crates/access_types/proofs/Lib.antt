pub mod LaidBytes
pub mod SiteEntries
