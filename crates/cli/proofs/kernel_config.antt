pub mod LineLemmas
pub mod SettingLemmas
