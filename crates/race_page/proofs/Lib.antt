pub mod EscapeLemmas
pub mod FileSteps
pub mod FollowedLemmas
pub mod LineSteps
pub mod LineTags
pub mod PageTags
pub mod PairTags
pub mod TagLemmas
