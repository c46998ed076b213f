pub mod Judged
pub mod Firsts
pub mod Bare
pub mod Watched
pub mod Searched
