pub mod Token
pub mod Words
pub mod Expected
pub mod Excerpt
pub mod Before
pub mod FormNotes
pub mod Message
