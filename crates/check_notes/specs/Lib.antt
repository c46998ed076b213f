pub mod CommonNotes
pub mod Notes
pub mod SyntaxNotes
pub mod Tables
pub mod Words
