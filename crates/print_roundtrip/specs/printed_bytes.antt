pub mod Reads
pub mod Expressions
pub mod Statements
pub mod Programs
