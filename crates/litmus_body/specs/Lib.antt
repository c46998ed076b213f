pub mod Simple
pub mod Statements
pub mod CallReader
pub mod StoreReader
pub mod SimpleReader
pub mod StatementReader
pub mod Reads
pub mod statement_laws
