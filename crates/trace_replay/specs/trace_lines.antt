pub mod Reading
pub mod FieldReaders
pub mod LineReaders
pub mod HeadReading
pub mod Plain
