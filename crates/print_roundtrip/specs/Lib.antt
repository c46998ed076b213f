pub mod printed_texts
pub mod printed_bytes
