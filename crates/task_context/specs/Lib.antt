pub mod Context
pub mod History
