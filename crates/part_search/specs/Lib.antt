pub mod Settings
pub mod Parted
pub mod Order
pub mod Joined
pub mod part_file
