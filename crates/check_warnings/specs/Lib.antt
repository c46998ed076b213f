pub mod Comparisons
pub mod HeadScan
pub mod HeadText
pub mod OtherReadings
pub mod Registers
pub mod SameNames
pub mod Warnings
