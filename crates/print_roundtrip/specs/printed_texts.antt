pub mod PrintedSymbols
pub mod PrintedNesting
pub mod PrintedCondition
pub mod PrintedProcess
pub mod PrintedNames
pub mod Covered
pub mod PrintedProgram
pub mod Whole
