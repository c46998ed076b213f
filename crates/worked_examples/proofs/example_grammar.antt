mod Spelled
mod SmallProgram
mod Refused
mod RefusedOutside
