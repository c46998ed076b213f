mod Floats
mod Taken
