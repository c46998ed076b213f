mod Back
mod Lists
mod RightParts
mod SameSettings
mod Shapes
