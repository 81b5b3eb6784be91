pub mod AlongSteps
pub mod EntryPlaces
pub mod MergedEntries
pub mod OrderedParts
pub mod PostSteps
pub mod WeavingSteps
mod Rows
pub mod ChainPosts
mod ChainRows
pub mod ChainTexts
