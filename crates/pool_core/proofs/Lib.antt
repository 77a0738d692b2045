pub mod Boards
mod Bringing
mod Changing
mod Commits
mod Creating
mod Drafted
pub mod Drawing
mod Ending
mod Founding
mod Growing
pub mod Hulls
pub mod Left
mod Lists
mod Looking
mod Outlining
pub mod Pairs
mod Putting
mod ReadSteps
mod Recording
mod Redrawing
mod Redrawn
mod Reopening
mod Seated
mod Seeking
mod Standing
mod SyncSteps
mod Tries
mod Turns
mod Validating
pub mod Widened
pub mod Widening
