mod DescentSteps
pub mod FollowSteps
mod HeadTold
mod LineSteps
pub mod ModeLines
mod OneOutcome
mod OnenessCases
mod OnenessChecks
mod OnenessKeys
mod OnenessRanks
mod OnenessRounds
mod OnenessTellings
mod SolvedIn
pub mod TellSteps
mod Wanting
