mod BoardSteps
mod CaseSteps
mod CodeLaws
mod DemandSteps
mod DueSteps
mod FillSteps
mod GatherSteps
mod JoinSteps
mod KeepSteps
pub mod OutcomeSteps
mod ParallelSteps
mod PlaceSteps
pub mod RunLaws
mod SharedSteps
mod SolveSteps
mod TallySteps
pub mod TogetherSteps
pub mod WorkSteps
mod WorkedRows
mod WorkerSteps
