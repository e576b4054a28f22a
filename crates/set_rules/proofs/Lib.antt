mod Answers
mod Received
mod Hiding
mod Isolation
mod Witness
mod Rows
mod Asked
mod Readable
mod Shape
mod Among
mod Told
mod Ticks
mod Room
mod Holdings
mod Marked
mod Worked
pub mod Kept
